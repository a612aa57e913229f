-- Setpoints: what either port's bytes say of one thermostat, and such by value.
use Rattle.std.specs.Prelude.{ℕ, ◌+◌, ◌%◌, List, length, get_or, take}
use Rattle.model.specs.declared.Thermostat.{Thermostat}
use Rattle.model.specs.State.{fresh_thermostat}
use Rattle.model.specs.Registers.{place_of}
use Rattle.model.specs.Temperature.{group_thermostat}
use Rattle.setpoints.specs.declared.Setpoint.{Setpoint}
use Rattle.lists.specs.declared.Bounded.{Bounded}
use Rattle.lists.specs.Data.{filled}

abbrev pub Setpoints : Type 0
Setpoints = Bounded Setpoint 12

abbrev pub setpoint : ℕ → Thermostat → Setpoint
setpoint n h = record { number = n; thermostat = h }

-- a group's eight bytes
unfoldable pub group_setpoint : List ℕ → Setpoint
group_setpoint c = setpoint (get_or c 0 0) (group_thermostat c)

-- the eight bytes of the registers from a on: they stand as in a group, the flags' high byte in place of the number
unfoldable pub register_setpoint : ℕ → List ℕ → Setpoint
register_setpoint a d = setpoint ((place_of a + 1) % 256) (group_thermostat d)

-- By value there is room for twelve -------------------------------------------------------

abbrev pub no_setpoint : Setpoint
no_setpoint = setpoint 0 fresh_thermostat

-- the setpoints l, and empty ones to twelve
unfoldable pub setpoints_of : List Setpoint → Setpoints
setpoints_of l = record { items = filled 12 no_setpoint l; len = length l }

-- the setpoints that count
abbrev pub setpoints_in : Setpoints → List Setpoint
setpoints_in es = take es.len es.items

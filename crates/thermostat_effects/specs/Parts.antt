-- What becomes of setpoints.
use Rattle.std.specs.Prelude.{ℕ, ◌-◌, Bool, not, ◌&&◌, get_or, set}
use mathlib.Core.List.{List, [], foldl}
use Rattle.lists.specs.Tests.{all, any}
use Rattle.model.specs.declared.Link.{Link}
use Rattle.model.specs.declared.Thermostat.{Thermostat}
use Rattle.model.specs.State.{fresh_link}
use Rattle.model.specs.Refusals.{Request, accepting, refuse, refusal_of}
use Rattle.model.specs.Counters.{is_number}
use Rattle.model.specs.Temperature.{thermostat_fits, clash}
use Rattle.setpoints.specs.declared.Setpoint.{Setpoint}

unfoldable pub setpoint_fits : Setpoint → Bool
setpoint_fits e = is_number e.number && thermostat_fits e.thermostat

-- by the link that its output has
unfoldable pub setpoint_clashes : List Link → Setpoint → Bool
setpoint_clashes ls e = clash (get_or ls (e.number - 1) fresh_link) e.thermostat

unfoldable pub setpoint_put : List Thermostat → Setpoint → List Thermostat
setpoint_put hs e = set hs (e.number - 1) e.thermostat

-- setpoints for some thermostats: each must fit, and none be active beside a link of its output
unfoldable pub set_setpoints : List Link → List Setpoint → List Thermostat → Request (List Thermostat)
set_setpoints ls es hs = refuse 11 (not (all setpoint_fits es)) (refuse 14 (any (setpoint_clashes ls) es) (accepting (foldl setpoint_put hs es) []))

-- why such are refused, whatever the thermostats before, or 0
unfoldable pub setpoints_refusal : List Link → List Setpoint → ℕ
unfolding set_setpoints refusal_of
setpoints_refusal ls es = refusal_of (set_setpoints ls es [])

-- A Modbus reply has room for whatever a function answers. Assumes nothing.
use Rattle.std.proofs.Common.{ℕ, ◌≤◌, Bool, List, length}
use Rattle.model.specs.declared.Module.{Module}
use Rattle.model.specs.Frames.{function_of, modbus_body}
use Rattle.model.specs.Refusals.{judged}
use Rattle.model.specs.Modbus.{modbus_wire}
use Rattle.model.proofs.Short.{modbus_short}

pub modbus_room : (permitted : Bool) (f : List ℕ) (m : Module) → length (judged m (modbus_wire.asked permitted f m)).reply ≤ 252
modbus_room permitted f m = modbus_short permitted (function_of f) (modbus_body f) m m

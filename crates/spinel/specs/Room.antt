-- A Spinel reply has room for whatever an instruction answers. Assumes nothing.
use Rattle.std.proofs.Common.{ℕ, ◌≤◌, Bool, List, length, arith}
use Rattle.model.specs.declared.Module.{Module}
use Rattle.model.specs.Refusals.{judged}
use Rattle.model.specs.Spinel.{spinel_request, spinel_wire}
use Rattle.model.proofs.Short.{spinel_short}

pub spinel_room : (permitted : Bool) (f : List ℕ) (m : Module) → length (judged m (spinel_wire.asked permitted f m)).reply ≤ 247
spinel_room permitted f m = omega (arith, spinel_short (spinel_request permitted f) m m)

-- A text reply has room for whatever a code answers. Assumes nothing.
use Rattle.std.proofs.Common.{ℕ, ◌≤◌, Bool, List, length, arith}
use Rattle.model.specs.declared.Module.{Module}
use Rattle.model.specs.Refusals.{judged}
use Rattle.model.specs.Text.{text_request, text_wire}
use Rattle.model.proofs.Short.{text_short}

pub text_room : (permitted : Bool) (f : List ℕ) (m : Module) → length (judged m (text_wire.asked permitted f m)).reply ≤ 252
text_room permitted f m = omega (arith, text_short (text_request permitted f) m m)

-- One reason more to refuse by 11. Assumes nothing.
use Prim.Native.Nat.{ℕ}
use mathlib.Core.Path.{◌≡◌}
use mathlib.Core.Bool.{Bool, cond, ◌||◌}
use Rattle.lists.proofs.Choices.{either}
use Rattle.model.specs.Refusals.{Request, refuse, refusal_of}

-- a request refused by 11 for one reason more, where no condition that is looked at before it can hold; r is what those after it give
pub also_11 : {P : Type 0} (q : Request P) (b : Bool) (r : ℕ) → refusal_of q ≡ cond (q.holds 11) 11 r → refusal_of (refuse 11 b q) ≡ cond (q.holds 11 || b) 11 r
    → cond b 11 (refusal_of q) ≡ refusal_of (refuse 11 b q)
also_11 q b r without with = rw (without, with) (either (q.holds 11) b 11 r)

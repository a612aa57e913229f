-- A request that is accepted, and what it must keep. Assumes nothing.
use Prim.Native.Nat.{ℕ, zero, suc, ◌≤◌}
use native.Mathlib.Omega.{arith}
use mathlib.Core.Path.{◌≡◌, refl}
use mathlib.Core.List.{List}
use Rattle.model.specs.declared.Module.{Module}
use Rattle.model.specs.Refusals.{Request}
use Rattle.model.specs.Tally.{Tally, if_accepted}
use Rattle.model.proofs.Judged.{Passes}
use Rattle.model.specs.Cycles.{counting_of}
use Rattle.model.proofs.Invariant.{Inv}

-- accepted, the request keeps input i's invariant; `after` is the tally by the reply's data
pub record Good (i : ℕ) (after : List ℕ → Tally) (q : Request Module) : Type 0 where
  pub keeps : Passes q → Inv i (counting_of q.after) (after q.reply)

-- a refusal leaves the tally
pub if_refused : (n : ℕ) (t u : Tally) → 7 ≤ n → if_accepted n t u ≡ t
if_refused zero t u l = absurd (omega arith)
if_refused (suc n) t u l = refl

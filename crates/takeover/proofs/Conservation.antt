-- Cycles are conserved across the take-over: the module that took over agrees with the tally of the one before. Assumes nothing.
use Prim.Native.Nat.{ℕ, ◌≤◌}
use native.Mathlib.Omega.{arith}
use Rattle.model.specs.Tally.{Tally, uncollected}
use Rattle.model.specs.Cycles.{Agree}
use Rattle.model.proofs.Conservation.{conserved_from}
use Rattle.takeover.specs.declared.ModuleBefore.{ModuleBefore}
use Rattle.takeover.specs.TakenOver.{taken_over}
use Rattle.takeover.specs.Across.{Agreed, CyclesConservedAcross}

-- with 65,535 uncollected at most, its counter had made no turn
pub agrees_over : (k : ℕ) (b : ModuleBefore) (t : Tally) → Agreed k b t → uncollected t k ≤ 65535 → Agree k (taken_over b) t
agrees_over k b t a e = record { alike = a.alike; sum = omega (arith, a.sum, e) }

pub conserved_across : CyclesConservedAcross
conserved_across b t k l h a e calls = conserved_from (taken_over b) t k l h (agrees_over k b t a e) calls

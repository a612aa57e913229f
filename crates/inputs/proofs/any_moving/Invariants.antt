-- `inputs::any_moving` meets its contract. Assumes nothing.
use Prim.Native.Nat.{◌-◌, ◌≤◌}
use mathlib.Core.Path.{◌≡◌}
use lib.ListN.{get_or}
use Rattle.lists.specs.Numbers.{bit_at}
use Rattle.lists.specs.Tests.{some_below}
use Rattle.model.specs.State.{fresh_line}
use Rattle.inputs.specs.Passes.{is_moving}
use Rattle.inputs.proofs.any_moving.Given as goal

abbrev pub invariant-loop-i : goal.invariant-loop-i
invariant-loop-i l = (l.i ≤ 16) × (l.found ≡ some_below (λ k. is_moving (bit_at l.bits k) (get_or l.a k fresh_line)) l.i)

abbrev pub decreases-loop-i : goal.decreases-loop-i
decreases-loop-i l = 16 - l.i

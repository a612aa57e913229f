-- `linking::any_link` meets its contract. Assumes nothing.
use Prim.Native.Nat.{◌-◌, ◌≤◌}
use mathlib.Core.Path.{◌≡◌}
use lib.ListN.{get_or}
use Rattle.lists.specs.Tests.{some_below}
use Rattle.model.specs.State.{fresh_link, has_link}
use Rattle.linking.proofs.any_link.Given as goal

abbrev pub invariant-loop-i : goal.invariant-loop-i
invariant-loop-i l = (l.i ≤ 16) × (l.found ≡ some_below (λ k. has_link (get_or l.links k fresh_link)) l.i)

abbrev pub decreases-loop-i : goal.decreases-loop-i
decreases-loop-i l = 16 - l.i

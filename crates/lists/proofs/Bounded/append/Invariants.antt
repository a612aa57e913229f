-- `lists::Bounded::append` meets its contract. The loop's invariant: the elements still to come, behind those so far, come to all. Assumes nothing.
use Rattle.std.proofs.Common.{◌≡◌, drop}
use mathlib.Core.List.{foldl}
use Rattle.lists.specs.Bounded.{added}
use Rattle.lists.proofs.Bounded.append.Given as goal

abbrev pub invariant-loop-x : goal.invariant-loop-x
invariant-loop-x g l = foldl added l.out (drop l.x-index l.fn.more) ≡ foldl added l.fn.self l.fn.more

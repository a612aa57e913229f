-- `script::trimmed` meets its contract. The loop's invariant: the bytes left, without the blanks at their end, are those of the whole. Assumes nothing.
use Prim.Native.Nat.{◌≤◌}
use mathlib.Core.Path.{◌≡◌}
use lib.ListN.{length, take}
use Rattle.script.specs.Words.{trimmed}
use Rattle.script.proofs.trimmed.Given as goal

abbrev pub invariant-loop-end : goal.invariant-loop-end
invariant-loop-end l = (l.end ≤ length l.s) × (trimmed (take l.end l.s) ≡ trimmed l.s)

abbrev pub decreases-loop-end : goal.decreases-loop-end
decreases-loop-end l = l.end

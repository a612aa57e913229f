-- `inputs::selected_lines` meets its contract. The loop's invariant: the selected ones before `i`, then none. Assumes nothing.
use Prim.Native.Nat.{◌-◌}
use mathlib.Core.Bool.{false}
use Rattle.lists.proofs.DataLaws.{Made}
use Rattle.inputs.specs.Passes.{selected_lines}
use Rattle.inputs.proofs.selected_lines.Given as goal

abbrev pub invariant-loop-i : goal.invariant-loop-i
invariant-loop-i l = Made false (selected_lines l.modes l.was l.now) l.found l.i

abbrev pub decreases-loop-i : goal.decreases-loop-i
decreases-loop-i l = 16 - l.i

-- `script::frame_of` meets its contract. The loop's invariant: the words left, after the bytes so far, come to the whole. Assumes nothing.
use Prim.Native.Nat.{ℕ}
use mathlib.Core.Path.{◌≡◌}
use lib.ListN.{length}
use Rattle.script.specs.Words.{parts}
use Rattle.script.specs.Lines.{of_kind, framed}
use Rattle.script.specs.Results.{with_frame}
use Rattle.script.proofs.frame_of.Given as goal

abbrev pub invariant-loop-word : goal.invariant-loop-word
invariant-loop-word l = (k : ℕ) → framed (with_frame k l.frame) (parts l.rest) ≡ framed (of_kind k) (parts l.fn.s)

abbrev pub decreases-loop-word : goal.decreases-loop-word
decreases-loop-word l = length l.rest

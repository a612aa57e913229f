-- `script::trimmed` meets its contract. The loop's invariant: the bytes left, without the blanks at their end, are those of the whole. Assumes nothing.
use native.Mathlib.Omega.{arith}
use mathlib.Core.Path.{sym, ◌∙◌}
use Rattle.script.proofs.Ends.{no_bytes, blank_last, solid_last}
use Rattle.script.proofs.trimmed.Goals as goal
use Rattle.script.proofs.trimmed.Goals.{then-loop-end-test+else-is_blank, else-loop-end-test}

pub loop-end-preserved : goal.loop-end-preserved
loop-end-preserved c =
    (omega (arith, c.loop-end.invariant.0), blank_last c.args.s.now _ c.loop-end.invariant.0 c.loop-end-test.true (sym c.is_blank.ensures ∙ c.if-is_blank.true) ∙ c.loop-end.invariant.1)

pub returns : goal.returns
returns c =
    elim c.loop-end-test.branch [
      | then-loop-end-test+else-is_blank w ↦ solid_last c.args.s.now _ c.loop-end.invariant.0 w.loop-end-test.true (sym w.is_blank.ensures ∙ w.if-is_blank.false) ∙ c.loop-end.invariant.1
      | else-loop-end-test w ↦ no_bytes c.args.s.now _ w.loop-end-test.false ∙ c.loop-end.invariant.1
    ]

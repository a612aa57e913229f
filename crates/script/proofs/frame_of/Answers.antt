-- `script::frame_of` meets its contract. The loop's invariant: the words left, after the bytes so far, come to the whole. Assumes nothing.
use mathlib.Core.Path.{ap, ◌∙◌}
use Rattle.script.specs.Results.{frame_parsed}
use Rattle.script.proofs.Calls.{failed}
use Rattle.script.proofs.Frames.{frame_ends, frame_full, frame_bad, frame_goes}
use Rattle.script.proofs.frame_of.Goals as goal

pub returns-then-frame-ge300 : goal.returns-then-frame-ge300
returns-then-frame-ge300 c k =
    frame_full c.loop-word.frame k _ _ c.in-Some.ensures.cases c.if-frame-ge300.true ∙ c.loop-word.invariant k

pub returns-in_err-byte : goal.returns-in_err-byte
returns-in_err-byte c k =
    let bad = c.in_err-byte.ensures in
    ap (frame_parsed k) (failed _ c.from_residual.ensures bad.0) ∙ frame_bad c.loop-word.frame k _ _ c.in-Some.ensures.cases c.if-frame-ge300.false bad.1 ∙ c.loop-word.invariant k

pub loop-word-preserved : goal.loop-word-preserved
loop-word-preserved c k =
    let byte = c.in_ok-byte.ensures in
    frame_goes c.loop-word.frame k _ _ c.in-Some.ensures.cases c.if-frame-ge300.false _ byte.0 byte.1 ∙ c.loop-word.invariant k

pub returns : goal.returns
returns c k = frame_ends c.loop-word.frame k c.in_default.ensures.cases ∙ c.loop-word.invariant k

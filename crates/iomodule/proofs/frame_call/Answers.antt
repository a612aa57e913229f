-- `iomodule::frame_call` meets its contract. Assumes nothing.
use Rattle.std.proofs.Common.{sym, ◌∙◌}
use Rattle.model.specs.Wire.{frame_handled, frame_call}
use Rattle.iomodule.proofs.Frames.{handled_answered}
use Rattle.iomodule.proofs.frame_call.Goals as goal

pub returns : goal.returns
unfolding frame_call
returns g c =
    let a = c.args in
    rw (sym c.is_short.ensures ∙ c.if-is_short.false)
    (handled_answered (frame_handled g.W.Wire.wire a.frame.now a.m) c.handle.result c.handle.ensures _ _ _ c.reply_out.ensures.value c.reply_out.ensures.reply_after)

-- `replies::text_reply` meets its contract. Assumes nothing.
use Rattle.replies.proofs.Framing.{text_stored}
use Rattle.replies.proofs.text_reply.Goals as goal

pub returns : goal.returns
returns c =
    let a = c.args in
    text_stored a.address c.min-n.result a.told.now c.min-n.ensures c.begun-bytes.result c.begun-bytes.ensures

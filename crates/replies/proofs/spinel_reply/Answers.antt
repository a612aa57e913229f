-- `replies::spinel_reply` meets its contract. Assumes nothing.
use Rattle.replies.specs.Replies.{spinel_replied}
use Rattle.replies.proofs.Framing.{spinel_stored}
use Rattle.replies.proofs.spinel_reply.Goals as goal

pub returns : goal.returns
unfolding spinel_replied
returns c =
    let a = c.args in
    rw c.spinel_sum-sum.ensures
    (spinel_stored a.address a.signature a.ack c.min-n.result c.high_byte.result c.low_byte.result _ c.as_slice-shown.result.now c.as_slice-shown.ensures c.min-n.ensures c.high_byte.ensures c.low_byte.ensures c.begun-bytes.result c.begun-bytes.ensures)

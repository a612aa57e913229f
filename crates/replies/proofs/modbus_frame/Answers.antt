-- `replies::modbus_frame` meets its contract. Assumes nothing.
use Rattle.replies.proofs.Framing.{modbus_stored}
use Rattle.replies.proofs.modbus_frame.Goals as goal

pub returns : goal.returns
returns c =
    let a = c.args in
    rw (c.high_byte.ensures, c.low_byte.ensures, c.crc16-crc.ensures) (modbus_stored a.address a.function c.min-n.result a.body.now c.min-n.ensures c.begun-bytes.result c.begun-bytes.ensures)

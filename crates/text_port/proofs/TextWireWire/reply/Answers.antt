-- `TextWire::reply` meets its contract: it is the same whatever the frame. Assumes nothing.
use Rattle.text_port.proofs.TextWireWire.reply.Goals as goal

pub returns : goal.returns
returns c = λ m. c.reply_on_text.ensures c.args.frame.now m

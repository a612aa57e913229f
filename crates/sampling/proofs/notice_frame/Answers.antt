-- `sampling::notice_frame` meets its contract. Assumes nothing.
use borrow.Author.Tests.{ne_eqb}
use Rattle.model.specs.Samples.{input_states}
use Rattle.model.specs.Notice.{notice_frame}
use Rattle.inputs.specs.Passes.{stable_bits}
use Rattle.sampling.proofs.notice_frame.Goals as goal

pub returns-then-n-eq66 : goal.returns-then-n-eq66
unfolding notice_frame stable_bits
returns-then-n-eq66 c x e = rw c.if-n-eq66.true (c.text_notice.ensures (input_states x) e)

pub returns : goal.returns
unfolding notice_frame stable_bits
returns c x e = rw (ne_eqb c.args.n.format 0x42 c.if-n-eq66.false, c.word_reply.ensures, e)

-- `iomodule::sample` meets its contract. Assumes nothing.
use Rattle.std.proofs.Common.{sym, ◌∙◌, length, arith, ap}
use borrow.Author.Tests.{ltb-false}
use Rattle.lists.specs.Data.{over}
use Rattle.model.specs.Refusals.{Out}
use Rattle.model.specs.Calls.{sample_call, answer_of}
use Rattle.iomodule.proofs.sample.Goals as goal

pub notice_out-len-requires : goal.notice_out-len-requires
notice_out-len-requires c =
    omega (arith, ltb-false (length c.args.reply.now) 256 (sym c.is_short.ensures ∙ c.if-is_short.false))

pub returns : goal.returns
unfolding sample_call
returns c =
    let a = c.args in
    rw (sym c.is_short.ensures ∙ c.if-is_short.false)
    (record {
      answer = rw c.notice_out-len.ensures.value (ap answer_of c.handle-s.ensures);
      buffer = c.notice_out-len.ensures.reply_after ∙ ap (λ (o : Out). over o.reply a.reply.now) c.handle-s.ensures;
    })

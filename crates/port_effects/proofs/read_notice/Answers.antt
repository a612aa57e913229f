-- `port_effects::read_notice` meets its contract. Assumes nothing.
use Rattle.std.proofs.Common.{◌≡◌, Err, rules}
use Rattle.lists.proofs.DataLaws.{byte_and_word}
use Rattle.model.specs.Refusals.{refusal_of}
use Rattle.model.specs.Notice.{read_notice}
use Rattle.encoding.proofs.Telling.{told_refused, told_answered}
use Rattle.port_effects.proofs.read_notice.Goals as goal

pub returns-in_err-no_data : goal.returns-in_err-no_data
unfolding read_notice refusal_of
returns-in_err-no_data c =
    let e : c.from_residual.result ≡ Err c.in_err-no_data.field-0.0 = search rules in
    rw e (told_refused (read_notice c.args.d.now c.args.n) _ c.in_err-no_data.ensures)

pub returns : goal.returns
unfolding read_notice refusal_of
returns c =
    told_answered (read_notice c.args.d.now c.args.n) _ c.in_ok-no_data.ensures (rw (c.push16.ensures, c.push.ensures, c.empty.ensures) (byte_and_word _ _))

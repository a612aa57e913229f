-- `port_effects::read_port` meets its contract. Assumes nothing.
use Rattle.std.proofs.Common.{◌≡◌, Err, rules}
use Rattle.lists.proofs.DataLaws.{two_pushed}
use Rattle.model.specs.Refusals.{refusal_of}
use Rattle.model.specs.Counters.{read_port}
use Rattle.encoding.proofs.Telling.{told_refused, told_answered}
use Rattle.port_effects.proofs.read_port.Goals as goal

pub returns-in_err-no_data : goal.returns-in_err-no_data
unfolding read_port refusal_of
returns-in_err-no_data c =
    let e : c.from_residual.result ≡ Err c.in_err-no_data.field-0.0 = search rules in
    rw e (told_refused (read_port c.args.d.now c.args.p) _ c.in_err-no_data.ensures)

pub returns : goal.returns
unfolding read_port refusal_of
returns c =
    told_answered (read_port c.args.d.now c.args.p) _ c.in_ok-no_data.ensures (rw (c.push-2.ensures, c.push.ensures, c.empty.ensures) (two_pushed _ _))

-- `counter_effects::read_sampling` meets its contract. Assumes nothing.
use Rattle.std.proofs.Common.{◌≡◌, Err, rules, arith, []}
use Rattle.lists.proofs.DataLaws.{push_law}
use Rattle.model.specs.Refusals.{refusal_of}
use Rattle.model.specs.Counters.{read_sampling}
use Rattle.encoding.proofs.Telling.{told_refused, told_answered}
use Rattle.counter_effects.proofs.read_sampling.Goals as goal

pub returns-in_err-no_data : goal.returns-in_err-no_data
unfolding read_sampling refusal_of
returns-in_err-no_data c =
    let e : c.from_residual.result ≡ Err c.in_err-no_data.field-0.0 = search rules in
    rw e (told_refused (read_sampling c.args.d.now c.args.sampling) _ c.in_err-no_data.ensures)

pub returns : goal.returns
unfolding read_sampling refusal_of
returns c =
    told_answered (read_sampling c.args.d.now c.args.sampling) _ c.in_ok-no_data.ensures (rw (c.push.ensures, c.empty.ensures) (push_law [] _ (omega arith)))

-- `port_effects::read_sum_test` meets its contract. Assumes nothing.
use Rattle.std.proofs.Common.{arith, []}
use Rattle.lists.proofs.Bits.{byte_bit}
use Rattle.lists.proofs.DataLaws.{push_law}
use Rattle.model.specs.Refusals.{refusal_of}
use Rattle.model.specs.SumTest.{read_sum_test}
use Rattle.encoding.proofs.Telling.{told_answered}
use Rattle.port_effects.proofs.read_sum_test.Goals as goal

pub returns : goal.returns
unfolding read_sum_test refusal_of
returns c =
    told_answered (read_sum_test c.args.d.now c.args.tested) _ c.in_ok-no_data.ensures (rw (c.push.ensures, c.empty.ensures, c.from.ensures, byte_bit c.args.tested) (push_law [] _ (omega arith)))

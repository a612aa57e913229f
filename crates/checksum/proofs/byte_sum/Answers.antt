-- `checksum::byte_sum` meets its contract. Assumes nothing.
use Rattle.std.proofs.Common.{arith}
use Rattle.checksum.proofs.Laws.{total_next, total_end}
use Rattle.checksum.proofs.byte_sum.Goals as goal

pub loop-b-preserved : goal.loop-b-preserved
loop-b-preserved c =
    omega (arith, total_next c.args.s.now c.loop-b.b-index c.loop-b-test.true)

pub returns : goal.returns
returns c =
    omega (arith, total_end c.args.s.now c.loop-b.b-index c.loop-b-test.false)

-- `linking::bit_of` meets its contract. Assumes nothing.
use Rattle.std.proofs.Common.{arith, sym}
use Rattle.linking.proofs.Laws.{bit_past}
use Rattle.linking.proofs.bit_of.Goals as goal

pub returns-then-place-gt15 : goal.returns-then-place-gt15
returns-then-place-gt15 c = sym (bit_past c.args.bits _ (omega arith) (omega arith))

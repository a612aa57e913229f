-- `encoding::bits_of` meets its contract: each turn brings one bit above those before it. Assumes nothing.
use Rattle.std.proofs.Common.{rules, arith, ◌≡◌, refl, length}
use Rattle.lists.specs.Numbers.{bits_number}
use Rattle.encoding.proofs.BitTurns.{bit_above}
use Rattle.encoding.proofs.bits_of.Goals as goal
use Rattle.encoding.proofs.bits_of.Goals.{Start}

long : (c : Start) → length c.args.bs ≡ 16
long c = search rules

pub loop-i-init : goal.loop-i-init
unfolding bits_number
loop-i-init c = (omega arith, refl)

pub loop-i-preserved : goal.loop-i-preserved
loop-i-preserved c =
    (omega arith, rw (c.from.ensures, c.loop-i.invariant.1) (bit_above c.args.bs c.loop-i.i (long (goal.at.loop-i-preserved c).Start) (omega arith)))

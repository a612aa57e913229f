-- `load::sum` meets its contract. Assumes nothing.
use Rattle.std.proofs.Common.{refl, add-one, arith}
use Rattle.load.specs.Play.{sum_of}
use Rattle.load.proofs.sum.Goals as goal

pub loop-i-init : goal.loop-i-init
unfolding sum_of
loop-i-init c = (omega arith, refl)

pub loop-i-preserved : goal.loop-i-preserved
unfolding sum_of
loop-i-preserved c =
    let at = c.loop-i in
    (omega arith, rw (c.left_by-total.ensures, at.invariant.1, add-one))

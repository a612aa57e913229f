-- `load::source_next` meets its contract. Assumes nothing.
use Rattle.load.specs.Play.{source_next}
use Rattle.load.proofs.source_next.Goals as goal

pub returns-then-noisy : goal.returns-then-noisy
unfolding source_next
returns-then-noisy c = rw c.if-noisy.true c.noisy_next.ensures

pub returns : goal.returns
unfolding source_next
returns c = rw c.if-noisy.false c.typical_next.ensures

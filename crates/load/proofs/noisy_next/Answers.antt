-- `load::noisy_next` meets its contract. Assumes nothing.
use Rattle.load.specs.Play.{noisy_next}
use Rattle.load.proofs.noisy_next.Goals as goal

pub returns : goal.returns
unfolding noisy_next
returns c = rw c.next_seed-seed.ensures

-- `load::start` meets its contract. Assumes nothing.
use Rattle.model.specs.State.{fresh_module}
use Rattle.load.specs.Play.{start_of}
use Rattle.load.proofs.start.Goals as goal

pub returns : goal.returns
unfolding start_of fresh_module
returns c = rw (c.fresh-f.ensures, c.links_by-settings.ensures, c.fill.ensures.after (λ y e. e))

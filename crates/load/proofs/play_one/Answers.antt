-- `load::play_one` meets its contract. Assumes nothing.
use Rattle.load.specs.Play.{play_one, buffer_one}
use Rattle.load.proofs.play_one.Goals as goal

pub returns-clause-value : goal.returns-clause-value
unfolding play_one buffer_one
returns-clause-value c =
    rw (c.sample-a.ensures.answer, c.source_next-source.ensures)

pub returns-clause-reply_after : goal.returns-clause-reply_after
unfolding play_one buffer_one
returns-clause-reply_after c =
    rw (c.sample-a.ensures.buffer, c.source_next-source.ensures)

-- `load::play` meets its contract. Assumes nothing.
use Rattle.std.proofs.Common.{refl, add-one, rules}
use Rattle.load.specs.Play.{play_many, buffer_many}
use Rattle.load.proofs.play.Goals as goal

pub loop-turn-init : goal.loop-turn-init
unfolding play_many buffer_many
loop-turn-init c = (refl, refl, refl)

pub loop-turn-preserved : goal.loop-turn-preserved
unfolding play_many buffer_many
loop-turn-preserved c =
    let past = c.loop-turn.invariant in
    (search rules, rw (c.play_one-after.ensures.value, past.0, past.1, add-one), rw (c.play_one-after.ensures.reply_after, past.0, past.1, past.2, add-one))

-- `load::play` meets its contract. Assumes nothing.
use Rattle.std.proofs.Common.{◌≡◌, length}
use Rattle.load.specs.Play.{play_many, buffer_many}
use Rattle.load.proofs.play.Given as goal

abbrev pub invariant-loop-turn : goal.invariant-loop-turn
invariant-loop-turn l =
    (length l.reply ≡ length l.initial.reply) × (l.after ≡ play_many (length l.initial.reply) l.noisy l._turn l.initial.after) × (l.reply ≡ buffer_many (length l.initial.reply) l.noisy l._turn l.initial.after l.initial.reply)

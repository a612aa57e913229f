-- `frame_load::play` meets its contract. Assumes nothing.
use Rattle.std.proofs.Common.{◌≡◌, length}
use Rattle.frame_load.specs.Play.{act_of, play_many, buffer_many}
use Rattle.frame_load.proofs.play.Given as goal

abbrev pub invariant-loop-turn : goal.invariant-loop-turn
invariant-loop-turn l =
    (length l.reply ≡ length l.initial.reply) × (l.after ≡ play_many (length l.initial.reply) (act_of l.modbus l.frame) l._turn l.initial.after) × (l.reply ≡ buffer_many (length l.initial.reply) (act_of l.modbus l.frame) l._turn l.initial.after l.initial.reply)

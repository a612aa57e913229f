-- `player::play_samples` meets its contract. The loop's invariant: the samples left, on the state now, come to all of them. Assumes nothing.
use Prim.Native.Nat.{suc, ◌+◌, ◌-◌}
use native.Mathlib.Omega.{arith}
use mathlib.Core.Path.{◌≡◌, ◌∙◌}
use Rattle.model.specs.Calls.{run}
use Rattle.player.proofs.Answers.{samples_go}
use Rattle.player.proofs.play_samples.Goals as goal

pub loop-turn-preserved : goal.loop-turn-preserved
loop-turn-preserved g c =
    let left = c.args.times - (c.loop-turn._turn + 1) in
    let more : c.args.times - c.loop-turn._turn ≡ suc left = omega arith in
    samples_go c.args.bits left c.loop-turn.after c.play_sample-after.ensures ∙ rw more at c.loop-turn.invariant

pub returns : goal.returns
unfolding run
returns g c =
    let none : c.args.times - c.loop-turn._turn ≡ 0 = omega arith in
    rw none at c.loop-turn.invariant

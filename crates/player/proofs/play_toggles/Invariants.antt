-- `player::play_toggles` meets its contract. The loop's invariant: the turns left, on the state now, come to all of them. Assumes nothing.
use Prim.Native.Nat.{◌-◌}
use mathlib.Core.Path.{◌≡◌}
use Rattle.model.specs.Calls.{run}
use Rattle.player.specs.Scripts.{in_turn}
use Rattle.player.proofs.play_toggles.Given as goal

abbrev pub invariant-loop-turn : goal.invariant-loop-turn
invariant-loop-turn g l = run l.after (in_turn l.bits l.second (l.times - l._turn)) ≡ run l.fn.m (in_turn l.bits l.second l.times)

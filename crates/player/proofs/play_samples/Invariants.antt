-- `player::play_samples` meets its contract. The loop's invariant: the samples left, on the state now, come to all of them. Assumes nothing.
use Prim.Native.Nat.{◌-◌}
use mathlib.Core.Path.{◌≡◌}
use lib.ListN.{replicate}
use Rattle.model.specs.Call.{call, sample}
use Rattle.model.specs.Calls.{run}
use Rattle.player.proofs.play_samples.Given as goal

abbrev pub invariant-loop-turn : goal.invariant-loop-turn
invariant-loop-turn g l = run l.after (replicate (l.times - l._turn) (call 256 (sample l.bits))) ≡ run l.fn.m (replicate l.times (call 256 (sample l.bits)))

-- `player::play` meets its contract. The loop's invariant: the lines left, on the state now, come to all of them. Assumes nothing.
use mathlib.Core.Path.{◌≡◌}
use mathlib.Core.List.{[]}
use lib.ListN.{length}
use Rattle.model.specs.State.{fresh_module}
use Rattle.model.specs.Calls.{run}
use Rattle.player.specs.Scripts.{lines, lines_calls, script_calls}
use Rattle.player.proofs.play.Given as goal

abbrev pub invariant-loop-rest : goal.invariant-loop-rest
invariant-loop-rest g l = run l.after (lines_calls (lines [] l.rest)) ≡ run fresh_module (script_calls l.input)

abbrev pub decreases-loop-rest : goal.decreases-loop-rest
decreases-loop-rest g l = length l.rest

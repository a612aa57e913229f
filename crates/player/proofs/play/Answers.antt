-- `player::play` meets its contract. The loop's invariant: the lines left, on the state now, come to all of them. Assumes nothing.
use mathlib.Core.Path.{sym, ◌∙◌}
use borrow.Author.Tests.{eqb-true}
use Rattle.player.proofs.Lines.{line_goes, lines_over}
use Rattle.player.proofs.play.Goals as goal

pub loop-rest-preserved : goal.loop-rest-preserved
loop-rest-preserved g c =
    line_goes c.loop-rest.after c.loop-rest.rest.now _ _ c.first_line.ensures.calls c.play_line-after.ensures ∙ c.loop-rest.invariant

pub returns : goal.returns
returns g c = lines_over _ _ (eqb-true _ _ (sym c.loop-rest-test.ensures)) ∙ c.loop-rest.invariant

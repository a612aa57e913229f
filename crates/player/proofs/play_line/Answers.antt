-- `player::play_line` meets its contract. Assumes nothing.
use Rattle.player.proofs.Lines.{wrong_calls}
use Rattle.player.proofs.play_line.Goals as goal

pub returns-in-Err : goal.returns-in-Err
returns-in-Err g c = wrong_calls c.args.m c.in-Err.reason c.in-Err.ensures

-- `player::frame_text` meets its contract. Assumes nothing.
use borrow.Author.Rules.{rules}
use Rattle.texts.specs.Texts.{answer_text}
use Rattle.player.proofs.Answers.{frame_printed}
use Rattle.player.proofs.frame_text.Goals as goal

pub returns : goal.returns
returns c = frame_printed c.frame_call-a.ensures answer_text (search rules) c.answer_text-text.ensures

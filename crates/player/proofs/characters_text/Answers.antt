-- `player::characters_text` meets its contract. Assumes nothing.
use borrow.Author.Rules.{rules}
use Rattle.texts.specs.Texts.{answer_characters}
use Rattle.player.proofs.Answers.{frame_printed}
use Rattle.player.proofs.characters_text.Goals as goal

pub returns : goal.returns
returns c = frame_printed c.spinel-a.ensures answer_characters (search rules) c.answer_characters-text.ensures

-- `player::sample_text` meets its contract. Assumes nothing.
use borrow.Author.Rules.{rules}
use Rattle.player.proofs.Answers.{notice_printed, notice_none}
use Rattle.player.proofs.sample_text.Goals as goal

pub returns-then-a-eq0 : goal.returns-then-a-eq0
returns-then-a-eq0 c = notice_none c.sample-a.ensures c.if-a-eq0.true

pub returns : goal.returns
returns c =
    notice_printed c.sample-a.ensures (search rules) c.if-a-eq0.false c.answer_text-text.ensures

-- `text_instructions::told_characters` meets its contract. Assumes nothing.
use Rattle.std.proofs.Common.{rules, []}
use Rattle.lists.proofs.DataLaws.{extend_law}
use Rattle.text_instructions.proofs.told_characters.Goals as goal

pub returns : goal.returns
returns c = rw (c.append.ensures, c.empty.ensures) (extend_law c.args.told.now [] (search rules))

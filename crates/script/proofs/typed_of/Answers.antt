-- `script::typed_of` meets its contract. Assumes nothing.
use mathlib.Core.Path.{ap, ◌∙◌}
use Rattle.script.specs.Words.{trimmed}
use Rattle.script.proofs.Ends.{behind_one, text_long, text_fits}
use Rattle.script.proofs.typed_of.Goals as goal

pub returns-then-characters-ge300 : goal.returns-then-characters-ge300
returns-then-characters-ge300 c =
    text_long c.args.s.now (c.trimmed-characters.ensures ∙ ap trimmed (behind_one _ _ c.min.ensures)) c.if-characters-ge300.true

pub returns : goal.returns
returns c =
    text_fits c.args.s.now (c.trimmed-characters.ensures ∙ ap trimmed (behind_one _ _ c.min.ensures)) c.if-characters-ge300.false c.empty.ensures c.append.ensures c.push.ensures

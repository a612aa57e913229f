-- `texts::answer_text` meets its contract. The loop's invariant: what is stored is the number and the text of the bytes passed. Assumes nothing.
use mathlib.Core.Path.{◌≡◌}
use mathlib.Core.List.{◌++◌}
use lib.ListN.{take}
use Rattle.digits.specs.Writing.{decimal_text}
use Rattle.texts.specs.Texts.{bytes_text, text_of}
use Rattle.texts.proofs.answer_text.Given as goal

abbrev pub invariant-loop-b : goal.invariant-loop-b
invariant-loop-b l =
    l.out ≡ text_of (decimal_text l.refusal ++ bytes_text (take l.b-index l.shown))

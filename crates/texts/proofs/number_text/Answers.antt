-- `texts::number_text` meets its contract. Assumes nothing.
use native.Mathlib.Omega.{arith}
use mathlib.Core.Path.{◌∙◌}
use mathlib.Core.List.{[]}
use Rattle.digits.specs.Writing.{padded}
use Rattle.digits.proofs.Characters.{length-decimal}
use Rattle.texts.proofs.Stores.{push_numeral}
use Rattle.texts.proofs.number_text.Goals as goal

pub returns : goal.returns
unfolding padded
returns c =
    c.append.ensures ∙ push_numeral [] _ (omega (arith, length-decimal 19 c.args.n (omega arith))) (rw c.from.ensures at c.decimal_text.ensures) c.as_slice.ensures c.empty.ensures

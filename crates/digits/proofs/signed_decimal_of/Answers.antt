-- `digits::signed_decimal_of` meets its contract. Assumes nothing.
use native.Mathlib.Omega.{arith}
use mathlib.Core.Path.{ap, ◌∙◌}
use borrow.Author.Rules.{rules}
use Rattle.digits.specs.Reading.{found, positive, negative}
use Rattle.digits.proofs.Signs.{signed, positive_none, negative_none, signed_none, signed_minus, signed_plus, signed_bare}
use Rattle.digits.proofs.signed_decimal_of.Goals as goal

pub returns-in_err-sign : goal.returns-in_err-sign
returns-in_err-sign c = c.from_residual.ensures ∙ ap (found 65536) (signed_none _ c.in_err-sign.ensures.cases)

pub returns-in-45 : goal.returns-in-45
returns-in-45 c =
    signed _ negative (negative_none _) c.decimal_of.ensures c.and_then.ensures (λ x q. search rules) ∙ ap (found 65536) (signed_minus c.in_ok-sign.ensures.cases.0 c.in-45.is)

pub returns-in-43 : goal.returns-in-43
returns-in-43 c =
    signed _ positive (positive_none _) c.decimal_of-in-43.ensures c.and_then-in-43.ensures (λ x q. search rules) ∙ ap (found 65536) (signed_plus c.in_ok-sign.ensures.cases.0 c.in-43.is)

pub returns-in_default : goal.returns-in_default
returns-in_default c =
    signed _ positive (positive_none _) c.decimal_of-in_default.ensures c.and_then-in_default.ensures (λ x q. search rules) ∙ ap (found 65536) (signed_bare c.in_ok-sign.ensures.cases.0 (λ e. omega arith) (λ e. omega arith))

-- `script::temperature_of` meets its contract. Assumes nothing.
use borrow.Author.Rules.{rules}
use mir.Syntax.{w16}
use mir.Val.{SFits}
use mir.Facts.{to_z-of_z}
use mathlib.Core.Path.{◌≡◌, sym, ◌∙◌}
use Rattle.digits.proofs.Digits.{found_some, found_none}
use Rattle.script.specs.Lines.{wrong}
use Rattle.script.specs.Results.{parsed_of}
use Rattle.script.proofs.Sames.{same_is}
use Rattle.script.proofs.Calls.{word_there, no_word, temperature_fault, temperature_good, tenths_good, tenths_none}
use Rattle.script.proofs.temperature_of.Goals as goal

pub returns-then-eq : goal.returns-then-eq
returns-then-eq c =
    let last = no_word _ _ c.if-is_some.ensures c.next_word-2.ensures.cases in
    temperature_fault (word_there _ _ c.next_word.ensures.cases c.in_ok-word.ensures.ok_part) last (same_is _ c.as_slice.ensures c.if-eq.ensures)

pub returns-in_err-pattern : goal.returns-in_err-pattern
returns-in_err-pattern c =
    let last = no_word _ _ c.if-is_some.ensures c.next_word-2.ensures.cases in
    let none = found_none _ _ (sym c.signed_decimal_of.ensures ∙ c.in_err-pattern.ensures.ok_part) in
    let bad : parsed_of c.from_residual-in_err-pattern.result ≡ wrong 3 = search rules in
    bad ∙ tenths_none _ none ∙ temperature_good (word_there _ _ c.next_word.ensures.cases c.in_ok-word.ensures.ok_part) last (same_is _ c.as_slice.ensures c.if-eq.ensures)

pub returns : goal.returns
returns c =
    let last = no_word _ _ c.if-is_some.ensures c.next_word-2.ensures.cases in
    let found = found_some _ _ (sym c.signed_decimal_of.ensures ∙ c.in_ok-pattern.ensures.ok_part) in
    let f : SFits w16 c.signed_of.result = search rules in
    rw (to_z-of_z f, c.signed_of.ensures, sym found.1) (tenths_good _ found.0 ∙ temperature_good (word_there _ _ c.next_word.ensures.cases c.in_ok-word.ensures.ok_part) last (same_is _ c.as_slice.ensures c.if-eq.ensures))

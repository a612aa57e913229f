-- `script::sample_of` meets its contract. Assumes nothing.
use native.Mathlib.Omega.{arith}
use mathlib.Core.Path.{refl, ap, ◌∙◌}
use Rattle.script.specs.Results.{parsed_of}
use Rattle.script.proofs.Calls.{failed, word_there, no_word, sampled_first, sampled_times, sampled_good, sample_one, sample_two}
use Rattle.script.proofs.sample_of.Goals as goal

pub returns-in_err-bits-2 : goal.returns-in_err-bits-2
returns-in_err-bits-2 c =
    let bad = c.in_err-bits-2.ensures in
    ap parsed_of (failed _ c.from_residual-in_err-bits-2.ensures bad.0) ∙ sampled_first 1 0 1 _ bad.1 ∙ sample_one (word_there _ _ c.next_word.ensures.cases c.in_ok-bits.ensures.ok_part) c.in_default.ensures.cases

pub returns-in_default : goal.returns-in_default
returns-in_default c =
    let bits = c.in_ok-bits-2.ensures in
    sampled_good 1 0 1 bits.0 bits.1 refl (omega arith) refl (omega arith) (omega arith) ∙ sample_one (word_there _ _ c.next_word.ensures.cases c.in_ok-bits.ensures.ok_part) c.in_default.ensures.cases

pub returns-in_err-bits-3 : goal.returns-in_err-bits-3
returns-in_err-bits-3 c =
    let bad = c.in_err-bits-3.ensures in
    let last = no_word _ _ c.if-is_some.ensures c.next_word-3.ensures.cases in
    ap parsed_of (failed _ c.from_residual-in_err-bits-3.ensures bad.0) ∙ sampled_first 1 0 _ _ bad.1 ∙ sample_two (word_there _ _ c.next_word.ensures.cases c.in_ok-bits.ensures.ok_part) c.in-Some.ensures.cases last

pub returns-in_err-times : goal.returns-in_err-times
returns-in_err-times c =
    let bits = c.in_ok-bits-3.ensures in
    let bad = c.in_err-times.ensures in
    let last = no_word _ _ c.if-is_some.ensures c.next_word-3.ensures.cases in
    ap parsed_of (failed _ c.from_residual-in_err-times.ensures bad.0) ∙ sampled_times 1 0 _ bits.0 bits.1 refl (omega arith) bad.1 ∙ sample_two (word_there _ _ c.next_word.ensures.cases c.in_ok-bits.ensures.ok_part) c.in-Some.ensures.cases last

pub returns : goal.returns
returns c =
    let bits = c.in_ok-bits-3.ensures in
    let times = c.in_ok-times.ensures in
    let last = no_word _ _ c.if-is_some.ensures c.next_word-3.ensures.cases in
    sampled_good 1 0 _ bits.0 bits.1 refl (omega arith) times.0 times.2 times.1 ∙ sample_two (word_there _ _ c.next_word.ensures.cases c.in_ok-bits.ensures.ok_part) c.in-Some.ensures.cases last

-- `script::toggle_of` meets its contract. Assumes nothing.
use mathlib.Core.Path.{ap, ◌∙◌}
use Rattle.script.specs.Results.{parsed_of}
use Rattle.script.proofs.Calls.{failed, word_there, no_word, sampled_first, sampled_second, sampled_times, sampled_good, toggle_three}
use Rattle.script.proofs.toggle_of.Goals as goal

pub returns-in_err-first-2 : goal.returns-in_err-first-2
returns-in_err-first-2 c =
    let bad = c.in_err-first-2.ensures in
    ap parsed_of (failed _ c.from_residual-in_err-first-2.ensures bad.0) ∙ sampled_first 7 _ _ _ bad.1 ∙ toggle_three (word_there _ _ c.next_word.ensures.cases c.in_ok-first.ensures.ok_part) (word_there _ _ c.next_word-2.ensures.cases c.in_ok-second.ensures.ok_part) (word_there _ _ c.next_word-3.ensures.cases c.in_ok-times.ensures.ok_part) (no_word _ _ c.if-is_some.ensures c.next_word-4.ensures.cases)

pub returns-in_err-second-2 : goal.returns-in_err-second-2
returns-in_err-second-2 c =
    let first = c.in_ok-first-2.ensures in
    let bad = c.in_err-second-2.ensures in
    ap parsed_of (failed _ c.from_residual-in_err-second-2.ensures bad.0) ∙ sampled_second 7 _ _ first.0 first.1 bad.1 ∙ toggle_three (word_there _ _ c.next_word.ensures.cases c.in_ok-first.ensures.ok_part) (word_there _ _ c.next_word-2.ensures.cases c.in_ok-second.ensures.ok_part) (word_there _ _ c.next_word-3.ensures.cases c.in_ok-times.ensures.ok_part) (no_word _ _ c.if-is_some.ensures c.next_word-4.ensures.cases)

pub returns-in_err-times-2 : goal.returns-in_err-times-2
returns-in_err-times-2 c =
    let first = c.in_ok-first-2.ensures in
    let second = c.in_ok-second-2.ensures in
    let bad = c.in_err-times-2.ensures in
    ap parsed_of (failed _ c.from_residual-in_err-times-2.ensures bad.0) ∙ sampled_times 7 _ _ first.0 first.1 second.0 second.1 bad.1 ∙ toggle_three (word_there _ _ c.next_word.ensures.cases c.in_ok-first.ensures.ok_part) (word_there _ _ c.next_word-2.ensures.cases c.in_ok-second.ensures.ok_part) (word_there _ _ c.next_word-3.ensures.cases c.in_ok-times.ensures.ok_part) (no_word _ _ c.if-is_some.ensures c.next_word-4.ensures.cases)

pub returns : goal.returns
returns c =
    let first = c.in_ok-first-2.ensures in
    let second = c.in_ok-second-2.ensures in
    let times = c.in_ok-times-2.ensures in
    sampled_good 7 _ _ first.0 first.1 second.0 second.1 times.0 times.2 times.1 ∙ toggle_three (word_there _ _ c.next_word.ensures.cases c.in_ok-first.ensures.ok_part) (word_there _ _ c.next_word-2.ensures.cases c.in_ok-second.ensures.ok_part) (word_there _ _ c.next_word-3.ensures.cases c.in_ok-times.ensures.ok_part) (no_word _ _ c.if-is_some.ensures c.next_word-4.ensures.cases)

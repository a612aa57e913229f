-- `script::blanks` meets its contract. Assumes nothing.
use Rattle.std.proofs.Common.{rules, tests, not, ◌∙◌}
use Rattle.std.proofs.lemmas.Iterator.{YieldsList-from_slice}
use Rattle.std.proofs.lemmas.Iterator.Search.{position_from_yields_List}
use Rattle.script.specs.Words.{blank}
use Rattle.script.proofs.Leading.{place_law, twice}
use Rattle.script.proofs.blanks.Goals as goal

pub returns : goal.returns
returns c =
    let s = c.args.s.now in
    c.unwrap_or.ensures ∙ place_law blank (λ b. not (blank b)) s (λ b. twice (blank b)) (position_from_yields_List (λ b. not (blank b)) _ _ c.position.result c.position.ensures.ran (YieldsList-from_slice s cc) (λ x b q k. search (rules, tests)))

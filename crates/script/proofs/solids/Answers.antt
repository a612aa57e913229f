-- `script::solids` meets its contract. Assumes nothing.
use Rattle.std.proofs.Common.{rules, tests, refl, ◌∙◌}
use Rattle.std.proofs.lemmas.Iterator.{YieldsList-from_slice}
use Rattle.std.proofs.lemmas.Iterator.Search.{position_from_yields_List}
use Rattle.script.specs.Words.{blank, solid}
use Rattle.script.proofs.Leading.{place_law}
use Rattle.script.proofs.solids.Goals as goal

pub returns : goal.returns
returns c =
    let s = c.args.s.now in
    c.unwrap_or.ensures ∙ place_law solid (blank) s (λ b. refl) (position_from_yields_List (blank) _ _ c.position.result c.position.ensures.ran (YieldsList-from_slice s cc) (λ x b q k. search (rules, tests)))

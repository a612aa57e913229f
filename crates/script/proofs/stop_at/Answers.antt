-- `script::stop_at` meets its contract. Assumes nothing.
use Rattle.std.proofs.Common.{rules, tests, eqb, refl, ◌∙◌}
use Rattle.std.proofs.lemmas.Iterator.{YieldsList-from_slice}
use Rattle.std.proofs.lemmas.Iterator.Search.{position_from_yields_List}
use Rattle.script.specs.Words.{other}
use Rattle.script.proofs.Leading.{place_law}
use Rattle.script.proofs.stop_at.Goals as goal

pub returns : goal.returns
returns c =
    let s = c.args.s.now in
    let stop = c.args.stop in
    c.unwrap_or.ensures ∙ place_law (other stop) (λ b. eqb b stop) s (λ b. refl) (position_from_yields_List (λ b. eqb b stop) _ _ c.position.result c.position.ensures.ran (YieldsList-from_slice s cc) (λ x b q k. search (rules, tests)))

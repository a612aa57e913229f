-- `counter_effects::deduct_refusal` meets its contract. Assumes nothing.
use borrow.Author.Tests.{tests}
use Rattle.std.proofs.Common.{rules, ◌∙◌}
use Rattle.std.proofs.lemmas.Iterator.Search.{all_from_yields_List}
use Rattle.std.proofs.lemmas.Iterator.{YieldsList-from_slice}
use Rattle.lists.proofs.Chains.{all_same}
use Rattle.model.specs.Refusals.{refusal_of}
use Rattle.model.specs.Counters.{deductible, deduct}
use Rattle.counter_effects.proofs.deduct_refusal.Goals as goal

pub returns : goal.returns
unfolding deduct refusal_of
returns c =
    let es = c.args.es.now in
    let test = deductible c.args.cs in
    let all_covered = all_from_yields_List test _ _ _ c.all-covered.ensures.ran (YieldsList-from_slice es cc) (λ x b q k. search (rules, tests)) ∙ all_same test es in
    rw (c.refused_if.ensures, all_covered)

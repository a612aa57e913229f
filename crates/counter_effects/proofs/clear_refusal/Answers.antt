-- `counter_effects::clear_refusal` meets its contract. Assumes nothing.
use borrow.Author.Tests.{tests}
use Rattle.std.proofs.Common.{rules, ◌∙◌}
use Rattle.std.proofs.lemmas.Iterator.Search.{all_from_yields_List}
use Rattle.std.proofs.lemmas.Iterator.{YieldsList-from_slice}
use Rattle.lists.proofs.Chains.{all_same}
use Rattle.model.specs.Registers.{is_zero}
use Rattle.counter_effects.proofs.clear_refusal.Goals as goal

pub returns : goal.returns
returns c =
    let es = c.args.es.now in
    let all_zero = all_from_yields_List is_zero _ _ _ c.all-zeros.ensures.ran (YieldsList-from_slice es cc) (λ x b q k. search (rules, tests)) ∙ all_same is_zero es in
    rw (c.refused_if.ensures, all_zero)

-- `counter_effects::modes_refusal` meets its contract. Assumes nothing.
use borrow.Author.Tests.{tests}
use Rattle.std.proofs.Common.{rules, ◌∙◌}
use Rattle.std.proofs.lemmas.Iterator.Search.{all_from_yields_List}
use Rattle.std.proofs.lemmas.Iterator.{YieldsList-from_slice}
use Rattle.lists.proofs.Chains.{all_same}
use Rattle.model.specs.Refusals.{refusal_of}
use Rattle.model.specs.Counters.{mode_settable, set_modes}
use Rattle.counter_effects.proofs.modes_refusal.Goals as goal

pub returns : goal.returns
unfolding set_modes refusal_of
returns c ms =
    let es = c.args.es.now in
    let all_settable = all_from_yields_List mode_settable _ _ _ c.all-settable.ensures.ran (YieldsList-from_slice es cc) (λ x b q k. search (rules, tests)) ∙ all_same mode_settable es in
    rw (c.refused_if.ensures, all_settable)

-- `preset_effects::all_free` meets its contract. Assumes nothing.
use borrow.Author.Tests.{tests}
use Rattle.std.proofs.Common.{rules, ◌∙◌}
use Rattle.std.proofs.lemmas.Iterator.Search.{all_from_yields_List}
use Rattle.std.proofs.lemmas.Iterator.{YieldsList-from_slice}
use Rattle.lists.proofs.Chains.{all_same}
use Rattle.model.specs.Temperature.{free_at}
use Rattle.preset_effects.proofs.all_free.Goals as goal

pub returns : goal.returns
returns c =
    let test = free_at c.args.holders.now.reading c.args.holders.now.thermostats in
    all_from_yields_List test _ _ _ c.all.ensures.ran (YieldsList-from_slice c.args.d.now cc) (λ x b q k. search (rules, tests)) ∙ all_same test c.args.d.now

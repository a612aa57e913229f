-- `number_lists::all_numbers` meets its contract. Assumes nothing.
use borrow.Author.Tests.{tests}
use Rattle.std.proofs.Common.{rules, ◌∙◌}
use Rattle.std.proofs.lemmas.Iterator.Search.{all_from_yields_List}
use Rattle.std.proofs.lemmas.Iterator.{YieldsList-from_slice}
use Rattle.lists.proofs.Chains.{all_same}
use Rattle.model.specs.Counters.{is_number}
use Rattle.number_lists.proofs.all_numbers.Goals as goal

pub returns : goal.returns
returns c =
    all_from_yields_List is_number _ _ _ c.all.ensures.ran (YieldsList-from_slice c.args.d.now cc) (λ x b q k. search (rules, tests))
    ∙ all_same is_number c.args.d.now

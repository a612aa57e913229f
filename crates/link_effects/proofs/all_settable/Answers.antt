-- `link_effects::all_settable` meets its contract. Assumes nothing.
use borrow.Author.Tests.{tests}
use Rattle.std.proofs.Common.{rules, arith, ◌∙◌}
use Rattle.std.proofs.lemmas.Iterator.Search.{all_from_yields_List}
use Rattle.lists.specs.Chunks.{chunks}
use Rattle.lists.proofs.Chains.{all_same}
use Rattle.model.specs.Links.{link_settable}
use Rattle.lists.proofs.Pieces.{yields_chunks}
use Rattle.link_effects.proofs.all_settable.Goals as goal

pub returns : goal.returns
returns c =
    let d = c.args.d.now in
    all_from_yields_List link_settable _ _ _ c.all.ensures.ran (yields_chunks 3 (omega arith) _ d c.chunks_exact.ensures.size c.chunks_exact.ensures.rest) (λ x b q k. search (rules, tests)) ∙ all_same link_settable (chunks 3 d)

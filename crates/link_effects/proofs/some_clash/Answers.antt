-- `link_effects::some_clash` meets its contract. Assumes nothing.
use borrow.Author.Tests.{tests}
use Rattle.std.proofs.Common.{rules, arith, ◌∙◌}
use Rattle.std.proofs.lemmas.Iterator.Search.{any_from_yields_List}
use Rattle.lists.specs.Chunks.{chunks}
use Rattle.lists.proofs.Chains.{any_same}
use Rattle.model.specs.Links.{link_clashes}
use Rattle.lists.proofs.Pieces.{yields_chunks}
use Rattle.link_effects.proofs.some_clash.Goals as goal

pub returns : goal.returns
returns c =
    let d = c.args.d.now in
    let test = link_clashes c.args.hs.now in
    any_from_yields_List test _ _ _ c.any.ensures.ran (yields_chunks 3 (omega arith) _ d c.chunks_exact.ensures.size c.chunks_exact.ensures.rest) (λ x b q k. search (rules, tests)) ∙ any_same test (chunks 3 d)

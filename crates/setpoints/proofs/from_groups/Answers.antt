-- `setpoints::from_groups` meets its contract: twelve at most, whole groups. Assumes nothing.
use Rattle.std.proofs.Common.{rules, arith, ◌∙◌}
use borrow.Author.Tests.{tests}
use Rattle.std.proofs.lemmas.Iterator.Consumers.{fold_from_yields_List}
use Rattle.lists.specs.Chunks.{chunks}
use Rattle.lists.proofs.Pieces.{yields_chunks}
use Rattle.setpoints.proofs.Groups.{with_group, first_twelve}
use Rattle.setpoints.proofs.from_groups.Goals as goal

pub returns : goal.returns
returns c =
    let d = c.args.d.now in
    let each = fold_from_yields_List _ with_group _ _ c.fold.ensures.ran (yields_chunks 8 (omega arith) _ d c.chunks_exact.ensures.size c.chunks_exact.ensures.rest) (λ a x b q k. search (rules, tests)) in
    each ∙ rw c.none.ensures (first_twelve (chunks 8 d))

-- `link_effects::set_links` meets its contract. Assumes nothing.
use borrow.Author.Rules.{rules}
use native.Mathlib.Omega.{arith}
use Rattle.std.proofs.lemmas.Iterator.Consumers.{fold_from_yields_List}
use Rattle.model.specs.Links.{set_link}
use Rattle.lists.proofs.Pieces.{yields_chunks}
use Rattle.link_effects.proofs.set_links.Goals as goal

pub returns : goal.returns
returns c =
    fold_from_yields_List _ set_link _ _ c.fold.ensures.ran (yields_chunks 3 (omega arith) _ c.args.d.now c.chunks_exact.ensures.size c.chunks_exact.ensures.rest) (λ a x b q k. search rules)

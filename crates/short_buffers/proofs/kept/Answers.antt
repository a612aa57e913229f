-- `short_buffers::kept` meets its contract. Assumes nothing.
use Rattle.std.proofs.Common.{eqb, rules, tests, ◌∙◌}
use Rattle.std.proofs.lemmas.Iterator.{YieldsList-from_slice}
use Rattle.std.proofs.lemmas.Iterator.Consumers.{YieldsList-from_filter, count_from_yields_List}
use Rattle.short_buffers.proofs.Laws.{kept_law}
use Rattle.short_buffers.proofs.kept.Goals as goal

pub returns : goal.returns
returns c =
    let b = c.args.b.now in
    count_from_yields_List c.filter.result c.count.result c.count.ensures.ran (YieldsList-from_filter _ (λ x. eqb x 0xEE) (YieldsList-from_slice b cc) c.filter.ensures.closure (λ x r q k. search (rules, tests))) ∙ kept_law b

-- `counter_reads::read_each` meets its contract. Assumes nothing.
use borrow.Author.Tests.{tests}
use Rattle.std.proofs.Common.{rules, ◌∙◌}
use Rattle.std.proofs.lemmas.Iterator.Consumers.{fold_from_yields_List}
use Rattle.std.proofs.lemmas.Iterator.{YieldsList-from_slice}
use Rattle.counter_reads.specs.Reading.{read_step, read_start}
use Rattle.counter_reads.proofs.Readings.{read_steps}
use Rattle.counter_reads.proofs.read_each.Goals as goal

pub returns : goal.returns
returns c =
    let each = fold_from_yields_List _ read_step _ _ c.fold.ensures.ran (YieldsList-from_slice c.args.ps.now cc) (λ a x b q k. search (rules, tests)) in
    each ∙ rw c.read_start.ensures (read_steps c.args.ps.now (read_start c.args.cs))

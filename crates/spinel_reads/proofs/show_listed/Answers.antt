-- `spinel_reads::show_listed` meets its contract. Assumes nothing.
use Rattle.std.proofs.Common.{arith, ◌∙◌, sym, ◌≤◌, length}
use Rattle.model.specs.Counters.{listed}
use Rattle.lists.proofs.DataLaws.{shown_turn, shown_end}
use Rattle.spinel_reads.proofs.show_listed.Goals as goal

pub loop-n-preserved : goal.loop-n-preserved
loop-n-preserved g c = λ bytes shows.
    let all = c.listed-n-items.ensures in
    let e = shows _ _ _ (rw all at c.show-reply.ensures) in
    rw e (shown_turn bytes (listed c.args.d.now) c.loop-n.n-index c.loop-n.reply (rw all at c.loop-n-test.true) ∙ c.loop-n.invariant bytes shows)

pub returns : goal.returns
returns g c = λ bytes shows.
    let none : length (listed c.args.d.now) ≤ c.loop-n.n-index = omega (arith, rw c.listed-n-items.ensures at c.loop-n-test.false) in
    sym (shown_end bytes (listed c.args.d.now) c.loop-n.n-index c.loop-n.reply none) ∙ c.loop-n.invariant bytes shows

-- `decoders::decode` meets its contract: entries added in turn are the first sixteen. Assumes nothing.
use mathlib.Core.Path.{sym, ◌∙◌}
use Rattle.lists.specs.Entries.{entry, entry_added}
use Rattle.lists.proofs.Loops.{each_goes, each_ends}
use Rattle.lists.proofs.EntryLaws.{added_all}
use Rattle.decoders.proofs.decode.Goals as goal

pub loop-j-preserved : goal.loop-j-preserved
loop-j-preserved g c all long gives =
    rw (c.push-es.ensures, gives c.loop-j.j c.entry_at.result c.loop-j-test.true c.entry_at.ensures)
    (each_goes entry_added c.loop-j.es all (sym long) c.loop-j.j (entry 0 0) c.loop-j-test.true ∙ c.loop-j.invariant all long gives)

pub returns : goal.returns
returns g c all long gives =
    each_ends entry_added c.loop-j.es all (sym long) c.loop-j.j c.loop-j-test.false
    ∙ c.loop-j.invariant all long gives
    ∙ rw c.none-es.ensures (added_all all)

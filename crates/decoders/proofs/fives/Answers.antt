-- `decoders::fives` meets its contract. Assumes nothing.
use Rattle.std.proofs.Common.{rules}
use Rattle.lists.specs.Entries.{entries}
use Rattle.lists.proofs.EntryLaws.{length-entries}
use Rattle.decoders.proofs.fives.Goals as goal

pub returns : goal.returns
returns c =
    c.decode.ensures (entries 5 c.args.d.now) (length-entries 5 c.args.d.now) (λ j e h p. search rules)

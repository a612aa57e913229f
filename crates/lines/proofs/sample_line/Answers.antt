-- `lines::sample_line` meets its contract. Assumes nothing.
use Rattle.std.proofs.Common.{le-leb}
use borrow.Author.Tests.{lt-leb}
use Rattle.model.specs.Samples.{line_sampled}
use Rattle.lines.proofs.sample_line.Goals as goal

pub returns-then-bit-x : goal.returns-then-bit-x
unfolding line_sampled
returns-then-bit-x c = simp c.if-bit-x.true

pub returns-then-from : goal.returns-then-from
unfolding line_sampled
returns-then-from c = simp (le-leb _ _ (rw (c.from.ensures, c.from-2.ensures) at c.if-from.true), c.if-bit-x.false)

pub returns : goal.returns
unfolding line_sampled
returns c = simp (lt-leb _ _ (rw (c.from.ensures, c.from-2.ensures) at c.if-from.false), c.if-bit-x.false)

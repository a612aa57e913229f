-- `sampling::is_due` meets its contract. Assumes nothing.
use borrow.Author.Tests.{ne_eqb}
use Rattle.inputs.specs.Passes.{any_masked}
use Rattle.model.specs.Notice.{noticed}
use Rattle.sampling.proofs.is_due.Goals as goal

pub returns-then-n-ne0 : goal.returns-then-n-ne0
unfolding noticed any_masked
returns-then-n-ne0 c es e = rw (ne_eqb c.args.n.format 0 c.if-n-ne0.true) (c.any_masked.ensures es e)

pub returns-else-n-ne0 : goal.returns-else-n-ne0
unfolding noticed
returns-else-n-ne0 c es e = rw c.if-n-ne0.false

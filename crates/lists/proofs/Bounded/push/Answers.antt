-- `lists::Bounded::push` meets its contract. Assumes nothing.
use borrow.Author.Tests.{lt-ltb, le-ltb}
use Rattle.lists.specs.Bounded.{added}
use Rattle.lists.proofs.Bounded.push.Goals as goal

pub returns-then-at : goal.returns-then-at
unfolding added
returns-then-at g c = rw (lt-ltb _ _ c.if-at.true)

pub returns-else-at : goal.returns-else-at
unfolding added
returns-else-at g c = rw (le-ltb _ _ c.if-at.false)

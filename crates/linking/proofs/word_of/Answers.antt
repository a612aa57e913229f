-- `linking::word_of` meets its contract. Assumes nothing.
use Rattle.std.proofs.Common.{arith, ◌≡◌}
use mathlib.Core.Bool.{true}
use borrow.Author.Tests.{lt-ltb}
use lib.Dec.{ltb}
use Rattle.lists.specs.Tests.{all}
use Rattle.linking.proofs.Laws.{bytes, word_links}
use Rattle.linking.proofs.word_of.Goals as goal

pub returns : goal.returns
unfolding all
returns c =
    let a = c.args in
    let small : all (λ x. ltb x 256) (bytes a.a a.b a.c a.d) ≡ true = rw (
      lt-ltb a.a.input 256 (omega arith),
      lt-ltb a.a.action 256 (omega arith),
      lt-ltb a.b.input 256 (omega arith),
      lt-ltb a.b.action 256 (omega arith),
      lt-ltb a.c.input 256 (omega arith),
      lt-ltb a.c.action 256 (omega arith),
      lt-ltb a.d.input 256 (omega arith),
      lt-ltb a.d.action 256 (omega arith),
    ) in
    word_links a.a a.b a.c a.d small _ c.from_le_bytes.ensures

-- `digits::written_of` meets its contract. The loop's invariant: the digits to come and those stored are all. Assumes nothing.
use native.Mathlib.Omega.{arith}
use mathlib.Core.Path.{◌≡◌, ◌∙◌}
use borrow.Author.Rules.{rules}
use Rattle.digits.specs.Writing.{written, padded}
use Rattle.digits.proofs.Characters.{stored, length-written}
use Rattle.digits.proofs.written_of.Goals as goal

pub loop-i-preserved : goal.loop-i-preserved
loop-i-preserved c =
    let base = c.args.base in
    (search rules, rw c.character_of.ensures (stored base c.loop-i.i c.loop-i.left c.loop-i.items (omega arith) (omega arith) ∙ c.loop-i.invariant.1))

pub returns : goal.returns
unfolding written padded
returns c =
    let none : c.loop-i.i ≡ 0 = omega arith in
    rw (length-written c.args.base c.args.len c.args.n, rw none at c.loop-i.invariant.1)

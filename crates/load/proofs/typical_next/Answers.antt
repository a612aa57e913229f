-- `load::typical_next` meets its contract. Assumes nothing.
use Rattle.std.proofs.Common.{eq-eqb, ne_eqb}
use Rattle.load.specs.Play.{typical_next}
use Rattle.load.proofs.typical_next.Goals as goal

pub returns-then-chance-eq0 : goal.returns-then-chance-eq0
unfolding typical_next
returns-then-chance-eq0 c = rw (c.next_seed-chance.ensures, c.next_seed-place.ensures) (rw (eq-eqb _ _ (rw (c.next_seed-chance.ensures, c.next_seed-place.ensures) at c.if-chance-eq0.true)))

pub returns : goal.returns
unfolding typical_next
returns c = rw (c.next_seed-chance.ensures, c.next_seed-place.ensures) (rw (ne_eqb _ _ (rw (c.next_seed-chance.ensures, c.next_seed-place.ensures) at c.if-chance-eq0.false)))

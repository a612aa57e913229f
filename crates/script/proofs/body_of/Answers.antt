-- `script::body_of` meets its contract. Assumes nothing.
use native.Mathlib.Omega.{arith}
use lib.ListN.{length-take}
use Rattle.script.specs.Words.{plain, body}
use Rattle.script.proofs.Leading.{leading_le}
use Rattle.script.proofs.body_of.Goals as goal

pub slice_bounds-result-end : goal.slice_bounds-result-end
slice_bounds-result-end c = rw length-take (omega (arith, c.stop_at.ensures, leading_le plain c.without_cr-s.result.now))

pub returns : goal.returns
unfolding body
returns c = rw (c.stop_at.ensures, c.without_cr-s.ensures)

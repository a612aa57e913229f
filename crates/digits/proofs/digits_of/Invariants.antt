-- `digits::digits_of` meets its contract. The loop's invariant: what is left, after the number so far, comes to the whole. Assumes nothing.
use Prim.Native.Nat.{◌<◌}
use mathlib.Core.Path.{◌≡◌}
use lib.ListN.{drop}
use Rattle.digits.specs.Reading.{digits}
use Rattle.digits.proofs.digits_of.Given as goal

abbrev pub invariant-loop-b : goal.invariant-loop-b
invariant-loop-b l = (l.n < 65536) × (digits l.base l.n (drop l.b-index l.w) ≡ digits l.base 0 l.w)

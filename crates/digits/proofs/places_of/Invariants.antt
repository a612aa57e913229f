-- `digits::places_of` meets its contract. The loop's invariant: the digits counted and those of what is left are all. Assumes nothing.
use Prim.Native.Nat.{suc, ◌+◌, ◌-◌}
use mathlib.Core.Path.{◌≡◌}
use Rattle.digits.specs.Writing.{places_in, places}
use Rattle.digits.proofs.places_of.Given as goal

abbrev pub invariant-loop-count : goal.invariant-loop-count
invariant-loop-count l = l.count + places_in (20 - l.count) l.left ≡ suc (places l.n)

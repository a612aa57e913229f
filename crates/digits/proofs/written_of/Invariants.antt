-- `digits::written_of` meets its contract. The loop's invariant: the digits to come and those stored are all. Assumes nothing.
use Prim.Native.Nat.{◌-◌}
use mathlib.Core.Path.{◌≡◌}
use mathlib.Core.List.{◌++◌}
use lib.ListN.{length, drop, replicate}
use Rattle.digits.specs.Writing.{written}
use Rattle.digits.proofs.written_of.Given as goal

abbrev pub invariant-loop-i : goal.invariant-loop-i
invariant-loop-i l =
    (length l.items ≡ 20) × (written l.base l.i l.left ++ drop l.i l.items ≡ written l.base l.len l.n ++ replicate (20 - l.len) 0)

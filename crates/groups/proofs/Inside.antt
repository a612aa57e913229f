-- What it means that a range lies in its group. Assumes nothing.
use Prim.Native.Nat.{ℕ, ◌+◌, ◌-◌, ◌%◌, ◌≤◌}
use native.Mathlib.Omega.{arith}
use mathlib.Core.Path.{◌≡◌, refl}
use mathlib.Core.Bool.{Bool, true, false, not, ◌&&◌}
use lib.Dec.{ltb, eqb}
use borrow.Author.Tests.{ltb-false, eqb-true, eqb-false}
use Rattle.lists.proofs.Choices.{or_left, or_right}
use Rattle.model.specs.declared.Group.{Group}
use Rattle.model.specs.Registers.{thermostat_group, outside, no_thermostat}

-- both ends of a range that lies in its group, and that it is not empty
pub record Inside (g : Group) (a n : ℕ) : Type 0 where
  pub some : 1 ≤ n
  pub begins : g.first ≤ a
  pub ends : a + n ≤ g.first + g.count

pub inside : (g : Group) (a n : ℕ) → outside g a n ≡ false → Inside g a n
inside g a n h =
    let ranged = or_right (eqb n 0) _ h in
    record {
      some = omega (arith, eqb-false n 0 (or_left (eqb n 0) _ h));
      begins = ltb-false a g.first (or_left (ltb a g.first) (ltb (g.first + g.count) (a + n)) ranged);
      ends = ltb-false (g.first + g.count) (a + n) (or_right (ltb a g.first) (ltb (g.first + g.count) (a + n)) ranged);
    }

-- a thermostat's registers are four
pub four : (a n : ℕ) → no_thermostat a n ≡ false → n ≡ 4
four a n h = go (eqb n 4) refl (or_right (outside thermostat_group a n) _ h)
  where
    go : (t : Bool) → eqb n 4 ≡ t → not (t && eqb ((a - 600) % 4) 0) ≡ false → n ≡ 4
    go true e q = eqb-true n 4 e
    go false e q = cc

-- Bytes that are still EE. Assumes nothing.
use Prim.Native.Nat.{ℕ, ◌+◌}
use native.Mathlib.Omega.{arith}
use mathlib.Core.Path.{◌≡◌, refl}
use mathlib.Core.Bool.{Bool, true, false, cond}
use mathlib.Core.List.{List, [], ◌∷◌}
use lib.Dec.{eqb}
use lib.ListN.{length}
use Rattle.std.specs.List.{filter}
use Rattle.short_buffers.specs.Tries.{kept_of}

-- the bytes that are EE, counted
pub kept_law : (l : List ℕ) → length (filter (λ b. eqb b 0xEE) l) ≡ kept_of l
unfolding kept_of
kept_law [] = refl
kept_law (b ∷ l) = go (eqb b 0xEE) (kept_law l)
  where
    go : (t : Bool) → length (filter (λ b. eqb b 0xEE) l) ≡ kept_of l → length (cond t (b ∷ filter (λ b. eqb b 0xEE) l) (filter (λ b. eqb b 0xEE) l)) ≡ cond t 1 0 + kept_of l
    go true e = omega (arith, e)
    go false e = omega (arith, e)

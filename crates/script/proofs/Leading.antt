-- How many elements at a list's start pass. Assumes nothing.
use Prim.Native.Nat.{ℕ, suc, ◌+◌, ◌≤◌}
use native.Mathlib.Omega.{arith}
use mathlib.Core.Path.{◌≡◌, refl}
use mathlib.Core.Bool.{Bool, true, false, cond, not}
use mathlib.Core.List.{List, [], ◌∷◌}
use lib.Dec.{ltb}
use lib.ListN.{length}
use borrow.Author.Tests.{ltb-false}
use Rattle.std.specs.Prelude.{Option, Some, None}
use Rattle.std.specs.Option.{unwrap_or}
use Rattle.std.specs.List.{position_or_len}
use Rattle.script.specs.Words.{leading}

-- no more than there are
pub leading_le : (f : ℕ → Bool) (l : List ℕ) → leading f l ≤ length l
unfolding leading
leading_le f [] = omega arith
leading_le f (b ∷ l) = go (f b) (leading_le f l)
  where
    go : (t : Bool) → leading f l ≤ length l → cond t (suc (leading f l)) 0 ≤ suc (length l)
    go true h = omega arith
    go false h = omega arith

-- a test denied twice
pub twice : (t : Bool) → t ≡ not (not t)
twice true = refl
twice false = refl

-- as many as stand before the first that fails
leading_prefix : (f g : ℕ → Bool) → ((b : ℕ) → f b ≡ not (g b)) → (l : List ℕ) → position_or_len g l ≡ leading f l
unfolding leading
leading_prefix f g e [] = refl
leading_prefix f g e (b ∷ l) = rw (e b, leading_prefix f g e l) (go (not (g b)))
  where
    go : (t : Bool) → cond t (1 + leading f l) 0 ≡ cond t (suc (leading f l)) 0
    go true = omega arith
    go false = refl

-- the place of the first that fails, or the length where there is none
pub place_law : (f g : ℕ → Bool) (l : List ℕ) {r : Option ℕ} → ((b : ℕ) → f b ≡ not (g b)) → r ≡ cond (ltb (position_or_len g l) (length l)) (Some (position_or_len g l)) None → unwrap_or r (length l) ≡ leading f l
place_law f g l {r} e h = rw (h, leading_prefix f g e l) (go (ltb (leading f l) (length l)) refl)
  where
    go : (t : Bool) → ltb (leading f l) (length l) ≡ t → unwrap_or (cond t (Some (leading f l)) None) (length l) ≡ leading f l
    go true k = refl
    go false k = omega (arith, leading_le f l, ltb-false _ _ k)

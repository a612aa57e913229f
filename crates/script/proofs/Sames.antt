-- Words that are the same. Assumes nothing.
use Prim.Native.Nat.{ℕ}
use mathlib.Core.Path.{◌≡◌, refl, sym, ◌∙◌}
use mathlib.Core.Bool.{Bool, true, false, cond, ◌&&◌}
use mathlib.Core.List.{List, [], ◌∷◌}
use lib.Dec.{eqb}
use Rattle.std.specs.Cmp.Lexicographic.{pointwise}
use Rattle.script.specs.Words.{same}

-- as `==` compares them
same_law : (w v : List ℕ) → pointwise eqb w v ≡ same w v
unfolding same
same_law [] [] = refl
same_law [] (b ∷ v) = refl
same_law (a ∷ w) [] = refl
same_law (a ∷ w) (b ∷ v) = go (eqb a b) (same_law w v)
  where
    go : (t : Bool) → pointwise eqb w v ≡ same w v → (t && pointwise eqb w v) ≡ cond t (same w v) false
    go true e = e
    go false e = refl

pub same_is : (w : List ℕ) {v x : List ℕ} {t : Bool} → v ≡ x → t ≡ pointwise eqb w v → same w x ≡ t
same_is w {v} {x} e h = rw e at (sym (h ∙ same_law w v))

-- A loop over the n places of a list, for any list: one turn and its ends, by what is still to come. Assumes nothing.
use Prim.Native.Nat.{ℕ, ◌+◌, ◌<◌, ◌≤◌}
use native.Mathlib.Numerals.{add-one}
use mathlib.Core.Path.{◌≡◌, refl}
use mathlib.Core.Bool.{Bool, true}
use mathlib.Core.List.{List, [], ◌∷◌, foldl}
use lib.ListN.{length, get_or, drop, drop_of_length-le}
use lib.Seq.{drop-cons}
use Rattle.lists.specs.Tests.{all}
use Rattle.lists.proofs.Choices.{all_first, all_rest}

-- what is left from place i on, by its first
module _ {E : Type 0} (l : List E) {n : ℕ} (size : n ≡ length l) (i : ℕ) where
  left_some : (d : E) → i < n → drop i l ≡ get_or l i d ∷ drop (i + 1) l
  left_some d h = rw (drop-cons l i d (rw size at h), add-one)

  left_none : n ≤ i → drop i l ≡ []
  left_none h = drop_of_length-le l {i = i} (rw size at h)

-- each applied
module _ {E S : Type 0} (step : S → E → S) (s : S) (l : List E) {n : ℕ} (size : n ≡ length l) (i : ℕ) where
  pub each_goes : (d : E) → i < n → foldl step (step s (get_or l i d)) (drop (i + 1) l) ≡ foldl step s (drop i l)
  each_goes d h = rw (left_some l size i d h)

  pub each_ends : n ≤ i → s ≡ foldl step s (drop i l)
  each_ends h = rw (left_none l size i h)

-- two steps that agree on what passes a test come to the same on a list that does
pub same_steps : {E S : Type 0} (ok : E → Bool) (step step' : S → E → S) → ((s : S) (e : E) → ok e ≡ true → step s e ≡ step' s e)
    → (l : List E) (s : S) → all ok l ≡ true → foldl step s l ≡ foldl step' s l
same_steps ok step step' same [] s h = refl
same_steps ok step step' same (e ∷ l) s h = rw (same s e (all_first ok e l h)) (same_steps ok step step' same l (step' s e) (all_rest ok e l h))

-- A line's parts, one by one. Assumes nothing.
use Prim.Native.Nat.{ℕ, suc, ◌-◌, ◌<◌, ◌≤◌}
use native.Mathlib.Omega.{arith}
use mathlib.Core.Path.{◌≡◌, refl, sym, ap, ◌∙◌}
use mathlib.Core.Bool.{Bool, true, false, cond}
use mathlib.Core.List.{List, [], ◌∷◌, ◌++◌, append-nil, append_assoc}
use lib.ListN.{length, take, drop, length-drop}
use Rattle.lists.proofs.ChunkLaws.{rest_whole}
use Rattle.script.proofs.Leading.{leading_le}
use Rattle.script.specs.Words.{blank, solid, leading, split, parts, skipped, behind}

-- a blank between words is passed over
skip_blank : (b : ℕ) (l : List ℕ) → blank b ≡ true → split [] (b ∷ l) ≡ split [] l
unfolding split
skip_blank b l e = rw e

-- a byte of a word
pub lead_solid : (b : ℕ) (l : List ℕ) → blank b ≡ false → leading solid (b ∷ l) ≡ suc (leading solid l)
unfolding leading
lead_solid b l e = rw e

-- a word that was begun goes on as far as no blank stands
split_word : (a : ℕ) (w l : List ℕ) → split (a ∷ w) l ≡ (a ∷ w ++ take (leading solid l) l) ∷ split [] (drop (leading solid l) l)
unfolding split leading
split_word a w [] = rw (append-nil w)
split_word a w (b ∷ l) = go (blank b) refl (split_word a (w ++ b ∷ []) l)
  where
    go : (t : Bool)
        → blank b ≡ t
        → split (a ∷ w ++ b ∷ []) l ≡ (a ∷ (w ++ b ∷ []) ++ take (leading solid l) l) ∷ split [] (drop (leading solid l) l)
        → split (a ∷ w) (b ∷ l) ≡ (a ∷ w ++ take (leading solid (b ∷ l)) (b ∷ l)) ∷ split [] (drop (leading solid (b ∷ l)) (b ∷ l))
    go true e h = rw (e, append-nil w) (ap (λ r. (a ∷ w) ∷ r) (sym (skip_blank b l e)))
    go false e h = rw (e, h, append_assoc w (b ∷ []) (take (leading solid l) l))

-- blanks alone
parts_none : (l : List ℕ) → length l ≡ leading blank l → parts l ≡ []
unfolding split leading
parts_none [] h = refl
parts_none (b ∷ l) h = go (blank b) refl h (parts_none l)
  where
    go : (t : Bool) → blank b ≡ t → suc (length l) ≡ cond t (suc (leading blank l)) 0 → (length l ≡ leading blank l → split [] l ≡ []) → cond t (split [] l) (split (b ∷ []) l) ≡ []
    go true e h f = f (omega arith)
    go false e h f = absurd (let z : ⊥ = omega arith in z)

abbrev first_word : List ℕ → List ℕ
first_word l = take (leading solid (skipped l)) (skipped l)

-- a first word, and the rest
parts_first : (l : List ℕ) → (length l ≡ leading blank l → ⊥) → parts l ≡ first_word l ∷ parts (drop (leading solid (skipped l)) (skipped l))
unfolding split leading
parts_first [] h = absurd (h refl)
parts_first (b ∷ l) h = go (blank b) refl h (parts_first l)
  where
    go : (t : Bool)
        → blank b ≡ t
        → (suc (length l) ≡ cond t (suc (leading blank l)) 0 → ⊥)
        → ((length l ≡ leading blank l → ⊥) → parts l ≡ first_word l ∷ parts (drop (leading solid (skipped l)) (skipped l)))
        → parts (b ∷ l) ≡ first_word (b ∷ l) ∷ parts (drop (leading solid (skipped (b ∷ l))) (skipped (b ∷ l)))
    go true e h f = rw e (f (λ q. h (ap suc q)))
    go false e h f = rw e (split_word b [] l ∙ ap (λ n. take n (b ∷ l) ∷ split [] (drop n (b ∷ l))) (sym (lead_solid b l e)))

-- a word has at least one byte
some_solid : (l : List ℕ) → (length l ≡ leading blank l → ⊥) → 1 ≤ leading solid (skipped l)
unfolding leading
some_solid [] h = absurd (h refl)
some_solid (b ∷ l) h = go (blank b) refl h (some_solid l)
  where
    go : (t : Bool) → blank b ≡ t → (suc (length l) ≡ cond t (suc (leading blank l)) 0 → ⊥) → ((length l ≡ leading blank l → ⊥) → 1 ≤ leading solid (skipped l)) → 1 ≤ leading solid (skipped (b ∷ l))
    go true e h f = rw e (f (λ q. h (ap suc q)))
    go false e h f = rw e (rw (lead_solid b l e) (omega arith))

-- the same by counting: a is the number of blanks, n that of the bytes of a word behind them
module _ (l : List ℕ) (a : ℕ) (p : a ≡ leading blank l) where
  whole : take (length l - a) (drop a l) ≡ skipped l
  whole = rest_whole a l ∙ ap (λ i. drop i l) p

  pub none_left : length (take (length l - a) (drop a l)) ≡ 0 → parts l ≡ []
  none_left h =
      let none : length (drop (leading blank l) l) ≡ 0 = rw whole at h in
      parts_none l (omega (arith, length-drop (leading blank l) l, leading_le blank l))

  module _ (n : ℕ) (q : n ≡ leading solid (take (length l - a) (drop a l))) (k : length (take (length l - a) (drop a l)) ≡ 0 → ⊥) where
    some : length l ≡ leading blank l → ⊥
    some e = k (rw whole (simp length-drop (omega arith)))

    pub word_left : parts l ≡ take n (take (length l - a) (drop a l)) ∷ parts (drop n (take (length l - a) (drop a l)))
    word_left = rw (q, whole) (parts_first l some)

    pub behind_left : drop n (take (length l - a) (drop a l)) ≡ behind l
    unfolding behind
    behind_left = rw (q, whole)

    pub less_left : length (drop n (take (length l - a) (drop a l))) < length l
    less_left = rw (q, whole) (simp length-drop (omega (arith, some_solid l some, leading_le blank l, some)))

-- The code that is found is the longest that a text begins by. Assumes nothing.
use Prim.Native.Nat.{ℕ, ◌≤◌}
use native.Mathlib.Omega.{arith}
use mathlib.Core.Path.{◌≡◌, refl}
use mathlib.Core.Bool.{Bool, true, false, ◌&&◌, true≢false}
use mathlib.Core.List.{List, [], ◌∷◌}
use Rattle.std.specs.Prelude.{Some}
use lib.ListN.{length, drop}
use lib.Dec.{leb}
use borrow.Author.Tests.{leb-true}
use Rattle.lists.specs.Tests.{all}
use Rattle.lists.proofs.Choices.{and_left, and_right, all_first, all_rest}
use Rattle.model.specs.Text.{Spelling, spellings, begins, typed_by}

-- s is one of some spellings
pub data Among (s : Spelling) : List Spelling → Type 0 where
  first : (ss : List Spelling) → Among s (s ∷ ss)
  later : (r : Spelling) (ss : List Spelling) → Among s ss → Among s (r ∷ ss)

-- no spelling is longer than one before it
unfoldable shortening : List Spelling → Bool
shortening [] = true
shortening (s ∷ ss) = all (λ (r : Spelling). leb (length r.letters) (length s.letters)) ss && shortening ss

no_longer : (s r : Spelling) (ss : List Spelling) → all (λ (r : Spelling). leb (length r.letters) (length s.letters)) ss ≡ true → Among r ss → length r.letters ≤ length s.letters
no_longer s r ss h (first rs) = leb-true (length r.letters) (length s.letters) (all_first (λ (r : Spelling). leb (length r.letters) (length s.letters)) r rs h)
no_longer s r ss h (later q rs a) = no_longer s r rs (all_rest (λ (r : Spelling). leb (length r.letters) (length s.letters)) q rs h) a

-- what is typed, by some spellings: one of them that the text begins by, which none of the others that it begins by is longer than
pub record Longest (ss : List Spelling) (t : List ℕ) : Type 0 where
  pub best : Spelling
  pub among : Among best ss
  pub begun : begins best.letters t ≡ true
  pub taken : typed_by ss t ≡ record { code = Some best.code; parameters = drop (length best.letters) t }
  pub most : (s : Spelling) → Among s ss → begins s.letters t ≡ true → length s.letters ≤ length best.letters

module _ (t : List ℕ) where
  -- the first one fits, or one behind it does
  at_first : (r : Spelling) (rs : List Spelling) → begins r.letters t ≡ true → all (λ (q : Spelling). leb (length q.letters) (length r.letters)) rs ≡ true → Longest (r ∷ rs) t
  unfolding typed_by
  at_first r rs e h = record { best = r; among = first rs; begun = e; taken = rw e; most = λ s a _. bound s a }
    where
      bound : (s : Spelling) → Among s (r ∷ rs) → length s.letters ≤ length r.letters
      bound s (first qs) = omega arith
      bound s (later q qs a) = no_longer r s qs h a

  further : (r : Spelling) (rs : List Spelling) → begins r.letters t ≡ false → Longest rs t → Longest (r ∷ rs) t
  unfolding typed_by
  further r rs e l = record { best = l.best; among = later r rs l.among; begun = l.begun; taken = rw e l.taken; most = bound }
    where
      bound : (s : Spelling) → Among s (r ∷ rs) → begins s.letters t ≡ true → length s.letters ≤ length l.best.letters
      bound s (first qs) b = absurd (true≢false (rw b at e))
      bound s (later q qs a) b = l.most s a b

  found : (s : Spelling) → begins s.letters t ≡ true → (ss : List Spelling) → Among s ss → shortening ss ≡ true → Longest ss t
  unfolding shortening
  found s b ss (first rs) h = at_first s rs b (and_left (all (λ (q : Spelling). leb (length q.letters) (length s.letters)) rs) (shortening rs) h)
  found s b ss (later r rs a) h =
      go (begins r.letters t) refl (found s b rs a (and_right (all (λ (q : Spelling). leb (length q.letters) (length r.letters)) rs) (shortening rs) h))
    where
      go : (fits : Bool) → begins r.letters t ≡ fits → Longest rs t → Longest (r ∷ rs) t
      go true e l = at_first r rs e (and_left (all (λ (q : Spelling). leb (length q.letters) (length r.letters)) rs) (shortening rs) h)
      go false e l = further r rs e l

-- where a text begins by any of the eleven
pub longest : (s : Spelling) (t : List ℕ) → Among s spellings → begins s.letters t ≡ true → Longest spellings t
unfolding shortening all
longest s t a b = found t s b spellings a refl

-- One turn of a loop over chunks of any width, and its end. Assumes nothing.
use Prim.Native.Nat.{ℕ, zero, suc, ◌+◌, ◌-◌, ◌/◌, ◌<◌, ◌≤◌}
use native.Mathlib.Omega.{arith}
use native.Mathlib.Nat.{div-eq-sub-div, div-eq_of_lt}
use native.Mathlib.Numerals.{add-one}
use mathlib.Core.Path.{◌≡◌, refl, ap, ◌∙◌}
use mathlib.Core.List.{List, [], ◌∷◌, map}
use lib.ListN.{length, take, drop, get_or, length-drop}
use lib.Seq.{take_all, drop-drop, drop-cons}
use Rattle.lists.specs.Chunks.{chunks, chunks_of}
use Rattle.lists.specs.Entries.{entries, entry_of}

module _ {A : Type 0} (w : ℕ) (l : List A) where
  -- a whole chunk stands at the front
  chunks_first : 0 < w → w ≤ length l → chunks w l ≡ take w l ∷ chunks w (drop w l)
  unfolding chunks chunks_of
  chunks_first p h =
      let more : length l / w ≡ suc ((length l - w) / w) = div-eq-sub-div p h ∙ add-one _ in
      rw (more, length-drop w l)

  chunks_short : length l < w → chunks w l ≡ []
  unfolding chunks chunks_of
  chunks_short h = rw (div-eq_of_lt h)

module _ {A : Type 0} (w i : ℕ) (l : List A) where
  -- from place i, one chunk and the rest
  pub chunks_cons : 0 < w → i + w ≤ length l → chunks w (drop i l) ≡ take w (drop i l) ∷ chunks w (drop (i + w) l)
  chunks_cons p h = chunks_first w (drop i l) p (simp length-drop (omega arith)) ∙ rw (drop-drop w i l)

  -- less than a chunk is left
  pub chunks_none : length l < i + w → 0 < w → chunks w (drop i l) ≡ []
  chunks_none h p = chunks_short w (drop i l) (simp length-drop (omega arith))

pub length-chunks_of : {A : Type 0} (w n : ℕ) (l : List A) → length (chunks_of w n l) ≡ n
unfolding chunks_of
length-chunks_of w zero l = refl
length-chunks_of w (suc n) l = ap suc (length-chunks_of w n (drop w l))

-- what is left of a list, by its first
pub rest_first : (l : List ℕ) (i : ℕ) → i < length l → drop i l ≡ get_or l i 0 ∷ drop (i + 1) l
rest_first l i h = rw (drop-cons l i 0 h, add-one)

-- all after the first k
pub rest_whole : (k : ℕ) (l : List ℕ) → take (length l - k) (drop k l) ≡ drop k l
rest_whole k l = take_all (length l - k) (drop k l) (simp length-drop (omega arith))

-- a chunk, byte by byte
pub piece : {A : Type 0} (k i : ℕ) (l : List A) (d : A) → i < length l → take (suc k) (drop i l) ≡ get_or l i d ∷ take k (drop (i + 1) l)
piece k i l d h = rw (drop-cons l i d h, add-one)

-- from place i, one entry and the rest
pub entries_cons : (w i : ℕ) (d : List ℕ) → 0 < w → i + w ≤ length d → entries w (drop i d) ≡ entry_of (take w (drop i d)) ∷ entries w (drop (i + w) d)
unfolding entries
entries_cons w i d p h = ap (map entry_of) (chunks_cons w i d p h)

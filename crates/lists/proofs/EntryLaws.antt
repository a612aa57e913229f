-- Entries by value: what counts of them, and what adding one after another comes to; entries by their places. Assumes nothing.
use Prim.Native.Nat.{ℕ, zero, suc, ◌+◌, ◌*◌, ◌/◌, ◌<◌, ◌≤◌}
use native.Mathlib.Omega.{arith}
use native.Mathlib.Nat.{le_of_suc-le-suc, not-suc-le-zero}
use native.Mathlib.Decide.{ℕ_discrete}
use mathlib.Core.Path.{◌≡◌, refl, ap, ◌∙◌}
use mathlib.Core.Bool.{false}
use mathlib.Core.List.{List, [], ◌∷◌, ◌++◌, append_assoc, append-nil, map, foldl}
use lib.Dec.{eqb}
use lib.ListN.{length, get_or, take, drop, length-append, length-map}
use lib.Seq.{take_all, take_at, take-append_seam, drop-drop}
use borrow.Author.Tests.{lt-ltb, le-ltb, ne_eqb}
use Rattle.lists.specs.declared.Entry.{Entry}
use Rattle.lists.specs.Tests.{any, twice}
use Rattle.lists.specs.Chunks.{chunks, chunks_of}
use Rattle.lists.specs.Entries.{entry, entry_of, entries, numbered, entries_of, entries_in, entry_added}
use Rattle.lists.specs.Bounded.{added}
use Rattle.lists.proofs.DataLaws.{filled_push}
use Rattle.lists.proofs.ChunkLaws.{length-chunks_of}

pub entries_in_lem : (l : List Entry) → entries_in (entries_of l) ≡ l
unfolding entries_of
entries_in_lem l = take-append_seam l _

-- sixteen at most: all of them
pub entries_whole : (l : List Entry) → length l ≤ 16 → entries_in (entries_of (take 16 l)) ≡ l
entries_whole l h = entries_in_lem (take 16 l) ∙ take_all 16 l h

added_one : (l : List Entry) (e : Entry) → length l < 16 → entry_added (entries_of l) e ≡ entries_of (l ++ e ∷ [])
unfolding added entries_of
added_one l e h = rw (lt-ltb (length l) 16 h, filled_push 16 (entry 0 0) l e h, length-append)

not_added : (l : List Entry) (e : Entry) → length l ≡ 16 → entry_added (entries_of l) e ≡ entries_of l
unfolding added entries_of
not_added l e h = rw (le-ltb (length l) 16 (omega arith))

-- added in turn: the first sixteen
after : (l a : List Entry) → length a ≤ 16 → foldl entry_added (entries_of a) l ≡ entries_of (take 16 (a ++ l))
after [] a h = rw (append-nil a, take_all 16 a h)
after (e ∷ l) a h = go (ℕ_discrete (length a) 16) (after l)
  where
    go : Dec (length a ≡ 16) → ((b : List Entry) → length b ≤ 16 → foldl entry_added (entries_of b) l ≡ entries_of (take 16 (b ++ l)))
        → foldl entry_added (entry_added (entries_of a) e) l ≡ entries_of (take 16 (a ++ e ∷ l))
    go (yes q) more = rw (not_added a e q, more a h, take_at a l 16 q, take_at a (e ∷ l) 16 q)
    go (no q) more = rw (added_one a e (omega arith), more (a ++ e ∷ []) (simp length-append (omega arith)), append_assoc)

pub added_all : (l : List Entry) → foldl entry_added (entries_of []) l ≡ entries_of (take 16 l)
added_all l = after l [] (omega arith)

-- so many entries
pub length-entries : (w : ℕ) (d : List ℕ) → length (entries w d) ≡ length d / w
unfolding entries chunks
length-entries w d = length-map (chunks w d) entry_of ∙ length-chunks_of w (length d / w) d

pub length-numbered : (n : ℕ) (vs : List ℕ) → length (numbered n vs) ≡ length vs
unfolding numbered
length-numbered n [] = refl
length-numbered n (v ∷ vs) = ap suc (length-numbered (suc n) vs)

-- the chunk at a place
pub chunk_at : {A B : Type 0} (f : List A → B) (w n : ℕ) (l : List A) (j : ℕ) (e : B) → j < n → get_or (map f (chunks_of w n l)) j e ≡ f (take w (drop (w * j) l))
unfolding chunks_of
chunk_at f w zero l j e h = absurd (not-suc-le-zero h)
chunk_at f w (suc n) l zero e h =
    let none : w * 0 ≡ 0 = omega arith in
    rw none
chunk_at f w (suc n) l (suc j) e h =
    let more : w * suc j ≡ w + w * j = omega arith in
    rw more (chunk_at f w n (drop w l) j e (le_of_suc-le-suc h) ∙ rw (drop-drop (w * j) w l))

-- the entry at a place
pub entry_at : (w j : ℕ) (d : List ℕ) (e : Entry) → j < length d / w → get_or (entries w d) j e ≡ entry_of (take w (drop (w * j) d))
unfolding entries chunks
entry_at w j d e h = chunk_at entry_of w (length d / w) d j e h

pub numbered_at : (n : ℕ) (vs : List ℕ) (j : ℕ) (e : Entry) → j < length vs → get_or (numbered n vs) j e ≡ entry (n + j) (get_or vs j 0)
unfolding numbered
numbered_at n [] j e h = absurd (not-suc-le-zero h)
numbered_at n (v ∷ vs) zero e h =
    let same : n + 0 ≡ n = omega arith in
    rw same
numbered_at n (v ∷ vs) (suc j) e h =
    let same : n + suc j ≡ suc n + j = omega arith in
    rw same (numbered_at (suc n) vs j e (le_of_suc-le-suc h))

-- no number stands twice among numbers one after another
none_below : (k n : ℕ) (vs : List ℕ) → k < n → any (λ (e : Entry). eqb k e.number) (numbered n vs) ≡ false
unfolding numbered any
none_below k n [] h = refl
none_below k n (v ∷ vs) h = rw (ne_eqb k n (λ e. omega (arith, e))) (none_below k (suc n) vs (omega arith))

pub numbered_once : (n : ℕ) (vs : List ℕ) → twice (λ (e : Entry). e.number) (numbered n vs) ≡ false
unfolding numbered twice
numbered_once n [] = refl
numbered_once n (v ∷ vs) = rw (none_below n (suc n) vs (omega arith)) (numbered_once (suc n) vs)

-- Parts of a list. Assumes nothing.
use Prim.Native.Nat.{ℕ, zero, suc, ◌+◌, ◌-◌, ◌≤◌, min}
use native.Mathlib.Omega.{arith}
use native.Mathlib.Nat.{zero-min, min-zero, suc-min-suc, min_comm}
use mathlib.Core.Path.{◌≡◌, refl, ap, ◌∙◌}
use mathlib.Core.List.{List, [], ◌∷◌, ◌++◌}
use lib.ListN.{length, get_or, take, drop, replicate, length-drop}
use lib.Seq.{length-take-le}
use Rattle.lists.proofs.ChunkLaws.{piece}

-- n elements from place k on
module _ (ws : List ℕ) (k n : ℕ) (fits : k + n ≤ length ws) where
  pub part_length : length (take n (drop k ws)) ≡ n
  part_length = length-take-le n (drop k ws) (simp length-drop (omega arith))

-- a part that ends before the second list begins
pub part_first : (xs ys : List ℕ) (k n : ℕ) → k + n ≤ length xs → take n (drop k (xs ++ ys)) ≡ take n (drop k xs)
part_first [] ys zero zero h = refl
part_first [] ys zero (suc n) h = absurd (let z : ⊥ = omega arith in z)
part_first [] ys (suc k) n h = absurd (let z : ⊥ = omega arith in z)
part_first (x ∷ xs) ys zero zero h = refl
part_first (x ∷ xs) ys zero (suc n) h = ap (x ∷◌) (part_first xs ys zero n (omega arith))
part_first (x ∷ xs) ys (suc k) n h = part_first xs ys k n (omega arith)

-- the first of the first
pub cut_law : (n m : ℕ) (l : List ℕ) → take m (take n l) ≡ take (min n m) l
cut_law zero zero l = refl
cut_law zero (suc m) l = rw zero-min
cut_law (suc n) zero l = rw min-zero
cut_law (suc n) (suc m) [] = rw suc-min-suc
cut_law (suc n) (suc m) (x ∷ l) = rw (suc-min-suc, cut_law n m l)

-- a length limited to the list's: the same elements are taken
take_min : (n : ℕ) (l : List ℕ) → take (min n (length l)) l ≡ take n l
take_min zero l = rw zero-min
take_min (suc n) [] = rw min-zero
take_min (suc n) (x ∷ l) = rw (suc-min-suc, take_min n l)

pub take_limited : (n m : ℕ) (l : List ℕ) → length l ≡ m → take (min n m) l ≡ take n l
take_limited n m l e = rw (← e) (take_min n l)

-- the first k, of a list that may have fewer
pub take-most : (k : ℕ) (l : List ℕ) → take (min (length l) k) l ≡ take k l
take-most k l = rw (min_comm (length l) k) (take_min k l)

-- zeros, without the first i
pub drop_zeros : (i n : ℕ) → drop i (replicate {A = ℕ} n 0) ≡ replicate (n - i) 0
drop_zeros zero n = rw (let none : n - 0 ≡ n = omega arith in none)
drop_zeros (suc i) zero = rw (let none : 0 - suc i ≡ 0 = omega arith in none)
drop_zeros (suc i) (suc n) = drop_zeros i n ∙ ap (λ k. replicate k 0) (let less : n - i ≡ suc n - suc i = omega arith in less)

-- two bytes from place i on
pub two_from : (d : List ℕ) (i : ℕ) → i + 2 ≤ length d → take 2 (drop i d) ≡ get_or d i 0 ∷ get_or d (i + 1) 0 ∷ []
two_from d i h = rw (piece 1 i d 0 (omega arith), piece 0 (i + 1) d 0 (omega arith))

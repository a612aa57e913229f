-- Laws of a loop that reads digits. Assumes nothing.
use Prim.Native.Nat.{ℕ, ◌+◌, ◌*◌, ◌-◌, ◌<◌, ◌≤◌}
use native.Mathlib.Omega.{arith}
use mathlib.Core.Path.{◌≡◌, refl}
use mathlib.Core.Bool.{Bool, true, false, cond, ◌&&◌}
use mathlib.Core.List.{List}
use lib.Dec.{ltb, leb}
use lib.ListN.{length, get_or, drop, drop_of_length-le}
use borrow.Author.Tests.{lt-ltb, le-ltb, ltb-true, ltb-false, leb-true}
use Rattle.std.specs.Prelude.{Option, Some, None, SomeIff}
use Rattle.std.specs.Option.{unwrap_or}
use Rattle.std.proofs.lemmas.Option.{cond_some}
use Rattle.lists.proofs.ChunkLaws.{rest_first}
use Rattle.digits.specs.Reading.{digit, digits, none, found}

-- a number that was found, and one that was not
pub found_some : (k n : ℕ) {m : ℕ} → found k n ≡ Some m → (n < k) × (n ≡ m)
found_some k n {m} e = let p = cond_some (ltb n k) n m e in (ltb-true n k p.0, p.1)

pub found_none : (k n : ℕ) → found k n ≡ None → k ≤ n
found_none k n = go (ltb n k) refl
  where
    go : (t : Bool) → ltb n k ≡ t → ◌≡◌ {A = Option ℕ} (cond t (Some n) None) None → k ≤ n
    go true h e = absurd (let z : ⊥ = cc in z)
    go false h e = ltb-false n k h

-- a digit is 16 at most
within : (low high base b m : ℕ) → high - base ≤ 16 → m ≤ 16 → cond (leb low b && leb b high) (b - base) m ≤ 16
within low high base b m h k = go (leb low b) (leb b high) refl
  where
    go : (s t : Bool) → leb b high ≡ t → cond (s && t) (b - base) m ≤ 16
    go true true e = omega (arith, leb-true b high e)
    go true false e = k
    go false t e = k

digit_most : (b : ℕ) → digit b ≤ 16
unfolding digit
digit_most b = within 48 57 48 b _ (omega arith) (within 65 70 55 b _ (omega arith) (within 97 102 87 b 16 (omega arith) (omega arith)))

-- the value of a digit, or 16
pub digit_or : (b : ℕ) → unwrap_or (found 16 (digit b)) 16 ≡ digit b
digit_or b = go (ltb (digit b) 16) refl
  where
    go : (t : Bool) → ltb (digit b) 16 ≡ t → unwrap_or (cond t (Some (digit b)) None) 16 ≡ digit b
    go true e = refl
    go false e = omega (arith, digit_most b, ltb-false (digit b) 16 e)

-- what a checked sum or product says where there is one, and where there is none
pub some_if : {P : Type 0} {v x : ℕ} (o : Option ℕ) → SomeIff o P v → o ≡ Some x → P × (x ≡ v)
some_if {P} {v} {x} o h e = rw e at h

pub none_if : {P : Type 0} (v : ℕ) (o : Option ℕ) → SomeIff o P v → o ≡ None → P → ⊥
none_if {P} v o h e = rw e at h

module _ (base n : ℕ) (l : List ℕ) (i : ℕ) (h : i < length l) where
  pub digits_goes : digit (get_or l i 0) < base → n * base + digit (get_or l i 0) < 65536 → digits base (n * base + digit (get_or l i 0)) (drop (i + 1) l) ≡ digits base n (drop i l)
  unfolding digits
  digits_goes a b = rw (rest_first l i h) (rw (lt-ltb (digit (get_or l i 0)) base a, lt-ltb (n * base + digit (get_or l i 0)) 65536 b))

  pub digits_none : base ≤ digit (get_or l i 0) → none ≡ digits base n (drop i l)
  unfolding digits
  digits_none a = rw (rest_first l i h, le-ltb (digit (get_or l i 0)) base a)

  pub digits_large : digit (get_or l i 0) < base → 65536 ≤ n * base + digit (get_or l i 0) → none ≡ digits base n (drop i l)
  unfolding digits
  digits_large a b = rw (rest_first l i h, lt-ltb (digit (get_or l i 0)) base a, le-ltb (n * base + digit (get_or l i 0)) 65536 b)

pub digits_ends : (base n : ℕ) (l : List ℕ) (i : ℕ) → length l ≤ i → n ≡ digits base n (drop i l)
unfolding digits
digits_ends base n l i h = rw (drop_of_length-le l {i = i} h)

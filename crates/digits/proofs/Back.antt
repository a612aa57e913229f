-- Reading what was written gives the number back. Assumes nothing.
use Prim.Native.Nat.{ℕ, zero, suc, ◌+◌, ◌*◌, ◌/◌, ◌%◌, ◌^◌, ◌<◌, ◌≤◌}
use native.Mathlib.Omega.{arith}
use native.Mathlib.Nat.{pow-zero, pow-suc, div-lt_iff_lt-mul, div-add-mod', mod-lt, div-le_self}
use mathlib.Core.Path.{◌≡◌, refl, ◌∙◌}
use mathlib.Core.Bool.{Bool, true, false, cond}
use mathlib.Core.List.{List, [], ◌∷◌, ◌++◌}
use lib.Dec.{ltb}
use borrow.Author.Tests.{lt-ltb, ltb-true, ltb-false, le-leb, lt-leb, ne_eqb}
use Rattle.digits.specs.Reading.{digit, digits, decimal, hex, none}
use Rattle.digits.specs.Writing.{character, written, places_in, places, decimal_text, hex_text}
use Rattle.digits.proofs.Characters.{length-written}

-- a character is read as its digit
digit_back : (d : ℕ) → d < 16 → digit (character d) ≡ d
unfolding digit character
digit_back d h = go (ltb d 10) refl
  where
    go : (t : Bool) → ltb d 10 ≡ t → digit (cond t (48 + d) (55 + d)) ≡ d
    go true e =
        let low : 48 ≤ 48 + d = omega arith in
        let high : 48 + d ≤ 57 = omega (arith, ltb-true d 10 e) in
        rw (le-leb 48 (48 + d) low, le-leb (48 + d) 57 high) (omega arith)
    go false e =
        let past : 57 < 55 + d = omega (arith, ltb-false d 10 e) in
        let first : 48 ≤ 55 + d = omega arith in
        let low : 65 ≤ 55 + d = omega (arith, ltb-false d 10 e) in
        let high : 55 + d ≤ 70 = omega arith in
        rw (le-leb 48 (55 + d) first, lt-leb (55 + d) 57 past, le-leb 65 (55 + d) low, le-leb (55 + d) 70 high) (omega arith)

-- one digit more at the end
digits_snoc : (base n c : ℕ) (l : List ℕ) {r : ℕ} → digits base n l ≡ r → r < 65536 → digit c < base → r * base + digit c < 65536 → digits base n (l ++ c ∷ []) ≡ r * base + digit c
unfolding digits
digits_snoc base n c [] e h k m = rw (e, lt-ltb (digit c) base k) (rw (lt-ltb _ 65536 m))
digits_snoc base n c (b ∷ l) {r} e h k m = go (ltb (digit b) base) (ltb (n * base + digit b) 65536) e (λ f. digits_snoc base (n * base + digit b) c l f h k m)
  where
    go : (s t : Bool)
        → cond s (cond t (digits base (n * base + digit b) l) none) none ≡ r
        → (digits base (n * base + digit b) l ≡ r → digits base (n * base + digit b) (l ++ c ∷ []) ≡ r * base + digit c)
        → cond s (cond t (digits base (n * base + digit b) (l ++ c ∷ [])) none) none ≡ r * base + digit c
    go true true f g = g f
    go true false f g = absurd (let z : ⊥ = omega arith in z)
    go false t f g = absurd (let z : ⊥ = omega arith in z)

-- the digits of a number of 16 bits that has no more than w of them
module _ (base : ℕ) (some : 0 < base) (most : base ≤ 16) where
  pub digits_back : (w n : ℕ) → n < base ^ w → n < 65536 → digits base 0 (written base w n) ≡ n
  unfolding digits written
  digits_back zero n h k = omega (arith, rw (pow-zero base) at h)
  digits_back (suc w) n h k =
      let part : n / base < base ^ w = (div-lt_iff_lt-mul some).1 (rw (pow-suc base w) at h) in
      let less : n / base < 65536 = omega (arith, div-le_self n base) in
      let low : n % base < base = mod-lt n some in
      let same : digit (character (n % base)) ≡ n % base = digit_back (n % base) (omega arith) in
      let whole : n / base * base + digit (character (n % base)) ≡ n = rw same (div-add-mod' n base) in
      digits_snoc base 0 (character (n % base)) (written base w (n / base)) (digits_back w (n / base) part less) less (omega arith) (omega arith) ∙ whole

-- all the digits of a number are counted
places_hold : (k n : ℕ) → n < 10 ^ suc k → n < 10 ^ places_in k n
unfolding places_in
places_hold zero n h = h
places_hold (suc k) n h = go (ltb n 10) refl (places_hold k (n / 10))
  where
    go : (t : Bool) → ltb n 10 ≡ t → (n / 10 < 10 ^ suc k → n / 10 < 10 ^ places_in k (n / 10)) → n < 10 ^ cond t 1 (suc (places_in k (n / 10)))
    go true e f = omega (arith, ltb-true n 10 e)
    go false e f = rw (pow-suc 10 (places_in k (n / 10))) (omega (arith, f (omega (arith, rw (pow-suc 10 (suc k)) at h))))

places_some : (k n : ℕ) → places_in k n ≡ 0 → ⊥
unfolding places_in
places_some zero n h = omega arith
places_some (suc k) n h = go (ltb n 10) h
  where
    go : (t : Bool) → cond t 1 (suc (places_in k (n / 10))) ≡ 0 → ⊥
    go true e = omega arith
    go false e = omega arith

pub decimal_back : (n : ℕ) → n < 65536 → decimal (decimal_text n) ≡ n
unfolding decimal
decimal_back n h =
    rw (length-written 10 (places n) n, ne_eqb (places n) 0 (places_some 19 n))
    (digits_back 10 (omega arith) (omega arith) (places n) n (places_hold 19 n (omega arith)) h)

pub hex_back : (b : ℕ) → b < 256 → hex 2 (hex_text b) ≡ b
unfolding hex
hex_back b h = rw (length-written 16 2 b) (digits_back 16 (omega arith) (omega arith) 2 b h (omega arith))

-- The number of some bits: its bound, parts of them by their number, and the first ones with the next. Assumes nothing.
use Prim.Native.Nat.{ℕ, zero, suc, ◌+◌, ◌*◌, ◌^◌, ◌<◌, ◌≤◌, ◌/◌, ◌%◌}
use native.Mathlib.Nat.{add-zero, pow-suc, le_of_suc-le-suc, not-suc-le-zero, pow-succ', mod-lt, mod-one, mod-eq_of_lt, zero-mod, zero-div, div-one, div-add-mod, div-div-eq-div-mul, mul-add-mod_self_left}
use native.Mathlib.Omega.{arith}
use mathlib.Core.Path.{◌≡◌, refl, sym, ap, ◌∙◌}
use mathlib.Core.Bool.{Bool, true, false, cond}
use mathlib.Core.List.{List, [], ◌∷◌, map}
use lib.ListN.{length, get_or, drop, take}
use mir.Val.{bool_byte}
use Rattle.lists.specs.Numbers.{bit_at, bits_number}
use lib.Dec.{eqb}
use lib.Pow.{pow_pos}
use lib.Seq.{get_or-drop}
use Rattle.lists.specs.Chunks.{chunks_of}

pub byte_bit : (b : Bool) → bool_byte b ≡ cond b 1 0
byte_bit true = refl
byte_bit false = refl

pub bit_most : (b : Bool) → cond b 1 0 ≤ 1
bit_most true = omega arith
bit_most false = omega arith

-- n bits at most
pub bits_below : (n : ℕ) (bs : List Bool) → length bs ≤ n → bits_number bs < 2 ^ n
unfolding bits_number
bits_below zero [] h = omega arith
bits_below zero (b ∷ bs) h = absurd (not-suc-le-zero h)
bits_below (suc n) [] h = rw pow-suc (omega (arith, bits_below n [] (omega arith)))
bits_below (suc n) (b ∷ bs) h = rw pow-suc (omega (arith, bits_below n bs (le_of_suc-le-suc h), bit_most b))

-- Parts of some bits, by their number ----------------------------------------------------

-- without the first k
pub bits_drop : (k : ℕ) (bs : List Bool) → bits_number (drop k bs) ≡ bits_number bs / 2 ^ k
unfolding bits_number
bits_drop zero bs = sym (div-one (bits_number bs))
bits_drop (suc k) [] = sym (zero-div (2 ^ suc k))
bits_drop (suc k) (b ∷ bs) =
    let half : (cond b 1 0 + 2 * bits_number bs) / 2 ≡ bits_number bs = omega (arith, bit_most b) in
    bits_drop k bs ∙ sym (rw (pow-succ' 2 k, ← div-div-eq-div-mul (cond b 1 0 + 2 * bits_number bs) 2 (2 ^ k), half))

-- one bit more below
one_more : (c m p : ℕ) → c ≤ 1 → 0 < p → c + 2 * (m % p) ≡ (c + 2 * m) % (p * 2)
one_more c m p h l =
    let whole : c + 2 * m ≡ p * 2 * (m / p) + (c + 2 * (m % p)) = omega (arith, div-add-mod m p) in
    let less : c + 2 * (m % p) < p * 2 = omega (arith, mod-lt m l) in
    sym (ap (◌% (p * 2)) whole ∙ mul-add-mod_self_left (p * 2) (m / p) (c + 2 * (m % p)) ∙ mod-eq_of_lt less)

-- the first n
pub bits_take : (n : ℕ) (bs : List Bool) → bits_number (take n bs) ≡ bits_number bs % 2 ^ n
unfolding bits_number
bits_take zero bs = sym (mod-one (bits_number bs))
bits_take (suc n) [] = sym (zero-mod (2 ^ suc n))
bits_take (suc n) (b ∷ bs) = rw (bits_take n bs, pow-suc 2 n) (one_more (cond b 1 0) (bits_number bs) (2 ^ n) (bit_most b) (pow_pos n))

-- as bytes: none, one or two
pub bytes_of : (c : ℕ) (bs : List Bool) → c ≤ 2 → map bits_number (chunks_of 8 c bs) ≡ take c (bits_number bs % 256 ∷ bits_number bs / 256 % 256 ∷ [])
unfolding chunks_of
bytes_of zero bs h = refl
bytes_of (suc zero) bs h = rw (bits_take 8 bs)
bytes_of (suc (suc zero)) bs h = rw (bits_take 8 bs, bits_take 8 (drop 8 bs), bits_drop 8 bs)
bytes_of (suc (suc (suc c))) bs h = absurd (let z : ⊥ = omega arith in z)

-- a bit of some bits' number is the one in its place
lowest : (bs : List Bool) → eqb (bits_number bs % 2) 1 ≡ get_or bs 0 false
unfolding bits_number
lowest [] = refl
lowest (true ∷ bs) = let one : (1 + 2 * bits_number bs) % 2 ≡ 1 = omega arith in rw one
lowest (false ∷ bs) = let none : (0 + 2 * bits_number bs) % 2 ≡ 0 = omega arith in rw none

pub bit_found : (n : ℕ) (bs : List Bool) (k : ℕ) → n ≡ bits_number bs → bit_at n k ≡ get_or bs k false
bit_found n bs k e = rw (e, ← bits_drop k bs) (lowest (drop k bs) ∙ get_or-drop k bs 0 false ∙ ap (λ (i : ℕ). get_or bs i false) (add-zero k))

-- Bits from the first on ------------------------------------------------------------------

double : (b : Bool) (p : ℕ) → bool_byte b * (p * 2) ≡ 2 * (bool_byte b * p)
double true p = omega arith
double false p = omega arith

-- with the next one
pub bits_next : (i : ℕ) (bs : List Bool) → i < length bs → bits_number (take (suc i) bs) ≡ bool_byte (get_or bs i false) * 2 ^ i + bits_number (take i bs)
unfolding bits_number
bits_next i [] h = absurd (not-suc-le-zero h)
bits_next zero (b ∷ bs) h = rw (byte_bit b) (omega arith)
bits_next (suc i) (b ∷ bs) h = rw (bits_next i bs (le_of_suc-le-suc h), pow-suc 2 i, double (get_or bs i false) (2 ^ i)) (omega arith)

-- Numbers of one to three digits. Assumes nothing.
use Prim.Native.Nat.{ℕ, suc, ◌+◌, ◌*◌, ◌-◌, ◌<◌, ◌≤◌}
use native.Mathlib.Omega.{arith}
use mathlib.Core.Path.{◌≡◌, refl, sym, ap, ◌∙◌}
use mathlib.Core.Bool.{Bool, true, false, cond, ◌&&◌}
use mathlib.Core.List.{List, [], ◌∷◌, foldl}
use lib.Dec.{leb}
use lib.ListN.{length, take, length-take}
use borrow.Author.Tests.{lt-ltb}
use Rattle.std.specs.Char.{is_ascii_digit}
use Rattle.std.specs.List.{prefix_len}
use Rattle.std.specs.Prelude.{Some, None}
use Rattle.lists.specs.Tests.{within, all}
use Rattle.lists.proofs.Choices.{within_low, within_high, all_first, all_rest}
use Rattle.digits.specs.Reading.{digit, digits, decimal, found}
use Rattle.digits.proofs.Digits.{found_some, found_none}
use Rattle.model.specs.Text.{is_digit, digits_in, typed_number, number_first}

-- as many as pass std's test
pub digits_law : (t : List ℕ) → prefix_len is_ascii_digit t ≡ digits_in t
unfolding digits_in within
digits_law [] = refl
digits_law (c ∷ t) = rw (digits_law t) (go (leb 48 c && leb c 57))
  where
    go : (b : Bool) → cond b (1 + digits_in t) 0 ≡ cond b (suc (digits_in t)) 0
    go true = omega arith
    go false = refl

-- they are digits
taken_digits : (t : List ℕ) → all is_digit (take (digits_in t) t) ≡ true
unfolding digits_in all
taken_digits [] = refl
taken_digits (c ∷ t) = go (is_digit c) refl (taken_digits t)
  where
    go : (b : Bool) → is_digit c ≡ b → all is_digit (take (digits_in t) t) ≡ true → all is_digit (take (cond b (suc (digits_in t)) 0) (c ∷ t)) ≡ true
    go true e h = rw (e, h)
    go false e h = refl

taken_length : (t : List ℕ) → length (take (digits_in t) t) ≡ digits_in t
unfolding digits_in
taken_length [] = refl
taken_length (c ∷ t) = go (is_digit c) (taken_length t)
  where
    go : (b : Bool) → length (take (digits_in t) t) ≡ digits_in t → length (take (cond b (suc (digits_in t)) 0) (c ∷ t)) ≡ cond b (suc (digits_in t)) 0
    go true h = ap suc h
    go false h = refl

pub digits_most : (t : List ℕ) → digits_in t ≤ length t
digits_most t = omega (arith, taken_length t, length-take (digits_in t) t)

-- one digit more
abbrev longer : ℕ → ℕ → ℕ
longer n c = 10 * n + (c - 0x30)

module _ (c : ℕ) (h : is_digit c ≡ true) where
  below_ten : c - 0x30 < 10
  below_ten = omega (arith, within_high 0x30 0x39 c h)

  its_digit : digit c ≡ c - 0x30
  unfolding digit within
  its_digit = rw h

  one_more : (n : ℕ) (l : List ℕ) → n < 1000 → digits 10 n (c ∷ l) ≡ digits 10 (longer n c) l
  unfolding digits
  one_more n l k =
      let same : n * 10 + (c - 0x30) ≡ longer n c = omega arith in
      rw (its_digit, same, lt-ltb (c - 0x30) 10 below_ten, lt-ltb (longer n c) 65536 (omega (arith, below_ten)))

-- Three digits at most are the number that they make
pub few_digits : (l : List ℕ) → all is_digit l ≡ true → 1 ≤ length l → length l ≤ 3 → (decimal l ≡ foldl longer 0 l) × (decimal l < 65536)
unfolding decimal digits
few_digits [] h low high = absurd (omega arith)
few_digits (a ∷ []) h low high =
    let x = all_first is_digit a [] h in
    let e : digits 10 0 (a ∷ []) ≡ longer 0 a = one_more a x 0 [] (omega arith) in
    (e, rw e (omega (arith, below_ten a x)))
few_digits (a ∷ b ∷ []) h low high =
    let x = all_first is_digit a (b ∷ []) h in
    let y = all_first is_digit b [] (all_rest is_digit a (b ∷ []) h) in
    let e : digits 10 0 (a ∷ b ∷ []) ≡ longer (longer 0 a) b = one_more a x 0 (b ∷ []) (omega arith) ∙ one_more b y (longer 0 a) [] (omega (arith, below_ten a x)) in
    (e, rw e (omega (arith, below_ten a x, below_ten b y)))
few_digits (a ∷ b ∷ c ∷ []) h low high =
    let x = all_first is_digit a (b ∷ c ∷ []) h in
    let r = all_rest is_digit a (b ∷ c ∷ []) h in
    let y = all_first is_digit b (c ∷ []) r in
    let z = all_first is_digit c [] (all_rest is_digit b (c ∷ []) r) in
    let e : digits 10 0 (a ∷ b ∷ c ∷ []) ≡ longer (longer (longer 0 a) b) c =
    one_more a x 0 (b ∷ c ∷ []) (omega arith)
    ∙ one_more b y (longer 0 a) (c ∷ []) (omega (arith, below_ten a x))
    ∙ one_more c z (longer (longer 0 a) b) [] (omega (arith, below_ten a x, below_ten b y))
    in
    (e, rw e (omega (arith, below_ten a x, below_ten b y, below_ten c z)))
few_digits (a ∷ b ∷ c ∷ d ∷ l) h low high = absurd (omega arith)

-- so are those that a text begins with: n of them, read as d
module _ (t w : List ℕ) (h : number_first t ≡ true) (e : w ≡ take (digits_in t) t) where
  its_digits : (decimal w ≡ typed_number t) × (decimal w < 65536)
  unfolding typed_number
  its_digits =
      let low = within_low 1 3 (digits_in t) h in
      let high = within_high 1 3 (digits_in t) h in
      rw e (few_digits (take (digits_in t) t) (taken_digits t) (rw (taken_length t) low) (rw (taken_length t) high))

  pub no_number : found 65536 (decimal w) ≡ None → ⊥
  no_number f = omega (arith, its_digits.1, found_none 65536 (decimal w) f)

  pub the_number : {n : ℕ} → found 65536 (decimal w) ≡ Some n → n ≡ typed_number t
  the_number {n} f = sym ((found_some 65536 (decimal w) f).1) ∙ its_digits.0

-- Numbers and their bytes, for any width. Assumes nothing.
use Prim.Native.Nat.{ℕ, zero, suc, ◌+◌, ◌*◌, ◌/◌, ◌%◌, ◌^◌, ◌<◌, ◌≤◌}
use native.Mathlib.Omega.{arith}
use native.Mathlib.Nat.{mul-add-mod_self_left, mod-eq_of_lt, mod-lt, div-add-mod, pow-suc, mod-le, div-le_self, le_trans}
use mathlib.Core.Path.{◌≡◌, refl, sym, ap, ◌∙◌}
use mathlib.Core.List.{List, [], ◌∷◌, ◌++◌}
use lib.ListN.{length, length-append}
use Rattle.lists.specs.Numbers.{number, number_from, bytes}

pub length-bytes : (w n : ℕ) → length (bytes w n) ≡ w
unfolding bytes
length-bytes zero n = refl
length-bytes (suc w) n = simp (length-append, length-bytes w (n / 256)) (omega arith)

-- one byte more at the end
from_snoc : (n b : ℕ) (bs : List ℕ) → number_from n (bs ++ b ∷ []) ≡ number_from n bs * 256 + b
from_snoc n b [] = refl
from_snoc n b (c ∷ bs) = from_snoc (n * 256 + c) b bs

number_snoc : (bs : List ℕ) (b : ℕ) → number (bs ++ b ∷ []) ≡ number bs * 256 + b
number_snoc [] b = omega arith
number_snoc (c ∷ bs) b = from_snoc c b bs

-- the remainder by p × 256 from that by p
remainder : (n p : ℕ) → 0 < p → n / 256 % p * 256 + n % 256 ≡ n % (p * 256)
remainder n p h =
    let q : n ≡ p * 256 * (n / 256 / p) + (n / 256 % p * 256 + n % 256) = omega (arith, ap (◌* 256) (div-add-mod (n / 256) p)) in
    let l : n / 256 % p * 256 + n % 256 < p * 256 = omega (arith, mod-lt (n / 256) h) in
    sym (ap (◌% (p * 256)) q ∙ mul-add-mod_self_left (p * 256) (n / 256 / p) (n / 256 % p * 256 + n % 256) ∙ mod-eq_of_lt l)

power_positive : (w : ℕ) → 0 < 256 ^ w
power_positive zero = omega arith
power_positive (suc w) = rw (pow-suc 256 w) (omega (arith, power_positive w))

-- w bytes hold a number modulo 256 to the w
pub number_bytes : (w n : ℕ) → number (bytes w n) ≡ n % 256 ^ w
unfolding bytes
number_bytes zero n = omega arith
number_bytes (suc w) n =
    number_snoc (bytes w (n / 256)) (n % 256)
    ∙ rw (number_bytes w (n / 256), pow-suc 256 w) (remainder n (256 ^ w) (power_positive w))

-- a part of a number is no larger
pub part_small : (bits k n : ℕ) → bits / 2 ^ k % 2 ^ n ≤ bits
part_small bits k n = le_trans (mod-le (bits / 2 ^ k) (2 ^ n)) (div-le_self bits (2 ^ k))

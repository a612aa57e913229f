-- Signed numbers of sixteen bits, in std's words and in the definitions'. Assumes nothing.
use Rattle.std.proofs.Common.{◌≡◌, refl, ℕ, suc, ◌-◌, ◌<◌, ℤ, pos, negsuc, arith}
use Rattle.std.specs.Int.{w16}
use mir.Val.{SFits, to_z, of_z}
use Rattle.std.proofs.lemmas.Int.{of_z-to_z}
use Rattle.model.specs.Temperature.{pattern_of, signed_of}

pub pattern : (z : ℤ) → SFits w16 z → of_z w16 z ≡ pattern_of z
unfolding pattern_of
pattern (pos n) f = refl
pattern (negsuc k) f = omega arith

pub signed : (n : ℕ) → n < 65536 → to_z w16 n ≡ signed_of n
unfolding signed_of
signed n h =
    let e : 65536 - suc n ≡ 65535 - n = omega arith in
    rw e

-- a cast of n, by what it casts
pub signed_cast : (n : ℕ) {z : ℤ} → n < 65536 → z ≡ to_z w16 n → to_z w16 (of_z w16 z) ≡ signed_of n
signed_cast n h e = rw (e, of_z-to_z w16 n h) (signed n h)

-- One turn of a loop that puts the bits of a number together. Assumes nothing.
use Rattle.std.proofs.Common.{rules, arith, ◌≡◌, sym, ◌<◌, ℕ, suc, Bool, List, length, ◌+◌, ◌*◌, ◌%◌, ◌^◌}
use native.Mathlib.Nat.{mod-eq_of_lt}
use native.Mathlib.Numerals.{add-one}
use mathlib.Core.Bool.{false}
use mir.Val.{bool_byte}
use lib.ListN.{take, get_or}
use Rattle.std.specs.Int.Bits.{bit_or, or_shifted_r}
use Rattle.lists.specs.Numbers.{bits_number}
use Rattle.lists.proofs.Bits.{bits_below, bits_next}

-- one bit put above i others
pub bit_above : (bs : List Bool) (i : ℕ) → length bs ≡ 16 → i < 16 → bit_or (bits_number (take i bs)) (bool_byte (get_or bs i false) * 2 ^ i % 65536) ≡ bits_number (take (i + 1) bs)
bit_above bs i l h =
    let next = bits_next i bs (omega (arith, l)) in
    let fits : bool_byte (get_or bs i false) * 2 ^ i < 65536 = omega (arith, next, bits_below 16 (take (suc i) bs) (search rules)) in
    rw (mod-eq_of_lt fits, or_shifted_r (bool_byte (get_or bs i false)) i (bits_number (take i bs)) (bits_below i (take i bs) (search rules)), add-one) (sym next)

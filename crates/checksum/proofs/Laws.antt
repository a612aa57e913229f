-- The two checks, passed from the front: one more byte or bit, and the end. Assumes nothing.
use Rattle.std.proofs.Common.{◌≡◌, ℕ, suc, ◌+◌, ◌-◌, ◌<◌, ◌≤◌, List, length, get_or, drop, add-one, arith, drop_of_length-le, drop-cons}
use Rattle.model.specs.Frames.{total, crc_bits, crc_bit}

pub total_next : (s : List ℕ) (i : ℕ) → i < length s → total (drop i s) ≡ get_or s i 0 + total (drop (i + 1) s)
unfolding total
total_next s i h = rw (drop-cons s i 0, add-one)

pub total_end : (s : List ℕ) (i : ℕ) → length s ≤ i → total (drop i s) ≡ 0
unfolding total
total_end s i h = rw drop_of_length-le

pub bits_next : (i x : ℕ) → i < 8 → crc_bits (8 - i) x ≡ crc_bits (8 - (i + 1)) (crc_bit x)
unfolding crc_bits
bits_next i x h = let e : 8 - i ≡ suc (8 - (i + 1)) = omega arith in rw e

pub bits_end : (i x : ℕ) → 8 ≤ i → crc_bits (8 - i) x ≡ x
unfolding crc_bits
bits_end i x h = let e : 8 - i ≡ 0 = omega arith in rw e

-- Coils and inputs: parts of a number's bits, and the bytes that show them. Assumes nothing.
use Prim.Native.Nat.{ℕ, ◌+◌, ◌/◌, ◌%◌, ◌<◌, ◌≤◌}
use native.Mathlib.Omega.{arith}
use native.Mathlib.Nat.{mod-eq_of_lt}
use mathlib.Core.Path.{◌≡◌, refl, ap, ◌∙◌}
use mathlib.Core.Bool.{Bool, true, false}
use mathlib.Core.List.{List, [], ◌∷◌}
use lib.ListN.{length, take, drop, length-drop}
use lib.Seq.{length-take-le}
use Rattle.lists.specs.Data.{data_of, pushed}
use Rattle.lists.specs.Data.{Data}
use Rattle.lists.specs.Numbers.{bits_number}
use Rattle.lists.proofs.DataLaws.{push_law}
use Rattle.lists.proofs.Bits.{bits_drop, bits_take, bytes_of}
use Rattle.model.specs.Refusals.{judged, refuse, telling}
use Rattle.model.specs.Registers.{bit_group, outside, packed, read_bits}
use Rattle.encoding.specs.Answers.{told_of}
use Rattle.groups.proofs.Inside.{inside}
use Rattle.bit_reads.specs.Answers.{part_of, bits_shown, bits_told}

-- The count and the bytes, byte by byte.
module _ (v n : ℕ) where
  pub shown_0 : (n + 7) / 8 ≡ 0 → pushed (data_of []) ((n + 7) / 8) ≡ data_of (bits_shown v n)
  unfolding bits_shown
  shown_0 e = rw e (push_law [] 0 (omega arith))

  pub shown_1 : (n + 7) / 8 ≡ 1 → pushed (pushed (data_of []) ((n + 7) / 8)) (v % 256) ≡ data_of (bits_shown v n)
  unfolding bits_shown
  shown_1 e = rw e (ap (λ (d : Data). pushed d (v % 256)) (push_law [] 1 (omega arith)) ∙ push_law (1 ∷ []) (v % 256) (omega arith))

  pub shown_2 : (n + 7) / 8 ≡ 2 → v / 256 < 256 → pushed (pushed (pushed (data_of []) ((n + 7) / 8)) (v % 256)) (v / 256) ≡ data_of (bits_shown v n)
  unfolding bits_shown
  shown_2 e h =
      rw (e, mod-eq_of_lt h) (
      ap (λ (d : Data). pushed (pushed d (v % 256)) (v / 256)) (push_law [] 2 (omega arith))
      ∙ ap (λ (d : Data). pushed d (v / 256)) (push_law (2 ∷ []) (v % 256) (omega arith))
      ∙ push_law (2 ∷ v % 256 ∷ []) (v / 256) (omega arith))

-- n of sixteen from place k on
shown_packed : (bs : List Bool) (k n : ℕ) → length bs ≡ 16 → k + n ≤ 16 → bits_shown (part_of (bits_number bs) k n) n ≡ (n + 7) / 8 ∷ packed (take n (drop k bs))
unfolding bits_shown part_of packed
shown_packed bs k n long h =
    let some : length (take n (drop k bs)) ≡ n = length-take-le n (drop k bs) (simp length-drop (omega arith)) in
    rw (some, bytes_of ((n + 7) / 8) (take n (drop k bs)) (omega arith), bits_take n (drop k bs), bits_drop k bs)

-- 01, 02 of any states, by their number
pub bits_told_lem : (bs : List Bool) (bits k n : ℕ) → length bs ≡ 16 → bits_number bs ≡ bits → bits_told bits k n ≡ told_of (read_bits bs k n)
unfolding bits_told read_bits judged
bits_told_lem bs bits k n long e = rw (← e) (go (outside bit_group k n) refl)
  where
    go : (t : Bool)
        → outside bit_group k n ≡ t
        → told_of (refuse 9 t (telling (bits_shown (part_of (bits_number bs) k n) n)))
        ≡ told_of (refuse 9 t (telling ((n + 7) / 8 ∷ packed (take n (drop k bs)))))
    go true h = refl
    go false h = rw (shown_packed bs k n long (inside bit_group k n h).ends)

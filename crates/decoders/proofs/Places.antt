-- Entries by their places, and when sixteen are enough. Assumes nothing.
use Prim.Native.Nat.{ℕ, zero, suc, ◌+◌, ◌*◌, ◌/◌, ◌%◌, ◌^◌, ◌<◌, ◌≤◌}
use native.Mathlib.Omega.{arith}
use native.Mathlib.Nat.{le_of_suc-le-suc, not-suc-le-zero}
use mathlib.Core.Path.{◌≡◌, refl, sym, ap, ◌∙◌}
use mathlib.Core.Bool.{true, false}
use mathlib.Core.List.{List, map}
use lib.Dec.{eqb}
use lib.ListN.{length, get_or, take, length-map, get_or-eq_default, get_or-map}
use Rattle.lists.specs.Numbers.{number, word_at}
use Rattle.lists.specs.Chunks.{chunks}
use Rattle.lists.specs.Entries.{entry, entry_of, entries, numbered, entries_of, entries_in}
use Rattle.lists.proofs.Choices.{and_right, within_high}
use Rattle.lists.proofs.ChunkLaws.{piece, length-chunks_of}
use Rattle.lists.proofs.EntryLaws.{entries_whole, length-entries, length-numbered, chunk_at, entry_at, numbered_at}
use Rattle.model.specs.declared.Group.{Group}
use Rattle.model.specs.Counters.{items_of}
use Rattle.model.specs.Outputs.{set_byte}
use Rattle.model.specs.Modbus.{words, bits_from}
use Rattle.model.specs.Registers.{bit_group, outside, number_at}
use Rattle.groups.proofs.Inside.{inside}
use Rattle.lists.proofs.Parts.{two_from}

-- so many values of two bytes
pub words_length : (d : List ℕ) → length (words d) ≡ length d / 2
unfolding words chunks
words_length d = length-map (chunks 2 d) number ∙ length-chunks_of 2 (length d / 2) d

pub length_registers : (n : ℕ) (d : List ℕ) → length (numbered n (words d)) ≡ length d / 2
length_registers n d = length-numbered n (words d) ∙ words_length d

-- so many bits
pub bits_length : (n j : ℕ) (d : List ℕ) → length (bits_from j n d) ≡ n
unfolding bits_from
bits_length zero j d = refl
bits_length (suc n) j d = ap suc (bits_length n (suc j) d)

pub length_coils : (k n : ℕ) (d : List ℕ) → length (numbered k (bits_from 0 n d)) ≡ n
length_coils k n d = length-numbered k (bits_from 0 n d) ∙ bits_length n 0 d

-- the bit at a place
bit_place : (n j k : ℕ) (d : List ℕ) → k < n → get_or (bits_from j n d) k 0 ≡ get_or d ((j + k) / 8) 0 / 2 ^ ((j + k) % 8) % 2
unfolding bits_from
bit_place zero j k d h = absurd (not-suc-le-zero h)
bit_place (suc n) j zero d h =
    let same : j + 0 ≡ j = omega arith in
    rw same
bit_place (suc n) j (suc k) d h =
    let same : j + suc k ≡ suc j + k = omega arith in
    rw same (bit_place n (suc j) k d (le_of_suc-le-suc h))

pub coil_place : (k n j : ℕ) (d : List ℕ) → j < n → entry (k + j) (get_or d (j / 8) 0 / 2 ^ (j % 8) % 2) ≡ get_or (numbered k (bits_from 0 n d)) j (entry 0 0)
coil_place k n j d h =
    let same : 0 + j ≡ j = omega arith in
    let bit = rw same at (bit_place n 0 j d h) in
    ap (entry (k + j)) (sym bit) ∙ sym (numbered_at k (bits_from 0 n d) j (entry 0 0) (rw (bits_length n 0 d) h))

-- the set byte at a place
pub set_place : (d : List ℕ) (j : ℕ) → set_byte (get_or d j 0) ≡ get_or (map set_byte d) j (entry 0 0)
unfolding set_byte
set_place d j = sym (get_or-map set_byte d j 0)

module _ (d : List ℕ) (j : ℕ) where
  pub pair_place : j < length d / 2 → entry (get_or d (2 * j) 0) (get_or d (2 * j + 1) 0) ≡ get_or (entries 2 d) j (entry 0 0)
  unfolding entry_of
  pair_place h = sym (entry_at 2 j d (entry 0 0) h ∙ rw (two_from d (2 * j) (omega arith)))

  -- its four bytes of value are two words
  pub five_place : j < length d / 5 → entry (get_or d (5 * j) 0) (word_at d (5 * j + 1) * 65536 + word_at d (5 * j + 3)) ≡ get_or (entries 5 d) j (entry 0 0)
  unfolding entry_of
  five_place h =
      let k = 5 * j in
      let third : k + 1 + 1 + 1 ≡ k + 3 = omega arith in
      sym
      (entry_at 5 j d (entry 0 0) h
      ∙ rw (piece 4 k d 0 (omega arith), piece 3 (k + 1) d 0 (omega arith), piece 2 (k + 1 + 1) d 0 (omega arith), third, two_from d (k + 3) (omega arith))
      (ap (entry (get_or d k 0)) (omega arith)))

  -- the value at a place
  pub value_place : j < length d / 2 → word_at d (2 * j) ≡ get_or (words d) j 0
  unfolding words chunks
  value_place h = sym (chunk_at number 2 (length d / 2) d j 0 h ∙ rw (two_from d (2 * j) (omega arith)))

  -- past the end there is none
  pub value_out : length d / 2 ≤ j → 0 ≡ get_or (words d) j 0
  value_out h = sym (get_or-eq_default (words d) 0 (rw (words_length d) h))

  pub register_place : (n : ℕ) → j < length d / 2 → entry (n + j) (word_at d (2 * j)) ≡ get_or (numbered n (words d)) j (entry 0 0)
  register_place n h = ap (entry (n + j)) (value_place h) ∙ sym (numbered_at n (words d) j (entry 0 0) (rw (words_length d) h))

-- an allowed list has twelve at most
few_items : (w : ℕ) (d : List ℕ) → items_of w d ≡ true → length d / w ≤ 12
unfolding items_of
few_items w d h = within_high 1 12 (length d / w) (and_right (eqb (length d % w) 0) _ h)

pub list_whole : (w : ℕ) (d : List ℕ) → items_of w d ≡ true → entries_in (entries_of (take 16 (entries w d))) ≡ entries w d
list_whole w d h = entries_whole (entries w d) (rw (length-entries w d) (omega (arith, few_items w d h)))

pub sets_whole : (d : List ℕ) → items_of 1 d ≡ true → entries_in (entries_of (take 16 (map set_byte d))) ≡ map set_byte d
sets_whole d h = entries_whole (map set_byte d) (rw (length-map d set_byte) (omega (arith, few_items 1 d h)))

-- a range in a group of sixteen has sixteen at most
pub range_whole : (g : Group) (a : ℕ) (d : List ℕ) → g.count ≤ 16 → outside g a (length d / 2) ≡ false
    → entries_in (entries_of (take 16 (numbered (number_at g a) (words d)))) ≡ numbered (number_at g a) (words d)
range_whole g a d few h =
    let i = inside g a (length d / 2) h in
    entries_whole (numbered (number_at g a) (words d)) (rw (length_registers (number_at g a) d) (omega (arith, i.begins, i.ends)))

-- and so have the coils
pub coils_whole : (a n : ℕ) (d : List ℕ) → outside bit_group a n ≡ false
    → entries_in (entries_of (take 16 (numbered (number_at bit_group a) (bits_from 0 n d)))) ≡ numbered (number_at bit_group a) (bits_from 0 n d)
coils_whole a n d h =
    entries_whole (numbered (number_at bit_group a) (bits_from 0 n d)) (rw (length_coils (number_at bit_group a) n d) (omega (arith, (inside bit_group a n h).ends)))

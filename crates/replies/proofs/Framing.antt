-- Stores into one array make the definition's reply. Assumes nothing.
use Prim.Native.Nat.{ℕ, ◌+◌, ◌-◌, ◌*◌, ◌/◌, ◌%◌, ◌^◌, ◌<◌, ◌≤◌, min}
use native.Mathlib.Omega.{arith}
use native.Mathlib.Nat.{min-le_left, min-le_right}
use mathlib.Core.Path.{◌≡◌, refl, sym, ap, ◌∙◌}
use mathlib.Core.List.{List, [], ◌∷◌, ◌++◌, append_assoc}
use mathlib.Core.Bool.{Bool, true, false, cond}
use borrow.Author.Tests.{leb-true, leb-false}
use lib.Dec.{leb}
use lib.Bits.{bit_or, or_block, or_zero_r}
use Rattle.std.proofs.lemmas.Grind.{or_numeral}
use lib.ListN.{length, set, take, drop, replicate, length-append}
use lib.Seq.{paste, take_at, drop-append-add, length-take-le, take_all}
use Rattle.lists.specs.Data.{padded, data_of}
use Rattle.lists.specs.Numbers.{bytes}
use Rattle.lists.proofs.DataLaws.{padded_push, bytes_in_lem}
use Rattle.model.specs.Frames.{sum_of, spinel_reply, crc_of, with_crc, modbus_reply}
use Rattle.model.specs.Text.{text_reply}
use Rattle.lists.proofs.Parts.{take-most, drop_zeros}

-- Arrays ---------------------------------------------------------------------------------

-- two stores behind the last byte that counts
two_law : (l : List ℕ) (k a b : ℕ) → length l ≡ k → k ≤ 254 → record { items = set (set (padded l) k a) (k + 1) b; len = k + 2 } ≡ data_of (l ++ a ∷ b ∷ [])
two_law l k a b e h =
    let more : length (l ++ a ∷ []) ≡ k + 1 = length-append l (a ∷ []) ∙ ap (◌+ 1) e in
    let all : l ++ a ∷ b ∷ [] ≡ (l ++ a ∷ []) ++ b ∷ [] = sym (append_assoc l (a ∷ []) (b ∷ [])) in
    let long : length (l ++ a ∷ b ∷ []) ≡ k + 2 = length-append l (a ∷ b ∷ []) ∙ ap (◌+ 2) e in
    let first : set (padded l) k a ≡ padded (l ++ a ∷ []) = rw (← e) (padded_push l a (omega arith)) in
    let then : set (padded (l ++ a ∷ [])) (k + 1) b ≡ padded ((l ++ a ∷ []) ++ b ∷ []) = rw (← more) (padded_push (l ++ a ∷ []) b (omega arith)) in
    rw (first, then, long, all)

-- bytes stored behind those that count
placed_law : (l xs : List ℕ) → length l + length xs ≤ 256 → paste (padded l) (length l) xs (length xs) ≡ padded (l ++ xs)
unfolding padded
placed_law l xs h =
    let m : ℕ = 256 - length (l ++ xs) in
    let left : 256 - length l - length xs ≡ m = omega (arith, length-append l xs) in
    let rest : drop (length l + length xs) (l ++ replicate (256 - length l) 0) ≡ replicate m 0 =
    rw (drop-append-add l (replicate (256 - length l) 0) (length xs), drop_zeros (length xs) (256 - length l), left)
    in
    rw (take_at l (replicate (256 - length l) 0) (length l) refl, take_all (length xs) xs (omega arith), rest, append_assoc)

-- a head, and then data
pub begun_law : (head d : List ℕ) → length head + length d ≤ 256 → paste (paste (replicate 256 0) 0 head (length head)) (length head) d (length d) ≡ padded (head ++ d)
unfolding padded
begun_law head d h = rw (placed_law [] head (omega arith)) (placed_law head d (omega arith))

-- bytes in an array, then two bytes made from them
framed_law : (l : List ℕ) (k : ℕ) → length l ≡ k → k ≤ 254 → (a b : List ℕ → ℕ) → record { items = set (set (padded l) k (a (take k (padded l)))) (k + 1) (b (take k (padded l))); len = k + 2 } ≡ data_of (l ++ a l ∷ b l ∷ [])
framed_law l k e h a b =
    let shown : take k (padded l) ≡ l = rw e at (bytes_in_lem l) in
    rw shown (two_law l k (a l) (b l) e h)

-- the top bit of a byte set
pub top_bit : (f : ℕ) → f < 256 → bit_or f 128 ≡ cond (leb 128 f) f (f + 128)
top_bit f h = go (leb 128 f) refl
  where
    go : (t : Bool) → leb 128 f ≡ t → bit_or f 128 ≡ cond t f (f + 128)
    go true e =
        let least : 128 ≤ f = leb-true 128 f e in
        let whole : 1 * 2 ^ 7 + (f - 128) ≡ f = omega arith in
        rw (whole, or_zero_r (f - 128)) at (or_block 7 1 1 (f - 128) 0 (omega arith) (omega arith)) ∙ omega arith
    go false e = or_numeral f 127 refl (omega (arith, leb-false 128 f e)) ∙ omega arith

-- Replies --------------------------------------------------------------------------------

-- the first of some bytes, as many as there is room for
module _ (l : List ℕ) (n most : ℕ) (e : n ≡ min (length l) most) where
  some_law : take n l ≡ take most l
  some_law = rw e (take-most most l)

  some_most : n ≤ most
  some_most = omega (arith, min-le_right (length l) most)

  some_long : length (take n l) ≡ n
  some_long = length-take-le n l (omega (arith, min-le_left (length l) most))

pub spinel_stored : (address signature ack n high low : ℕ) (d l : List ℕ) → l ≡ d → n ≡ min (length l) 247 → high ≡ (n + 5) / 256 → low ≡ (n + 5) % 256
    → (b : List ℕ) → b ≡ padded ((0x2A ∷ 0x61 ∷ high ∷ low ∷ address ∷ signature ∷ ack ∷ []) ++ take n l)
    → record { items = set (set b (7 + n) (sum_of (take (7 + n) b))) (7 + n + 1) 0x0D; len = 7 + n + 2 } ≡ data_of (spinel_reply address signature ack (take 247 d))
unfolding spinel_reply bytes
spinel_stored address signature ack n high low d l same e f g b q =
    let head : List ℕ = 0x2A ∷ 0x61 ∷ high ∷ low ∷ address ∷ signature ∷ ack ∷ [] in
    let long : length (head ++ take n l) ≡ 7 + n = length-append head (take n l) ∙ ap (7 +◌) (some_long l n 247 e) in
    let small : (n + 5) / 256 % 256 ≡ (n + 5) / 256 = omega (arith, some_most l n 247 e) in
    rw (q, ← same, ← some_law l n 247 e, some_long l n 247 e, small, ← f, ← g) (framed_law (head ++ take n l) (7 + n) long (omega (arith, some_most l n 247 e)) sum_of (λ _. 0x0D))

pub modbus_stored : (address function n : ℕ) (l : List ℕ) → n ≡ min (length l) 252
    → (b : List ℕ) → b ≡ padded ((address ∷ function ∷ []) ++ take n l)
    → record { items = set (set b (2 + n) (crc_of (take (2 + n) b) % 256)) (2 + n + 1) (crc_of (take (2 + n) b) / 256); len = 2 + n + 2 } ≡ data_of (modbus_reply address function (take 252 l))
unfolding with_crc
modbus_stored address function n l e b q =
    let head : List ℕ = address ∷ function ∷ [] in
    let long : length (head ++ take n l) ≡ 2 + n = length-append head (take n l) ∙ ap (2 +◌) (some_long l n 252 e) in
    rw (q, ← some_law l n 252 e) (framed_law (head ++ take n l) (2 + n) long (omega (arith, some_most l n 252 e)) (λ x. crc_of x % 256) (λ x. crc_of x / 256))

pub text_stored : (address n : ℕ) (l : List ℕ) → n ≡ min (length l) 252
    → (b : List ℕ) → b ≡ padded ((0x2A ∷ 0x42 ∷ address ∷ []) ++ take n l)
    → record { items = set b (3 + n) 0x0D; len = 3 + n + 1 } ≡ data_of (text_reply address (take 252 l))
unfolding text_reply
text_stored address n l e b q =
    let head : List ℕ = 0x2A ∷ 0x42 ∷ address ∷ take n l in
    let long : length head ≡ 3 + n = length-append (0x2A ∷ 0x42 ∷ address ∷ []) (take n l) ∙ ap (3 +◌) (some_long l n 252 e) in
    let all : length (head ++ 0x0D ∷ []) ≡ 3 + n + 1 = length-append head (0x0D ∷ []) ∙ ap (◌+ 1) long in
    let last : set (padded head) (3 + n) 0x0D ≡ padded (head ++ 0x0D ∷ []) = rw (← long) (padded_push head 0x0D (omega (arith, some_most l n 252 e))) in
    rw (q, ← some_law l n 252 e, last, all)

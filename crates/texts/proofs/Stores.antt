-- Laws of the loops that store an answer's characters. Assumes nothing.
use Prim.Native.Nat.{ℕ, ◌+◌, ◌-◌, ◌*◌, ◌/◌, ◌%◌, ◌<◌, ◌≤◌}
use native.Mathlib.Numerals.{add-one}
use native.Mathlib.Omega.{arith}
use mathlib.Core.Path.{◌≡◌, refl, sym, ap, ◌∙◌}
use mathlib.Core.Bool.{Bool, true, false, cond}
use mathlib.Core.List.{List, [], ◌∷◌, ◌++◌, foldl, append_assoc, append-nil}
use Rattle.std.proofs.lemmas.List.{nil_from_length}
use lib.Dec.{eqb}
use lib.ListN.{length, take, get_or, length-append, length-take}
use lib.Seq.{take-suc, take-append_seam}
use Rattle.digits.specs.Writing.{Numeral, character, written, decimal_text, hex_text, padded, numeral_of}
use Rattle.digits.proofs.Characters.{push_held, append_held, length-decimal}
use Rattle.script.specs.Words.{uncr}
use Rattle.texts.specs.Texts.{Text, bytes_text, reply_characters, answer_characters, text_of}
use Rattle.lists.specs.Bounded.{added}

-- a numeral's characters
shown : (l : List ℕ) {number : Numeral} → number ≡ numeral_of l → take number.len number.items ≡ l
unfolding padded
shown l e = rw e (take-append_seam l _)

-- one character more
pub push_law : (l : List ℕ) (b : ℕ) {t : Text} → length l < 772 → t ≡ text_of l → added t b ≡ text_of (l ++ b ∷ [])
push_law l b h e = push_held 772 l b h e

pub push_numeral : (l m : List ℕ) {number : Numeral} {t : Text} {s : List ℕ} → length l + length m ≤ 772 → number ≡ numeral_of m → s ≡ take number.len number.items → t ≡ text_of l → foldl added t s ≡ text_of (l ++ m)
push_numeral l m h e f q = rw (f, shown m e) (append_held 772 l m h q)

-- a blank and the two digits of a byte
pub push_byte : (l : List ℕ) (b : ℕ) {pair : Numeral} {t : Text} → length l + 2 < 772 → pair ≡ numeral_of (hex_text b) → t ≡ text_of l → added (added (added t 32) (get_or pair.items 0 0)) (get_or pair.items 1 0) ≡ text_of (l ++ 32 ∷ hex_text b)
unfolding written padded
push_byte l b {pair} {t} h e q =
    let x = character (b / 16 % 16) in
    let y = character (b % 16) in
    let one : added t 32 ≡ text_of (l ++ 32 ∷ []) = push_law l 32 (omega arith) q in
    let two : added (added t 32) x ≡ text_of ((l ++ 32 ∷ []) ++ x ∷ []) = push_law (l ++ 32 ∷ []) x (simp length-append (omega arith)) one in
    let three : added (added (added t 32) x) y ≡ text_of (((l ++ 32 ∷ []) ++ x ∷ []) ++ y ∷ []) = push_law ((l ++ 32 ∷ []) ++ x ∷ []) y (simp length-append (omega arith)) two in
    let same : ((l ++ 32 ∷ []) ++ x ∷ []) ++ y ∷ [] ≡ l ++ 32 ∷ x ∷ y ∷ [] =
    append_assoc (l ++ 32 ∷ []) (x ∷ []) (y ∷ []) ∙ append_assoc l (32 ∷ []) (x ∷ y ∷ []) in
    rw e (three ∙ ap text_of same)

-- the bytes of a reply, one more
bytes_snoc : (l : List ℕ) (b : ℕ) → bytes_text (l ++ b ∷ []) ≡ bytes_text l ++ 32 ∷ hex_text b
unfolding bytes_text
bytes_snoc [] b = rw append-nil
bytes_snoc (a ∷ l) b = rw (bytes_snoc l b) (ap (32 ∷◌) (sym (append_assoc (hex_text a) (bytes_text l) (32 ∷ hex_text b))))

length-bytes : (l : List ℕ) → length (bytes_text l) ≡ 3 * length l
unfolding bytes_text written
length-bytes [] = refl
length-bytes (b ∷ l) = omega (arith, length-bytes l)

-- how long a refusal's number and some bytes of a reply are
pub length-answer : (n k : ℕ) (l : List ℕ) → n < 256 → length l ≤ k → length (decimal_text n ++ bytes_text l) ≤ 3 + 3 * k
length-answer n k l h f = simp (length-append, length-bytes l) (omega (arith, length-decimal 2 n (omega arith)))

pub bytes_turn : (head l : List ℕ) (i : ℕ) → i < length l → (head ++ bytes_text (take i l)) ++ 32 ∷ hex_text (get_or l i 0) ≡ head ++ bytes_text (take (i + 1) l)
bytes_turn head l i h = rw (add-one, take-suc l i 0 h, bytes_snoc) (append_assoc head (bytes_text (take i l)) (32 ∷ hex_text (get_or l i 0)))

-- no longer without a CR
length-uncr : (l : List ℕ) → length (uncr l) ≤ length l
unfolding uncr
length-uncr l = go (eqb (get_or l (length l - 1) 0) 13)
  where
    go : (t : Bool) → length (cond t (take (length l - 1) l) l) ≤ length l
    go true = rw length-take (omega arith)
    go false = omega arith

reply_some : (s : List ℕ) → (length s ≡ 0 → ⊥) → reply_characters s ≡ 32 ∷ uncr s
unfolding reply_characters
reply_some [] h = absurd (h refl)
reply_some (b ∷ s) h = refl

-- a number alone, and one before a reply's characters
module _ (n : ℕ) (s : List ℕ) (h : n < 256) {t : Text} (e : t ≡ text_of (decimal_text n)) where
  room : length (decimal_text n) ≤ 3
  room = length-decimal 2 n (omega arith)

  pub number_alone : length s ≡ 0 → {u : Text} → u ≡ added t 10 → u ≡ text_of (answer_characters n s)
  unfolding answer_characters reply_characters
  number_alone p {u} q =
      let none : s ≡ [] = nil_from_length s p in
      q ∙ rw (none, append-nil) (push_law (decimal_text n) 10 (omega (arith, room)) e)

  pub number_before : length s ≤ 256 → (length s ≡ 0 → ⊥) → {u v w : Text} {r : List ℕ} → u ≡ added t 32 → r ≡ uncr s → v ≡ foldl added u r → w ≡ added v 10 → w ≡ text_of (answer_characters n s)
  unfolding answer_characters
  number_before few p {u} {v} {w} f g i j =
      let d = decimal_text n in
      let c = uncr s in
      let blank : u ≡ text_of (d ++ 32 ∷ []) = f ∙ push_law d 32 (omega (arith, room)) e in
      let both : length (d ++ 32 ∷ []) + length c ≤ 260 = simp length-append (omega (arith, room, length-uncr s)) in
      let shown : v ≡ text_of ((d ++ 32 ∷ []) ++ c) = i ∙ rw g (append_held 772 (d ++ 32 ∷ []) c (omega (arith, both)) blank) in
      let whole : length ((d ++ 32 ∷ []) ++ c) ≤ 260 = simp length-append (rw length-append at both) in
      j ∙ push_law ((d ++ 32 ∷ []) ++ c) 10 (omega (arith, whole)) shown ∙ rw (reply_some s p) (ap (λ l. text_of (l ++ 10 ∷ [])) (append_assoc d (32 ∷ []) c))

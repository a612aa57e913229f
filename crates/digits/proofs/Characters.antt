-- Laws of the loops that count and store digits. Assumes nothing.
use Prim.Native.Nat.{ℕ, zero, suc, ◌+◌, ◌-◌, ◌/◌, ◌%◌, ◌^◌, ◌<◌, ◌≤◌}
use native.Mathlib.Omega.{arith}
use native.Mathlib.Nat.{pow-suc}
use mathlib.Core.Path.{◌≡◌, refl, sym, ap, ◌∙◌}
use mathlib.Core.Bool.{Bool, true, false, cond}
use mathlib.Core.List.{List, [], ◌∷◌, ◌++◌, foldl, append_assoc, append-nil}
use lib.Dec.{ltb}
use lib.ListN.{length, drop, set, length-append}
use lib.Seq.{drop-cons, drop-set-lt, get_or-set_same, lt-length-set}
use borrow.Author.Tests.{lt-ltb, le-ltb, ltb-false}
use Rattle.digits.specs.Writing.{character, written, places_in, places, decimal_text, padded}
use Rattle.lists.specs.declared.Bounded.{Bounded}
use Rattle.lists.specs.Bounded.{added}
use Rattle.lists.proofs.DataLaws.{filled_push}

pub length-written : (base w n : ℕ) → length (written base w n) ≡ w
unfolding written
length-written base zero n = refl
length-written base (suc w) n = simp (length-append, length-written base w (n / base)) (omega arith)

-- a number below 10 to the k has at most k digits
pub places_within : (j k n : ℕ) → n < 10 ^ suc k → places_in j n ≤ suc k
unfolding places_in
places_within zero k n h = omega arith
places_within (suc j) k n h = go (ltb n 10) k refl h (λ i. places_within j i (n / 10))
  where
    go : (t : Bool) (k : ℕ) → ltb n 10 ≡ t → n < 10 ^ suc k → ((i : ℕ) → n / 10 < 10 ^ suc i → places_in j (n / 10) ≤ suc i) → cond t 1 (suc (places_in j (n / 10))) ≤ suc k
    go true k e h f = omega arith
    go false zero e h f = absurd (let z : ⊥ = omega (arith, ltb-false n 10 e) in z)
    go false (suc k) e h f = omega (arith, f k (omega (arith, rw (pow-suc 10 (suc k)) at h)))

-- a number of 64 bits has at most twenty
pub places_most : (n : ℕ) → n < 2 ^ 64 → places n ≤ 20
places_most n h = places_within 19 19 n (omega arith)

pub length-decimal : (k n : ℕ) → n < 10 ^ suc k → length (decimal_text n) ≤ suc k
length-decimal k n h = rw (length-written 10 (places n) n) (places_within 19 k n h)

-- one turn of the loop that counts, and its two ends
module _ (count left all : ℕ) (inv : count + places_in (20 - count) left ≡ suc all) where
  pub count_stops : count < 20 → left < 10 → count ≡ all
  unfolding places_in
  count_stops h k =
      let more : 20 - count ≡ suc (19 - count) = omega arith in
      let one : count + 1 ≡ suc all = rw (more, lt-ltb left 10 k) at inv in
      omega arith

  pub count_goes : count < 20 → 10 ≤ left → count + 1 + places_in (20 - (count + 1)) (left / 10) ≡ suc all
  unfolding places_in
  count_goes h k =
      let more : 20 - count ≡ suc (20 - (count + 1)) = omega arith in
      let next : count + suc (places_in (20 - (count + 1)) (left / 10)) ≡ suc all = rw (more, le-ltb left 10 k) at inv in
      omega arith

  pub count_ends : 20 ≤ count → count ≡ all
  unfolding places_in
  count_ends h =
      let none : 20 - count ≡ 0 = omega arith in
      let one : count + 1 ≡ suc all = rw none at inv in
      omega arith

-- one digit more at the front of those that are stored
pub stored : (base i left : ℕ) (bytes : List ℕ) → 0 < i → i ≤ length bytes → written base (i - 1) (left / base) ++ drop (i - 1) (set bytes (i - 1) (character (left % base))) ≡ written base i left ++ drop i bytes
unfolding written
stored base zero left bytes h k = absurd (let z : ⊥ = omega arith in z)
stored base (suc j) left bytes h k =
    let less : suc j - 1 ≡ j = omega arith in
    let b = character (left % base) in
    rw (less, drop-cons (set bytes j b) j 0 (lt-length-set bytes j b (omega arith)), get_or-set_same bytes j b 0 (omega arith), drop-set-lt (suc j) bytes j b (omega arith)) (sym (append_assoc (written base j (left / base)) (b ∷ []) (drop (suc j) bytes)))

-- a store behind the last character that counts
pub padded_push : (w : ℕ) (l : List ℕ) (b : ℕ) → length l < w → set (padded w l) (length l) b ≡ padded w (l ++ b ∷ [])
unfolding padded
padded_push w l b h = filled_push w 0 l b h

-- the characters l by value, in room for w
abbrev pub held : (w : ℕ) → List ℕ → Bounded ℕ w
held w l = record { items = padded w l; len = length l }

-- one character more
pub push_held : (w : ℕ) (l : List ℕ) (b : ℕ) {t : Bounded ℕ w} → length l < w → t ≡ held w l → added t b ≡ held w (l ++ b ∷ [])
unfolding added
push_held w l b h e = rw (e, lt-ltb (length l) w h, padded_push w l b h, length-append)

-- some characters more
pub append_held : (w : ℕ) (l m : List ℕ) {t : Bounded ℕ w} → length l + length m ≤ w → t ≡ held w l → foldl added t m ≡ held w (l ++ m)
append_held w l [] h e = rw append-nil e
append_held w l (b ∷ m) h e =
    append_held w (l ++ b ∷ []) m (simp length-append (omega arith)) (push_held w l b (omega arith) e) ∙ ap (held w) (append_assoc l (b ∷ []) m)

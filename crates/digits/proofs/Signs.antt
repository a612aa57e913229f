-- A signed number, by its first byte. Assumes nothing.
use Prim.Native.Nat.{ℕ, ◌≤◌}
use native.Mathlib.Omega.{arith}
use mathlib.Core.Path.{◌≡◌, refl, sym, ◌∙◌}
use mathlib.Core.Bool.{Bool, true, false, cond}
use mathlib.Core.List.{List, [], ◌∷◌}
use lib.Dec.{ltb}
use lib.ListN.{length}
use borrow.Author.Tests.{ne_eqb, le-ltb, ltb-false}
use Rattle.std.specs.Prelude.{Option, Some, None, MatchOption}
use Rattle.digits.specs.Reading.{none, found, decimal, positive, negative, signed_decimal}

-- a number that was read and then taken with its sign
pub signed : (d : ℕ) (f : ℕ → ℕ) {o r : Option ℕ} {Q : ℕ → Type 0} → (65536 ≤ d → found 65536 (f d) ≡ None) → o ≡ found 65536 d → MatchOption o (r ≡ None) Q → ((x : ℕ) → Q x → r ≡ found 65536 (f x)) → r ≡ found 65536 (f d)
signed d f {o} {r} {Q} absent e m k = go (ltb d 65536) refl (rw e at m)
  where
    go : (t : Bool) → ltb d 65536 ≡ t → MatchOption (cond t (Some d) None) (r ≡ None) Q → r ≡ found 65536 (f d)
    go true h m = k d m
    go false h m = m ∙ sym (absent (ltb-false d 65536 h))

pub positive_none : (d : ℕ) → 65536 ≤ d → found 65536 (positive d) ≡ None
unfolding positive
positive_none d h = rw (le-ltb d 32768 (omega arith))

pub negative_none : (d : ℕ) → 65536 ≤ d → found 65536 (negative d) ≡ None
unfolding negative
negative_none d h = rw (le-ltb d 32769 (omega arith))

pub signed_none : (w : List ℕ) → length w ≡ 0 → none ≡ signed_decimal w
unfolding signed_decimal decimal positive
signed_none [] h = refl
signed_none (a ∷ w) h = absurd (let z : ⊥ = omega arith in z)

module _ {w v : List ℕ} {b : ℕ} (e : w ≡ b ∷ v) where
  pub signed_minus : b ≡ 45 → negative (decimal v) ≡ signed_decimal w
  unfolding signed_decimal
  signed_minus h = rw (e, h)

  pub signed_plus : b ≡ 43 → positive (decimal v) ≡ signed_decimal w
  unfolding signed_decimal
  signed_plus h = rw (e, h)

  pub signed_bare : (b ≡ 45 → ⊥) → (b ≡ 43 → ⊥) → positive (decimal w) ≡ signed_decimal w
  unfolding signed_decimal
  signed_bare n h = rw (e, ne_eqb b 45 n, ne_eqb b 43 h)

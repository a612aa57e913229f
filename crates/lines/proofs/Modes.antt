-- The modes as one formula. Assumes nothing.
use Rattle.std.proofs.Common.{◌≡◌, ℕ, Bool, true, false, cond, not, ◌&&◌, ◌||◌, eqb, sym, refl, ap, ◌∙◌, eqb-true}
use mathlib.Core.Bool.{or-false, beq}
use Rattle.model.specs.Samples.{selects}

-- it is the table
selects_formula : (mode : ℕ) (r : Bool) → (eqb mode 3 || (eqb mode 1 && r) || (eqb mode 2 && not r)) ≡ selects mode r
unfolding selects
selects_formula mode r = go (eqb mode 1) (eqb mode 2) refl refl
  where
    go : (a b : Bool) → eqb mode 1 ≡ a → eqb mode 2 ≡ b → (eqb mode 3 || (a && r) || (b && not r)) ≡ cond a r (cond b (not r) (eqb mode 3))
    go true b p q = let e : b ≡ false = sym q ∙ two in rw (eqb-true mode 1 p, e) (or-false r)
      where
        two : eqb mode 2 ≡ false
        two = rw (eqb-true mode 1 p)
    go false true p q = rw (eqb-true mode 2 q)
    go false false p q = rw (or-false (eqb mode 3 || false), or-false (eqb mode 3))

-- an edge that the formula selects
pub selected_formula : (mode : ℕ) (a b : Bool) → (not (beq a b) && (eqb mode 3 || (eqb mode 1 && b) || (eqb mode 2 && not b))) ≡ (not (beq a b) && selects mode b)
selected_formula mode a b = ap (not (beq a b) &&◌) (selects_formula mode b)

-- A walk left to right: one turn and its ends, and what it comes to. Assumes nothing.
use mathlib.Core.Bool.{Bool, true, false, cond}
use mathlib.Core.Path.{◌≡◌, refl}
use mathlib.Core.List.{List, [], ◌∷◌, foldl}
use Rattle.lists.specs.Tests.{all}
use Rattle.lists.specs.Walk.{walk, all_pass}

-- one turn over any list, from how its first is taken
module _ {E S R : Type 0} (ok : S → E → Bool) (step : S → E → S) (won : S → R) (lost : R) (s : S) where
  pub turn_goes : (es rest : List E) (e : E) → es ≡ e ∷ rest → ok s e ≡ true → walk ok step won lost (step s e) rest ≡ walk ok step won lost s es
  unfolding walk
  turn_goes es rest e q h = rw (q, h)

  pub turn_stops : (es rest : List E) (e : E) → es ≡ e ∷ rest → ok s e ≡ false → lost ≡ walk ok step won lost s es
  unfolding walk
  turn_stops es rest e q h = rw (q, h)

  pub turn_ends : (es : List E) → es ≡ [] → won s ≡ walk ok step won lost s es
  unfolding walk
  turn_ends es q = rw q

-- judging each on what those before it left, and applying all, is the walk
pub walk_splits : {E S R : Type 0} (ok : S → E → Bool) (step : S → E → S) (won : S → R) (lost : R) (es : List E) (s : S)
    → walk ok step won lost s es ≡ cond (all_pass ok step s es) (won (foldl step s es)) lost
unfolding walk all_pass
walk_splits ok step won lost [] s = refl
walk_splits ok step won lost (e ∷ es) s = go (ok s e) (walk_splits ok step won lost es (step s e))
  where
    go : (b : Bool)
        → walk ok step won lost (step s e) es ≡ cond (all_pass ok step (step s e) es) (won (foldl step (step s e) es)) lost
        → cond b (walk ok step won lost (step s e) es) lost ≡ cond (cond b (all_pass ok step (step s e) es) false) (won (foldl step (step s e) es)) lost
    go true h = h
    go false h = refl

-- a test that does not look at the copy, asked with the copy beside it
abbrev pub on_copy : {E S : Type 0} → (E → Bool) → S → E → Bool
on_copy ok s e = ok e

-- it passes as on the list alone
pub all_on : {E S : Type 0} (ok : E → Bool) (step : S → E → S) (es : List E) (s : S) → all_pass (on_copy ok) step s es ≡ all ok es
unfolding all_pass all
all_on ok step [] s = refl
all_on ok step (e ∷ es) s = rw (all_on ok step es (step s e))

-- Items applied to a copy, one after another: the first that fails its test refuses the whole.
use Rattle.std.specs.Prelude.{List, [], ◌∷◌, Bool, true, false, cond}

-- every item passes its test, each on what those before it made of the copy
unfoldable pub all_pass : {E S : Type 0} → (S → E → Bool) → (S → E → S) → S → List E → Bool
all_pass ok step s [] = true
all_pass ok step s (e ∷ es) = cond (ok s e) (all_pass ok step (step s e) es) false

-- `won` of the copy after all items, or `lost`
unfoldable pub walk : {E S R : Type 0} → (S → E → Bool) → (S → E → S) → (S → R) → R → S → List E → R
walk ok step won lost s [] = won s
walk ok step won lost s (e ∷ es) = cond (ok s e) (walk ok step won lost (step s e) es) lost

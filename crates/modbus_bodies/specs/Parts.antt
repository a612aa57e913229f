-- The echo of a write, as the code gives it.
use Rattle.std.specs.Prelude.{ℕ, cond, List, [], ◌∷◌, eqb, get_or}
use Rattle.lists.specs.Data.{data_of}
use Rattle.outcomes.specs.Parts.{Outcome}

-- the first four bytes, which every body that passes has
abbrev pub head_of : List ℕ → List ℕ
head_of b = get_or b 0 0 ∷ get_or b 1 0 ∷ get_or b 2 0 ∷ get_or b 3 0 ∷ []

-- these bytes for an accepted request's data
abbrev pub echoed : List ℕ → Outcome → Outcome
echoed b x = record { refusal = x.refusal; after = x.after; body = cond (eqb x.refusal 0) (data_of b) x.body }

-- What a list read shows for a number.
use Rattle.std.specs.Prelude.{ℕ, ◌≡◌, cond, List, [], ◌∷◌, eqb, length}
use Rattle.lists.specs.Data.{Data}
use Rattle.lists.specs.Data.{extended}

-- whatever the number and the reply so far, these bytes come behind it
abbrev pub Shows : (ℕ → Data → Data → Type 0) → (ℕ → List ℕ) → Type 0
Shows P bytes = (n : ℕ) (out r : Data) → P n out r → r ≡ extended out (bytes n)

-- 1BH as a list read: a single 00 where it has no data
unfoldable pub all_if_none : List ℕ → List ℕ
all_if_none d = cond (eqb (length d) 0) (0 ∷ []) d

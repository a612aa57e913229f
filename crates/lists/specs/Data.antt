-- Reply data by value, and lent buffers.
use Rattle.std.specs.Prelude.{List, [], ◌∷◌, ◌++◌, ℕ, ◌-◌, length, take, drop, replicate}
use Rattle.lists.specs.declared.Bounded.{Bounded}
use Rattle.lists.specs.Bounded.{added}

abbrev pub Data : Type 0
Data = Bounded ℕ 256

-- l, and d up to n elements
abbrev pub filled : {A : Type 0} → ℕ → A → List A → List A
filled n d l = l ++ replicate (n - length l) d

-- the bytes l, and zeros to 256
unfoldable pub padded : List ℕ → List ℕ
padded l = filled 256 0 l

abbrev pub data_of : List ℕ → Data
data_of l = record { items = padded l; len = length l }

-- one byte more, while there is room
abbrev pub pushed : Data → ℕ → Data
pushed = added

unfoldable pub extended : Data → List ℕ → Data
extended d [] = d
extended d (b ∷ bs) = extended (pushed d b) bs

-- the bytes that count
abbrev pub bytes_in : Data → List ℕ
bytes_in d = take d.len d.items

-- a buffer after bs was written at its start: bytes beyond are as they were
abbrev pub over : List ℕ → List ℕ → List ℕ
over bs old = bs ++ drop (length bs) old

-- A number as text, in ASCII.
use Rattle.std.specs.Prelude.{ℕ, zero, suc, ◌+◌, ◌/◌, ◌%◌, cond, List, [], ◌∷◌, ◌++◌, ltb, length}
use Rattle.lists.specs.Data.{filled}
use Rattle.lists.specs.declared.Bounded.{Bounded}

-- a number's characters by value
abbrev pub Numeral : Type 0
Numeral = Bounded ℕ 20

-- a digit below 16: `0` to `9`, then `A` to `F`
unfoldable pub character : ℕ → ℕ
character d = cond (ltb d 10) (48 + d) (55 + d)

-- the lowest w digits of n, the highest of them first
unfoldable pub written : ℕ → ℕ → ℕ → List ℕ
written base zero n = []
written base (suc w) n = written base w (n / base) ++ character (n % base) ∷ []

-- how many decimal digits n has, as far as one and k more
unfoldable pub places_in : ℕ → ℕ → ℕ
places_in zero n = 1
places_in (suc k) n = cond (ltb n 10) 1 (suc (places_in k (n / 10)))

-- a number below 2 to the 64 has at most twenty
abbrev pub places : ℕ → ℕ
places n = places_in 19 n

-- a number in decimal, without leading zeros
abbrev pub decimal_text : ℕ → List ℕ
decimal_text n = written 10 (places n) n

-- a byte in two hex digits
abbrev pub hex_text : ℕ → List ℕ
hex_text b = written 16 2 b

-- the characters l, and zeros to w
unfoldable pub padded : ℕ → List ℕ → List ℕ
padded w l = filled w 0 l

abbrev pub numeral_of : List ℕ → Numeral
numeral_of l = record { items = padded 20 l; len = length l }

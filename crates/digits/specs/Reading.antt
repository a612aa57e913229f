-- Text as a number of 16 bits. 65,536 stands for no number.
use Rattle.std.specs.Prelude.{ℕ, ◌+◌, ◌*◌, ◌-◌, ◌%◌, cond, ◌&&◌, List, [], ◌∷◌, eqb, ltb, leb, length, get_or, drop, Option, Some, None}

abbrev pub none : ℕ
none = 65536

-- a number below a limit; any other stands for none
abbrev pub found : ℕ → ℕ → Option ℕ
found limit n = cond (ltb n limit) (Some n) None

-- `0` to `9`, `A` to `F`, `a` to `f`; 16 for any other byte
unfoldable pub digit : ℕ → ℕ
digit b = cond (leb 48 b && leb b 57) (b - 48) (cond (leb 65 b && leb b 70) (b - 55) (cond (leb 97 b && leb b 102) (b - 87) 16))

-- the number n, then further digits; none where a byte is no digit, or where it passes 65,535
unfoldable pub digits : ℕ → ℕ → List ℕ → ℕ
digits base n [] = n
digits base n (b ∷ l) = cond (ltb (digit b) base) (cond (ltb (n * base + digit b) 65536) (digits base (n * base + digit b) l) none) none

-- a decimal number without a sign
unfoldable pub decimal : List ℕ → ℕ
decimal w = cond (eqb (length w) 0) none (digits 10 0 w)

-- exactly n hex digits
unfoldable pub hex : ℕ → List ℕ → ℕ
hex n w = cond (eqb (length w) n) (digits 16 0 w) none

-- a signed number of 16 bits as its two's complement pattern
unfoldable pub positive : ℕ → ℕ
positive n = cond (ltb n 32768) n none

unfoldable pub negative : ℕ → ℕ
negative n = cond (ltb n 32769) ((65536 - n) % 65536) none

-- a minus, a plus or no sign, and a decimal number
unfoldable pub signed_decimal : List ℕ → ℕ
signed_decimal w = cond (eqb (get_or w 0 0) 45) (negative (decimal (drop 1 w))) (cond (eqb (get_or w 0 0) 43) (positive (decimal (drop 1 w))) (positive (decimal w)))

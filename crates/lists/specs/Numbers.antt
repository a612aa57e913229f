-- Numbers as bytes, high byte first, for any width; and bits, the lowest first.
use Rattle.std.specs.Prelude.{ℕ, zero, suc, ◌+◌, ◌*◌, ◌/◌, ◌%◌, ◌^◌, Bool, cond, List, [], ◌∷◌, ◌++◌, eqb, get_or}

-- n, and the bytes after it
abbrev pub number_from : ℕ → List ℕ → ℕ
number_from n [] = n
number_from n (b ∷ bs) = number_from (n * 256 + b) bs

-- the number of some bytes
abbrev pub number : List ℕ → ℕ
number [] = 0
number (b ∷ bs) = number_from b bs

-- two bytes from place k on
abbrev pub word_at : List ℕ → ℕ → ℕ
word_at l k = number (get_or l k 0 ∷ get_or l (k + 1) 0 ∷ [])

-- the lowest w bytes of n
unfoldable pub bytes : ℕ → ℕ → List ℕ
bytes zero n = []
bytes (suc w) n = bytes w (n / 256) ++ n % 256 ∷ []

-- bit i of n
abbrev pub bit_at : ℕ → ℕ → Bool
bit_at n i = eqb (n / 2 ^ i % 2) 1

-- the number of some bits
unfoldable pub bits_number : List Bool → ℕ
bits_number [] = 0
bits_number (b ∷ bs) = cond b 1 0 + 2 * bits_number bs

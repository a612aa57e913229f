-- The answer of 01 and 02, as the code gives it.
use Rattle.std.specs.Prelude.{ℕ, ◌+◌, ◌/◌, ◌%◌, ◌^◌, List, [], ◌∷◌, take}
use Rattle.model.specs.Refusals.{refuse, telling}
use Rattle.model.specs.Registers.{bit_group, outside}
use Rattle.encoding.specs.Answers.{Told, told_of}

-- n bits of a number from bit k on
unfoldable pub part_of : ℕ → ℕ → ℕ → ℕ
part_of bits k n = bits / 2 ^ k % 2 ^ n

-- a byte count, and the lowest bytes of n bits
unfoldable pub bits_shown : ℕ → ℕ → List ℕ
bits_shown v n = (n + 7) / 8 ∷ take ((n + 7) / 8) (v % 256 ∷ v / 256 % 256 ∷ [])

-- of states that are already a number: `read_bits` of any sixteen states of that number
unfoldable pub bits_told : ℕ → ℕ → ℕ → Told
bits_told bits k n = told_of (refuse 9 (outside bit_group k n) (telling (bits_shown (part_of bits k n) n)))

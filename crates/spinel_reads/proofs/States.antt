-- States as two bytes. Assumes nothing.
use Prim.Native.Nat.{ℕ}
use native.Mathlib.Omega.{arith}
use mathlib.Core.Path.{◌≡◌, refl}
use mathlib.Core.Bool.{Bool}
use mathlib.Core.List.{List, []}
use Rattle.lists.specs.Numbers.{bytes, bits_number}
use Rattle.lists.specs.Data.{data_of, extended}
use Rattle.lists.proofs.DataLaws.{extend_law}
use Rattle.lists.proofs.NumberLaws.{length-bytes}
use Rattle.model.specs.Outputs.{read_states}
use Rattle.encoding.specs.Answers.{told_of}
use Rattle.spinel_reads.specs.Answers.{states_told}

-- 30H, 31H of any states, by their number
pub states_told_lem : (d : List ℕ) (bs : List Bool) (bits : ℕ) → bits_number bs ≡ bits → states_told d bits ≡ told_of (read_states d bs)
unfolding states_told read_states
states_told_lem d bs bits e = rw (← e) refl

pub states_gathered : (bits : ℕ) → extended (data_of []) (bytes 2 bits) ≡ data_of (bytes 2 bits)
states_gathered bits = extend_law (bytes 2 bits) [] (omega (arith, length-bytes 2 bits))

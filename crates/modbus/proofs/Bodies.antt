-- The bodies of writes: how long they are, and their one value. Assumes nothing.
use Rattle.std.proofs.Common.{◌≡◌, ap, ◌∙◌, ℕ, ◌+◌, ◌/◌, ◌%◌, min, List, [], ◌∷◌, length, drop, arith}
use mathlib.Core.Bool.{cond, not}
use mathlib.Core.List.{map}
use lib.Dec.{eqb}
use borrow.Author.Tests.{eqb-true, not-false}
use Rattle.lists.specs.Numbers.{number}
use Rattle.lists.proofs.ChunkLaws.{chunks_cons, chunks_none, piece}
use Rattle.model.specs.Modbus.{second_of, words}
use Rattle.model.proofs.Refusing.{passes}

-- 05, 06: four bytes where 8 does not refuse
pub four : (b : List ℕ) → ◌≡◌ {A = ℕ} 0 (cond (not (eqb (length b) 4)) 8 0) → length b ≡ 4
four b g = eqb-true (length b) 4 (not-false _ (passes (not (eqb (length b) 4)) 7 g))

-- 06: one value
pub one_word : (b : List ℕ) → length b ≡ 4 → words (drop 2 b) ≡ second_of b ∷ []
unfolding words
one_word b h = ap (map number) (chunks_cons 2 2 b (omega arith) (omega arith)) ∙ rw (piece 1 2 b 0 (omega arith), piece 0 3 b 0 (omega arith), chunks_none 2 4 b (omega arith) (omega arith))

-- 0F: a byte for each eight bits, the last one begun
pub eighth : (n : ℕ) → n / 8 + min 1 (n % 8) ≡ (n + 7) / 8
eighth n = omega arith

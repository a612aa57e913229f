-- Laws of a request's list and of a loop that builds a reply of it. Assumes nothing.
use Prim.Native.Nat.{ℕ, ◌≤◌}
use native.Mathlib.Omega.{arith}
use mathlib.Core.Path.{◌≡◌, sym, refl}
use mathlib.Core.Bool.{true, false, not}
use mathlib.Core.List.{List, [], flat_map}
use lib.ListN.{length}
use Rattle.std.proofs.Common.{Ok, Err}
use Rattle.lists.specs.Data.{data_of, extended}
use Rattle.lists.proofs.Choices.{passed}
use Rattle.lists.proofs.DataLaws.{extend_law}
use Rattle.model.specs.declared.Refusal.{Refusal}
use Rattle.model.specs.Numbers.{number_of}
use Rattle.model.specs.Refusals.{refusal_of}
use Rattle.model.specs.Counters.{items_of, every_number, listed, list_read}
use Rattle.model.proofs.Short.{list_short}
use Rattle.encoding.specs.Answers.{told, told_of}
use Rattle.encoding.proofs.Telling.{told_refused, told_answered}
use Rattle.number_lists.specs.Items.{items_in, asks_all, list_refusal}

-- the test on the length is the one on the list
pub items_length : (w : ℕ) (d : List ℕ) → items_of w d ≡ items_in w (length d)
unfolding items_of items_in
items_length w d = refl

-- the numbers that a list names
pub listed_all : (d : List ℕ) → asks_all d ≡ true → listed d ≡ every_number
unfolding asks_all listed
listed_all d h = rw h

pub listed_own : (d : List ℕ) → asks_all d ≡ false → listed d ≡ d
unfolding asks_all listed
listed_own d h = rw h

-- Of a list that is allowed, pieces of at most 16 bytes each fit into a reply, so the loop from an empty one builds its data.
pub shown_data : (show : ℕ → List ℕ) (d : List ℕ)
    → not (items_of 1 d) ≡ false
    → ((n : ℕ) → length (show n) ≤ 16)
    → extended (data_of []) (flat_map show (listed d)) ≡ data_of (flat_map show (listed d))
unfolding list_read
shown_data show d e s = extend_law (flat_map show (listed d)) [] (omega (arith, (list_short 16 256 show s (omega arith) d).bound e))

-- A list read: refused by `list_refusal`, or answered by such a loop.
module _ (show : ℕ → List ℕ) (d : List ℕ) where
  pub read_refused : (r : Refusal) → number_of r ≡ list_refusal d → told (Err r) ≡ told_of (list_read show d)
  unfolding list_refusal list_read refusal_of
  read_refused r e = told_refused (list_read show d) r e

  pub read_told : 0 ≡ list_refusal d → ((n : ℕ) → length (show n) ≤ 16) → told (Ok (extended (data_of []) (flat_map show (listed d)))) ≡ told_of (list_read show d)
  unfolding list_refusal list_read refusal_of
  read_told e s = told_answered (list_read show d) _ e (shown_data show d (passed _ 7 _ (sym e)).0 s)

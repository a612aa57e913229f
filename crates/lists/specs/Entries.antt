-- Bytes as numbered values, and such entries by value.
use Rattle.std.specs.Prelude.{ℕ, suc, List, [], ◌∷◌, map, length, get_or, take, drop}
use Rattle.lists.specs.Numbers.{number}
use Rattle.lists.specs.Chunks.{chunks}
use Rattle.lists.specs.Data.{filled}
use Rattle.lists.specs.declared.Entry.{Entry}
use Rattle.lists.specs.declared.Bounded.{Bounded}
use Rattle.lists.specs.Bounded.{added}

abbrev pub Entries : Type 0
Entries = Bounded Entry 16

abbrev pub entry : ℕ → ℕ → Entry
entry n v = record { number = n; value = v }

-- a number, then the bytes of its value
unfoldable pub entry_of : List ℕ → Entry
entry_of c = entry (get_or c 0 0) (number (drop 1 c))

-- entries of w bytes each
unfoldable pub entries : ℕ → List ℕ → List Entry
entries w d = map entry_of (chunks w d)

-- values for the numbers from n on
unfoldable pub numbered : ℕ → List ℕ → List Entry
numbered n [] = []
numbered n (v ∷ vs) = entry n v ∷ numbered (suc n) vs

-- By value there is room for sixteen ------------------------------------------------------

-- the entries l, and empty ones to sixteen
unfoldable pub entries_of : List Entry → Entries
entries_of l = record { items = filled 16 (entry 0 0) l; len = length l }

-- the entries that count
abbrev pub entries_in : Entries → List Entry
entries_in es = take es.len es.items

-- one more, while there is room
abbrev pub entry_added : Entries → Entry → Entries
entry_added = added

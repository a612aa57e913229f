-- What the tests on a request's list say, by its length or its bytes.
use Rattle.std.specs.Prelude.{ℕ, ◌/◌, ◌%◌, Bool, cond, not, ◌&&◌, List, eqb, length, get_or}
use Rattle.lists.specs.Tests.{within, all}
use Rattle.model.specs.Counters.{is_number, number_in, most_items, items_of, listed}

-- `items_of` of a list of n bytes
unfoldable pub items_in : ℕ → ℕ → Bool
items_in w n = eqb (n % w) 0 && within 1 most_items (n / w)

-- the low six bits of a byte are the number of an input or an output
abbrev pub low_six_number : ℕ → Bool
low_six_number p = is_number (number_in p)

-- a single 00, which `listed` takes for all
unfoldable pub asks_all : List ℕ → Bool
asks_all d = eqb (length d) 1 && eqb (get_or d 0 0) 0

-- why a list read is refused: 8, 11, or 0 for not at all
unfoldable pub list_refusal : List ℕ → ℕ
list_refusal d = cond (not (items_of 1 d)) 8 (cond (not (all is_number (listed d))) 11 0)

-- 60H: what reading in turn comes to. Assumes nothing.
use Prim.Native.Nat.{ℕ, ◌+◌, ◌-◌}
use native.Mathlib.Omega.{arith}
use mathlib.Core.Path.{◌≡◌, refl, ◌∙◌}
use mathlib.Core.Bool.{Bool, true, false, cond, ◌&&◌, ◌||◌}
use mathlib.Core.List.{List, [], ◌∷◌, map, foldl}
use lib.ListN.{length, get_or}
use lib.Dec.{eqb}
use Rattle.lists.specs.Tests.{within, all}
use Rattle.lists.specs.Data.{data_of, extended}
use Rattle.lists.specs.Numbers.{bytes}
use Rattle.lists.proofs.DataLaws.{extend_law, extended_append}
use Rattle.model.specs.Samples.{counter_bits, counter_bytes}
use Rattle.model.specs.Counters.{every_number, items_of, zeroes, number_in, parameters, read_one, values_read, read_counters}
use Rattle.model.proofs.Short.{counters_short}
use Rattle.counter_reads.specs.declared.Collected.{Collected}
use Rattle.counter_reads.specs.Reading.{asks_every, every_of, read_step, read_rest}
use Rattle.number_lists.specs.Items.{low_six_number}
use Rattle.number_lists.proofs.Lists.{items_length}

-- the length of a list, in the words of its definition
pub ruleset sizes = items_length

-- one parameter after the other is all of them
pub read_steps : (ps : List ℕ) (r : Collected) → foldl read_step r ps ≡ read_rest r ps
unfolding read_step read_rest values_read extended
read_steps [] r = refl
read_steps (p ∷ ps) r =
    read_steps ps (read_step r p)
    ∙ rw (extended_append (bytes counter_bytes (get_or r.counters (number_in p - 1) 0)) (values_read ps (read_one r.counters p)) r.reply)

-- the parameters that a list names
pub named_every : (d : List ℕ) → asks_every d ≡ true → parameters d ≡ every_of (get_or d 0 0)
unfolding asks_every parameters every_of
named_every d h = rw h

pub named_own : (d : List ℕ) → asks_every d ≡ false → parameters d ≡ d
unfolding asks_every parameters
named_own d h = rw h

-- whether each parameter names an input: a single number 0 stands for numbers that do
pub named_law : (d : List ℕ) → (asks_every d || all low_six_number d) ≡ all low_six_number (parameters d)
unfolding asks_every parameters all within
named_law d = go (eqb (length d) 1 && eqb (number_in (get_or d 0 0)) 0) (zeroes (get_or d 0 0))
  where
    go : (b z : Bool) → (b || all low_six_number d) ≡ all low_six_number (cond b (cond z (map (λ n. 128 + n) every_number) every_number) d)
    go true true = refl
    go true false = refl
    go false z = refl

-- an allowed list's values have at most 256 bytes
pub values_fit : (d cs : List ℕ) → items_of 1 d ≡ true → extended (data_of (counter_bits ∷ [])) (values_read (parameters d) cs) ≡ data_of (counter_bits ∷ values_read (parameters d) cs)
unfolding read_counters
values_fit d cs h = extend_law (values_read (parameters d) cs) (counter_bits ∷ []) (omega (arith, (counters_short d cs).bound (rw h)))

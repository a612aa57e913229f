-- The parts of 60H.
use Rattle.std.specs.Prelude.{ℕ, ◌+◌, ◌-◌, Bool, cond, ◌&&◌, eqb, length, get_or}
use mathlib.Core.List.{List, [], ◌∷◌, map, foldl}
use Rattle.lists.specs.Data.{data_of, extended}
use Rattle.lists.specs.Numbers.{bytes}
use Rattle.model.specs.Samples.{counter_bits, counter_bytes}
use Rattle.model.specs.Counters.{every_number, zeroes, number_in, read_one, values_read}
use Rattle.counter_reads.specs.declared.Collected.{Collected}

-- a single parameter with number 0, the two high bits aside
unfoldable pub asks_every : List ℕ → Bool
asks_every d = eqb (length d) 1 && eqb (number_in (get_or d 0 0)) 0

-- the sixteen parameters in its place, which zero if it does
unfoldable pub every_of : ℕ → List ℕ
every_of p = cond (zeroes p) (map (λ n. 128 + n) every_number) every_number

-- one parameter: its counter as those before it left the copy, and the copy after it
unfoldable pub read_step : Collected → ℕ → Collected
read_step r p = record {
  counters = read_one r.counters p;
  reply = extended r.reply (bytes counter_bytes (get_or r.counters (number_in p - 1) 0));
}

-- all parameters, from any reply on
unfoldable pub read_rest : Collected → List ℕ → Collected
read_rest r ps = record {
  counters = foldl read_one r.counters ps;
  reply = extended r.reply (values_read ps r.counters);
}

-- before the first: 20H
abbrev pub read_start : List ℕ → Collected
read_start cs = record { counters = cs; reply = data_of (counter_bits ∷ []) }

-- 01, Counters over Spinel.
use Rattle.std.specs.Prelude.{ℕ, ◌+◌, ◌-◌, ◌/◌, ◌%◌, Bool, true, false, cond, not, ◌&&◌, ◌||◌, length, get_or, set, replicate, leb, eqb}
use mathlib.Core.List.{List, [], ◌∷◌, ◌++◌, map, foldl, flat_map}
use Rattle.lists.specs.Tests.{within, all, twice}
use Rattle.lists.specs.Numbers.{bytes}
use Rattle.lists.specs.declared.Entry.{Entry}
use Rattle.lists.specs.Entries.{entries}
use Rattle.model.specs.declared.Line.{Line}
use Rattle.model.specs.declared.Port.{Port}
use Rattle.model.specs.declared.Module.{Module}
use Rattle.model.specs.State.{line, fresh_output, permit, port, with_spinel}
use Rattle.model.specs.Samples.{places, counter_bits, counter_bytes}
use Rattle.model.specs.Refusals.{Request, accepting, telling, refuse}

-- an input or output that there is; else 11
abbrev pub is_number : ℕ → Bool
is_number n = within 1 places n

-- a list has at most 12 items
abbrev pub most_items : ℕ
most_items = 12

-- from one to twelve items of w bytes each, and no byte over: what 8 asks of a list
unfoldable pub items_of : ℕ → List ℕ → Bool
items_of w d = eqb (length d % w) 0 && within 1 most_items (length d / w)

-- data, which 8 refuses where the instruction takes none
abbrev pub some_data : List ℕ → Bool
some_data d = not (eqb (length d) 0)

-- all sixteen numbers
abbrev pub every_number : List ℕ
every_number = 1 ∷ 2 ∷ 3 ∷ 4 ∷ 5 ∷ 6 ∷ 7 ∷ 8 ∷ 9 ∷ 10 ∷ 11 ∷ 12 ∷ 13 ∷ 14 ∷ 15 ∷ 16 ∷ []

-- list read (01): a single 00 asks for every number, all else for the numbers that it lists
unfoldable pub listed : List ℕ → List ℕ
listed d = cond (eqb (length d) 1 && eqb (get_or d 0 0) 0) every_number d

-- a list read of the bytes that `show` gives for a number
unfoldable pub list_read : (ℕ → List ℕ) → List ℕ → Request (Unit {0})
list_read show d = refuse 8 (not (items_of 1 d)) (refuse 11 (not (all is_number (listed d))) (telling (flat_map show (listed d))))

-- 60H: read, and collect --------------------------------------------------------------

-- a parameter: its top bit asks to zero the counter once it is read, its low six bits name the input, and bit 6 says nothing
abbrev pub zeroes : ℕ → Bool
zeroes p = leb 128 p

abbrev pub number_in : ℕ → ℕ
number_in p = p % 64

-- a single parameter that names number 0 stands for the sixteen, each with its top bit
unfoldable pub parameters : List ℕ → List ℕ
parameters d =
    cond (eqb (length d) 1 && eqb (number_in (get_or d 0 0)) 0)
    (cond (zeroes (get_or d 0 0)) (map (λ n. 128 + n) every_number) every_number) d

-- the copy after one parameter
unfoldable pub read_one : List ℕ → ℕ → List ℕ
read_one cs p = cond (zeroes p) (set cs (number_in p - 1) 0) cs

-- what follows the reply's 20H: the counter of each parameter whole, in four bytes, as the parameters before it left the copy
unfoldable pub values_read : List ℕ → List ℕ → List ℕ
values_read [] cs = []
values_read (p ∷ ps) cs = bytes counter_bytes (get_or cs (number_in p - 1) 0) ++ values_read ps (read_one cs p)

unfoldable pub read_counters : List ℕ → List ℕ → Request (List ℕ)
read_counters d cs =
    refuse 8 (not (items_of 1 d))
    (refuse 11 (not (all (λ p. is_number (number_in p)) (parameters d)))
    (accepting (foldl read_one cs (parameters d)) (counter_bits ∷ values_read (parameters d) cs)))

-- 61H: deduct, or clear all ------------------------------------------------------------

-- the input exists, and its counter covers the amount
unfoldable pub deductible : List ℕ → Entry → Bool
deductible cs e = is_number e.number && leb e.value (get_or cs (e.number - 1) 0)

unfoldable pub deduct_one : List ℕ → Entry → List ℕ
deduct_one cs e = set cs (e.number - 1) (get_or cs (e.number - 1) 0 - e.value)

-- all or none: the counters change only where each covers its amount. Who asks sees to it that no input stands twice (61H by 13, registers by
-- their places): then no amount is judged by a counter that another deduction of the list moves
unfoldable pub deduct : List Entry → List ℕ → Request (List ℕ)
deduct es cs = refuse 11 (not (all (deductible cs) es)) (accepting (foldl deduct_one cs es) [])

-- 13 (E1): some number stands twice
unfoldable pub named_twice : List Entry → Bool
named_twice es = twice (λ (e : Entry). e.number) es

-- cleared (01): the counters zeroed, nothing collected
abbrev pub cleared_counters : List ℕ
cleared_counters = replicate places 0

unfoldable pub clear_all : ℕ → Request (List ℕ)
clear_all b = refuse 11 (not (eqb b 0)) (accepting cleared_counters [])

-- one byte clears, and must be 00; else five bytes for each deduction, the input and an amount as wide as a counter, no number twice
unfoldable pub deduct_counters : List ℕ → List ℕ → Request (List ℕ)
deduct_counters d cs =
    cond (eqb (length d) 1) (clear_all (get_or d 0 0))
    (refuse 8 (not (items_of (1 + counter_bytes) d))
    (refuse 13 (named_twice (entries (1 + counter_bytes) d))
    (deduct (entries (1 + counter_bytes) d) cs)))

-- 6AH, 6BH: modes ------------------------------------------------------------------------

unfoldable pub mode_settable : Entry → Bool
mode_settable e = is_number e.number && leb e.value 3

unfoldable pub set_mode : List ℕ → Entry → List ℕ
set_mode ms e = set ms (e.number - 1) e.value

unfoldable pub set_modes : List Entry → List ℕ → Request (List ℕ)
set_modes es ms = refuse 11 (not (all mode_settable es)) (accepting (foldl set_mode ms es) [])

-- 6AH: two bytes for each input, which one and its new mode
unfoldable pub set_modes_list : List ℕ → List ℕ → Request (List ℕ)
set_modes_list d ms = refuse 8 (not (items_of 2 d)) (set_modes (entries 2 d) ms)

-- 6BH: a byte for each input asked for
unfoldable pub mode_shown : List ℕ → ℕ → List ℕ
mode_shown ms n = get_or ms (n - 1) 0 ∷ []

-- 62H, 63H: the sampling number, 1 to 255 ---------------------------------------------------

unfoldable pub set_sampling : List ℕ → Request ℕ
set_sampling d = refuse 8 (not (eqb (length d) 1)) (refuse 11 (not (within 1 255 (get_or d 0 0))) (accepting (get_or d 0 0) []))

unfoldable pub read_sampling : List ℕ → ℕ → Request (Unit {0})
read_sampling d n = refuse 8 (some_data d) (telling (n ∷ []))

-- E4H, E0H, F0H, E3H: permission, address and speed, reset -------------------------------------

-- reset (01): outputs go off and their pulses end, counters and runs start from 0, no port stays permitted; all else it keeps

-- no run is left, and the stable states stay
unfoldable pub runs_ended : List Line → List Line
runs_ended ls = map (λ (y : Line). line y.stable 0) ls

unfoldable pub reset : Module → Module
reset m = record {
  inputs = record { lines = runs_ended m.inputs.lines; counters = cleared_counters };
  outputs = replicate places fresh_output;
  settings = m.settings;
  reading = m.reading;
  last = m.last;
  spinel = permit false m.spinel;
  modbus = permit false m.modbus;
}

-- E4H permits the port's next request to configure; to FE it is refused 10
unfoldable pub give_permission : Bool → List ℕ → Port → Request Port
give_permission to_universal d p = refuse 8 (some_data d) (refuse 10 to_universal (accepting (permit true p) []))

-- E0H: a new address, which may be no special one, and one of twelve speed codes; with a permission only, not to FE, and then a reset
unfoldable pub set_port : Bool → Bool → List ℕ → Module → Request Module
set_port permitted to_universal d m =
    refuse 8 (not (eqb (length d) 2))
    (refuse 10 (to_universal || not permitted)
    (refuse 11 (not (within 0x00 0xFD (get_or d 0 0) && within 0x00 0x0B (get_or d 1 0)))
    (accepting (reset (with_spinel m (port (get_or d 0 0) (get_or d 1 0) false))) [])))

-- F0H: the port's address, then its speed code
unfoldable pub read_port : List ℕ → Port → Request (Unit {0})
read_port d p = refuse 8 (some_data d) (telling (p.address ∷ p.speed ∷ []))

-- E3H: a reset and nothing else
unfoldable pub reset_module : List ℕ → Module → Request Module
reset_module d m = refuse 8 (some_data d) (accepting (reset m) [])

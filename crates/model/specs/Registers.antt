-- 01, Registers: groups of registers, coils and inputs, for the functions that read and write them.
use Rattle.std.specs.Prelude.{ℕ, ◌+◌, ◌-◌, ◌*◌, ◌/◌, ◌%◌, Bool, true, cond, not, ◌&&◌, ◌||◌, length, get_or, set, take, drop, leb, ltb, eqb}
use mathlib.Core.List.{List, [], ◌∷◌, map, foldl, flat_map}
use Rattle.lists.specs.Tests.{within, all}
use Rattle.lists.specs.Numbers.{bytes, bits_number}
use Rattle.lists.specs.Chunks.{chunks_of}
use Rattle.lists.specs.declared.Entry.{Entry}
use Rattle.lists.specs.Entries.{entry, numbered}
use Rattle.model.specs.declared.Group.{Group}
use Rattle.model.specs.declared.Output.{Output}
use Rattle.model.specs.declared.Link.{Link}
use Rattle.model.specs.declared.Thermostat.{Thermostat}
use Rattle.model.specs.declared.Reading.{Reading}
use Rattle.model.specs.declared.Port.{Port}
use Rattle.model.specs.declared.Module.{Module}
use Rattle.model.specs.State.{half_seconds, thermostat, fresh_link, fresh_thermostat, port, permit, with_modbus}
use Rattle.model.specs.Samples.{places}
use Rattle.model.specs.Refusals.{Request, accepting, telling, refuse}
use Rattle.model.specs.Counters.{most_items, reset, deduct, set_modes}
use Rattle.model.specs.Outputs.{set_output, act_on, pulse_outputs, remaining}
use Rattle.model.specs.Temperature.{signed_of, pattern_of, thermostat_fits, clash}

-- Groups -------------------------------------------------------------------------------

-- a group's first register, coil or input, and how many it has
abbrev pub group : ℕ → ℕ → Group
group first count = record { first = first; count = count }

-- holding registers: the permission, address and speed, counters, deductions, modes, outputs, and four for each thermostat

abbrev pub permission_group : Group
permission_group = group 0 1

abbrev pub port_group : Group
port_group = group 1 2

abbrev pub counter_group : Group
counter_group = group 100 places

abbrev pub deduction_group : Group
deduction_group = group 200 places

abbrev pub mode_group : Group
mode_group = group 300 places

abbrev pub output_group : Group
output_group = group 500 places

abbrev pub thermostat_group : Group
thermostat_group = group 600 (4 * places)

-- input registers of the reading; coils, and inputs read as bits

abbrev pub reading_group : Group
reading_group = group 0 4

abbrev pub bit_group : Group
bit_group = group 0 places

-- does the group have register r
abbrev pub in_group : Group → ℕ → Bool
in_group g r = within g.first (g.first + g.count - 1) r

-- 9: n registers from r on are none, or do not all lie in the group
abbrev pub outside : Group → ℕ → ℕ → Bool
outside g r n = eqb n 0 || (ltb r g.first || ltb (g.first + g.count) (r + n))

-- the number of the input or output that register r is for
abbrev pub number_at : Group → ℕ → ℕ
number_at g r = r + 1 - g.first

-- Reading ------------------------------------------------------------------------------

-- n registers from r on, of a group that shows these words: a byte count, then two bytes each
unfoldable pub read_words : Group → List ℕ → ℕ → ℕ → Request (Unit {0})
read_words g words r n =
    refuse 9 (outside g r n)
    (telling (2 * n ∷ flat_map (bytes 2) (take n (drop (r - g.first) words))))

-- bits as bytes, eight to a byte, the lowest first, spare bits 0
unfoldable pub packed : List Bool → List ℕ
packed bs = map bits_number (chunks_of 8 ((length bs + 7) / 8) bs)

-- n of the sixteen coils or inputs from r on
unfoldable pub read_bits : List Bool → ℕ → ℕ → Request (Unit {0})
read_bits bs r n =
    refuse 9 (outside bit_group r n)
    (telling ((n + 7) / 8 ∷ packed (take n (drop r bs))))

-- 1 and 2: the port's address, its speed code
abbrev pub port_words : Port → List ℕ
port_words p = p.address ∷ p.speed ∷ []

-- 100 to 115: of a counter the low sixteen bits, for which a register has room (E4)
unfoldable pub counter_word : ℕ → ℕ
counter_word c = c % 65536

-- 500 to 515: the high byte is FF for on, else 00; the low byte is what is left of the pulse
unfoldable pub output_word : Output → ℕ
output_word o = cond o.on 0xFF00 0 + remaining o.left

-- 600 + 4 × k: a word of flags, which fill its low byte, one for each limit, and one of TIME (high) with ERR (low)
unfoldable pub thermostat_words : Thermostat → List ℕ
thermostat_words h = h.flags ∷ pattern_of h.tempx ∷ pattern_of h.tempy ∷ (h.time.0 * 256 + h.err) ∷ []

-- one thermostat whole: its four registers from its first one on
abbrev pub four_aligned : ℕ → ℕ → Bool
four_aligned r n = eqb n 4 && eqb ((r - thermostat_group.first) % 4) 0

-- 9: in the group, and so
abbrev pub no_thermostat : ℕ → ℕ → Bool
no_thermostat r n = outside thermostat_group r n || not (four_aligned r n)

-- the thermostat's place among the sixteen
abbrev pub place_of : ℕ → ℕ
place_of r = (r - thermostat_group.first) / 4

unfoldable pub read_thermostat : List Thermostat → ℕ → ℕ → Request (Unit {0})
read_thermostat hs r n =
    refuse 9 (no_thermostat r n)
    (telling (2 * n ∷ flat_map (bytes 2) (thermostat_words (get_or hs (place_of r) fresh_thermostat))))

-- Writing: the values vs for the registers from r on ----------------------------------------

-- 0: a single write of 00FF permits the port's next request; by 10H it is refused 9, with another value 11
unfoldable pub write_permission : Bool → ℕ → List ℕ → Port → Request Port
write_permission single r vs p =
    refuse 9 (outside permission_group r (length vs) || not single)
    (refuse 11 (not (eqb (get_or vs 0 0) 0x00FF))
    (accepting (permit true p) []))

-- register 1 takes the addresses that Modbus has for single modules, register 2 the speed codes from 3 to 10
unfoldable pub port_settable : Entry → Bool
port_settable e = cond (eqb e.number 1) (within 1 247 e.value) (within 3 10 e.value)

unfoldable pub set_port_field : Port → Entry → Port
set_port_field p e = cond (eqb e.number 1) (port e.value p.speed p.permitted) (port p.address e.value p.permitted)

-- 1 and 2: with a permission only; a reset follows, and the reply still bears the address from before
unfoldable pub write_port : Bool → ℕ → List ℕ → Module → Request Module
write_port permitted r vs m =
    refuse 9 (outside port_group r (length vs))
    (refuse 10 (not permitted)
    (refuse 11 (not (all port_settable (numbered r vs)))
    (accepting (reset (with_modbus m (foldl set_port_field m.modbus (numbered r vs)))) [])))

-- 100 to 115: a 0 clears the whole counter, the bits that no register shows too; nothing else can be put there
unfoldable pub is_zero : Entry → Bool
is_zero e = eqb e.value 0

unfoldable pub clear_one : List ℕ → Entry → List ℕ
clear_one cs e = set cs (e.number - 1) 0

unfoldable pub write_counters : ℕ → List ℕ → List ℕ → Request (List ℕ)
write_counters r vs cs =
    let es = numbered (number_at counter_group r) vs in
    refuse 9 (outside counter_group r (length vs)) (refuse 11 (not (all is_zero es)) (accepting (foldl clear_one cs es) []))

-- 200 to 215: amounts of sixteen bits to deduct, as by 61H from the whole counter and at most as many; a read finds no group there
unfoldable pub write_deductions : ℕ → List ℕ → List ℕ → Request (List ℕ)
write_deductions r vs cs =
    refuse 9 (outside deduction_group r (length vs) || ltb most_items (length vs))
    (deduct (numbered (number_at deduction_group r) vs) cs)

-- 300 to 315: modes
unfoldable pub write_modes : ℕ → List ℕ → List ℕ → Request (List ℕ)
write_modes r vs ms = refuse 9 (outside mode_group r (length vs)) (set_modes (numbered (number_at mode_group r) vs) ms)

-- 500 to 515: a pulse on a single output; the high byte, FF or 00, tells its first state, the low byte its time
unfoldable pub write_pulse : Reading → List Thermostat → ℕ → List ℕ → List Output → Request (List Output)
write_pulse r hs a vs os =
    let v = get_or vs 0 0 in
    let es = entry (number_at output_group a) (v / 0xFF00) ∷ [] in
    refuse 9 (outside output_group a (length vs) || not (eqb (length vs) 1))
    (refuse 11 (not (eqb (v / 256) 0xFF || eqb (v / 256) 0x00))
    (pulse_outputs (half_seconds (v % 256)) r hs es os))

-- 600 + 4 × k: one thermostat by its four registers
unfoldable pub words_thermostat : List ℕ → Thermostat
words_thermostat vs = thermostat (get_or vs 0 0) (signed_of (get_or vs 1 0)) (signed_of (get_or vs 2 0)) (get_or vs 3 0 / 256) (get_or vs 3 0 % 256)

unfoldable pub write_thermostat : List Link → ℕ → List ℕ → List Thermostat → Request (List Thermostat)
write_thermostat ls r vs hs =
    refuse 9 (no_thermostat r (length vs))
    (refuse 11 (not (leb (get_or vs 0 0) 0xFF && thermostat_fits (words_thermostat vs)))
    (refuse 14 (clash (get_or ls (place_of r) fresh_link) (words_thermostat vs))
    (accepting (set hs (place_of r) (words_thermostat vs)) [])))

-- coils: bit j of the bytes is for output a + 1 + j; 05 has a single bit --------------------------------

unfoldable pub write_coils : Reading → List Thermostat → ℕ → List ℕ → List Output → Request (List Output)
write_coils r hs a bits os = refuse 9 (outside bit_group a (length bits)) (act_on set_output r hs (numbered (number_at bit_group a) bits) os)

-- 01, Temperature.
use Rattle.std.specs.Prelude.{ℕ, ◌≡◌, ◌+◌, ◌-◌, ◌/◌, ◌%◌, Bool, true, false, cond, not, ◌&&◌, ◌||◌, length, get_or, set, ltb, leb, eqb, ℤ, pos, negsuc, Float}
use mathlib.Core.List.{List, [], ◌∷◌, ◌++◌, foldl, flat_map}
use Rattle.std.specs.Int.Signed.{lt_z, le_z}
use Rattle.std.specs.Float.{binary32}
use Rattle.std.specs.Float.Ieee.{div, of_int, of_bits, to_bits, is_nan}
use Rattle.lists.specs.Tests.{all, any}
use Rattle.lists.specs.Mapi.{mapi}
use Rattle.lists.specs.Numbers.{word_at, bytes}
use Rattle.lists.specs.Chunks.{chunks}
use Rattle.model.specs.declared.Output.{Output}
use Rattle.model.specs.declared.Link.{Link}
use Rattle.model.specs.declared.Thermostat.{Thermostat}
use Rattle.model.specs.declared.Reading.{Reading}
use Rattle.model.specs.declared.Reading.TheVariants.{Valid, Fault}
use Rattle.model.specs.declared.Module.{Module}
use Rattle.model.specs.State.{output, thermostat, fresh_link, fresh_thermostat, has_link, with_reading}
use Rattle.model.specs.Refusals.{Request, accepting, telling, refuse}
use Rattle.model.specs.Counters.{is_number, items_of, most_items, every_number}
use Rattle.model.specs.Times.{second_samples}

-- Signed numbers as two bytes, and the float --------------------------------------------

-- two's complement: from 8000H up, less by 65,536
unfoldable pub signed_of : ℕ → ℤ
signed_of n = cond (ltb n 32768) (pos n) (negsuc (65535 - n))

-- negsuc k is -(k + 1)
unfoldable pub pattern_of : ℤ → ℕ
pattern_of (pos n) = n
pattern_of (negsuc k) = 65535 - k

-- the float: a sample's tenths and 10 are exact in f32, so that only the division rounds; 41200000H is 10
unfoldable pub degrees : ℤ → Float
degrees t = div binary32 (of_int binary32 t) (of_bits binary32 0x4120_0000)

-- The reading ------------------------------------------------------------------------------

-- a sample is valid where it is marked good and from -100 to 200 degrees, else a fault; negsuc 999 is -1,000
unfoldable pub reading_of : Bool → ℤ → Reading
reading_of good t = cond (good && (le_z (negsuc 999) t && le_z t (pos 2000))) (Valid t (degrees t)) Fault

-- 51H: the thermometer's number, a byte that tells whether it is valid, and a word of tenths, 0 for a fault
unfoldable pub reading_shown : Reading → List ℕ
reading_shown (Valid t x) = 0x01 ∷ 0x80 ∷ bytes 2 (pattern_of t)
reading_shown Fault = 0x01 ∷ 0x00 ∷ 0x00 ∷ 0x00 ∷ []

unfoldable pub read_temperature : List ℕ → Reading → Request (Unit {0})
read_temperature d r = refuse 8 (not (eqb (length d) 1)) (refuse 11 (not (leb (get_or d 0 0) 0x01)) (telling (reading_shown r)))

-- the float's bits; no sample gives a NaN, and one in the state would show as 0
unfoldable pub float_bits : Float → ℕ
float_bits x = cond (is_nan x) 0 (to_bits binary32 x)

-- input registers 0 to 3: a valid reading has 0, its tenths and the float's two halves, the upper first; a fault has 1 and zeros
unfoldable pub reading_words : Reading → List ℕ
reading_words (Valid t x) = 0 ∷ pattern_of t ∷ float_bits x / 65536 ∷ float_bits x % 65536 ∷ []
reading_words Fault = 1 ∷ 0 ∷ 0 ∷ 0 ∷ []

-- Thermostats ------------------------------------------------------------------------------

-- flags FSSKSTTT: F, SS, K, the third S and the sensor
abbrev pub active : Thermostat → Bool
active h = leb 128 h.flags

abbrev pub action : Thermostat → ℕ
action h = h.flags / 32 % 4

abbrev pub on_fall : Thermostat → Bool
on_fall h = eqb (h.flags / 16 % 2) 1

-- the third S: SS 00 and 01 go by the band
abbrev pub third_s : Thermostat → Bool
third_s h = eqb (h.flags / 8 % 2) 1

abbrev pub sensor : Thermostat → ℕ
sensor h = h.flags % 8

-- SS and K in three bits, over them the third S
abbrev pub setting_shown : Thermostat → ℕ
setting_shown h = cond (third_s h) 8 0 + h.flags / 16 % 8

-- pulses need a TIME other than 0 and the third S not set
abbrev pub action_fits : Thermostat → Bool
action_fits h = ltb (action h) 2 || (not (third_s h) && not (eqb h.time.0 0))

-- what may be stored: ERR at most 2; an active one also needs the only sensor, TEMPy not over TEMPx, and an action that fits
unfoldable pub thermostat_fits : Thermostat → Bool
thermostat_fits h =
    leb h.err 2
    && (not (active h)
    || (eqb (sensor h) 1
    && (le_z h.tempy h.tempx
    && action_fits h)))

-- the band of a thermostat, from TEMPy to TEMPx, both ends in it
abbrev pub in_band : Thermostat → ℤ → Bool
in_band h t = le_z h.tempy t && le_z t h.tempx

-- a group's eight bytes: 0 the output, 1 the flags, words at 2 and 4 for TEMPx and TEMPy, 6 TIME, 7 ERR
unfoldable pub group_thermostat : List ℕ → Thermostat
group_thermostat c = thermostat (get_or c 1 0) (signed_of (word_at c 2)) (signed_of (word_at c 4)) (get_or c 6 0) (get_or c 7 0)

unfoldable pub group_fits : List ℕ → Bool
group_fits c = is_number (get_or c 0 0) && thermostat_fits (group_thermostat c)

unfoldable pub set_group : List Thermostat → List ℕ → List Thermostat
set_group hs c = set hs (get_or c 0 0 - 1) (group_thermostat c)

-- 14 (E8): an output has a link or an active thermostat, and not both
abbrev pub clash : Link → Thermostat → Bool
clash l h = has_link l && active h

-- a group by the link that its output has
unfoldable pub group_clashes : List Link → List ℕ → Bool
group_clashes ls c = clash (get_or ls (get_or c 0 0 - 1) fresh_link) (group_thermostat c)

-- 1AH: eight bytes for each thermostat
unfoldable pub set_thermostats : List Link → List ℕ → List Thermostat → Request (List Thermostat)
set_thermostats ls d hs =
    refuse 8 (not (items_of 8 d))
    (refuse 11 (not (all group_fits (chunks 8 d)))
    (refuse 14 (any (group_clashes ls) (chunks 8 d))
    (accepting (foldl set_group hs (chunks 8 d)) [])))

unfoldable pub group_shown : List Thermostat → ℕ → List ℕ
group_shown hs n =
    let h = get_or hs (n - 1) fresh_thermostat in
    n ∷ h.flags ∷ bytes 2 (pattern_of h.tempx) ++ bytes 2 (pattern_of h.tempy) ++ h.time.0 ∷ h.err ∷ []

-- 1BH: the groups of the outputs listed, or without data of the sixteen
unfoldable pub read_thermostats : List ℕ → List Thermostat → Request (Unit {0})
read_thermostats d hs =
    let ns = cond (eqb (length d) 0) every_number d in
    refuse 8 (not (leb (length d) most_items)) (refuse 11 (not (all is_number ns)) (telling (flat_map (group_shown hs) ns)))

-- 12: an active thermostat leaves its output to commands (20H, 23H, 25H, coils, registers 500 to 515) only while the reading is valid
-- and in its band
unfoldable pub free : Reading → Thermostat → Bool
free (Valid t x) h = not (active h) || in_band h t
free Fault h = not (active h)

-- of output n
unfoldable pub free_at : Reading → List Thermostat → ℕ → Bool
free_at r hs n = free r (get_or hs (n - 1) fresh_thermostat)

-- A temperature sample ----------------------------------------------------------------------

-- SS 00 and 01 without the third S: outside the band the output is set, over TEMPx to `above` (on for 00, off for 01), under TEMPy to the
-- opposite; a set ends a pulse. Were TEMPx below TEMPy, above TEMPx would go first.
unfoldable pub levelled : Bool → Thermostat → ℤ → Output → Output
levelled above h now o = cond (lt_z h.tempx now) (output above 0) (cond (lt_z now h.tempy) (output (not above) 0) o)

-- SS 00 and 01 with the third S: the output is set at every valid sample, in the band to on for 00 and off for 01, outside it to the
-- opposite; K is not asked. SS 10 and 11, which no setting gives here, would go as 01.
unfoldable pub banded : Thermostat → ℤ → Output
banded h now = output (cond (in_band h now) (eqb (action h) 0) (not (eqb (action h) 0))) 0

-- has this reading passed TEMPx upward (K 0) or TEMPy downward (K 1), seen from the last valid one? where there was none yet, no
unfoldable pub crossed : Thermostat → Reading → ℤ → Bool
crossed h (Valid last x) now =
    cond (on_fall h) (le_z h.tempy last && lt_z now h.tempy) (le_z last h.tempx && lt_z h.tempx now)
crossed h Fault now = false

-- SS 10 and 11: such a passing starts a pulse of TIME, on or off first; a TIME of 0, which no setting gives, would be a plain set
unfoldable pub crossing : Bool → Thermostat → Reading → ℤ → Output → Output
crossing on h last now o = cond (crossed h last now) (output on (second_samples h.time)) o

-- a valid sample, for one output: an active thermostat acts by its three S. Another sensor than 1, which no setting gives, would act on the
-- one reading.
unfoldable pub heated : Reading → ℤ → Thermostat → Output → Output
heated last now h o =
    cond (not (active h)) o
    (cond (third_s h) (banded h now)
    (cond (eqb (action h) 0) (levelled true h now o)
    (cond (eqb (action h) 1) (levelled false h now o)
    (crossing (eqb (action h) 2) h last now o))))

-- a fault, for one output: with an active thermostat ERR 1 sets it off, ERR 2 on, ERR 0 leaves it; another, which no setting gives, would too
unfoldable pub failed : Thermostat → Output → Output
failed h o =
    cond (not (active h)) o
    (cond (eqb h.err 1) (output false 0)
    (cond (eqb h.err 2) (output true 0) o))

-- each output by its own thermostat
abbrev pub by_thermostat : (Thermostat → Output → Output) → List Thermostat → List Output → List Output
by_thermostat f hs os = mapi (λ i o. f (get_or hs i fresh_thermostat) o) os

-- a new reading; a valid one is the last valid from now on
unfoldable pub taken : Reading → Module → Module
taken (Valid t x) m = with_reading m (by_thermostat (heated m.last t) m.settings.thermostats m.outputs) (Valid t x) (Valid t x)
taken Fault m = with_reading m (by_thermostat failed m.settings.thermostats m.outputs) Fault m.last

-- Before the third S -------------------------------------------------------------------------

-- Flags were FSSKTTTT, with a sensor of four bits, and SS and K alone told what a thermostat does. No call goes by these: they stand
-- beside those above for the law that what could be stored then means now what it meant. What is the same then and now stands once:
-- F, SS and K, levels and crossings, and what a fault does.
abbrev pub sensor_before : Thermostat → ℕ
sensor_before h = h.flags % 16

abbrev pub setting_before : Thermostat → ℕ
setting_before h = h.flags / 16 % 8

unfoldable pub fits_before : Thermostat → Bool
fits_before h =
    leb h.err 2
    && (not (active h)
    || (eqb (sensor_before h) 1
    && (le_z h.tempy h.tempx
    && (ltb (action h) 2 || not (eqb h.time.0 0)))))

unfoldable pub free_before : Reading → Thermostat → Bool
free_before (Valid t x) h = not (active h) || (le_z h.tempy t && le_z t h.tempx)
free_before Fault h = not (active h)

unfoldable pub heated_before : Reading → ℤ → Thermostat → Output → Output
heated_before last now h o =
    cond (not (active h)) o
    (cond (eqb (action h) 0) (levelled true h now o)
    (cond (eqb (action h) 1) (levelled false h now o)
    (crossing (eqb (action h) 2) h last now o)))

unfoldable pub taken_before : Reading → Module → Module
taken_before (Valid t x) m = with_reading m (by_thermostat (heated_before m.last t) m.settings.thermostats m.outputs) (Valid t x) (Valid t x)
taken_before Fault m = with_reading m (by_thermostat failed m.settings.thermostats m.outputs) Fault m.last

-- a thermostat of the two modes that are new: what had been sensor 9 is the third S beside sensor 1
unfoldable pub is_new_mode : Thermostat → Bool
is_new_mode h = leb h.err 2 && (active h && (eqb (sensor_before h) 9 && (le_z h.tempy h.tempx && ltb (action h) 2)))

-- what a thermostat's settings were and are: nothing is stored but what was and the new modes, which were not; whatever is stored holds
-- as it did; and where it could be stored before, the third S is 0 if it acts, and it acts and shows as it did
pub record SettingKept (h : Thermostat) : Type 0 where
  pub stored : thermostat_fits h ≡ (fits_before h || is_new_mode h)
  pub apart : is_new_mode h ≡ true → fits_before h ≡ false
  pub holds : (r : Reading) → free r h ≡ free_before r h
  pub clear : fits_before h ≡ true → active h ≡ true → third_s h ≡ false
  pub acts : fits_before h ≡ true → (last : Reading) (now : ℤ) (o : Output) → heated last now h o ≡ heated_before last now h o
  pub shown : fits_before h ≡ true → active h ≡ true → setting_shown h ≡ setting_before h

-- and so a reading of either kind does to a module with such settings what it did
abbrev pub HeatKept : Module → Type 0
HeatKept m = all fits_before m.settings.thermostats ≡ true → (r : Reading) → taken r m ≡ taken_before r m

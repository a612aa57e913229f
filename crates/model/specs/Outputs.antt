-- 01, Outputs and notice: the outputs.
use Rattle.std.specs.Prelude.{ℕ, ◌+◌, ◌-◌, ◌/◌, ◌%◌, Bool, cond, not, ◌&&◌, ◌||◌, get_or, set, drop, ltb, eqb}
use mathlib.Core.List.{List, [], ◌∷◌, map, foldl}
use Rattle.lists.specs.Tests.{within, all}
use Rattle.lists.specs.Numbers.{bytes, bits_number}
use Rattle.lists.specs.Chunks.{chunks}
use Rattle.lists.specs.declared.Entry.{Entry}
use Rattle.lists.specs.Entries.{entry}
use Rattle.model.specs.declared.Output.{Output}
use Rattle.model.specs.declared.HalfSeconds.{HalfSeconds}
use Rattle.model.specs.declared.Preset.{Preset}
use Rattle.model.specs.declared.Thermostat.{Thermostat}
use Rattle.model.specs.declared.Reading.{Reading}
use Rattle.model.specs.State.{output, half_seconds, preset, fresh_output, fresh_preset, fresh_thermostat}
use Rattle.model.specs.Times.{half_second_samples}
use Rattle.model.specs.Refusals.{Request, accepting, telling, refuse}
use Rattle.model.specs.Counters.{is_number, items_of, some_data}
use Rattle.model.specs.Temperature.{active, setting_shown, free_at}

-- Pulses ------------------------------------------------------------------------------

-- one sample of an output: the last one of its pulse inverts it
unfoldable pub pulsed : Output → Output
pulsed o =
    cond (eqb o.left 0) o
    (cond (eqb o.left 1) (output (not o.on) 0)
    (output o.on (o.left - 1)))

-- remaining time (01): a half second begun counts whole; no pulse is 0, and what a byte does not hold shows as 255
unfoldable pub remaining : ℕ → ℕ
remaining left = cond (ltb 255 ((left + 499) / 500)) 255 ((left + 499) / 500)

-- Setting outputs -----------------------------------------------------------------------

-- set byte (01): the top bit for on, below it the output's number; as an entry, the value 1 for on
unfoldable pub set_byte : ℕ → Entry
set_byte b = entry (b % 128) (b / 128)

abbrev pub turns_on : Entry → Bool
turns_on e = eqb e.value 1

abbrev pub number_fits : Entry → Bool
number_fits e = is_number e.number

-- a set: no pulse is left there
unfoldable pub set_output : List Output → Entry → List Output
set_output os e = set os (e.number - 1) (output (turns_on e) 0)

-- a pulse of so many samples from the state it first takes
unfoldable pub start_pulse : HalfSeconds → List Output → Entry → List Output
start_pulse time os e = set os (e.number - 1) (output (turns_on e) (half_second_samples time))

-- the outputs of some entries, none held, after `act`
unfoldable pub act_on : (List Output → Entry → List Output) → Reading → List Thermostat → List Entry → List Output → Request (List Output)
act_on act r hs es os =
    refuse 11 (not (all number_fits es))
    (refuse 12 (not (all (λ e. free_at r hs e.number) es))
    (accepting (foldl act os es) []))

-- 20H: a set byte for each output
unfoldable pub set_outputs : Reading → List Thermostat → List ℕ → List Output → Request (List Output)
set_outputs r hs d os = refuse 8 (not (items_of 1 d)) (act_on set_output r hs (map set_byte d) os)

-- pulses of one time; 0 is refused 11, and so is one over 255, which only text can name (E2)
unfoldable pub pulse_outputs : HalfSeconds → Reading → List Thermostat → List Entry → List Output → Request (List Output)
pulse_outputs time r hs es os =
    refuse 11 (not (within 1 255 time.0)) (act_on (start_pulse time) r hs es os)

-- 23H: a byte of time for them all, then a set byte for each output
unfoldable pub set_pulses : Reading → List Thermostat → List ℕ → List Output → Request (List Output)
set_pulses r hs d os = refuse 8 (not (items_of 1 (drop 1 d))) (pulse_outputs (half_seconds (get_or d 0 0)) r hs (map set_byte (drop 1 d)) os)

-- Presets -----------------------------------------------------------------------------

-- a preset's three bytes: an output that there is, then no pulse (0), or one that begins with on (2) or off (3) and has a time
unfoldable pub preset_settable : List ℕ → Bool
preset_settable c =
    is_number (get_or c 0 0)
    && (eqb (get_or c 1 0) 0
    || ((eqb (get_or c 1 0) 2 || eqb (get_or c 1 0) 3) && within 1 255 (get_or c 2 0)))

unfoldable pub set_preset : List Preset → List ℕ → List Preset
set_preset ps c = set ps (get_or c 0 0 - 1) (preset (get_or c 1 0) (get_or c 2 0))

-- 26H: three bytes for each preset
unfoldable pub set_presets : List ℕ → List Preset → Request (List Preset)
set_presets d ps = refuse 8 (not (items_of 3 d)) (refuse 11 (not (all preset_settable (chunks 3 d))) (accepting (foldl set_preset ps (chunks 3 d)) []))

abbrev pub preset_of : List Preset → ℕ → Preset
preset_of ps n = get_or ps (n - 1) fresh_preset

-- one preset started. No setting gives a type other than 0, 2 and 3, which would start off first and show as it is stored, nor a time 0
-- with type 2 or 3, which would be a plain set.
unfoldable pub start_preset : List Preset → List Output → ℕ → List Output
start_preset ps os n = set os (n - 1) (output (eqb (preset_of ps n).kind 2) (half_second_samples (preset_of ps n).time))

-- 25H: a preset of type 0 has no pulse to start, which is refused 11
unfoldable pub preset_ready : List Preset → ℕ → Bool
preset_ready ps n = is_number n && not (eqb (preset_of ps n).kind 0)

unfoldable pub start_presets : List Preset → Reading → List Thermostat → List ℕ → List Output → Request (List Output)
start_presets ps r hs d os =
    refuse 8 (not (items_of 1 d))
    (refuse 11 (not (all (preset_ready ps) d))
    (refuse 12 (not (all (free_at r hs) d))
    (accepting (foldl (start_preset ps) os d) [])))

-- Reading outputs -----------------------------------------------------------------------

-- 33H: the set byte of the state it is in, then what is left of its pulse
unfoldable pub pulse_shown : List Output → ℕ → List ℕ
pulse_shown os n =
    let o = get_or os (n - 1) fresh_output in
    (cond o.on 128 0 + n) ∷ remaining o.left ∷ []

-- 36H: the preset as it is stored
unfoldable pub preset_shown : List Preset → ℕ → List ℕ
preset_shown ps n = (preset_of ps n).kind ∷ (preset_of ps n).time.0 ∷ []

-- 38H: an active thermostat shows as A0H with its third S, SS and K for the low four bits; without one, the preset's type
unfoldable pub mode_byte : List Thermostat → List Preset → ℕ → List ℕ
mode_byte hs ps n =
    let h = get_or hs (n - 1) fresh_thermostat in
    cond (active h) (0xA0 + setting_shown h) (preset_of ps n).kind ∷ []

abbrev pub output_states : List Output → List Bool
output_states os = map (λ (o : Output). o.on) os

-- 30H, 31H: one word, whose lowest bit is number 1
abbrev pub states_shown : List Bool → List ℕ
states_shown bs = bytes 2 (bits_number bs)

unfoldable pub read_states : List ℕ → List Bool → Request (Unit {0})
read_states d bs = refuse 8 (some_data d) (telling (states_shown bs))

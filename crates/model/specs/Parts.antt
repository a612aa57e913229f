-- What each call may change: a line for each instruction, function and group of registers. A line gives the state without the parts
-- that may change; what is left of the state must be as it was before the call.
use Rattle.std.specs.Prelude.{ℕ, cond, false, List, [], map, ◌≡◌, eqb, Option, Some, None}
use Rattle.lists.specs.Tests.{within}
use Rattle.model.specs.declared.Line.{Line}
use Rattle.model.specs.declared.Port.{Port}
use Rattle.model.specs.declared.Reading.TheVariants.{Fault}
use Rattle.model.specs.declared.Module.{Module}
use Rattle.model.specs.declared.TextCode.{TextCode}
use Rattle.model.specs.declared.TextCode.TheVariants.{ReadInput, ReadOutput, SetOutput, PulseOutput, ReadTemperature, SetNotice, ReadNotice, GivePermission, SetAddress, SetSpeed}
use Rattle.model.specs.State.{line, notice, turned_off, port, with_modes, with_counters, with_sampling, with_inputs, with_outputs, with_presets, with_links, with_thermostats, with_reading, with_notice, with_sum_tested, with_spinel, with_modbus}
use Rattle.model.specs.Frames.{instruction_of, function_of, modbus_body}
use Rattle.model.specs.Modbus.{start_of}
use Rattle.model.specs.Text.{is_text, characters, typed}
use Rattle.model.specs.Call.{Act, Call, sample, temperature, spinel, modbus}
use Rattle.model.specs.Calls.{step}

-- the state without a part

abbrev with_lines : Module → List Line → Module
with_lines m ls = with_inputs m (record { lines = ls; counters = m.inputs.counters })

-- stable states and runs
abbrev pub without_lines : Module → Module
without_lines m = with_lines m []

-- runs alone
abbrev pub without_runs : Module → Module
without_runs m = with_lines m (map (λ (y : Line). line y.stable 0) m.inputs.lines)

abbrev pub without_modes : Module → Module
without_modes m = with_modes m []

abbrev pub without_counters : Module → Module
without_counters m = with_counters m []

abbrev pub without_sampling : Module → Module
without_sampling m = with_sampling m 0

abbrev pub without_outputs : Module → Module
without_outputs m = with_outputs m []

abbrev pub without_presets : Module → Module
without_presets m = with_presets m []

abbrev pub without_links : Module → Module
without_links m = with_links m []

abbrev pub without_thermostats : Module → Module
without_thermostats m = with_thermostats m []

-- the reading now, and the last valid one
abbrev pub without_readings : Module → Module
without_readings m = with_reading m m.outputs Fault Fault

abbrev pub without_notice : Module → Module
without_notice m = with_notice m (notice 0 0 0)

-- the notice's format and mask
abbrev pub without_format : Module → Module
without_format m = with_notice m (turned_off m.settings.notice)

abbrev pub without_sum_test : Module → Module
without_sum_test m = with_sum_tested m false

-- a port's address and speed, and its permission

abbrev unset : Port → Port
unset p = port 0 0 p.permitted

abbrev unpermitted : Port → Port
unpermitted p = port p.address p.speed false

abbrev pub without_spinel_settings : Module → Module
without_spinel_settings m = with_spinel m (unset m.spinel)

abbrev pub without_spinel_address : Module → Module
without_spinel_address m = with_spinel m (port 0 m.spinel.speed m.spinel.permitted)

abbrev pub without_spinel_speed : Module → Module
without_spinel_speed m = with_spinel m (port m.spinel.address 0 m.spinel.permitted)

abbrev pub without_modbus_settings : Module → Module
without_modbus_settings m = with_modbus m (unset m.modbus)

abbrev pub without_spinel_permission : Module → Module
without_spinel_permission m = with_spinel m (unpermitted m.spinel)

abbrev pub without_modbus_permission : Module → Module
without_modbus_permission m = with_modbus m (unpermitted m.modbus)

-- what a reset zeroes and ends
abbrev pub without_running : Module → Module
without_running m = without_runs (without_counters (without_outputs (without_spinel_permission (without_modbus_permission m))))

-- Each may use its port's permission up; that is all that is left to an instruction or function without a line.

unfoldable pub spinel_leaves : ℕ → Module → Module
spinel_leaves i m =
    cond (eqb i 0x10) (without_notice m)
    (cond (eqb i 0x1A) (without_thermostats m)
    (cond (eqb i 0x20) (without_outputs m)
    (cond (eqb i 0x23) (without_outputs m)
    (cond (eqb i 0x25) (without_outputs m)
    (cond (eqb i 0x26) (without_presets m)
    (cond (eqb i 0x40) (without_links m)
    (cond (eqb i 0x60) (without_counters m)
    (cond (eqb i 0x61) (without_counters m)
    (cond (eqb i 0x62) (without_sampling m)
    (cond (eqb i 0x6A) (without_modes m)
    (cond (eqb i 0xE0) (without_spinel_settings (without_running m))
    (cond (eqb i 0xE3) (without_running m)
    (cond (eqb i 0xEE) (without_sum_test m)
    m)))))))))))))

-- by a text frame's code (E2); IS leaves the signature, AS sets the address alone, SS the speed
unfoldable pub text_leaves : Option TextCode → Module → Module
text_leaves (Some SetOutput) m = without_outputs m
text_leaves (Some PulseOutput) m = without_outputs m
text_leaves (Some SetNotice) m = without_format m
text_leaves (Some SetAddress) m = without_spinel_address (without_running m)
text_leaves (Some SetSpeed) m = without_spinel_speed (without_running m)
text_leaves (Some ReadInput) m = m
text_leaves (Some ReadOutput) m = m
text_leaves (Some ReadTemperature) m = m
text_leaves (Some ReadNotice) m = m
text_leaves (Some GivePermission) m = m
text_leaves None m = m

-- a write of registers from r on
unfoldable pub registers_leave : ℕ → Module → Module
registers_leave r m =
    cond (within 1 2 r) (without_modbus_settings (without_running m))
    (cond (within 100 115 r) (without_counters m)
    (cond (within 200 215 r) (without_counters m)
    (cond (within 300 315 r) (without_modes m)
    (cond (within 500 515 r) (without_outputs m)
    (cond (within 600 663 r) (without_thermostats m)
    m)))))

unfoldable pub modbus_leaves : ℕ → ℕ → Module → Module
modbus_leaves fn r m =
    cond (eqb fn 0x05) (without_outputs m)
    (cond (eqb fn 0x06) (registers_leave r m)
    (cond (eqb fn 0x0F) (without_outputs m)
    (cond (eqb fn 0x10) (registers_leave r m)
    m)))

-- the same for every call
unfoldable pub leaves : Act → Module → Module
leaves (sample bits) m = without_lines (without_counters (without_outputs m))
leaves (temperature good tenths) m = without_readings (without_outputs m)
leaves (spinel f) m = cond (is_text f) (text_leaves (typed (characters f)).code (without_spinel_permission m)) (spinel_leaves (instruction_of f) (without_spinel_permission m))
leaves (modbus f) m = modbus_leaves (function_of f) (start_of (modbus_body f)) (without_modbus_permission m)

-- for every state and call
abbrev pub PartsKept : Type 0
PartsKept = (m : Module) (c : Call) → leaves c.act (step m c).after ≡ leaves c.act m

-- The state: its fresh value, and each part put in place of the old.
use Rattle.std.specs.Prelude.{ℕ, Bool, true, false, not, List, replicate, ℤ, pos, eqb}
use Rattle.model.specs.declared.Line.{Line}
use Rattle.model.specs.declared.Inputs.{Inputs}
use Rattle.model.specs.declared.Output.{Output}
use Rattle.model.specs.declared.HalfSeconds.{HalfSeconds}
use Rattle.model.specs.declared.Seconds.{Seconds}
use Rattle.model.specs.declared.Preset.{Preset}
use Rattle.model.specs.declared.Link.{Link}
use Rattle.model.specs.declared.Thermostat.{Thermostat}
use Rattle.model.specs.declared.Reading.{Reading}
use Rattle.model.specs.declared.Reading.TheVariants.{Fault}
use Rattle.model.specs.declared.Notice.{Notice}
use Rattle.model.specs.declared.Settings.{Settings}
use Rattle.model.specs.declared.Port.{Port}
use Rattle.model.specs.declared.Module.{Module}

abbrev pub line : Bool → ℕ → Line
line stable run = record { stable = stable; run = run }

abbrev pub output : Bool → ℕ → Output
output on left = record { on = on; left = left }

abbrev pub half_seconds : ℕ → HalfSeconds
half_seconds n = record { 0 = n }

abbrev pub seconds : ℕ → Seconds
seconds n = record { 0 = n }

abbrev pub preset : ℕ → ℕ → Preset
preset kind time = record { kind = kind; time = half_seconds time }

abbrev pub link : ℕ → ℕ → Link
link input action = record { input = input; action = action }

abbrev pub thermostat : ℕ → ℤ → ℤ → ℕ → ℕ → Thermostat
thermostat flags x y time err = record { flags = flags; tempx = x; tempy = y; time = seconds time; err = err }

abbrev pub notice : ℕ → ℕ → ℕ → Notice
notice format mask signature = record { format = format; mask = mask; signature = signature }

abbrev pub port : ℕ → ℕ → Bool → Port
port address speed permitted = record { address = address; speed = speed; permitted = permitted }

-- a line, an output, .. that nothing was done to; a fresh list holds sixteen
abbrev pub fresh_line : Line
fresh_line = line false 0

abbrev pub fresh_output : Output
fresh_output = output false 0

abbrev pub fresh_preset : Preset
fresh_preset = preset 0 0

-- E8: no link
abbrev pub fresh_link : Link
fresh_link = link 0 0

-- 01, Temperature: all its bytes 0, and so inactive
abbrev pub fresh_thermostat : Thermostat
fresh_thermostat = thermostat 0 (pos 0) (pos 0) 0 0

-- fresh (01): nothing is on, counted, set or read yet; the sampling number is 20, each port has the address 31H and the speed code 6, and SUM
-- is tested (E5)
unfoldable pub fresh_module : Module
fresh_module = record {
  inputs = record { lines = replicate 16 fresh_line; counters = replicate 16 0 };
  outputs = replicate 16 fresh_output;
  settings = record {
    modes = replicate 16 0;
    sampling = 20;
    presets = replicate 16 fresh_preset;
    links = replicate 16 fresh_link;
    thermostats = replicate 16 fresh_thermostat;
    notice = notice 0 0 0;
    sum_tested = true;
  };
  reading = Fault;
  last = Fault;
  spinel = port 0x31 6 false;
  modbus = port 0x31 6 false;
}

-- one part of the module put in place

abbrev pub with_inputs : Module → Inputs → Module
with_inputs m x = record { inputs = x; outputs = m.outputs; settings = m.settings; reading = m.reading; last = m.last; spinel = m.spinel; modbus = m.modbus }

abbrev pub with_outputs : Module → List Output → Module
with_outputs m o = record { inputs = m.inputs; outputs = o; settings = m.settings; reading = m.reading; last = m.last; spinel = m.spinel; modbus = m.modbus }

abbrev pub with_settings : Module → Settings → Module
with_settings m s = record { inputs = m.inputs; outputs = m.outputs; settings = s; reading = m.reading; last = m.last; spinel = m.spinel; modbus = m.modbus }

-- what a temperature sample changes
abbrev pub with_reading : Module → List Output → Reading → Reading → Module
with_reading m o r l = record { inputs = m.inputs; outputs = o; settings = m.settings; reading = r; last = l; spinel = m.spinel; modbus = m.modbus }

abbrev pub with_spinel : Module → Port → Module
with_spinel m p = record { inputs = m.inputs; outputs = m.outputs; settings = m.settings; reading = m.reading; last = m.last; spinel = p; modbus = m.modbus }

abbrev pub with_modbus : Module → Port → Module
with_modbus m p = record { inputs = m.inputs; outputs = m.outputs; settings = m.settings; reading = m.reading; last = m.last; spinel = m.spinel; modbus = p }

-- one part of the inputs or of the settings

abbrev pub with_counters : Module → List ℕ → Module
with_counters m cs = with_inputs m (record { lines = m.inputs.lines; counters = cs })

abbrev pub with_modes : Module → List ℕ → Module
with_modes m ms = with_settings m (record { modes = ms; sampling = m.settings.sampling; presets = m.settings.presets; links = m.settings.links; thermostats = m.settings.thermostats; notice = m.settings.notice; sum_tested = m.settings.sum_tested })

abbrev pub with_sampling : Module → ℕ → Module
with_sampling m n = with_settings m (record { modes = m.settings.modes; sampling = n; presets = m.settings.presets; links = m.settings.links; thermostats = m.settings.thermostats; notice = m.settings.notice; sum_tested = m.settings.sum_tested })

abbrev pub with_presets : Module → List Preset → Module
with_presets m ps = with_settings m (record { modes = m.settings.modes; sampling = m.settings.sampling; presets = ps; links = m.settings.links; thermostats = m.settings.thermostats; notice = m.settings.notice; sum_tested = m.settings.sum_tested })

abbrev pub with_links : Module → List Link → Module
with_links m ls = with_settings m (record { modes = m.settings.modes; sampling = m.settings.sampling; presets = m.settings.presets; links = ls; thermostats = m.settings.thermostats; notice = m.settings.notice; sum_tested = m.settings.sum_tested })

abbrev pub with_thermostats : Module → List Thermostat → Module
with_thermostats m hs = with_settings m (record { modes = m.settings.modes; sampling = m.settings.sampling; presets = m.settings.presets; links = m.settings.links; thermostats = hs; notice = m.settings.notice; sum_tested = m.settings.sum_tested })

abbrev pub with_notice : Module → Notice → Module
with_notice m n = with_settings m (record { modes = m.settings.modes; sampling = m.settings.sampling; presets = m.settings.presets; links = m.settings.links; thermostats = m.settings.thermostats; notice = n; sum_tested = m.settings.sum_tested })

abbrev pub with_sum_tested : Module → Bool → Module
with_sum_tested m b = with_settings m (record { modes = m.settings.modes; sampling = m.settings.sampling; presets = m.settings.presets; links = m.settings.links; thermostats = m.settings.thermostats; notice = m.settings.notice; sum_tested = b })

-- is there a link? Action 0 is none
abbrev pub has_link : Link → Bool
has_link l = not (eqb l.action 0)

-- on: any format byte but 0; 10H stores 61H or 0, IS 42H or 0 (E2)
abbrev pub is_on : Notice → Bool
is_on n = not (eqb n.format 0)

-- off, with no input in its mask; the signature stays, and nothing shows it
abbrev pub turned_off : Notice → Notice
turned_off n = notice 0 0 n.signature

-- permission (01): whether the next frame that 1 to 6 let through may configure the port
abbrev pub permit : Bool → Port → Port
permit b p = port p.address p.speed b

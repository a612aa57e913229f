-- 02, E4: a state from before the counters had 32 bits, in the module of now. Every field keeps its value.
use Rattle.std.specs.Prelude.{true, replicate}
use Rattle.model.specs.declared.Inputs.{Inputs}
use Rattle.model.specs.declared.Settings.{Settings}
use Rattle.model.specs.declared.Port.{Port}
use Rattle.model.specs.declared.Module.{Module}
use Rattle.model.specs.State.{fresh_link}
use Rattle.takeover.specs.declared.InputsBefore.{InputsBefore}
use Rattle.takeover.specs.declared.SettingsBefore.{SettingsBefore}
use Rattle.takeover.specs.declared.PortBefore.{PortBefore}
use Rattle.takeover.specs.declared.ModuleBefore.{ModuleBefore}

-- stable states and runs, and what was counted
abbrev pub inputs_over : InputsBefore → Inputs
inputs_over x = record { lines = x.lines; counters = x.counters }

-- before, no output had a link, and SUM was always tested
abbrev pub settings_over : SettingsBefore → Settings
settings_over s = record {
  modes = s.modes;
  sampling = s.sampling;
  presets = s.presets;
  links = replicate 16 fresh_link;
  thermostats = s.thermostats;
  notice = s.notice;
  sum_tested = true;
}

-- a permission that was given still stands
abbrev pub port_over : PortBefore → Port
port_over p = record { address = p.address; speed = p.speed; permitted = p.permitted }

abbrev pub taken_over : ModuleBefore → Module
taken_over b = record {
  inputs = inputs_over b.inputs;
  outputs = b.outputs;
  settings = settings_over b.settings;
  reading = b.reading;
  last = b.last;
  spinel = port_over b.spinel;
  modbus = port_over b.modbus;
}

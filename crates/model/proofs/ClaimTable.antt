-- What claims are said with: the parts that each call leaves, and the calls that reset. Written by reference/tables.py. Assumes nothing.
use Prim.Native.Nat.{ℕ}
use mathlib.Core.Bool.{true, false, cond}
use mathlib.Core.Path.{refl, ◌≡◌}
use mathlib.Core.List.{[], ◌∷◌, List}
use lib.ListN.{get_or}
use lib.IntN.{pos}
use Rattle.model.specs.State.{line, output, preset, link, thermostat, notice, port, fresh_line, fresh_output, fresh_preset, fresh_link}
use Rattle.model.specs.State.{fresh_thermostat}
use Rattle.model.specs.declared.Reading.TheVariants.{Valid}
use lib.Ieee.{of_bits, binary32}
use Rattle.model.specs.Call.{Call}
use Rattle.model.proofs.Computing.{computing}
use Rattle.model.specs.declared.Module.{Module}
use Rattle.model.specs.Temperature.{reading_words}
use Rattle.model.specs.Demand1.{resets_module}
use Rattle.model.specs.Parts.{leaves}
use Rattle.model.proofs.Exchanges.{sample_of, temperature_of, spinel_frame, asked, asked_at, sent, requested, written, switched}

-- a state of which every part shows a number of its own, 1 to 21
abbrev marked : Module
marked = record {
  inputs = record { lines = line true 2 ∷ []; counters = 4 ∷ [] };
  outputs = output true 6 ∷ [];
  settings = record {
    modes = 3 ∷ [];
    sampling = 5;
    presets = preset 7 7 ∷ [];
    links = link 21 21 ∷ [];
    thermostats = thermostat 8 (pos 8) (pos 8) 8 8 ∷ [];
    notice = notice 11 12 13;
    sum_tested = true;
  };
  reading = Valid (pos 9) (of_bits binary32 9);
  last = Valid (pos 10) (of_bits binary32 10);
  spinel = port 15 16 true;
  modbus = port 18 19 true;
}

-- the parts in that order; 0 for one that is not there
abbrev parts : Module → List ℕ
parts m =
    cond (get_or m.inputs.lines 0 fresh_line).stable 1 0
    ∷ (get_or m.inputs.lines 0 fresh_line).run
    ∷ get_or m.settings.modes 0 0
    ∷ get_or m.inputs.counters 0 0
    ∷ m.settings.sampling
    ∷ (get_or m.outputs 0 fresh_output).left
    ∷ (get_or m.settings.presets 0 fresh_preset).kind
    ∷ (get_or m.settings.thermostats 0 fresh_thermostat).flags
    ∷ get_or (reading_words m.reading) 1 0
    ∷ get_or (reading_words m.last) 1 0
    ∷ m.settings.notice.format
    ∷ m.settings.notice.mask
    ∷ m.settings.notice.signature
    ∷ cond m.settings.sum_tested 14 0
    ∷ m.spinel.address
    ∷ m.spinel.speed
    ∷ cond m.spinel.permitted 17 0
    ∷ m.modbus.address
    ∷ m.modbus.speed
    ∷ cond m.modbus.permitted 20 0
    ∷ (get_or m.settings.links 0 fresh_link).action
    ∷ []

-- what a call leaves of it
abbrev left : Call → List ℕ
left c = parts (leaves c.act marked)

pub record ClaimTable : Type 0 where
  pub sample : left (sample_of 0) ≡ 0 ∷ 0 ∷ 3 ∷ 0 ∷ 5 ∷ 0 ∷ 7 ∷ 8 ∷ 9 ∷ 10 ∷ 11 ∷ 12 ∷ 13 ∷ 14 ∷ 15 ∷ 16 ∷ 17 ∷ 18 ∷ 19 ∷ 20 ∷ 21 ∷ []
  pub temperature : left (temperature_of true (pos 0)) ≡ 1 ∷ 2 ∷ 3 ∷ 4 ∷ 5 ∷ 0 ∷ 7 ∷ 8 ∷ 0 ∷ 0 ∷ 11 ∷ 12 ∷ 13 ∷ 14 ∷ 15 ∷ 16 ∷ 17 ∷ 18 ∷ 19 ∷ 20 ∷ 21 ∷ []
  pub spinel_0f : left (asked 0x0F []) ≡ 1 ∷ 2 ∷ 3 ∷ 4 ∷ 5 ∷ 6 ∷ 7 ∷ 8 ∷ 9 ∷ 10 ∷ 11 ∷ 12 ∷ 13 ∷ 14 ∷ 15 ∷ 16 ∷ 0 ∷ 18 ∷ 19 ∷ 20 ∷ 21 ∷ []
  pub spinel10 : left (asked 0x10 []) ≡ 1 ∷ 2 ∷ 3 ∷ 4 ∷ 5 ∷ 6 ∷ 7 ∷ 8 ∷ 9 ∷ 10 ∷ 0 ∷ 0 ∷ 0 ∷ 14 ∷ 15 ∷ 16 ∷ 0 ∷ 18 ∷ 19 ∷ 20 ∷ 21 ∷ []
  pub spinel11 : left (asked 0x11 []) ≡ 1 ∷ 2 ∷ 3 ∷ 4 ∷ 5 ∷ 6 ∷ 7 ∷ 8 ∷ 9 ∷ 10 ∷ 11 ∷ 12 ∷ 13 ∷ 14 ∷ 15 ∷ 16 ∷ 0 ∷ 18 ∷ 19 ∷ 20 ∷ 21 ∷ []
  pub spinel_1a : left (asked 0x1A []) ≡ 1 ∷ 2 ∷ 3 ∷ 4 ∷ 5 ∷ 6 ∷ 7 ∷ 0 ∷ 9 ∷ 10 ∷ 11 ∷ 12 ∷ 13 ∷ 14 ∷ 15 ∷ 16 ∷ 0 ∷ 18 ∷ 19 ∷ 20 ∷ 21 ∷ []
  pub spinel_1b : left (asked 0x1B []) ≡ 1 ∷ 2 ∷ 3 ∷ 4 ∷ 5 ∷ 6 ∷ 7 ∷ 8 ∷ 9 ∷ 10 ∷ 11 ∷ 12 ∷ 13 ∷ 14 ∷ 15 ∷ 16 ∷ 0 ∷ 18 ∷ 19 ∷ 20 ∷ 21 ∷ []
  pub spinel20 : left (asked 0x20 []) ≡ 1 ∷ 2 ∷ 3 ∷ 4 ∷ 5 ∷ 0 ∷ 7 ∷ 8 ∷ 9 ∷ 10 ∷ 11 ∷ 12 ∷ 13 ∷ 14 ∷ 15 ∷ 16 ∷ 0 ∷ 18 ∷ 19 ∷ 20 ∷ 21 ∷ []
  pub spinel22 : left (asked 0x22 []) ≡ 1 ∷ 2 ∷ 3 ∷ 4 ∷ 5 ∷ 6 ∷ 7 ∷ 8 ∷ 9 ∷ 10 ∷ 11 ∷ 12 ∷ 13 ∷ 14 ∷ 15 ∷ 16 ∷ 0 ∷ 18 ∷ 19 ∷ 20 ∷ 21 ∷ []
  pub spinel23 : left (asked 0x23 []) ≡ 1 ∷ 2 ∷ 3 ∷ 4 ∷ 5 ∷ 0 ∷ 7 ∷ 8 ∷ 9 ∷ 10 ∷ 11 ∷ 12 ∷ 13 ∷ 14 ∷ 15 ∷ 16 ∷ 0 ∷ 18 ∷ 19 ∷ 20 ∷ 21 ∷ []
  pub spinel24 : left (asked 0x24 []) ≡ 1 ∷ 2 ∷ 3 ∷ 4 ∷ 5 ∷ 6 ∷ 7 ∷ 8 ∷ 9 ∷ 10 ∷ 11 ∷ 12 ∷ 13 ∷ 14 ∷ 15 ∷ 16 ∷ 0 ∷ 18 ∷ 19 ∷ 20 ∷ 21 ∷ []
  pub spinel25 : left (asked 0x25 []) ≡ 1 ∷ 2 ∷ 3 ∷ 4 ∷ 5 ∷ 0 ∷ 7 ∷ 8 ∷ 9 ∷ 10 ∷ 11 ∷ 12 ∷ 13 ∷ 14 ∷ 15 ∷ 16 ∷ 0 ∷ 18 ∷ 19 ∷ 20 ∷ 21 ∷ []
  pub spinel26 : left (asked 0x26 []) ≡ 1 ∷ 2 ∷ 3 ∷ 4 ∷ 5 ∷ 6 ∷ 0 ∷ 8 ∷ 9 ∷ 10 ∷ 11 ∷ 12 ∷ 13 ∷ 14 ∷ 15 ∷ 16 ∷ 0 ∷ 18 ∷ 19 ∷ 20 ∷ 21 ∷ []
  pub spinel30 : left (asked 0x30 []) ≡ 1 ∷ 2 ∷ 3 ∷ 4 ∷ 5 ∷ 6 ∷ 7 ∷ 8 ∷ 9 ∷ 10 ∷ 11 ∷ 12 ∷ 13 ∷ 14 ∷ 15 ∷ 16 ∷ 0 ∷ 18 ∷ 19 ∷ 20 ∷ 21 ∷ []
  pub spinel_3f : left (asked 0x3F []) ≡ 1 ∷ 2 ∷ 3 ∷ 4 ∷ 5 ∷ 6 ∷ 7 ∷ 8 ∷ 9 ∷ 10 ∷ 11 ∷ 12 ∷ 13 ∷ 14 ∷ 15 ∷ 16 ∷ 0 ∷ 18 ∷ 19 ∷ 20 ∷ 21 ∷ []
  pub spinel40 : left (asked 0x40 []) ≡ 1 ∷ 2 ∷ 3 ∷ 4 ∷ 5 ∷ 6 ∷ 7 ∷ 8 ∷ 9 ∷ 10 ∷ 11 ∷ 12 ∷ 13 ∷ 14 ∷ 15 ∷ 16 ∷ 0 ∷ 18 ∷ 19 ∷ 20 ∷ 0 ∷ []
  pub spinel41 : left (asked 0x41 []) ≡ 1 ∷ 2 ∷ 3 ∷ 4 ∷ 5 ∷ 6 ∷ 7 ∷ 8 ∷ 9 ∷ 10 ∷ 11 ∷ 12 ∷ 13 ∷ 14 ∷ 15 ∷ 16 ∷ 0 ∷ 18 ∷ 19 ∷ 20 ∷ 21 ∷ []
  pub spinel42 : left (asked 0x42 []) ≡ 1 ∷ 2 ∷ 3 ∷ 4 ∷ 5 ∷ 6 ∷ 7 ∷ 8 ∷ 9 ∷ 10 ∷ 11 ∷ 12 ∷ 13 ∷ 14 ∷ 15 ∷ 16 ∷ 0 ∷ 18 ∷ 19 ∷ 20 ∷ 21 ∷ []
  pub spinel51 : left (asked 0x51 []) ≡ 1 ∷ 2 ∷ 3 ∷ 4 ∷ 5 ∷ 6 ∷ 7 ∷ 8 ∷ 9 ∷ 10 ∷ 11 ∷ 12 ∷ 13 ∷ 14 ∷ 15 ∷ 16 ∷ 0 ∷ 18 ∷ 19 ∷ 20 ∷ 21 ∷ []
  pub spinel60 : left (asked 0x60 []) ≡ 1 ∷ 2 ∷ 3 ∷ 0 ∷ 5 ∷ 6 ∷ 7 ∷ 8 ∷ 9 ∷ 10 ∷ 11 ∷ 12 ∷ 13 ∷ 14 ∷ 15 ∷ 16 ∷ 0 ∷ 18 ∷ 19 ∷ 20 ∷ 21 ∷ []
  pub spinel61 : left (asked 0x61 []) ≡ 1 ∷ 2 ∷ 3 ∷ 0 ∷ 5 ∷ 6 ∷ 7 ∷ 8 ∷ 9 ∷ 10 ∷ 11 ∷ 12 ∷ 13 ∷ 14 ∷ 15 ∷ 16 ∷ 0 ∷ 18 ∷ 19 ∷ 20 ∷ 21 ∷ []
  pub spinel62 : left (asked 0x62 []) ≡ 1 ∷ 2 ∷ 3 ∷ 4 ∷ 0 ∷ 6 ∷ 7 ∷ 8 ∷ 9 ∷ 10 ∷ 11 ∷ 12 ∷ 13 ∷ 14 ∷ 15 ∷ 16 ∷ 0 ∷ 18 ∷ 19 ∷ 20 ∷ 21 ∷ []
  pub spinel63 : left (asked 0x63 []) ≡ 1 ∷ 2 ∷ 3 ∷ 4 ∷ 5 ∷ 6 ∷ 7 ∷ 8 ∷ 9 ∷ 10 ∷ 11 ∷ 12 ∷ 13 ∷ 14 ∷ 15 ∷ 16 ∷ 0 ∷ 18 ∷ 19 ∷ 20 ∷ 21 ∷ []
  pub spinel_6a : left (asked 0x6A []) ≡ 1 ∷ 2 ∷ 0 ∷ 4 ∷ 5 ∷ 6 ∷ 7 ∷ 8 ∷ 9 ∷ 10 ∷ 11 ∷ 12 ∷ 13 ∷ 14 ∷ 15 ∷ 16 ∷ 0 ∷ 18 ∷ 19 ∷ 20 ∷ 21 ∷ []
  pub spinel_6b : left (asked 0x6B []) ≡ 1 ∷ 2 ∷ 3 ∷ 4 ∷ 5 ∷ 6 ∷ 7 ∷ 8 ∷ 9 ∷ 10 ∷ 11 ∷ 12 ∷ 13 ∷ 14 ∷ 15 ∷ 16 ∷ 0 ∷ 18 ∷ 19 ∷ 20 ∷ 21 ∷ []
  pub spinel_df : left (asked 0xDF []) ≡ 1 ∷ 2 ∷ 3 ∷ 4 ∷ 5 ∷ 6 ∷ 7 ∷ 8 ∷ 9 ∷ 10 ∷ 11 ∷ 12 ∷ 13 ∷ 14 ∷ 15 ∷ 16 ∷ 0 ∷ 18 ∷ 19 ∷ 20 ∷ 21 ∷ []
  pub spinel_e_0 : left (asked 0xE0 []) ≡ 1 ∷ 0 ∷ 3 ∷ 0 ∷ 5 ∷ 0 ∷ 7 ∷ 8 ∷ 9 ∷ 10 ∷ 11 ∷ 12 ∷ 13 ∷ 14 ∷ 0 ∷ 0 ∷ 0 ∷ 18 ∷ 19 ∷ 0 ∷ 21 ∷ []
  pub spinel_e_1 : left (asked 0xE1 []) ≡ 1 ∷ 2 ∷ 3 ∷ 4 ∷ 5 ∷ 6 ∷ 7 ∷ 8 ∷ 9 ∷ 10 ∷ 11 ∷ 12 ∷ 13 ∷ 14 ∷ 15 ∷ 16 ∷ 0 ∷ 18 ∷ 19 ∷ 20 ∷ 21 ∷ []
  pub spinel_e_3 : left (asked 0xE3 []) ≡ 1 ∷ 0 ∷ 3 ∷ 0 ∷ 5 ∷ 0 ∷ 7 ∷ 8 ∷ 9 ∷ 10 ∷ 11 ∷ 12 ∷ 13 ∷ 14 ∷ 15 ∷ 16 ∷ 0 ∷ 18 ∷ 19 ∷ 0 ∷ 21 ∷ []
  pub spinel_e_4 : left (asked 0xE4 []) ≡ 1 ∷ 2 ∷ 3 ∷ 4 ∷ 5 ∷ 6 ∷ 7 ∷ 8 ∷ 9 ∷ 10 ∷ 11 ∷ 12 ∷ 13 ∷ 14 ∷ 15 ∷ 16 ∷ 0 ∷ 18 ∷ 19 ∷ 20 ∷ 21 ∷ []
  pub spinel_ed : left (asked 0xED []) ≡ 1 ∷ 2 ∷ 3 ∷ 4 ∷ 5 ∷ 6 ∷ 7 ∷ 8 ∷ 9 ∷ 10 ∷ 11 ∷ 12 ∷ 13 ∷ 14 ∷ 15 ∷ 16 ∷ 0 ∷ 18 ∷ 19 ∷ 20 ∷ 21 ∷ []
  pub spinel_ee : left (asked 0xEE []) ≡ 1 ∷ 2 ∷ 3 ∷ 4 ∷ 5 ∷ 6 ∷ 7 ∷ 8 ∷ 9 ∷ 10 ∷ 11 ∷ 12 ∷ 13 ∷ 0 ∷ 15 ∷ 16 ∷ 0 ∷ 18 ∷ 19 ∷ 20 ∷ 21 ∷ []
  pub spinel_ef : left (asked 0xEF []) ≡ 1 ∷ 2 ∷ 3 ∷ 4 ∷ 5 ∷ 6 ∷ 7 ∷ 8 ∷ 9 ∷ 10 ∷ 11 ∷ 12 ∷ 13 ∷ 14 ∷ 15 ∷ 16 ∷ 0 ∷ 18 ∷ 19 ∷ 20 ∷ 21 ∷ []
  pub spinel_f_0 : left (asked 0xF0 []) ≡ 1 ∷ 2 ∷ 3 ∷ 4 ∷ 5 ∷ 6 ∷ 7 ∷ 8 ∷ 9 ∷ 10 ∷ 11 ∷ 12 ∷ 13 ∷ 14 ∷ 15 ∷ 16 ∷ 0 ∷ 18 ∷ 19 ∷ 20 ∷ 21 ∷ []
  pub spinel_fd : left (asked 0xFD []) ≡ 1 ∷ 2 ∷ 3 ∷ 4 ∷ 5 ∷ 6 ∷ 7 ∷ 8 ∷ 9 ∷ 10 ∷ 11 ∷ 12 ∷ 13 ∷ 14 ∷ 15 ∷ 16 ∷ 0 ∷ 18 ∷ 19 ∷ 20 ∷ 21 ∷ []
  pub spinel_fe : left (asked 0xFE []) ≡ 1 ∷ 2 ∷ 3 ∷ 4 ∷ 5 ∷ 6 ∷ 7 ∷ 8 ∷ 9 ∷ 10 ∷ 11 ∷ 12 ∷ 13 ∷ 14 ∷ 15 ∷ 16 ∷ 0 ∷ 18 ∷ 19 ∷ 20 ∷ 21 ∷ []
  pub spinel_ff : left (asked 0xFF []) ≡ 1 ∷ 2 ∷ 3 ∷ 4 ∷ 5 ∷ 6 ∷ 7 ∷ 8 ∷ 9 ∷ 10 ∷ 11 ∷ 12 ∷ 13 ∷ 14 ∷ 15 ∷ 16 ∷ 0 ∷ 18 ∷ 19 ∷ 20 ∷ 21 ∷ []
  pub text_ir : left (spinel_frame (0x2A ∷ 0x42 ∷ 0x31 ∷ 0x49 ∷ 0x52 ∷ 0x31 ∷ 0x0D ∷ [])) ≡ 1 ∷ 2 ∷ 3 ∷ 4 ∷ 5 ∷ 6 ∷ 7 ∷ 8 ∷ 9 ∷ 10 ∷ 11 ∷ 12 ∷ 13 ∷ 14 ∷ 15 ∷ 16 ∷ 0 ∷ 18 ∷ 19 ∷ 20 ∷ 21 ∷ []
  pub text_or : left (spinel_frame (0x2A ∷ 0x42 ∷ 0x31 ∷ 0x4F ∷ 0x52 ∷ 0x31 ∷ 0x0D ∷ [])) ≡ 1 ∷ 2 ∷ 3 ∷ 4 ∷ 5 ∷ 6 ∷ 7 ∷ 8 ∷ 9 ∷ 10 ∷ 11 ∷ 12 ∷ 13 ∷ 14 ∷ 15 ∷ 16 ∷ 0 ∷ 18 ∷ 19 ∷ 20 ∷ 21 ∷ []
  pub text_os : left (spinel_frame (0x2A ∷ 0x42 ∷ 0x31 ∷ 0x4F ∷ 0x53 ∷ 0x31 ∷ 0x48 ∷ 0x0D ∷ [])) ≡ 1 ∷ 2 ∷ 3 ∷ 4 ∷ 5 ∷ 0 ∷ 7 ∷ 8 ∷ 9 ∷ 10 ∷ 11 ∷ 12 ∷ 13 ∷ 14 ∷ 15 ∷ 16 ∷ 0 ∷ 18 ∷ 19 ∷ 20 ∷ 21 ∷ []
  pub text_ot : left (spinel_frame (0x2A ∷ 0x42 ∷ 0x31 ∷ 0x4F ∷ 0x54 ∷ 0x31 ∷ 0x48 ∷ 0x31 ∷ 0x0D ∷ [])) ≡ 1 ∷ 2 ∷ 3 ∷ 4 ∷ 5 ∷ 0 ∷ 7 ∷ 8 ∷ 9 ∷ 10 ∷ 11 ∷ 12 ∷ 13 ∷ 14 ∷ 15 ∷ 16 ∷ 0 ∷ 18 ∷ 19 ∷ 20 ∷ 21 ∷ []
  pub text_ost : left (spinel_frame (0x2A ∷ 0x42 ∷ 0x31 ∷ 0x4F ∷ 0x53 ∷ 0x54 ∷ 0x31 ∷ 0x48 ∷ 0x31 ∷ 0x0D ∷ [])) ≡ 1 ∷ 2 ∷ 3 ∷ 4 ∷ 5 ∷ 0 ∷ 7 ∷ 8 ∷ 9 ∷ 10 ∷ 11 ∷ 12 ∷ 13 ∷ 14 ∷ 15 ∷ 16 ∷ 0 ∷ 18 ∷ 19 ∷ 20 ∷ 21 ∷ []
  pub text_rt : left (spinel_frame (0x2A ∷ 0x42 ∷ 0x31 ∷ 0x52 ∷ 0x54 ∷ 0x31 ∷ 0x0D ∷ [])) ≡ 1 ∷ 2 ∷ 3 ∷ 4 ∷ 5 ∷ 6 ∷ 7 ∷ 8 ∷ 9 ∷ 10 ∷ 11 ∷ 12 ∷ 13 ∷ 14 ∷ 15 ∷ 16 ∷ 0 ∷ 18 ∷ 19 ∷ 20 ∷ 21 ∷ []
  pub text_is : left (spinel_frame (0x2A ∷ 0x42 ∷ 0x31 ∷ 0x49 ∷ 0x53 ∷ 0x31 ∷ 0x0D ∷ [])) ≡ 1 ∷ 2 ∷ 3 ∷ 4 ∷ 5 ∷ 6 ∷ 7 ∷ 8 ∷ 9 ∷ 10 ∷ 0 ∷ 0 ∷ 13 ∷ 14 ∷ 15 ∷ 16 ∷ 0 ∷ 18 ∷ 19 ∷ 20 ∷ 21 ∷ []
  pub text_ix : left (spinel_frame (0x2A ∷ 0x42 ∷ 0x31 ∷ 0x49 ∷ 0x58 ∷ 0x0D ∷ [])) ≡ 1 ∷ 2 ∷ 3 ∷ 4 ∷ 5 ∷ 6 ∷ 7 ∷ 8 ∷ 9 ∷ 10 ∷ 11 ∷ 12 ∷ 13 ∷ 14 ∷ 15 ∷ 16 ∷ 0 ∷ 18 ∷ 19 ∷ 20 ∷ 21 ∷ []
  pub text_e : left (spinel_frame (0x2A ∷ 0x42 ∷ 0x31 ∷ 0x45 ∷ 0x0D ∷ [])) ≡ 1 ∷ 2 ∷ 3 ∷ 4 ∷ 5 ∷ 6 ∷ 7 ∷ 8 ∷ 9 ∷ 10 ∷ 11 ∷ 12 ∷ 13 ∷ 14 ∷ 15 ∷ 16 ∷ 0 ∷ 18 ∷ 19 ∷ 20 ∷ 21 ∷ []
  pub text_as : left (spinel_frame (0x2A ∷ 0x42 ∷ 0x31 ∷ 0x41 ∷ 0x53 ∷ 0x35 ∷ 0x0D ∷ [])) ≡ 1 ∷ 0 ∷ 3 ∷ 0 ∷ 5 ∷ 0 ∷ 7 ∷ 8 ∷ 9 ∷ 10 ∷ 11 ∷ 12 ∷ 13 ∷ 14 ∷ 0 ∷ 16 ∷ 0 ∷ 18 ∷ 19 ∷ 0 ∷ 21 ∷ []
  pub text_ss : left (spinel_frame (0x2A ∷ 0x42 ∷ 0x31 ∷ 0x53 ∷ 0x53 ∷ 0x37 ∷ 0x0D ∷ [])) ≡ 1 ∷ 0 ∷ 3 ∷ 0 ∷ 5 ∷ 0 ∷ 7 ∷ 8 ∷ 9 ∷ 10 ∷ 11 ∷ 12 ∷ 13 ∷ 14 ∷ 15 ∷ 0 ∷ 0 ∷ 18 ∷ 19 ∷ 0 ∷ 21 ∷ []
  pub text_ort : left (spinel_frame (0x2A ∷ 0x42 ∷ 0x31 ∷ 0x4F ∷ 0x52 ∷ 0x54 ∷ 0x31 ∷ 0x0D ∷ [])) ≡ 1 ∷ 2 ∷ 3 ∷ 4 ∷ 5 ∷ 6 ∷ 7 ∷ 8 ∷ 9 ∷ 10 ∷ 11 ∷ 12 ∷ 13 ∷ 14 ∷ 15 ∷ 16 ∷ 0 ∷ 18 ∷ 19 ∷ 20 ∷ 21 ∷ []
  pub text_none : left (spinel_frame (0x2A ∷ 0x42 ∷ 0x31 ∷ 0x78 ∷ 0x0D ∷ [])) ≡ 1 ∷ 2 ∷ 3 ∷ 4 ∷ 5 ∷ 6 ∷ 7 ∷ 8 ∷ 9 ∷ 10 ∷ 11 ∷ 12 ∷ 13 ∷ 14 ∷ 15 ∷ 16 ∷ 0 ∷ 18 ∷ 19 ∷ 20 ∷ 21 ∷ []
  pub text_lower : left (spinel_frame (0x2A ∷ 0x42 ∷ 0x31 ∷ 0x61 ∷ 0x73 ∷ 0x35 ∷ 0x0D ∷ [])) ≡ 1 ∷ 2 ∷ 3 ∷ 4 ∷ 5 ∷ 6 ∷ 7 ∷ 8 ∷ 9 ∷ 10 ∷ 11 ∷ 12 ∷ 13 ∷ 14 ∷ 15 ∷ 16 ∷ 0 ∷ 18 ∷ 19 ∷ 20 ∷ 21 ∷ []
  pub code_like_text : left (asked_at 0x53 0x61 (0x01 ∷ 0x00 ∷ 0x00 ∷ 0x00 ∷ 0x00 ∷ 0x02 ∷ 0x00 ∷ 0x00 ∷ 0x00 ∷ 0x00 ∷ 0x03 ∷ 0x00 ∷ 0x00 ∷
      0x00 ∷ 0x00 ∷ 0x04 ∷ 0x00 ∷ 0x00 ∷ 0x00 ∷ 0x00 ∷ 0x05 ∷ 0x00 ∷ 0x00 ∷ 0x00 ∷ 0x00 ∷ 0x06 ∷
      0x00 ∷ 0x00 ∷ 0x00 ∷ 0x00 ∷ 0x07 ∷ 0x00 ∷ 0x00 ∷ 0x00 ∷ 0x00 ∷ 0x08 ∷ 0x00 ∷ 0x00 ∷ 0x00 ∷
      0x00 ∷ 0x09 ∷ 0x00 ∷ 0x00 ∷ 0x00 ∷ 0x00 ∷ 0x0A ∷ 0x00 ∷ 0x00 ∷ 0x00 ∷ 0x00 ∷ 0x0B ∷ 0x00 ∷
      0x00 ∷ 0x00 ∷ 0x00 ∷ 0x0C ∷ 0x00 ∷ 0x00 ∷ 0x00 ∷ 0x00 ∷ [])) ≡ 1 ∷ 2 ∷ 3 ∷ 0 ∷ 5 ∷ 6 ∷ 7 ∷ 8 ∷ 9 ∷ 10 ∷ 11 ∷ 12 ∷ 13 ∷ 14 ∷ 15 ∷ 16 ∷ 0 ∷ 18 ∷ 19 ∷ 20 ∷ 21 ∷ []
  pub register0 : left (requested 0x06 0 0) ≡ 1 ∷ 2 ∷ 3 ∷ 4 ∷ 5 ∷ 6 ∷ 7 ∷ 8 ∷ 9 ∷ 10 ∷ 11 ∷ 12 ∷ 13 ∷ 14 ∷ 15 ∷ 16 ∷ 17 ∷ 18 ∷ 19 ∷ 0 ∷ 21 ∷ []
  pub register1 : left (requested 0x06 1 0) ≡ 1 ∷ 0 ∷ 3 ∷ 0 ∷ 5 ∷ 0 ∷ 7 ∷ 8 ∷ 9 ∷ 10 ∷ 11 ∷ 12 ∷ 13 ∷ 14 ∷ 15 ∷ 16 ∷ 0 ∷ 0 ∷ 0 ∷ 0 ∷ 21 ∷ []
  pub register2 : left (requested 0x06 2 0) ≡ 1 ∷ 0 ∷ 3 ∷ 0 ∷ 5 ∷ 0 ∷ 7 ∷ 8 ∷ 9 ∷ 10 ∷ 11 ∷ 12 ∷ 13 ∷ 14 ∷ 15 ∷ 16 ∷ 0 ∷ 0 ∷ 0 ∷ 0 ∷ 21 ∷ []
  pub register3 : left (requested 0x06 3 0) ≡ 1 ∷ 2 ∷ 3 ∷ 4 ∷ 5 ∷ 6 ∷ 7 ∷ 8 ∷ 9 ∷ 10 ∷ 11 ∷ 12 ∷ 13 ∷ 14 ∷ 15 ∷ 16 ∷ 17 ∷ 18 ∷ 19 ∷ 0 ∷ 21 ∷ []
  pub register99 : left (requested 0x06 99 0) ≡ 1 ∷ 2 ∷ 3 ∷ 4 ∷ 5 ∷ 6 ∷ 7 ∷ 8 ∷ 9 ∷ 10 ∷ 11 ∷ 12 ∷ 13 ∷ 14 ∷ 15 ∷ 16 ∷ 17 ∷ 18 ∷ 19 ∷ 0 ∷ 21 ∷ []
  pub register100 : left (requested 0x06 100 0) ≡ 1 ∷ 2 ∷ 3 ∷ 0 ∷ 5 ∷ 6 ∷ 7 ∷ 8 ∷ 9 ∷ 10 ∷ 11 ∷ 12 ∷ 13 ∷ 14 ∷ 15 ∷ 16 ∷ 17 ∷ 18 ∷ 19 ∷ 0 ∷ 21 ∷ []
  pub register115 : left (requested 0x06 115 0) ≡ 1 ∷ 2 ∷ 3 ∷ 0 ∷ 5 ∷ 6 ∷ 7 ∷ 8 ∷ 9 ∷ 10 ∷ 11 ∷ 12 ∷ 13 ∷ 14 ∷ 15 ∷ 16 ∷ 17 ∷ 18 ∷ 19 ∷ 0 ∷ 21 ∷ []
  pub register116 : left (requested 0x06 116 0) ≡ 1 ∷ 2 ∷ 3 ∷ 4 ∷ 5 ∷ 6 ∷ 7 ∷ 8 ∷ 9 ∷ 10 ∷ 11 ∷ 12 ∷ 13 ∷ 14 ∷ 15 ∷ 16 ∷ 17 ∷ 18 ∷ 19 ∷ 0 ∷ 21 ∷ []
  pub register199 : left (requested 0x06 199 0) ≡ 1 ∷ 2 ∷ 3 ∷ 4 ∷ 5 ∷ 6 ∷ 7 ∷ 8 ∷ 9 ∷ 10 ∷ 11 ∷ 12 ∷ 13 ∷ 14 ∷ 15 ∷ 16 ∷ 17 ∷ 18 ∷ 19 ∷ 0 ∷ 21 ∷ []
  pub register200 : left (requested 0x06 200 0) ≡ 1 ∷ 2 ∷ 3 ∷ 0 ∷ 5 ∷ 6 ∷ 7 ∷ 8 ∷ 9 ∷ 10 ∷ 11 ∷ 12 ∷ 13 ∷ 14 ∷ 15 ∷ 16 ∷ 17 ∷ 18 ∷ 19 ∷ 0 ∷ 21 ∷ []
  pub register215 : left (requested 0x06 215 0) ≡ 1 ∷ 2 ∷ 3 ∷ 0 ∷ 5 ∷ 6 ∷ 7 ∷ 8 ∷ 9 ∷ 10 ∷ 11 ∷ 12 ∷ 13 ∷ 14 ∷ 15 ∷ 16 ∷ 17 ∷ 18 ∷ 19 ∷ 0 ∷ 21 ∷ []
  pub register216 : left (requested 0x06 216 0) ≡ 1 ∷ 2 ∷ 3 ∷ 4 ∷ 5 ∷ 6 ∷ 7 ∷ 8 ∷ 9 ∷ 10 ∷ 11 ∷ 12 ∷ 13 ∷ 14 ∷ 15 ∷ 16 ∷ 17 ∷ 18 ∷ 19 ∷ 0 ∷ 21 ∷ []
  pub register299 : left (requested 0x06 299 0) ≡ 1 ∷ 2 ∷ 3 ∷ 4 ∷ 5 ∷ 6 ∷ 7 ∷ 8 ∷ 9 ∷ 10 ∷ 11 ∷ 12 ∷ 13 ∷ 14 ∷ 15 ∷ 16 ∷ 17 ∷ 18 ∷ 19 ∷ 0 ∷ 21 ∷ []
  pub register300 : left (requested 0x06 300 0) ≡ 1 ∷ 2 ∷ 0 ∷ 4 ∷ 5 ∷ 6 ∷ 7 ∷ 8 ∷ 9 ∷ 10 ∷ 11 ∷ 12 ∷ 13 ∷ 14 ∷ 15 ∷ 16 ∷ 17 ∷ 18 ∷ 19 ∷ 0 ∷ 21 ∷ []
  pub register315 : left (requested 0x06 315 0) ≡ 1 ∷ 2 ∷ 0 ∷ 4 ∷ 5 ∷ 6 ∷ 7 ∷ 8 ∷ 9 ∷ 10 ∷ 11 ∷ 12 ∷ 13 ∷ 14 ∷ 15 ∷ 16 ∷ 17 ∷ 18 ∷ 19 ∷ 0 ∷ 21 ∷ []
  pub register316 : left (requested 0x06 316 0) ≡ 1 ∷ 2 ∷ 3 ∷ 4 ∷ 5 ∷ 6 ∷ 7 ∷ 8 ∷ 9 ∷ 10 ∷ 11 ∷ 12 ∷ 13 ∷ 14 ∷ 15 ∷ 16 ∷ 17 ∷ 18 ∷ 19 ∷ 0 ∷ 21 ∷ []
  pub register499 : left (requested 0x06 499 0) ≡ 1 ∷ 2 ∷ 3 ∷ 4 ∷ 5 ∷ 6 ∷ 7 ∷ 8 ∷ 9 ∷ 10 ∷ 11 ∷ 12 ∷ 13 ∷ 14 ∷ 15 ∷ 16 ∷ 17 ∷ 18 ∷ 19 ∷ 0 ∷ 21 ∷ []
  pub register500 : left (requested 0x06 500 0) ≡ 1 ∷ 2 ∷ 3 ∷ 4 ∷ 5 ∷ 0 ∷ 7 ∷ 8 ∷ 9 ∷ 10 ∷ 11 ∷ 12 ∷ 13 ∷ 14 ∷ 15 ∷ 16 ∷ 17 ∷ 18 ∷ 19 ∷ 0 ∷ 21 ∷ []
  pub register515 : left (requested 0x06 515 0) ≡ 1 ∷ 2 ∷ 3 ∷ 4 ∷ 5 ∷ 0 ∷ 7 ∷ 8 ∷ 9 ∷ 10 ∷ 11 ∷ 12 ∷ 13 ∷ 14 ∷ 15 ∷ 16 ∷ 17 ∷ 18 ∷ 19 ∷ 0 ∷ 21 ∷ []
  pub register516 : left (requested 0x06 516 0) ≡ 1 ∷ 2 ∷ 3 ∷ 4 ∷ 5 ∷ 6 ∷ 7 ∷ 8 ∷ 9 ∷ 10 ∷ 11 ∷ 12 ∷ 13 ∷ 14 ∷ 15 ∷ 16 ∷ 17 ∷ 18 ∷ 19 ∷ 0 ∷ 21 ∷ []
  pub register599 : left (requested 0x06 599 0) ≡ 1 ∷ 2 ∷ 3 ∷ 4 ∷ 5 ∷ 6 ∷ 7 ∷ 8 ∷ 9 ∷ 10 ∷ 11 ∷ 12 ∷ 13 ∷ 14 ∷ 15 ∷ 16 ∷ 17 ∷ 18 ∷ 19 ∷ 0 ∷ 21 ∷ []
  pub register600 : left (requested 0x06 600 0) ≡ 1 ∷ 2 ∷ 3 ∷ 4 ∷ 5 ∷ 6 ∷ 7 ∷ 0 ∷ 9 ∷ 10 ∷ 11 ∷ 12 ∷ 13 ∷ 14 ∷ 15 ∷ 16 ∷ 17 ∷ 18 ∷ 19 ∷ 0 ∷ 21 ∷ []
  pub register663 : left (requested 0x06 663 0) ≡ 1 ∷ 2 ∷ 3 ∷ 4 ∷ 5 ∷ 6 ∷ 7 ∷ 0 ∷ 9 ∷ 10 ∷ 11 ∷ 12 ∷ 13 ∷ 14 ∷ 15 ∷ 16 ∷ 17 ∷ 18 ∷ 19 ∷ 0 ∷ 21 ∷ []
  pub register664 : left (requested 0x06 664 0) ≡ 1 ∷ 2 ∷ 3 ∷ 4 ∷ 5 ∷ 6 ∷ 7 ∷ 8 ∷ 9 ∷ 10 ∷ 11 ∷ 12 ∷ 13 ∷ 14 ∷ 15 ∷ 16 ∷ 17 ∷ 18 ∷ 19 ∷ 0 ∷ 21 ∷ []
  pub several1 : left (written 1 (0 ∷ [])) ≡ 1 ∷ 0 ∷ 3 ∷ 0 ∷ 5 ∷ 0 ∷ 7 ∷ 8 ∷ 9 ∷ 10 ∷ 11 ∷ 12 ∷ 13 ∷ 14 ∷ 15 ∷ 16 ∷ 0 ∷ 0 ∷ 0 ∷ 0 ∷ 21 ∷ []
  pub several100 : left (written 100 (0 ∷ [])) ≡ 1 ∷ 2 ∷ 3 ∷ 0 ∷ 5 ∷ 6 ∷ 7 ∷ 8 ∷ 9 ∷ 10 ∷ 11 ∷ 12 ∷ 13 ∷ 14 ∷ 15 ∷ 16 ∷ 17 ∷ 18 ∷ 19 ∷ 0 ∷ 21 ∷ []
  pub several600 : left (written 600 (0 ∷ [])) ≡ 1 ∷ 2 ∷ 3 ∷ 4 ∷ 5 ∷ 6 ∷ 7 ∷ 0 ∷ 9 ∷ 10 ∷ 11 ∷ 12 ∷ 13 ∷ 14 ∷ 15 ∷ 16 ∷ 17 ∷ 18 ∷ 19 ∷ 0 ∷ 21 ∷ []
  pub coil : left (requested 0x05 0 0) ≡ 1 ∷ 2 ∷ 3 ∷ 4 ∷ 5 ∷ 0 ∷ 7 ∷ 8 ∷ 9 ∷ 10 ∷ 11 ∷ 12 ∷ 13 ∷ 14 ∷ 15 ∷ 16 ∷ 17 ∷ 18 ∷ 19 ∷ 0 ∷ 21 ∷ []
  pub coils : left (switched 0 1 (0x00 ∷ [])) ≡ 1 ∷ 2 ∷ 3 ∷ 4 ∷ 5 ∷ 0 ∷ 7 ∷ 8 ∷ 9 ∷ 10 ∷ 11 ∷ 12 ∷ 13 ∷ 14 ∷ 15 ∷ 16 ∷ 17 ∷ 18 ∷ 19 ∷ 0 ∷ 21 ∷ []
  pub function03 : left (requested 0x03 100 1) ≡ 1 ∷ 2 ∷ 3 ∷ 4 ∷ 5 ∷ 6 ∷ 7 ∷ 8 ∷ 9 ∷ 10 ∷ 11 ∷ 12 ∷ 13 ∷ 14 ∷ 15 ∷ 16 ∷ 17 ∷ 18 ∷ 19 ∷ 0 ∷ 21 ∷ []
  pub function04 : left (requested 0x04 100 1) ≡ 1 ∷ 2 ∷ 3 ∷ 4 ∷ 5 ∷ 6 ∷ 7 ∷ 8 ∷ 9 ∷ 10 ∷ 11 ∷ 12 ∷ 13 ∷ 14 ∷ 15 ∷ 16 ∷ 17 ∷ 18 ∷ 19 ∷ 0 ∷ 21 ∷ []
  pub function07 : left (sent 0x07 (0x00 ∷ 0x64 ∷ 0x00 ∷ 0x01 ∷ [])) ≡ 1 ∷ 2 ∷ 3 ∷ 4 ∷ 5 ∷ 6 ∷ 7 ∷ 8 ∷ 9 ∷ 10 ∷ 11 ∷ 12 ∷ 13 ∷ 14 ∷ 15 ∷ 16 ∷ 17 ∷ 18 ∷ 19 ∷ 0 ∷ 21 ∷ []
  pub function_0e : left (sent 0x0E (0x00 ∷ 0x64 ∷ 0x00 ∷ 0x01 ∷ [])) ≡ 1 ∷ 2 ∷ 3 ∷ 4 ∷ 5 ∷ 6 ∷ 7 ∷ 8 ∷ 9 ∷ 10 ∷ 11 ∷ 12 ∷ 13 ∷ 14 ∷ 15 ∷ 16 ∷ 17 ∷ 18 ∷ 19 ∷ 0 ∷ 21 ∷ []
  pub function11 : left (sent 0x11 (0x00 ∷ 0x64 ∷ 0x00 ∷ 0x01 ∷ [])) ≡ 1 ∷ 2 ∷ 3 ∷ 4 ∷ 5 ∷ 6 ∷ 7 ∷ 8 ∷ 9 ∷ 10 ∷ 11 ∷ 12 ∷ 13 ∷ 14 ∷ 15 ∷ 16 ∷ 17 ∷ 18 ∷ 19 ∷ 0 ∷ 21 ∷ []
  pub by40 : resets_module (asked 0x40 []).act ≡ false
  pub by41 : resets_module (asked 0x41 []).act ≡ false
  pub by_df : resets_module (asked 0xDF []).act ≡ false
  pub by_e_0 : resets_module (asked 0xE0 []).act ≡ true
  pub by_e_1 : resets_module (asked 0xE1 []).act ≡ false
  pub by_e_2 : resets_module (asked 0xE2 []).act ≡ false
  pub by_e_3 : resets_module (asked 0xE3 []).act ≡ true
  pub by_e_4 : resets_module (asked 0xE4 []).act ≡ false
  pub by_ee : resets_module (asked 0xEE []).act ≡ false
  pub by_fe : resets_module (asked 0xFE []).act ≡ false
  pub by_register_0 : resets_module (requested 0x06 0 0).act ≡ false
  pub by_register_1 : resets_module (requested 0x06 1 0).act ≡ true
  pub by_register_2 : resets_module (requested 0x06 2 0).act ≡ true
  pub by_register_3 : resets_module (requested 0x06 3 0).act ≡ false
  pub by_several_0 : resets_module (written 0 (0 ∷ [])).act ≡ false
  pub by_several_1 : resets_module (written 1 (0 ∷ [])).act ≡ true
  pub by_several_2 : resets_module (written 2 (0 ∷ [])).act ≡ true
  pub by_several_3 : resets_module (written 3 (0 ∷ [])).act ≡ false
  pub by_read : resets_module (requested 0x03 1 1).act ≡ false
  pub by_coil : resets_module (requested 0x05 1 0).act ≡ false
  pub by07 : resets_module (sent 0x07 (0x00 ∷ 0x01 ∷ 0x00 ∷ 0x00 ∷ [])).act ≡ false
  pub by_coils : resets_module (switched 1 1 (0x00 ∷ [])).act ≡ false
  pub by11 : resets_module (sent 0x11 (0x00 ∷ 0x01 ∷ 0x00 ∷ 0x00 ∷ [])).act ≡ false
  pub by_sample : resets_module (sample_of 0).act ≡ false
  pub by_temperature : resets_module (temperature_of true (pos 0)).act ≡ false
  pub by_text_ir : resets_module (spinel_frame (0x2A ∷ 0x42 ∷ 0x31 ∷ 0x49 ∷ 0x52 ∷ 0x31 ∷ 0x0D ∷ [])).act ≡ false
  pub by_text_or : resets_module (spinel_frame (0x2A ∷ 0x42 ∷ 0x31 ∷ 0x4F ∷ 0x52 ∷ 0x31 ∷ 0x0D ∷ [])).act ≡ false
  pub by_text_os : resets_module (spinel_frame (0x2A ∷ 0x42 ∷ 0x31 ∷ 0x4F ∷ 0x53 ∷ 0x31 ∷ 0x48 ∷ 0x0D ∷ [])).act ≡ false
  pub by_text_ot : resets_module (spinel_frame (0x2A ∷ 0x42 ∷ 0x31 ∷ 0x4F ∷ 0x54 ∷ 0x31 ∷ 0x48 ∷ 0x31 ∷ 0x0D ∷ [])).act ≡ false
  pub by_text_ost : resets_module (spinel_frame (0x2A ∷ 0x42 ∷ 0x31 ∷ 0x4F ∷ 0x53 ∷ 0x54 ∷ 0x31 ∷ 0x48 ∷ 0x31 ∷ 0x0D ∷ [])).act ≡ false
  pub by_text_rt : resets_module (spinel_frame (0x2A ∷ 0x42 ∷ 0x31 ∷ 0x52 ∷ 0x54 ∷ 0x31 ∷ 0x0D ∷ [])).act ≡ false
  pub by_text_is : resets_module (spinel_frame (0x2A ∷ 0x42 ∷ 0x31 ∷ 0x49 ∷ 0x53 ∷ 0x31 ∷ 0x0D ∷ [])).act ≡ false
  pub by_text_ix : resets_module (spinel_frame (0x2A ∷ 0x42 ∷ 0x31 ∷ 0x49 ∷ 0x58 ∷ 0x0D ∷ [])).act ≡ false
  pub by_text_e : resets_module (spinel_frame (0x2A ∷ 0x42 ∷ 0x31 ∷ 0x45 ∷ 0x0D ∷ [])).act ≡ false
  pub by_text_as : resets_module (spinel_frame (0x2A ∷ 0x42 ∷ 0x31 ∷ 0x41 ∷ 0x53 ∷ 0x35 ∷ 0x0D ∷ [])).act ≡ true
  pub by_text_ss : resets_module (spinel_frame (0x2A ∷ 0x42 ∷ 0x31 ∷ 0x53 ∷ 0x53 ∷ 0x37 ∷ 0x0D ∷ [])).act ≡ true
  pub by_text_ort : resets_module (spinel_frame (0x2A ∷ 0x42 ∷ 0x31 ∷ 0x4F ∷ 0x52 ∷ 0x54 ∷ 0x31 ∷ 0x0D ∷ [])).act ≡ false
  pub by_text_none : resets_module (spinel_frame (0x2A ∷ 0x42 ∷ 0x31 ∷ 0x78 ∷ 0x0D ∷ [])).act ≡ false
  pub by_text_lower : resets_module (spinel_frame (0x2A ∷ 0x42 ∷ 0x31 ∷ 0x61 ∷ 0x73 ∷ 0x35 ∷ 0x0D ∷ [])).act ≡ false
  pub by_text_is_off : resets_module (spinel_frame (0x2A ∷ 0x42 ∷ 0x31 ∷ 0x49 ∷ 0x53 ∷ 0x30 ∷ 0x0D ∷ [])).act ≡ false
  pub by_text_like_code : resets_module (spinel_frame (0x2A ∷ 0x42 ∷ 0x31 ∷ 0x4F ∷ 0x53 ∷ 0x31 ∷ 0xE3 ∷ 0x0D ∷ [])).act ≡ false
  pub by_code_like_text : resets_module (asked_at 0x53 0x61 (0x01 ∷ 0x00 ∷ 0x00 ∷ 0x00 ∷ 0x00 ∷ 0x02 ∷ 0x00 ∷ 0x00 ∷ 0x00 ∷ 0x00 ∷ 0x03 ∷ 0x00 ∷ 0x00 ∷
      0x00 ∷ 0x00 ∷ 0x04 ∷ 0x00 ∷ 0x00 ∷ 0x00 ∷ 0x00 ∷ 0x05 ∷ 0x00 ∷ 0x00 ∷ 0x00 ∷ 0x00 ∷ 0x06 ∷
      0x00 ∷ 0x00 ∷ 0x00 ∷ 0x00 ∷ 0x07 ∷ 0x00 ∷ 0x00 ∷ 0x00 ∷ 0x00 ∷ 0x08 ∷ 0x00 ∷ 0x00 ∷ 0x00 ∷
      0x00 ∷ 0x09 ∷ 0x00 ∷ 0x00 ∷ 0x00 ∷ 0x00 ∷ 0x0A ∷ 0x00 ∷ 0x00 ∷ 0x00 ∷ 0x00 ∷ 0x0B ∷ 0x00 ∷
      0x00 ∷ 0x00 ∷ 0x00 ∷ 0x0C ∷ 0x00 ∷ 0x00 ∷ 0x00 ∷ 0x00 ∷ [])).act ≡ false

pub claim_table : ClaimTable
unfolding computing
claim_table = record {
  sample = refl;
  temperature = refl;
  spinel_0f = refl;
  spinel10 = refl;
  spinel11 = refl;
  spinel_1a = refl;
  spinel_1b = refl;
  spinel20 = refl;
  spinel22 = refl;
  spinel23 = refl;
  spinel24 = refl;
  spinel25 = refl;
  spinel26 = refl;
  spinel30 = refl;
  spinel_3f = refl;
  spinel40 = refl;
  spinel41 = refl;
  spinel42 = refl;
  spinel51 = refl;
  spinel60 = refl;
  spinel61 = refl;
  spinel62 = refl;
  spinel63 = refl;
  spinel_6a = refl;
  spinel_6b = refl;
  spinel_df = refl;
  spinel_e_0 = refl;
  spinel_e_1 = refl;
  spinel_e_3 = refl;
  spinel_e_4 = refl;
  spinel_ed = refl;
  spinel_ee = refl;
  spinel_ef = refl;
  spinel_f_0 = refl;
  spinel_fd = refl;
  spinel_fe = refl;
  spinel_ff = refl;
  text_ir = refl;
  text_or = refl;
  text_os = refl;
  text_ot = refl;
  text_ost = refl;
  text_rt = refl;
  text_is = refl;
  text_ix = refl;
  text_e = refl;
  text_as = refl;
  text_ss = refl;
  text_ort = refl;
  text_none = refl;
  text_lower = refl;
  code_like_text = refl;
  register0 = refl;
  register1 = refl;
  register2 = refl;
  register3 = refl;
  register99 = refl;
  register100 = refl;
  register115 = refl;
  register116 = refl;
  register199 = refl;
  register200 = refl;
  register215 = refl;
  register216 = refl;
  register299 = refl;
  register300 = refl;
  register315 = refl;
  register316 = refl;
  register499 = refl;
  register500 = refl;
  register515 = refl;
  register516 = refl;
  register599 = refl;
  register600 = refl;
  register663 = refl;
  register664 = refl;
  several1 = refl;
  several100 = refl;
  several600 = refl;
  coil = refl;
  coils = refl;
  function03 = refl;
  function04 = refl;
  function07 = refl;
  function_0e = refl;
  function11 = refl;
  by40 = refl;
  by41 = refl;
  by_df = refl;
  by_e_0 = refl;
  by_e_1 = refl;
  by_e_2 = refl;
  by_e_3 = refl;
  by_e_4 = refl;
  by_ee = refl;
  by_fe = refl;
  by_register_0 = refl;
  by_register_1 = refl;
  by_register_2 = refl;
  by_register_3 = refl;
  by_several_0 = refl;
  by_several_1 = refl;
  by_several_2 = refl;
  by_several_3 = refl;
  by_read = refl;
  by_coil = refl;
  by07 = refl;
  by_coils = refl;
  by11 = refl;
  by_sample = refl;
  by_temperature = refl;
  by_text_ir = refl;
  by_text_or = refl;
  by_text_os = refl;
  by_text_ot = refl;
  by_text_ost = refl;
  by_text_rt = refl;
  by_text_is = refl;
  by_text_ix = refl;
  by_text_e = refl;
  by_text_as = refl;
  by_text_ss = refl;
  by_text_ort = refl;
  by_text_none = refl;
  by_text_lower = refl;
  by_text_is_off = refl;
  by_text_like_code = refl;
  by_code_like_text = refl;
}

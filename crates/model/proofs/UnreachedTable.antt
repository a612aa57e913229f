-- States that no run reaches: what the definitions say of them, as docs/DECISIONS.md tells. Written by reference/tables.py. Assumes nothing.
use mathlib.Core.Bool.{true, false}
use mathlib.Core.Path.{refl}
use mathlib.Core.List.{[], ◌∷◌}
use lib.ListN.{replicate}
use lib.IntN.{pos}
use Rattle.model.specs.State.{fresh_module, with_inputs, with_sampling, with_modes, with_presets, with_links, with_thermostats, with_reading}
use Rattle.model.specs.State.{with_notice, with_spinel, with_modbus, line, preset, link, thermostat, notice, port, fresh_line, fresh_preset}
use Rattle.model.specs.State.{fresh_link, fresh_thermostat}
use Rattle.model.specs.declared.Reading.TheVariants.{Valid}
use lib.Ieee.{of_bits, binary32}
use Rattle.model.proofs.Computing.{unchecked}
use Rattle.model.proofs.Checksums.{eqb_same, passed}
use Rattle.model.proofs.Exchanges.{Plays, ◌⇒◌, sample_of, temperature_of, spinel_frame, asked, asked_at, sent_to, requested, written, reply}
use Rattle.model.proofs.Exchanges.{silently, answers, answers_from, refuses, refuses_from, announces, gives_from, shows, excepts}

pub record UnreachedTable : Type 0 where
  -- sampling number 0: a differing sample flips
  pub number_zero : Plays
      (with_inputs (with_sampling (with_modes fresh_module (replicate 16 3)) 0) (record { lines = line false 0 ∷ replicate 15 fresh_line; counters = replicate 16 0 })) (
      (sample_of 1 ⇒ silently 0) ∷
      (asked 0x31 [] ⇒ answers (0x00 ∷ 0x01 ∷ [])) ∷
      (asked 0x60 (0x01 ∷ []) ⇒ answers (0x20 ∷ 0x00 ∷ 0x00 ∷ 0x00 ∷ 0x01 ∷ [])) ∷
      (asked 0x63 [] ⇒ answers (0x00 ∷ [])) ∷
      (sample_of 1 ⇒ silently 0) ∷
      (asked 0x60 (0x01 ∷ []) ⇒ answers (0x20 ∷ 0x00 ∷ 0x00 ∷ 0x00 ∷ 0x01 ∷ [])) ∷
      [])
  -- a run of 255 and a differing sample: it flips; an equal one ends the run
  pub run_of_255 : Plays
      (with_inputs (with_sampling (with_modes fresh_module (replicate 16 3)) 255) (record { lines = line false 255 ∷ replicate 15 fresh_line; counters = replicate 16 0 })) (
      (sample_of 1 ⇒ silently 0) ∷
      (asked 0x31 [] ⇒ answers (0x00 ∷ 0x01 ∷ [])) ∷
      (asked 0x60 (0x01 ∷ []) ⇒ answers (0x20 ∷ 0x00 ∷ 0x00 ∷ 0x00 ∷ 0x01 ∷ [])) ∷
      [])
  -- a run beyond the number and an equal sample: none
  pub run_ended : Plays
      (with_inputs (with_sampling (with_modes fresh_module (replicate 16 3)) 20) (record { lines = line true 30 ∷ replicate 15 fresh_line; counters = replicate 16 0 })) (
      (sample_of 1 ⇒ silently 0) ∷
      (sample_of 0 ⇒ silently 0) ∷
      (asked 0x31 [] ⇒ answers (0x00 ∷ 0x01 ∷ [])) ∷
      [])
  -- a mode above 3 selects no edge
  pub mode_four : Plays
      (with_inputs (with_sampling (with_modes fresh_module (replicate 16 4)) 1) (record { lines = replicate 16 fresh_line; counters = replicate 16 7 })) (
      (sample_of 1 ⇒ silently 0) ∷
      (sample_of 0 ⇒ silently 0) ∷
      (asked 0x60 (0x01 ∷ []) ⇒ answers (0x20 ∷ 0x00 ∷ 0x00 ∷ 0x00 ∷ 0x07 ∷ [])) ∷
      (asked 0x6B (0x01 ∷ []) ⇒ answers (0x04 ∷ [])) ∷
      [])
  -- a float that is no number shows as 0
  pub not_a_number : Plays
      (with_reading fresh_module fresh_module.outputs (Valid (pos 5) (of_bits binary32 0x7FC0_0000)) (Valid (pos 5) (of_bits binary32 0x7FC0_0000))) (
      (requested 0x04 0 4 ⇒ shows 0x04 (0 ∷ 5 ∷ 0 ∷ 0 ∷ [])) ∷
      (asked 0x51 (0x00 ∷ []) ⇒ answers (0x01 ∷ 0x80 ∷ 0x00 ∷ 0x05 ∷ [])) ∷
      [])
  -- a preset of another type starts off first, and shows as it is stored
  pub preset_one : Plays (with_presets fresh_module (preset 1 2 ∷ preset 4 1 ∷ replicate 14 fresh_preset)) (
      (asked 0x36 (0x01 ∷ 0x02 ∷ []) ⇒ answers (0x01 ∷ 0x02 ∷ 0x04 ∷ 0x01 ∷ [])) ∷
      (asked 0x38 (0x01 ∷ 0x02 ∷ []) ⇒ answers (0x01 ∷ 0x04 ∷ [])) ∷
      (asked 0x25 (0x01 ∷ 0x02 ∷ []) ⇒ answers []) ∷
      (asked 0x33 (0x01 ∷ 0x02 ∷ []) ⇒ answers (0x01 ∷ 0x02 ∷ 0x02 ∷ 0x01 ∷ [])) ∷
      [])
  -- a preset of type 2 or 3 with time 0 is a plain set
  pub preset_time_zero : Plays (with_presets fresh_module (preset 2 0 ∷ preset 3 0 ∷ replicate 14 fresh_preset)) (
      (asked 0x25 (0x01 ∷ 0x02 ∷ []) ⇒ answers []) ∷
      (asked 0x33 (0x01 ∷ 0x02 ∷ []) ⇒ answers (0x81 ∷ 0x00 ∷ 0x02 ∷ 0x00 ∷ [])) ∷
      (sample_of 0 ⇒ silently 0) ∷
      (asked 0x30 [] ⇒ answers (0x00 ∷ 0x01 ∷ [])) ∷
      [])
  -- a link's action above 4 does nothing at an edge, ends no pulse, and shows as it is stored (E8)
  pub link_action_five : Plays
      (with_links fresh_module (link 1 5 ∷ link 1 255 ∷ link 2 8 ∷ link 1 6 ∷ link 1 7 ∷ link 1 1 ∷ replicate 10 fresh_link)) (
      (asked 0x62 (0x01 ∷ []) ⇒ answers []) ∷
      (asked 0x41 (0x01 ∷ 0x02 ∷ 0x03 ∷ 0x04 ∷ []) ⇒ answers (0x01 ∷ 0x05 ∷ 0x01 ∷ 0xFF ∷ 0x02 ∷ 0x08 ∷ 0x01 ∷ 0x06 ∷ [])) ∷
      (asked 0x23 (0x02 ∷ 0x81 ∷ 0x02 ∷ []) ⇒ answers []) ∷
      (sample_of 3 ⇒ silently 0) ∷
      (asked 0x33 (0x01 ∷ 0x02 ∷ 0x03 ∷ 0x04 ∷ 0x05 ∷ 0x06 ∷ [])
      ⇒ answers (0x81 ∷ 0x02 ∷ 0x02 ∷ 0x02 ∷ 0x03 ∷ 0x00 ∷ 0x04 ∷ 0x00 ∷ 0x05 ∷ 0x00 ∷ 0x86 ∷ 0x00 ∷ [])) ∷
      (asked 0x20 (0x83 ∷ 0x84 ∷ 0x85 ∷ []) ⇒ answers []) ∷
      (sample_of 0 ⇒ silently 0) ∷
      (sample_of 3 ⇒ silently 0) ∷
      (asked 0x33 (0x01 ∷ 0x02 ∷ 0x03 ∷ 0x04 ∷ 0x05 ∷ 0x06 ∷ [])
      ⇒ answers (0x81 ∷ 0x02 ∷ 0x02 ∷ 0x02 ∷ 0x83 ∷ 0x00 ∷ 0x84 ∷ 0x00 ∷ 0x85 ∷ 0x00 ∷ 0x86 ∷ 0x00 ∷ [])) ∷
      (asked 0x40 (0x01 ∷ 0x01 ∷ 0x02 ∷ 0x01 ∷ 0x02 ∷ 0x00 ∷ []) ⇒ answers []) ∷
      (asked 0x41 (0x01 ∷ 0x02 ∷ []) ⇒ answers (0x01 ∷ 0x02 ∷ 0x00 ∷ 0x00 ∷ [])) ∷
      (sample_of 0 ⇒ silently 0) ∷
      (asked 0x33 (0x01 ∷ 0x02 ∷ []) ⇒ answers (0x81 ∷ 0x00 ∷ 0x02 ∷ 0x02 ∷ [])) ∷
      [])
  -- a link's input above 16 has no edge (E8)
  pub link_input_beyond : Plays (with_links fresh_module (link 17 1 ∷ link 255 2 ∷ link 32 3 ∷ link 33 1 ∷ link 16 1 ∷ replicate 11 fresh_link)) (
      (asked 0x62 (0x01 ∷ []) ⇒ answers []) ∷
      (asked 0x20 (0x82 ∷ []) ⇒ answers []) ∷
      (sample_of 0xFFFF ⇒ silently 0) ∷
      (asked 0x30 [] ⇒ answers (0x00 ∷ 0x12 ∷ [])) ∷
      (sample_of 0 ⇒ silently 0) ∷
      (asked 0x30 [] ⇒ answers (0x00 ∷ 0x02 ∷ [])) ∷
      (sample_of 1 ⇒ silently 0) ∷
      (asked 0x30 [] ⇒ answers (0x00 ∷ 0x02 ∷ [])) ∷
      (asked 0x20 (0x81 ∷ 0x02 ∷ []) ⇒ answers []) ∷
      (sample_of 0 ⇒ silently 0) ∷
      (asked 0x30 [] ⇒ answers (0x00 ∷ 0x01 ∷ [])) ∷
      (asked 0x41 (0x01 ∷ 0x02 ∷ []) ⇒ answers (0x11 ∷ 0x01 ∷ 0xFF ∷ 0x02 ∷ [])) ∷
      [])
  -- a link of action 0 is none, whatever its input, and shows as it is stored; one of an action above 4 is one (E8)
  pub link_idle : Plays (with_links fresh_module (link 5 0 ∷ link 0 1 ∷ link 3 5 ∷ link 1 9 ∷ replicate 12 fresh_link)) (
      (asked 0x41 (0x01 ∷ 0x02 ∷ 0x03 ∷ 0x04 ∷ []) ⇒ answers (0x05 ∷ 0x00 ∷ 0x00 ∷ 0x01 ∷ 0x03 ∷ 0x05 ∷ 0x01 ∷ 0x09 ∷ [])) ∷
      (asked 0x62 (0x01 ∷ []) ⇒ answers []) ∷
      (sample_of 1 ⇒ silently 0) ∷
      (asked 0x30 [] ⇒ answers (0x00 ∷ 0x02 ∷ [])) ∷
      (sample_of 0 ⇒ silently 0) ∷
      (asked 0x30 [] ⇒ answers (0x00 ∷ 0x00 ∷ [])) ∷
      (asked 0x1A (0x02 ∷ 0x81 ∷ 0x01 ∷ 0x2C ∷ 0x00 ∷ 0xC8 ∷ 0x00 ∷ 0x00 ∷ []) ⇒ refuses 14 0x03) ∷
      (written 604 (129 ∷ 300 ∷ 200 ∷ 0 ∷ []) ⇒ excepts 14 0x90 0x04) ∷
      (asked 0x1A (0x03 ∷ 0x81 ∷ 0x01 ∷ 0x2C ∷ 0x00 ∷ 0xC8 ∷ 0x00 ∷ 0x00 ∷ []) ⇒ refuses 14 0x03) ∷
      (written 608 (129 ∷ 300 ∷ 200 ∷ 0 ∷ []) ⇒ excepts 14 0x90 0x04) ∷
      (asked 0x1A (0x01 ∷ 0x81 ∷ 0x01 ∷ 0x2C ∷ 0x00 ∷ 0xC8 ∷ 0x00 ∷ 0x00 ∷ []) ⇒ answers []) ∷
      (asked 0x41 (0x01 ∷ []) ⇒ answers (0x05 ∷ 0x00 ∷ [])) ∷
      [])
  -- a link that the list lacks is none, and stores nothing (E8)
  pub links_lacking : Plays (with_links fresh_module ([])) (
      (asked 0x41 (0x01 ∷ 0x10 ∷ []) ⇒ answers (0x00 ∷ 0x00 ∷ 0x00 ∷ 0x00 ∷ [])) ∷
      (asked 0x40 (0x01 ∷ 0x01 ∷ 0x01 ∷ []) ⇒ answers []) ∷
      (asked 0x41 (0x01 ∷ []) ⇒ answers (0x00 ∷ 0x00 ∷ [])) ∷
      (asked 0x62 (0x01 ∷ []) ⇒ answers []) ∷
      (sample_of 1 ⇒ silently 0) ∷
      (asked 0x30 [] ⇒ answers (0x00 ∷ 0x00 ∷ [])) ∷
      (asked 0x1A (0x01 ∷ 0x81 ∷ 0x01 ∷ 0x2C ∷ 0x00 ∷ 0xC8 ∷ 0x00 ∷ 0x00 ∷ []) ⇒ answers []) ∷
      [])
  -- F = 1 alone makes a thermostat active: with sensor 0 or 3, TEMPx below TEMPy, ERR 3, TIME 0 (E8)
  pub links_and_other_heat : Plays
      (with_thermostats fresh_module (thermostat 0x80 (pos 300) (pos 200) 0 0 ∷ thermostat 0x83 (pos 300) (pos 200) 0 0 ∷ thermostat 0x81 (pos 200) (pos 300) 0 0 ∷ thermostat 0xC1 (pos 300) (pos 200) 0 3 ∷ thermostat 0x7F (pos 300) (pos 200) 9 3 ∷ replicate 11 fresh_thermostat)) (
      (asked 0x40 (0x01 ∷ 0x01 ∷ 0x01 ∷ []) ⇒ refuses 14 0x03) ∷
      (asked 0x40 (0x01 ∷ 0x02 ∷ 0x02 ∷ []) ⇒ refuses 14 0x03) ∷
      (asked 0x40 (0x01 ∷ 0x03 ∷ 0x03 ∷ []) ⇒ refuses 14 0x03) ∷
      (asked 0x40 (0x01 ∷ 0x04 ∷ 0x04 ∷ []) ⇒ refuses 14 0x03) ∷
      (asked 0x40 (0x01 ∷ 0x05 ∷ 0x01 ∷ []) ⇒ answers []) ∷
      [])
  -- a link's input 0 goes as input 1 (E8)
  pub link_input_zero : Plays (with_links fresh_module (link 0 1 ∷ link 0 2 ∷ link 0 3 ∷ link 0 4 ∷ replicate 12 fresh_link)) (
      (asked 0x62 (0x01 ∷ []) ⇒ answers []) ∷
      (asked 0x20 (0x84 ∷ []) ⇒ answers []) ∷
      (sample_of 1 ⇒ silently 0) ∷
      (asked 0x30 [] ⇒ answers (0x00 ∷ 0x05 ∷ [])) ∷
      (sample_of 2 ⇒ silently 0) ∷
      (asked 0x30 [] ⇒ answers (0x00 ∷ 0x06 ∷ [])) ∷
      (sample_of 0x8002 ⇒ silently 0) ∷
      (asked 0x30 [] ⇒ answers (0x00 ∷ 0x06 ∷ [])) ∷
      (sample_of 0x8000 ⇒ silently 0) ∷
      (asked 0x30 [] ⇒ answers (0x00 ∷ 0x06 ∷ [])) ∷
      (asked 0x41 (0x01 ∷ []) ⇒ answers (0x00 ∷ 0x01 ∷ [])) ∷
      [])
  -- an active thermostat and a link on one output: both act (E8); 14 for what would set either anew, until one is gone; other outputs are free
  pub link_and_heat : Plays
      (with_thermostats (with_links fresh_module (fresh_link ∷ link 1 1 ∷ replicate 14 fresh_link)) (fresh_thermostat ∷ thermostat 0x81 (pos 300) (pos 200) 0 2 ∷ replicate 14 fresh_thermostat)) (
      (asked 0x62 (0x01 ∷ []) ⇒ answers []) ∷
      (sample_of 1 ⇒ silently 0) ∷
      (asked 0x30 [] ⇒ answers (0x00 ∷ 0x02 ∷ [])) ∷
      (temperature_of true (pos 199) ⇒ silently 0) ∷
      (asked 0x30 [] ⇒ answers (0x00 ∷ 0x00 ∷ [])) ∷
      (sample_of 0 ⇒ silently 0) ∷
      (sample_of 1 ⇒ silently 0) ∷
      (asked 0x30 [] ⇒ answers (0x00 ∷ 0x02 ∷ [])) ∷
      (asked 0x20 (0x02 ∷ []) ⇒ refuses 12 0x03) ∷
      (sample_of 0 ⇒ silently 0) ∷
      (asked 0x30 [] ⇒ answers (0x00 ∷ 0x00 ∷ [])) ∷
      (temperature_of false (pos 0) ⇒ silently 0) ∷
      (asked 0x30 [] ⇒ answers (0x00 ∷ 0x02 ∷ [])) ∷
      (asked 0x1A (0x02 ∷ 0x81 ∷ 0x01 ∷ 0x2C ∷ 0x00 ∷ 0xC8 ∷ 0x00 ∷ 0x00 ∷ []) ⇒ refuses 14 0x03) ∷
      (written 604 (129 ∷ 300 ∷ 200 ∷ 0 ∷ []) ⇒ excepts 14 0x90 0x04) ∷
      (asked 0x40 (0x01 ∷ 0x02 ∷ 0x01 ∷ []) ⇒ refuses 14 0x03) ∷
      (asked 0x1A (0x01 ∷ 0x81 ∷ 0x01 ∷ 0x2C ∷ 0x00 ∷ 0xC8 ∷ 0x00 ∷ 0x00 ∷ 0x03 ∷ 0x81 ∷ 0x01 ∷ 0x2C ∷ 0x00 ∷
      0xC8 ∷ 0x00 ∷ 0x00 ∷ []) ⇒ answers []) ∷
      (asked 0x40 (0x01 ∷ 0x04 ∷ 0x01 ∷ []) ⇒ answers []) ∷
      (asked 0x41 (0x02 ∷ 0x04 ∷ []) ⇒ answers (0x01 ∷ 0x01 ∷ 0x01 ∷ 0x01 ∷ [])) ∷
      (asked 0x40 (0x01 ∷ 0x02 ∷ 0x00 ∷ []) ⇒ answers []) ∷
      (asked 0x1A (0x02 ∷ 0x81 ∷ 0x01 ∷ 0x2C ∷ 0x00 ∷ 0xC8 ∷ 0x00 ∷ 0x00 ∷ []) ⇒ answers []) ∷
      (asked 0x41 (0x02 ∷ []) ⇒ answers (0x00 ∷ 0x00 ∷ [])) ∷
      (temperature_of true (pos 199) ⇒ silently 0) ∷
      (sample_of 1 ⇒ silently 0) ∷
      (asked 0x30 [] ⇒ answers (0x00 ∷ 0x08 ∷ [])) ∷
      (asked 0x40 (0x01 ∷ 0x02 ∷ 0x01 ∷ []) ⇒ refuses 14 0x03) ∷
      [])
  -- a thermostat's pulse of TIME 0 is a plain set
  pub time_zero : Plays (with_thermostats fresh_module (thermostat 0xC1 (pos 300) (pos 200) 0 0 ∷ replicate 15 fresh_thermostat)) (
      (temperature_of true (pos 300) ⇒ silently 0) ∷
      (temperature_of true (pos 301) ⇒ silently 0) ∷
      (asked 0x33 (0x01 ∷ []) ⇒ answers (0x81 ∷ 0x00 ∷ [])) ∷
      [])
  -- TEMPx below TEMPy: above TEMPx goes first; it holds at every reading
  pub limits_exchanged : Plays
      (with_thermostats fresh_module (thermostat 0x81 (pos 200) (pos 300) 0 0 ∷ thermostat 0xA1 (pos 200) (pos 300) 0 0 ∷ replicate 14 fresh_thermostat)) (
      (temperature_of true (pos 250) ⇒ silently 0) ∷
      (asked 0x30 [] ⇒ answers (0x00 ∷ 0x01 ∷ [])) ∷
      (asked 0x20 (0x01 ∷ []) ⇒ refuses 12 0x03) ∷
      (temperature_of true (pos 200) ⇒ silently 0) ∷
      (asked 0x30 [] ⇒ answers (0x00 ∷ 0x02 ∷ [])) ∷
      (temperature_of true (pos 301) ⇒ silently 0) ∷
      (asked 0x30 [] ⇒ answers (0x00 ∷ 0x01 ∷ [])) ∷
      [])
  -- an ERR above 2 does nothing
  pub err_three : Plays (with_thermostats fresh_module (thermostat 0x81 (pos 300) (pos 200) 0 3 ∷ replicate 15 fresh_thermostat)) (
      (temperature_of true (pos 301) ⇒ silently 0) ∷
      (asked 0x30 [] ⇒ answers (0x00 ∷ 0x01 ∷ [])) ∷
      (temperature_of false (pos 0) ⇒ silently 0) ∷
      (asked 0x30 [] ⇒ answers (0x00 ∷ 0x01 ∷ [])) ∷
      (temperature_of true (pos 199) ⇒ silently 0) ∷
      (asked 0x30 [] ⇒ answers (0x00 ∷ 0x00 ∷ [])) ∷
      (temperature_of false (pos 0) ⇒ silently 0) ∷
      (asked 0x30 [] ⇒ answers (0x00 ∷ 0x00 ∷ [])) ∷
      [])
  -- another sensor acts on the one reading
  pub sensor_two : Plays (with_thermostats fresh_module (thermostat 0x82 (pos 300) (pos 200) 0 2 ∷ replicate 15 fresh_thermostat)) (
      (temperature_of true (pos 301) ⇒ silently 0) ∷
      (asked 0x30 [] ⇒ answers (0x00 ∷ 0x01 ∷ [])) ∷
      (temperature_of true (pos 199) ⇒ silently 0) ∷
      (asked 0x30 [] ⇒ answers (0x00 ∷ 0x00 ∷ [])) ∷
      (asked 0x20 (0x81 ∷ []) ⇒ refuses 12 0x03) ∷
      (temperature_of false (pos 0) ⇒ silently 0) ∷
      (asked 0x30 [] ⇒ answers (0x00 ∷ 0x01 ∷ [])) ∷
      [])
  -- nor has it a part in SS: its three bits leave out the third S (E6)
  pub sensor_seven : Plays (with_thermostats fresh_module (thermostat 0x97 (pos 300) (pos 200) 0 0 ∷ replicate 15 fresh_thermostat)) (
      (temperature_of true (pos 301) ⇒ silently 0) ∷
      (asked 0x30 [] ⇒ answers (0x00 ∷ 0x01 ∷ [])) ∷
      (temperature_of true (pos 250) ⇒ silently 0) ∷
      (asked 0x30 [] ⇒ answers (0x00 ∷ 0x01 ∷ [])) ∷
      (temperature_of true (pos 199) ⇒ silently 0) ∷
      (asked 0x30 [] ⇒ answers (0x00 ∷ 0x00 ∷ [])) ∷
      (asked 0x38 (0x01 ∷ []) ⇒ answers (0xA1 ∷ [])) ∷
      [])
  -- the same sensor beside the third S (E6)
  pub sensor_seven_band : Plays
      (with_thermostats fresh_module (thermostat 0x9F (pos 300) (pos 200) 0 0 ∷ thermostat 0xAA (pos 300) (pos 200) 0 2 ∷ replicate 14 fresh_thermostat)) (
      (temperature_of true (pos 301) ⇒ silently 0) ∷
      (asked 0x30 [] ⇒ answers (0x00 ∷ 0x02 ∷ [])) ∷
      (temperature_of true (pos 300) ⇒ silently 0) ∷
      (asked 0x30 [] ⇒ answers (0x00 ∷ 0x01 ∷ [])) ∷
      (asked 0x20 (0x01 ∷ 0x02 ∷ []) ⇒ answers []) ∷
      (temperature_of true (pos 199) ⇒ silently 0) ∷
      (asked 0x30 [] ⇒ answers (0x00 ∷ 0x02 ∷ [])) ∷
      (asked 0x20 (0x81 ∷ []) ⇒ refuses 12 0x03) ∷
      (asked 0x38 (0x01 ∷ 0x02 ∷ []) ⇒ answers (0xA9 ∷ 0xAA ∷ [])) ∷
      (temperature_of true (pos 200) ⇒ silently 0) ∷
      (temperature_of false (pos 0) ⇒ silently 0) ∷
      (asked 0x30 [] ⇒ answers (0x00 ∷ 0x03 ∷ [])) ∷
      [])
  -- the third S (E6) with TEMPx below TEMPy: no reading is within, so SS 00 is off and SS 01 on; it holds at every reading
  pub band_reversed : Plays
      (with_thermostats fresh_module (thermostat 0x89 (pos 200) (pos 300) 0 0 ∷ thermostat 0xA9 (pos 200) (pos 300) 0 0 ∷ replicate 14 fresh_thermostat)) (
      (temperature_of true (pos 250) ⇒ silently 0) ∷
      (asked 0x30 [] ⇒ answers (0x00 ∷ 0x02 ∷ [])) ∷
      (asked 0x20 (0x81 ∷ []) ⇒ refuses 12 0x03) ∷
      (temperature_of true (pos 200) ⇒ silently 0) ∷
      (asked 0x30 [] ⇒ answers (0x00 ∷ 0x02 ∷ [])) ∷
      (temperature_of true (pos 300) ⇒ silently 0) ∷
      (asked 0x30 [] ⇒ answers (0x00 ∷ 0x02 ∷ [])) ∷
      (asked 0x20 (0x02 ∷ []) ⇒ refuses 12 0x03) ∷
      [])
  -- the third S (E6) with an ERR above 2: a fault does nothing
  pub band_err_three : Plays
      (with_thermostats fresh_module (thermostat 0x89 (pos 300) (pos 200) 0 3 ∷ thermostat 0xA9 (pos 300) (pos 200) 0 3 ∷ replicate 14 fresh_thermostat)) (
      (temperature_of true (pos 250) ⇒ silently 0) ∷
      (asked 0x30 [] ⇒ answers (0x00 ∷ 0x01 ∷ [])) ∷
      (temperature_of false (pos 0) ⇒ silently 0) ∷
      (asked 0x30 [] ⇒ answers (0x00 ∷ 0x01 ∷ [])) ∷
      (temperature_of true (pos 199) ⇒ silently 0) ∷
      (temperature_of false (pos 0) ⇒ silently 0) ∷
      (asked 0x30 [] ⇒ answers (0x00 ∷ 0x02 ∷ [])) ∷
      [])
  -- SS 10 and 11 with the third S (E6) go as 01, with either K and whatever TIME is; ERR, holding and 38H are as ever
  pub band_pulses : Plays
      (with_thermostats fresh_module (thermostat 0xC9 (pos 300) (pos 200) 1 0 ∷ thermostat 0xD9 (pos 300) (pos 200) 0 1 ∷ thermostat 0xE9 (pos 300) (pos 200) 1 2 ∷
      thermostat 0xF9 (pos 300) (pos 200) 9 0 ∷ replicate 12 fresh_thermostat)) (
      (temperature_of true (pos 301) ⇒ silently 0) ∷
      (asked 0x30 [] ⇒ answers (0x00 ∷ 0x0F ∷ [])) ∷
      (asked 0x33 (0x01 ∷ 0x03 ∷ []) ⇒ answers (0x81 ∷ 0x00 ∷ 0x83 ∷ 0x00 ∷ [])) ∷
      (asked 0x20 (0x01 ∷ []) ⇒ refuses 12 0x03) ∷
      (temperature_of true (pos 300) ⇒ silently 0) ∷
      (asked 0x30 [] ⇒ answers (0x00 ∷ 0x00 ∷ [])) ∷
      (asked 0x20 (0x81 ∷ 0x82 ∷ 0x84 ∷ []) ⇒ answers []) ∷
      (temperature_of true (pos 200) ⇒ silently 0) ∷
      (asked 0x30 [] ⇒ answers (0x00 ∷ 0x00 ∷ [])) ∷
      (temperature_of true (pos 199) ⇒ silently 0) ∷
      (asked 0x30 [] ⇒ answers (0x00 ∷ 0x0F ∷ [])) ∷
      (temperature_of false (pos 0) ⇒ silently 0) ∷
      (asked 0x30 [] ⇒ answers (0x00 ∷ 0x0D ∷ [])) ∷
      (asked 0x38 (0x01 ∷ 0x02 ∷ 0x03 ∷ 0x04 ∷ []) ⇒ answers (0xAC ∷ 0xAD ∷ 0xAE ∷ 0xAF ∷ [])) ∷
      [])
  -- a notice that is off and has a mask writes nothing, and its mask is shown
  pub off_with_mask : Plays (with_notice fresh_module (notice 0 0xFFFF 0x05)) (
      (asked 0x62 (0x01 ∷ []) ⇒ answers []) ∷
      (sample_of 1 ⇒ silently 0) ∷
      (asked 0x11 [] ⇒ answers (0x00 ∷ 0xFF ∷ 0xFF ∷ [])) ∷
      (asked 0x10 (0x01 ∷ 0x00 ∷ 0x01 ∷ []) ⇒ answers []) ∷
      (asked 0x11 [] ⇒ answers (0x61 ∷ 0x00 ∷ 0x01 ∷ [])) ∷
      [])
  -- a mode that the list lacks reads as 0 and selects no edge
  pub modes_lacking : Plays
      (with_inputs (with_sampling (with_modes fresh_module ([])) 1) (record { lines = replicate 16 fresh_line; counters = replicate 16 0 })) (
      (sample_of 1 ⇒ silently 0) ∷
      (sample_of 0 ⇒ silently 0) ∷
      (asked 0x60 (0x01 ∷ []) ⇒ answers (0x20 ∷ 0x00 ∷ 0x00 ∷ 0x00 ∷ 0x00 ∷ [])) ∷
      (asked 0x6B (0x01 ∷ []) ⇒ answers (0x00 ∷ [])) ∷
      (asked 0x6A (0x01 ∷ 0x03 ∷ []) ⇒ answers []) ∷
      (asked 0x6B (0x01 ∷ []) ⇒ answers (0x00 ∷ [])) ∷
      [])
  -- a counter that the list lacks reads as 0 and stores nothing
  pub counters_lacking : Plays
      (with_inputs (with_sampling (with_modes fresh_module (replicate 16 3)) 1) (record { lines = replicate 16 fresh_line; counters = [] })) (
      (sample_of 1 ⇒ silently 0) ∷
      (asked 0x60 (0x01 ∷ []) ⇒ answers (0x20 ∷ 0x00 ∷ 0x00 ∷ 0x00 ∷ 0x00 ∷ [])) ∷
      (asked 0x61 (0x01 ∷ 0x00 ∷ 0x00 ∷ 0x00 ∷ 0x01 ∷ []) ⇒ refuses 11 0x03) ∷
      (asked 0x61 (0x01 ∷ 0x00 ∷ 0x00 ∷ 0x00 ∷ 0x00 ∷ []) ⇒ answers []) ∷
      (asked 0x60 (0x10 ∷ []) ⇒ answers (0x20 ∷ 0x00 ∷ 0x00 ∷ 0x00 ∷ 0x00 ∷ [])) ∷
      [])
  -- any format but 0 is on, and shows as it is stored
  pub format_other : Plays (with_notice fresh_module (notice 0x01 0xFFFF 0x05)) (
      (asked 0x11 [] ⇒ answers (0x01 ∷ 0xFF ∷ 0xFF ∷ [])) ∷
      (asked 0x10 (0x01 ∷ []) ⇒ refuses 11 0x03) ∷
      (spinel_frame (0x2A ∷ 0x42 ∷ 0x31 ∷ 0x49 ∷ 0x58 ∷ 0x0D ∷ []) ⇒ reply 0 (0x2A ∷ 0x42 ∷ 0x31 ∷ 0x30 ∷ 0x01 ∷ 0x0D ∷ [])) ∷
      (asked 0x62 (0x01 ∷ []) ⇒ answers []) ∷
      (sample_of 1 ⇒ announces 0x31 0x05 (0x00 ∷ 0x01 ∷ [])) ∷
      [])
  -- a text notice with a mask goes by it, and shows all inputs
  pub text_mask : Plays (with_notice fresh_module (notice 0x42 0x0002 0x05)) (
      (asked 0x62 (0x01 ∷ []) ⇒ answers []) ∷
      (sample_of 1 ⇒ silently 0) ∷
      (sample_of 3 ⇒ reply 0 (0x2A ∷ 0x42 ∷ 0x31 ∷ 0x44 ∷ 0x20 ∷ 0x48 ∷ 0x48 ∷ 0x4C ∷ 0x4C ∷ 0x4C ∷ 0x20 ∷ 0x4C ∷ 0x4C ∷
      0x4C ∷ 0x4C ∷ 0x4C ∷ 0x20 ∷ 0x4C ∷ 0x4C ∷ 0x4C ∷ 0x4C ∷ 0x4C ∷ 0x20 ∷ 0x4C ∷ 0x0D ∷ [])) ∷
      (sample_of 2 ⇒ silently 0) ∷
      (asked 0x11 [] ⇒ answers (0x42 ∷ 0x00 ∷ 0x02 ∷ [])) ∷
      [])
  -- an own address FE is the universal one: no E4H, E0H
  pub own_universal : Plays (with_spinel fresh_module (port 0xFE 6 true)) (
      (asked_at 0xFE 0xE0 (0x31 ∷ 0x06 ∷ []) ⇒ refuses_from 0xFE 10 0x04) ∷
      (asked_at 0xFE 0xE4 [] ⇒ refuses_from 0xFE 10 0x04) ∷
      (asked 0x30 [] ⇒ silently 5) ∷
      (asked_at 0xFE 0xF0 [] ⇒ answers_from 0xFE (0xFE ∷ 0x06 ∷ [])) ∷
      [])
  -- an own address FF is the broadcast: only 20H, 23H, 25H, and no reply
  pub own_broadcast : Plays (with_spinel fresh_module (port 0xFF 6 false)) (
      (asked_at 0xFF 0x30 [] ⇒ silently 6) ∷
      (asked_at 0xFF 0x20 (0x81 ∷ []) ⇒ silently 0) ∷
      (asked_at 0xFE 0x30 [] ⇒ answers_from 0xFF (0x00 ∷ 0x01 ∷ [])) ∷
      [])
  -- a Modbus address FF is an own one as any other
  pub own_ff : Plays (with_modbus fresh_module (port 0xFF 6 false)) (
      (sent_to 0xFF 0x05 (0x00 ∷ 0x00 ∷ 0xFF ∷ 0x00 ∷ []) ⇒ gives_from 0xFF 0x05 (0x00 ∷ 0x00 ∷ 0xFF ∷ 0x00 ∷ [])) ∷
      [])
  -- a Modbus address 0 is the broadcast: only 05 and 0F, and no reply
  pub own_zero : Plays (with_modbus fresh_module (port 0 6 true)) (
      (sent_to 0x00 0x01 (0x00 ∷ 0x00 ∷ 0x00 ∷ 0x10 ∷ []) ⇒ silently 6) ∷
      (sent_to 0x00 0x06 (0x00 ∷ 0x01 ∷ 0x00 ∷ 0x05 ∷ []) ⇒ silently 6) ∷
      (sent_to 0x00 0x05 (0x00 ∷ 0x00 ∷ 0xFF ∷ 0x00 ∷ []) ⇒ silently 0) ∷
      (asked 0x30 [] ⇒ answers (0x00 ∷ 0x01 ∷ [])) ∷
      [])

pub unreached_table : UnreachedTable
unfolding unchecked
unreached_table = record {
  number_zero = passed _ _ _ refl refl;
  run_of_255 = passed _ _ _ refl refl;
  run_ended = passed _ _ _ refl refl;
  mode_four = passed _ _ _ refl refl;
  not_a_number = passed _ _ _ (simp eqb_same) refl;
  preset_one = passed _ _ _ refl refl;
  preset_time_zero = passed _ _ _ refl refl;
  link_action_five = passed _ _ _ refl refl;
  link_input_beyond = passed _ _ _ refl refl;
  link_idle = passed _ _ _ (simp eqb_same) refl;
  links_lacking = passed _ _ _ refl refl;
  links_and_other_heat = passed _ _ _ refl refl;
  link_input_zero = passed _ _ _ refl refl;
  link_and_heat = passed _ _ _ (simp eqb_same) refl;
  time_zero = passed _ _ _ refl refl;
  limits_exchanged = passed _ _ _ refl refl;
  err_three = passed _ _ _ refl refl;
  sensor_two = passed _ _ _ refl refl;
  sensor_seven = passed _ _ _ refl refl;
  sensor_seven_band = passed _ _ _ refl refl;
  band_reversed = passed _ _ _ refl refl;
  band_err_three = passed _ _ _ refl refl;
  band_pulses = passed _ _ _ refl refl;
  off_with_mask = passed _ _ _ refl refl;
  modes_lacking = passed _ _ _ refl refl;
  counters_lacking = passed _ _ _ refl refl;
  format_other = passed _ _ _ refl refl;
  text_mask = passed _ _ _ refl refl;
  own_universal = passed _ _ _ refl refl;
  own_broadcast = passed _ _ _ refl refl;
  own_ff = passed _ _ _ (simp eqb_same) refl;
  own_zero = passed _ _ _ (simp eqb_same) refl;
}

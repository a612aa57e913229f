-- E3, one input alone: its accepted bits, and what modules that agree in it hold of it after samples. Written by reference/tables.py. Assumes nothing.
use Prim.Native.Nat.{ℕ}
use mathlib.Core.Bool.{true, false, cond, Bool}
use mathlib.Core.Path.{refl, ◌≡◌}
use mathlib.Core.List.{[], ◌∷◌, ◌++◌, List}
use lib.ListN.{replicate}
use lib.IntN.{pos, negsuc}
use Rattle.model.specs.State.{fresh_module, with_inputs, with_sampling, with_modes, line, output, preset, link, thermostat, notice, port}
use Rattle.model.specs.State.{fresh_output, fresh_preset, fresh_link, fresh_thermostat}
use Rattle.model.specs.declared.Reading.TheVariants.{Valid, Fault}
use lib.Ieee.{of_bits, binary32}
use Rattle.model.specs.Cycles.{counter_of}
use Rattle.model.specs.Calls.{run}
use Rattle.model.proofs.Computing.{computing}
use Rattle.model.specs.declared.Module.{Module}
use Rattle.model.specs.Alone.{Sample, sample_calls, accepted_bits, line_of, mode_of}

-- a sample by the bytes lent and the bits
abbrev sample_in : ℕ → ℕ → Sample
sample_in room bits = record { room = room; bits = bits }

-- of an input: is it on, its run, its mode, its counter
abbrev view : Bool → ℕ → ℕ → ℕ → List ℕ
view s r m c = cond s 1 0 ∷ r ∷ m ∷ c ∷ []

-- as a module holds them
abbrev four : ℕ → Module → List ℕ
four k m = view (line_of m k).stable (line_of m k).run (mode_of m k) (counter_of m k)

-- a module with fresh inputs and modes, and other outputs, settings, readings and ports than a fresh one
abbrev busy : Module
busy = record {
  inputs = fresh_module.inputs;
  outputs = output true 2 ∷ output false 1 ∷ output true 0 ∷ replicate 13 fresh_output;
  settings = record {
    modes = fresh_module.settings.modes;
    sampling = 1;
    presets = preset 2 5 ∷ preset 3 255 ∷ preset 0 9 ∷ replicate 13 fresh_preset;
    links = fresh_link ∷ link 16 4 ∷ link 1 1 ∷ replicate 13 fresh_link;
    thermostats = thermostat 0x81 (pos 300) (pos 200) 0 1 ∷ thermostat 0xD1 (pos 0) (negsuc 4) 9 2 ∷ thermostat 0x29 (pos 5) (pos 5) 1 0 ∷ replicate 13 fresh_thermostat;
    notice = notice 0x61 0xFFFF 0x07;
    sum_tested = false;
  };
  reading = Valid (pos 250) (of_bits binary32 0x41C80000);
  last = Valid (pos 250) (of_bits binary32 0x41C80000);
  spinel = port 0x32 7 true;
  modbus = port 0x05 3 true;
}

-- and one with others again
abbrev hot : Module
hot = record {
  inputs = fresh_module.inputs;
  outputs = output false 500 ∷ output true 3 ∷ replicate 14 fresh_output;
  settings = record {
    modes = fresh_module.settings.modes;
    sampling = 3;
    presets = fresh_preset ∷ preset 2 1 ∷ preset 3 3 ∷ replicate 13 fresh_preset;
    links = link 8 2 ∷ link 1 3 ∷ link 5 1 ∷ replicate 13 fresh_link;
    thermostats = thermostat 0xA9 (pos 250) (pos 200) 0 2 ∷ thermostat 0x00 (pos 1) (pos 2) 3 2 ∷ thermostat 0x81 (negsuc 0) (negsuc 1) 0 0 ∷ replicate 13 fresh_thermostat;
    notice = notice 0x61 0x0110 0x5A;
    sum_tested = true;
  };
  reading = Fault;
  last = Valid (pos 301) (of_bits binary32 0x41F0CCCD);
  spinel = port 0x31 6 false;
  modbus = port 0x31 6 true;
}

pub record AloneTable : Type 0 where
  -- no bits of no samples
  pub no_samples : accepted_bits 1 fresh_module [] ≡ []
  -- none where all are refused
  pub all_refused : accepted_bits 1 fresh_module (sample_in 0 1 ∷ sample_in 255 0xFFFF ∷ sample_in 255 1 ∷ []) ≡ []
  -- up to 255 bytes lent: refused; 256, 257 and more: accepted
  pub rooms : accepted_bits 1 fresh_module (sample_in 0 1 ∷ sample_in 255 1 ∷ sample_in 256 1 ∷ sample_in 257 0 ∷ sample_in 256 0 ∷ sample_in 65536 1 ∷
      sample_in 1 0 ∷ sample_in 511 1 ∷ [])
      ≡ true ∷ false ∷ false ∷ true ∷ true ∷ []
  -- the first sample refused
  pub first_refused : accepted_bits 2 fresh_module (sample_in 255 2 ∷ sample_in 256 0xFFFD ∷ sample_in 256 2 ∷ []) ≡ false ∷ true ∷ []
  -- one in the middle
  pub some_refused : accepted_bits 8 fresh_module (sample_in 256 128 ∷ sample_in 0 0xFF7F ∷ sample_in 256 0xFF7F ∷ []) ≡ true ∷ false ∷ []
  -- the last one
  pub last_refused : accepted_bits 16 fresh_module (sample_in 256 0x8000 ∷ sample_in 256 0x7FFF ∷ sample_in 255 0x8000 ∷ []) ≡ true ∷ false ∷ []
  -- from one list with two refused, each input's own bits
  pub bits_of_1 : accepted_bits 1 fresh_module (sample_in 256 0x8002 ∷ sample_in 255 0xFFFF ∷ sample_in 257 257 ∷ sample_in 256 0x7F7D ∷ sample_in 0 0 ∷
      sample_in 256 0x8083 ∷ sample_in 256 0x4141 ∷ sample_in 256 128 ∷ [])
      ≡ false ∷ true ∷ true ∷ true ∷ true ∷ false ∷ []
  pub bits_of_2 : accepted_bits 2 fresh_module (sample_in 256 0x8002 ∷ sample_in 255 0xFFFF ∷ sample_in 257 257 ∷ sample_in 256 0x7F7D ∷ sample_in 0 0 ∷
      sample_in 256 0x8083 ∷ sample_in 256 0x4141 ∷ sample_in 256 128 ∷ [])
      ≡ true ∷ false ∷ false ∷ true ∷ false ∷ false ∷ []
  pub bits_of_8 : accepted_bits 8 fresh_module (sample_in 256 0x8002 ∷ sample_in 255 0xFFFF ∷ sample_in 257 257 ∷ sample_in 256 0x7F7D ∷ sample_in 0 0 ∷
      sample_in 256 0x8083 ∷ sample_in 256 0x4141 ∷ sample_in 256 128 ∷ [])
      ≡ false ∷ false ∷ false ∷ true ∷ false ∷ true ∷ []
  pub bits_of_16 : accepted_bits 16 fresh_module (sample_in 256 0x8002 ∷ sample_in 255 0xFFFF ∷ sample_in 257 257 ∷ sample_in 256 0x7F7D ∷ sample_in 0 0 ∷
      sample_in 256 0x8083 ∷ sample_in 256 0x4141 ∷ sample_in 256 128 ∷ [])
      ≡ true ∷ false ∷ false ∷ true ∷ false ∷ false ∷ []
  -- the same where each edge draws a notice
  pub bits_elsewhere : accepted_bits 16 busy (sample_in 256 0x8002 ∷ sample_in 255 0xFFFF ∷ sample_in 257 257 ∷ sample_in 256 0x7F7D ∷ sample_in 0 0 ∷
      sample_in 256 0x8083 ∷ sample_in 256 0x4141 ∷ sample_in 256 128 ∷ [])
      ≡ true ∷ false ∷ false ∷ true ∷ false ∷ false ∷ []
  -- input 1 by itself, and while all others have edges: number 1, mode 3
  pub first_among_edges : four 1 (run
      (with_inputs (with_sampling (with_modes fresh_module (3 ∷ replicate 15 0)) 1)
      (record { lines = replicate 16 (line false 0); counters = 5 ∷ replicate 15 0 }))
      (sample_calls (sample_in 256 1 ∷ sample_in 256 0 ∷ sample_in 256 1 ∷ [])))
      ≡ view true 0 3 8
  pub first_among_edges_elsewhere : four 1 (run
      (with_inputs (with_sampling (with_modes busy (3 ∷ 2 ∷ 3 ∷ 0 ∷ 1 ∷ 2 ∷ 3 ∷ 0 ∷ 1 ∷ 2 ∷ 3 ∷ 0 ∷ 1 ∷ 2 ∷ 3 ∷ 0 ∷ [])) 1)
      (record {
        lines = line false 0 ∷ line true 0 ∷ line true 0 ∷ line false 0 ∷ line false 0 ∷ line true 0 ∷ line true 0 ∷ line false 0 ∷
            line false 0 ∷ line true 0 ∷ line true 0 ∷ line false 0 ∷ line false 0 ∷ line true 0 ∷ line true 0 ∷ line false 0 ∷ [];
        counters = 5 ∷ 600 ∷
            900 ∷ 1200 ∷ 1500 ∷ 1800 ∷ 2100 ∷ 2400 ∷ 2700 ∷ 3000 ∷ 3300 ∷ 3600 ∷ 3900 ∷ 4200 ∷ 4500 ∷ 4800 ∷ [];
      }))
      (sample_calls (sample_in 0 0 ∷ sample_in 256 0xFFFF ∷ sample_in 255 0xFFFE ∷ sample_in 256 0 ∷ sample_in 257 0xAAAB ∷ sample_in 255 0 ∷ [])))
      ≡ view true 0 3 8
  -- input 16, one sample before an edge, with all others or with none: number 3, mode 1, so a falling edge is not counted
  pub last_among_edges : four 16 (run
      (with_inputs (with_sampling (with_modes busy (replicate 15 3 ++ 1 ∷ [])) 3)
      (record { lines = replicate 16 (line false 2); counters = replicate 15 1 ++ 9 ∷ [] }))
      (sample_calls (sample_in 255 0x8000 ∷ sample_in 255 0 ∷ sample_in 256 0xFFFF ∷ sample_in 256 0x7FFF ∷ sample_in 256 0 ∷
      sample_in 256 0x5555 ∷ sample_in 256 0x8000 ∷ sample_in 256 0xAAAA ∷ [])))
      ≡ view false 2 1 10
  pub last_among_edges_elsewhere : four 16 (run
      (with_inputs (with_sampling (with_modes hot (replicate 15 2 ++ 1 ∷ [])) 3)
      (record { lines = replicate 15 (line true 0) ++ line false 2 ∷ []; counters = replicate 15 65535 ++ 9 ∷ [] }))
      (sample_calls (sample_in 256 0x8000 ∷ sample_in 256 1 ∷ sample_in 0 0x8000 ∷ sample_in 256 0x7FFF ∷ sample_in 256 0x2AAA ∷
      sample_in 256 0xD555 ∷ sample_in 256 0xFFFF ∷ sample_in 255 0 ∷ [])))
      ≡ view false 2 1 10
  -- 4,294,967,295 and an edge: 0, beside others at that limit and below it: stable on, number 1, mode 2
  pub past_the_limit : four 8 (run
      (with_inputs (with_sampling (with_modes hot (replicate 7 3 ++ 2 ∷ replicate 8 3)) 1)
      (record { lines = replicate 16 (line true 0); counters = replicate 16 4294967295 }))
      (sample_calls (sample_in 256 0 ∷ sample_in 256 128 ∷ [])))
      ≡ view true 0 2 0
  pub past_the_limit_elsewhere : four 8 (run
      (with_inputs (with_sampling (with_modes fresh_module (1 ∷ 2 ∷ 3 ∷ 0 ∷ 1 ∷ 2 ∷ 3 ∷ 2 ∷ 1 ∷ 2 ∷ 3 ∷ 0 ∷ 1 ∷ 2 ∷ 3 ∷ 0 ∷ [])) 1)
      (record {
        lines = line false 0 ∷ line true 0 ∷ line true 0 ∷ line false 0 ∷ line false 0 ∷ replicate 3 (line true 0) ++ line false 0 ∷
            line true 0 ∷ line true 0 ∷ line false 0 ∷ line false 0 ∷ line true 0 ∷ line true 0 ∷ line false 0 ∷ [];
        counters = 300 ∷ 600 ∷ 900 ∷ 1200 ∷
            1500 ∷ 1800 ∷ 2100 ∷ 4294967295 ∷ 2700 ∷ 3000 ∷ 3300 ∷ 3600 ∷ 3900 ∷ 4200 ∷ 4500 ∷ 4800 ∷ [];
      }))
      (sample_calls (sample_in 255 0xFFFF ∷ sample_in 256 0xFF7F ∷ sample_in 255 255 ∷ sample_in 256 0xFFFF ∷ sample_in 255 0 ∷
      sample_in 255 0 ∷ [])))
      ≡ view true 0 2 0
  -- a run of 10 goes on to 19, with refused samples between: number 20
  pub half_a_run : four 2 (run
      (with_inputs (with_sampling (with_modes busy (1 ∷ 3 ∷ 3 ∷ 0 ∷ 1 ∷ 2 ∷ 3 ∷ 0 ∷ 1 ∷ 2 ∷ 3 ∷ 0 ∷ 1 ∷ 2 ∷ 3 ∷ 0 ∷ [])) 20)
      (record {
        lines = line false 6 ∷ line false 10 ∷ line true 0 ∷ line false 7 ∷ line false 14 ∷ line true 1 ∷ line true 8 ∷ line false 15 ∷
            line false 2 ∷ line true 9 ∷ line true 16 ∷ line false 3 ∷ line false 10 ∷ line true 17 ∷ line true 4 ∷ line false 11 ∷ [];
        counters = 300 ∷
            100 ∷ 900 ∷ 1200 ∷ 1500 ∷ 1800 ∷ 2100 ∷ 2400 ∷ 2700 ∷ 3000 ∷ 3300 ∷ 3600 ∷ 3900 ∷ 4200 ∷ 4500 ∷ 4800 ∷ [];
      }))
      (sample_calls (replicate 4 (sample_in 256 2) ++ sample_in 255 0 ∷ replicate 5 (sample_in 256 0xFFFF))))
      ≡ view false 19 3 100
  pub half_a_run_elsewhere : four 2 (run
      (with_inputs (with_sampling (with_modes hot (1 ∷ 3 ∷ replicate 14 1)) 20)
      (record { lines = line false 19 ∷ line false 10 ∷ replicate 14 (line false 19); counters = 0 ∷ 100 ∷ replicate 14 0 }))
      (sample_calls (sample_in 255 2 ∷ replicate 3 (sample_in 256 0xAAAA) ++ sample_in 255 0 ∷ sample_in 255 0 ∷ replicate 6 (sample_in 256 2) ++
      sample_in 255 2 ∷ sample_in 255 2 ∷ [])))
      ≡ view false 19 3 100
  -- mode 0 counts no edge, whatever the others' modes: stable on, number 1
  pub none_selected : four 9 (run
      (with_inputs (with_sampling (with_modes fresh_module (replicate 8 3 ++ 0 ∷ replicate 7 3)) 1)
      (record { lines = replicate 16 (line true 0); counters = replicate 16 7 }))
      (sample_calls (sample_in 256 0 ∷ sample_in 256 256 ∷ sample_in 256 256 ∷ sample_in 256 0 ∷ [])))
      ≡ view false 0 0 7
  pub none_selected_elsewhere : four 9 (run
      (with_inputs (with_sampling (with_modes busy (replicate 8 1 ++ 0 ∷ replicate 7 1)) 1)
      (record { lines = replicate 8 (line false 0) ++ line true 0 ∷ replicate 7 (line false 0); counters = replicate 8 0 ++ 7 ∷ replicate 7 0 }))
      (sample_calls (sample_in 256 0xFEFF ∷ sample_in 256 0xFFFF ∷ sample_in 254 0 ∷ sample_in 256 256 ∷ sample_in 256 0xFEFF ∷ [])))
      ≡ view false 0 0 7
  -- number 255: the second sample brings the edge, the third begins a run: mode 2
  pub longest_run : four 1 (run
      (with_inputs (with_sampling (with_modes hot (2 ∷ replicate 15 3)) 255)
      (record { lines = line true 253 ∷ replicate 15 (line false 254); counters = 0 ∷ replicate 15 9 }))
      (sample_calls (sample_in 256 0xFFFE ∷ sample_in 256 0 ∷ sample_in 256 1 ∷ [])))
      ≡ view false 1 2 1
  pub longest_run_elsewhere : four 1 (run
      (with_inputs (with_sampling (with_modes busy (2 ∷ 2 ∷ 3 ∷ 0 ∷ 1 ∷ 2 ∷ 3 ∷ 0 ∷ 1 ∷ 2 ∷ 3 ∷ 0 ∷ 1 ∷ 2 ∷ 3 ∷ 0 ∷ [])) 255)
      (record {
        lines = line true 253 ∷ line true 13 ∷ line true 20 ∷ line false 27 ∷ line false 34 ∷ line true 41 ∷ line true 48 ∷ line false 55 ∷
            line false 62 ∷ line true 69 ∷ line true 76 ∷ line false 83 ∷ line false 90 ∷ line true 97 ∷ line true 104 ∷ line false 111 ∷ [];
        counters = 0 ∷ 600 ∷ 900 ∷ 1200 ∷ 1500 ∷ 1800 ∷ 2100 ∷ 2400 ∷ 2700 ∷ 3000 ∷ 3300 ∷ 3600 ∷ 3900 ∷ 4200 ∷ 4500 ∷ 4800 ∷ [];
      }))
      (sample_calls (sample_in 256 0 ∷ sample_in 0 1 ∷ sample_in 256 0xFFFE ∷ sample_in 256 0xFFFF ∷ [])))
      ≡ view false 1 2 1
  -- an equal sample ends the run, a refused one does not: stable on, number 3
  pub run_ended : four 5 (run
      (with_inputs (with_sampling (with_modes fresh_module (replicate 4 0 ++ 3 ∷ replicate 11 0)) 3)
      (record {
        lines = replicate 4 (line false 0) ++ line true 2 ∷ replicate 11 (line false 0);
        counters = replicate 4 0 ++ 65535 ∷
            replicate 11 0;
      }))
      (sample_calls (sample_in 256 16 ∷ sample_in 256 0 ∷ sample_in 256 0 ∷ [])))
      ≡ view true 2 3 65535
  pub run_ended_elsewhere : four 5 (run
      (with_inputs (with_sampling (with_modes hot (1 ∷ 2 ∷ 3 ∷ 0 ∷ 3 ∷ 2 ∷ 3 ∷ 0 ∷ 1 ∷ 2 ∷ 3 ∷ 0 ∷ 1 ∷ 2 ∷ 3 ∷ 0 ∷ [])) 3)
      (record {
        lines = line false 0 ∷ line true 1 ∷ line true 2 ∷ line false 0 ∷ line true 2 ∷ line true 2 ∷ line true 0 ∷ line false 1 ∷
            line false 2 ∷ line true 0 ∷ line true 1 ∷ line false 2 ∷ line false 0 ∷ line true 1 ∷ line true 2 ∷ line false 0 ∷ [];
        counters = 300 ∷
            600 ∷ 900 ∷ 1200 ∷ 65535 ∷ 1800 ∷ 2100 ∷ 2400 ∷ 2700 ∷ 3000 ∷ 3300 ∷ 3600 ∷ 3900 ∷ 4200 ∷ 4500 ∷ 4800 ∷ [];
      }))
      (sample_calls (sample_in 255 0 ∷ sample_in 256 0xFFFF ∷ sample_in 256 0xFFEF ∷ sample_in 255 16 ∷ sample_in 255 16 ∷
      sample_in 256 0x0F0F ∷ [])))
      ≡ view true 2 3 65535
  -- no sample, and refused ones alone: all stays
  pub none_accepted : four 3 (run
      (with_inputs (with_sampling (with_modes busy (replicate 16 1)) 20)
      (record { lines = line false 19 ∷ line false 19 ∷ line true 7 ∷ replicate 13 (line false 19); counters = 2 ∷ 2 ∷ 300 ∷ replicate 13 2 }))
      (sample_calls []))
      ≡ view true 7 1 300
  pub none_accepted_elsewhere : four 3 (run
      (with_inputs (with_sampling (with_modes hot (0 ∷ 0 ∷ 1 ∷ replicate 13 0)) 20)
      (record { lines = line false 0 ∷ line false 0 ∷ line true 7 ∷ replicate 13 (line false 0); counters = 0 ∷ 0 ∷ 300 ∷ replicate 13 0 }))
      (sample_calls (sample_in 0 0 ∷ sample_in 0 0xFFFB ∷ sample_in 255 4 ∷ sample_in 255 0 ∷ [])))
      ≡ view true 7 1 300
  -- an input and a mode that the lists lack read as fresh ones
  pub lacking : four 1 (run
      (with_inputs (with_sampling (with_modes fresh_module ([])) 1)
      (record { lines = []; counters = [] }))
      (sample_calls []))
      ≡ view false 0 0 0

pub alone_table : AloneTable
unfolding computing
alone_table = record {
  no_samples = refl;
  all_refused = refl;
  rooms = refl;
  first_refused = refl;
  some_refused = refl;
  last_refused = refl;
  bits_of_1 = refl;
  bits_of_2 = refl;
  bits_of_8 = refl;
  bits_of_16 = refl;
  bits_elsewhere = refl;
  first_among_edges = refl;
  first_among_edges_elsewhere = refl;
  last_among_edges = refl;
  last_among_edges_elsewhere = refl;
  past_the_limit = refl;
  past_the_limit_elsewhere = refl;
  half_a_run = refl;
  half_a_run_elsewhere = refl;
  none_selected = refl;
  none_selected_elsewhere = refl;
  longest_run = refl;
  longest_run_elsewhere = refl;
  run_ended = refl;
  run_ended_elsewhere = refl;
  none_accepted = refl;
  none_accepted_elsewhere = refl;
  lacking = refl;
}

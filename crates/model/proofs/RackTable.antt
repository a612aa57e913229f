-- 01, Rack table: A to J through the whole calls; F goes by the law of `Wraps`. Written by reference/tables.py. Assumes nothing.
use mathlib.Core.Bool.{true}
use mathlib.Core.Path.{refl}
use mathlib.Core.List.{[], ◌∷◌, ◌++◌}
use lib.IntN.{pos}
use Rattle.model.specs.State.{fresh_module}
use Rattle.model.specs.Calls.{run}
use Rattle.model.proofs.Computing.{unchecked}
use Rattle.model.proofs.Checksums.{eqb_same, passed}
use Rattle.model.proofs.Wraps.{cycles, wraps}
use Rattle.model.proofs.Exchanges.{Plays, ◌⇒◌, sample_of, temperature_of, spinel_frame, asked, requested, reply, silently, answers, refuses, shows}
use Rattle.model.proofs.Exchanges.{excepts, quiet}

pub record RackTable : Type 0 where
  -- a preset is set
  pub case_a : Plays fresh_module (
      (spinel_frame (0x2A ∷ 0x61 ∷ 0x00 ∷ 0x08 ∷ 0x31 ∷ 0x02 ∷ 0x26 ∷ 0x04 ∷ 0x02 ∷ 0x04 ∷ 0x09 ∷ 0x0D ∷ [])
      ⇒ reply 0 (0x2A ∷ 0x61 ∷ 0x00 ∷ 0x05 ∷ 0x31 ∷ 0x02 ∷ 0x00 ∷ 0x3C ∷ 0x0D ∷ [])) ∷
      [])
  -- with SUM 0A: 4
  pub case_b : Plays fresh_module (
      (spinel_frame (0x2A ∷ 0x61 ∷ 0x00 ∷ 0x08 ∷ 0x31 ∷ 0x02 ∷ 0x26 ∷ 0x04 ∷ 0x02 ∷ 0x04 ∷ 0x0A ∷ 0x0D ∷ []) ⇒ silently 4) ∷
      [])
  -- to address 01: 5
  pub case_c : Plays fresh_module (
      (spinel_frame (0x2A ∷ 0x61 ∷ 0x00 ∷ 0x05 ∷ 0x01 ∷ 0x02 ∷ 0x31 ∷ 0x3B ∷ 0x0D ∷ []) ⇒ silently 5) ∷
      [])
  -- mode 3, sampling number 1, samples 1 0 1: counter 3; deduct 2 leaves 1; deduct 2: 11
  pub case_d : Plays fresh_module (
      (asked 0x6A (0x01 ∷ 0x03 ∷ []) ⇒ answers []) ∷
      (asked 0x62 (0x01 ∷ []) ⇒ answers []) ∷
      (sample_of 1 ⇒ silently 0) ∷
      (sample_of 0 ⇒ silently 0) ∷
      (sample_of 1 ⇒ silently 0) ∷
      (asked 0x60 (0x01 ∷ []) ⇒ answers (0x20 ∷ 0x00 ∷ 0x00 ∷ 0x00 ∷ 0x03 ∷ [])) ∷
      (asked 0x61 (0x01 ∷ 0x00 ∷ 0x00 ∷ 0x00 ∷ 0x02 ∷ []) ⇒ answers []) ∷
      (asked 0x60 (0x01 ∷ []) ⇒ answers (0x20 ∷ 0x00 ∷ 0x00 ∷ 0x00 ∷ 0x01 ∷ [])) ∷
      (asked 0x61 (0x01 ∷ 0x00 ∷ 0x00 ∷ 0x00 ∷ 0x02 ∷ []) ⇒ refuses 11 0x03) ∷
      [])
  -- 19 samples of 1, no edge; 20, one
  pub case_e : Plays fresh_module (
      (asked 0x6A (0x01 ∷ 0x03 ∷ []) ⇒ answers []) ∷
      quiet 19 1 ++
      (asked 0x31 [] ⇒ answers (0x00 ∷ 0x00 ∷ [])) ∷
      (asked 0x60 (0x01 ∷ []) ⇒ answers (0x20 ∷ 0x00 ∷ 0x00 ∷ 0x00 ∷ 0x00 ∷ [])) ∷
      (sample_of 1 ⇒ silently 0) ∷
      (asked 0x31 [] ⇒ answers (0x00 ∷ 0x01 ∷ [])) ∷
      (asked 0x60 (0x01 ∷ []) ⇒ answers (0x20 ∷ 0x00 ∷ 0x00 ∷ 0x00 ∷ 0x01 ∷ [])) ∷
      [])
  -- 4,294,967,294 edges, then one, 4,294,967,295; one more: 0
  pub case_f : Plays (run fresh_module (cycles 2147483647)) (
      (sample_of 1 ⇒ silently 0) ∷
      (asked 0x60 (0x01 ∷ []) ⇒ answers (0x20 ∷ 0xFF ∷ 0xFF ∷ 0xFF ∷ 0xFF ∷ [])) ∷
      (sample_of 0 ⇒ silently 0) ∷
      (asked 0x60 (0x01 ∷ []) ⇒ answers (0x20 ∷ 0x00 ∷ 0x00 ∷ 0x00 ∷ 0x00 ∷ [])) ∷
      [])
  -- counters 5, 5; deduct 1 and 9: 11; still 5, 5
  pub case_g : Plays fresh_module (
      (asked 0x6A (0x01 ∷ 0x03 ∷ 0x02 ∷ 0x03 ∷ []) ⇒ answers []) ∷
      (asked 0x62 (0x01 ∷ []) ⇒ answers []) ∷
      (sample_of 3 ⇒ silently 0) ∷
      (sample_of 0 ⇒ silently 0) ∷
      (sample_of 3 ⇒ silently 0) ∷
      (sample_of 0 ⇒ silently 0) ∷
      (sample_of 3 ⇒ silently 0) ∷
      (asked 0x61 (0x01 ∷ 0x00 ∷ 0x00 ∷ 0x00 ∷ 0x01 ∷ 0x02 ∷ 0x00 ∷ 0x00 ∷ 0x00 ∷ 0x09 ∷ []) ⇒ refuses 11 0x03) ∷
      (asked 0x60 (0x01 ∷ 0x02 ∷ []) ⇒ answers (0x20 ∷ 0x00 ∷ 0x00 ∷ 0x00 ∷ 0x05 ∷ 0x00 ∷ 0x00 ∷ 0x00 ∷ 0x05 ∷ [])) ∷
      [])
  -- on pulse, time 1: after 499 samples 1 is left; after 500, off
  pub case_h : Plays fresh_module (
      (asked 0x23 (0x01 ∷ 0x81 ∷ []) ⇒ answers []) ∷
      quiet 499 0 ++
      (asked 0x33 (0x01 ∷ []) ⇒ answers (0x81 ∷ 0x01 ∷ [])) ∷
      (sample_of 0 ⇒ silently 0) ∷
      (asked 0x33 (0x01 ∷ []) ⇒ answers (0x01 ∷ 0x00 ∷ [])) ∷
      [])
  -- 31.3 degrees as a float
  pub case_i : Plays fresh_module (
      (temperature_of true (pos 313) ⇒ silently 0) ∷
      (requested 0x04 2 2 ⇒ shows 0x04 (0x41FA ∷ 0x6666 ∷ [])) ∷
      [])
  -- 125 registers from 100: 9; 126: 8
  pub case_j : Plays fresh_module (
      (requested 0x03 100 125 ⇒ excepts 9 0x83 0x02) ∷
      (requested 0x03 100 126 ⇒ excepts 8 0x83 0x03) ∷
      [])

pub rack_table : RackTable
unfolding unchecked
rack_table = record {
  case_a = passed _ _ _ refl refl;
  case_b = passed _ _ _ refl refl;
  case_c = passed _ _ _ refl refl;
  case_d = passed _ _ _ refl refl;
  case_e = passed _ _ _ refl refl;
  case_f = wraps;
  case_g = passed _ _ _ refl refl;
  case_h = passed _ _ _ refl refl;
  case_i = passed _ _ _ (simp eqb_same) refl;
  case_j = passed _ _ _ (simp eqb_same) refl;
}

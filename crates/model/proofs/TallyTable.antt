-- 01, Tally of cycles: what it holds of some inputs after closed lists of calls. Written by reference/tables.py. Assumes nothing.
use Prim.Native.Nat.{ℕ}
use mathlib.Core.Bool.{true, false}
use mathlib.Core.Path.{refl, ◌≡◌}
use mathlib.Core.List.{[], ◌∷◌, ◌++◌, List, map}
use lib.ListN.{replicate}
use lib.IntN.{pos}
use Rattle.model.specs.Call.{Call}
use Rattle.model.specs.Tally.{Tally}
use Rattle.model.specs.Cycles.{final_tally}
use Rattle.model.proofs.Computing.{computing}
use Rattle.model.proofs.Exchanges.{sample_of, temperature_of, spinel_frame, lending, asked, asked_at, requested, written, switched, samples_in_turn}

-- an input's number, edges and collected
pub record Row : Type 0 where
  pub input : ℕ
  pub edges : ℕ
  pub collected : ℕ

abbrev account : ℕ → ℕ → ℕ → Row
account k e c = record { input = k; edges = e; collected = c }

abbrev held : Tally → ℕ → Row
held t k = account k (t.input k).edges (t.input k).collected

-- after these calls from a fresh module the tally holds these rows
abbrev Tallies : List Call → List Row → Type 0
Tallies calls rows = map (λ (r : Row). held (final_tally calls) r.input) rows ≡ rows

pub record TallyTable : Type 0 where
  -- six changes of a sample, none of them 20 samples long: no edge
  pub raw : Tallies (
      asked 0x6A (0x01 ∷ 0x03 ∷ []) ∷
      sample_of 1 ∷
      sample_of 0 ∷
      sample_of 1 ∷
      sample_of 0 ∷
      sample_of 1 ∷
      sample_of 0 ∷
      [])
      (account 1 0 0 ∷ [])
  -- 19 samples, an equal one, 19 more: none; the 20th is an edge
  pub debounced : Tallies (
      asked 0x6A (0x01 ∷ 0x03 ∷ []) ∷
      replicate 19 (sample_of 1) ++
      sample_of 0 ∷
      replicate 19 (sample_of 1) ++
      [])
      (account 1 0 0 ∷ [])
  -- 20 samples: one edge; 20 back: two
  pub debounced_once : Tallies (
      asked 0x6A (0x01 ∷ 0x03 ∷ []) ∷
      replicate 20 (sample_of 1) ++
      replicate 20 (sample_of 0) ++
      [])
      (account 1 2 0 ∷ [])
  -- number 3: three samples flip, two the other way do not
  pub run_after_flip : Tallies (
      asked 0x6A (0x01 ∷ 0x03 ∷ []) ∷
      asked 0x62 (0x03 ∷ []) ∷
      sample_of 1 ∷
      sample_of 1 ∷
      sample_of 1 ∷
      sample_of 0 ∷
      sample_of 0 ∷
      [])
      (account 1 1 0 ∷ [])
  -- modes 1, 2, 3 and 0: two rising edges and a falling one
  pub selected : Tallies (
      asked 0x6A (0x01 ∷ 0x01 ∷ 0x02 ∷ 0x02 ∷ 0x03 ∷ 0x03 ∷ []) ∷
      asked 0x62 (0x01 ∷ []) ∷
      sample_of 15 ∷
      sample_of 0 ∷
      sample_of 15 ∷
      [])
      (account 1 2 0 ∷ account 2 1 0 ∷ account 3 3 0 ∷ account 4 0 0 ∷ [])
  -- inputs 1 and 16 by their own bits
  pub inputs : Tallies (
      asked 0x6A (0x01 ∷ 0x03 ∷ 0x10 ∷ 0x03 ∷ []) ∷
      asked 0x62 (0x01 ∷ []) ∷
      sample_of 0x8000 ∷
      sample_of 0x8001 ∷
      sample_of 1 ∷
      sample_of 1 ∷
      [])
      (account 1 1 0 ∷ account 16 2 0 ∷ account 2 0 0 ∷ account 15 0 0 ∷ [])
  -- 6AH names input 1 twice: the last mode holds
  pub repeated_mode : Tallies (
      asked 0x6A (0x01 ∷ 0x03 ∷ 0x01 ∷ 0x02 ∷ 0x02 ∷ 0x01 ∷ []) ∷
      asked 0x62 (0x01 ∷ []) ∷
      sample_of 3 ∷
      sample_of 0 ∷
      [])
      (account 1 1 0 ∷ account 2 1 0 ∷ [])
  -- a refused 6AH sets no mode, a refused 62H no number
  pub refused_mode : Tallies (
      asked 0x6A (0x01 ∷ 0x03 ∷ 0x02 ∷ 0x04 ∷ []) ∷
      asked 0x62 (0x00 ∷ []) ∷
      asked 0x62 (0x01 ∷ 0x01 ∷ []) ∷
      sample_of 1 ∷
      sample_of 0 ∷
      [])
      (account 1 0 0 ∷ [])
  -- three edges of each; 1 read and zeroed, 3 only read; one edge more of each; all zeroed
  pub read_and_cleared : Tallies (
      asked 0x6A (0x01 ∷ 0x03 ∷ 0x03 ∷ 0x03 ∷ []) ∷
      asked 0x62 (0x01 ∷ []) ∷
      sample_of 5 ∷
      sample_of 0 ∷
      sample_of 5 ∷
      asked 0x60 (0x03 ∷ 0x81 ∷ []) ∷
      sample_of 0 ∷
      asked 0x60 (0x80 ∷ []) ∷
      [])
      (account 1 4 4 ∷ account 3 4 4 ∷ [])
  -- of the inputs only the one read and zeroed is collected
  pub read_one : Tallies (
      asked 0x6A (0x01 ∷ 0x03 ∷ 0x02 ∷ 0x03 ∷ []) ∷
      asked 0x62 (0x01 ∷ []) ∷
      sample_of 3 ∷
      sample_of 0 ∷
      sample_of 3 ∷
      asked 0x60 (0x81 ∷ []) ∷
      [])
      (account 1 3 3 ∷ account 2 3 0 ∷ [])
  -- reading without bit 7 collects nothing; with bits 7 and 6 it does; a repeat adds 0
  pub read_only : Tallies (
      asked 0x6A (0x01 ∷ 0x03 ∷ 0x02 ∷ 0x03 ∷ []) ∷
      asked 0x62 (0x01 ∷ []) ∷
      sample_of 3 ∷
      sample_of 0 ∷
      sample_of 3 ∷
      asked 0x60 (0x00 ∷ []) ∷
      asked 0x60 (0x01 ∷ 0x41 ∷ []) ∷
      asked 0x60 (0x02 ∷ 0xC2 ∷ 0x82 ∷ 0x01 ∷ []) ∷
      [])
      (account 1 3 0 ∷ account 2 3 3 ∷ [])
  -- a refused 60H and one to all collect nothing
  pub read_refused : Tallies (
      asked 0x6A (0x01 ∷ 0x03 ∷ 0x02 ∷ 0x03 ∷ []) ∷
      asked 0x62 (0x01 ∷ []) ∷
      sample_of 3 ∷
      sample_of 0 ∷
      sample_of 3 ∷
      asked 0x60 (0x81 ∷ 0x00 ∷ []) ∷
      asked 0x60 (0x81 ∷ 0x11 ∷ []) ∷
      asked_at 0xFF 0x60 (0x80 ∷ []) ∷
      [])
      (account 1 3 0 ∷ account 2 3 0 ∷ [])
  -- 300 edges read and zeroed: both low bytes of the value count
  pub read_high : Tallies (
      asked 0x6A (0x01 ∷ 0x03 ∷ []) ∷
      asked 0x62 (0x01 ∷ []) ∷
      samples_in_turn 150 (1 ∷ 0 ∷ []) ++
      asked 0x60 (0x81 ∷ []) ∷
      [])
      (account 1 300 300 ∷ [])
  -- three edges of each; 1 and 2, then 1 again deducted; a list refused by 13 or 11 collects nothing
  pub deducted : Tallies (
      asked 0x6A (0x01 ∷ 0x03 ∷ 0x02 ∷ 0x03 ∷ []) ∷
      asked 0x62 (0x01 ∷ []) ∷
      sample_of 3 ∷
      sample_of 0 ∷
      sample_of 3 ∷
      asked 0x61 (0x01 ∷ 0x00 ∷ 0x00 ∷ 0x00 ∷ 0x01 ∷ 0x02 ∷ 0x00 ∷ 0x00 ∷ 0x00 ∷ 0x02 ∷ []) ∷
      asked 0x61 (0x01 ∷ 0x00 ∷ 0x00 ∷ 0x00 ∷ 0x01 ∷ []) ∷
      asked 0x61 (0x02 ∷ 0x00 ∷ 0x00 ∷ 0x00 ∷ 0x00 ∷ 0x02 ∷ 0x00 ∷ 0x00 ∷ 0x00 ∷ 0x01 ∷ []) ∷
      asked 0x61 (0x02 ∷ 0x00 ∷ 0x00 ∷ 0x00 ∷ 0x01 ∷ 0x01 ∷ 0x00 ∷ 0x00 ∷ 0x00 ∷ 0x02 ∷ []) ∷
      [])
      (account 1 3 2 ∷ account 2 3 2 ∷ [])
  -- 300 edges, 257 deducted by 61H and 40 by register
  pub deducted_high : Tallies (
      asked 0x6A (0x01 ∷ 0x03 ∷ []) ∷
      asked 0x62 (0x01 ∷ []) ∷
      samples_in_turn 150 (1 ∷ 0 ∷ []) ++
      asked 0x61 (0x01 ∷ 0x00 ∷ 0x00 ∷ 0x01 ∷ 0x01 ∷ []) ∷
      requested 0x06 200 40 ∷
      [])
      (account 1 300 297 ∷ [])
  -- registers 200 and 201, then 201 alone; 215 is input 16
  pub deducted_by_registers : Tallies (
      asked 0x6A (0x10 ∷ 0x03 ∷ []) ∷
      asked 0x6A (0x01 ∷ 0x03 ∷ 0x02 ∷ 0x03 ∷ []) ∷
      asked 0x62 (0x01 ∷ []) ∷
      sample_of 3 ∷
      sample_of 0 ∷
      sample_of 3 ∷
      sample_of 0x8000 ∷
      written 200 (1 ∷ 2 ∷ []) ∷
      requested 0x06 201 1 ∷
      requested 0x06 215 1 ∷
      [])
      (account 1 4 1 ∷ account 2 4 3 ∷ account 16 1 1 ∷ [])
  -- register 101 written with 0 clears input 2 alone
  pub cleared : Tallies (
      asked 0x6A (0x01 ∷ 0x03 ∷ 0x02 ∷ 0x03 ∷ []) ∷
      asked 0x62 (0x01 ∷ []) ∷
      sample_of 3 ∷
      sample_of 0 ∷
      sample_of 3 ∷
      asked 0x61 (0x01 ∷ 0x00 ∷ 0x00 ∷ 0x00 ∷ 0x01 ∷ 0x02 ∷ 0x00 ∷ 0x00 ∷ 0x00 ∷ 0x01 ∷ []) ∷
      requested 0x06 101 0 ∷
      [])
      (account 1 3 1 ∷ account 2 0 0 ∷ [])
  -- register 100 alone by 10H: input 2 keeps its edges
  pub cleared_one : Tallies (
      asked 0x6A (0x01 ∷ 0x03 ∷ 0x02 ∷ 0x03 ∷ []) ∷
      asked 0x62 (0x01 ∷ []) ∷
      sample_of 3 ∷
      sample_of 0 ∷
      sample_of 3 ∷
      written 100 (0 ∷ []) ∷
      [])
      (account 1 0 0 ∷ account 2 3 0 ∷ [])
  -- registers 101 and 102 written with zeros; a refused write clears nothing
  pub cleared_some : Tallies (
      asked 0x6A (0x01 ∷ 0x03 ∷ 0x02 ∷ 0x03 ∷ []) ∷
      asked 0x62 (0x01 ∷ []) ∷
      sample_of 3 ∷
      sample_of 0 ∷
      sample_of 3 ∷
      written 101 (0 ∷ 0 ∷ []) ∷
      written 100 (0 ∷ 1 ∷ []) ∷
      requested 0x06 100 1 ∷
      [])
      (account 1 3 0 ∷ account 2 0 0 ∷ [])
  -- 61H 00 clears all inputs, 61H 01 does not
  pub cleared_all : Tallies (
      asked 0x6A (0x01 ∷ 0x03 ∷ 0x02 ∷ 0x03 ∷ []) ∷
      asked 0x62 (0x01 ∷ []) ∷
      sample_of 3 ∷
      sample_of 0 ∷
      sample_of 3 ∷
      asked 0x61 (0x01 ∷ []) ∷
      asked 0x61 (0x01 ∷ 0x00 ∷ 0x00 ∷ 0x00 ∷ 0x01 ∷ []) ∷
      asked 0x61 (0x00 ∷ []) ∷
      sample_of 0 ∷
      [])
      (account 1 1 0 ∷ account 2 1 0 ∷ [])
  -- 61H 01 is refused and clears nothing
  pub not_cleared : Tallies (
      asked 0x6A (0x01 ∷ 0x03 ∷ 0x02 ∷ 0x03 ∷ []) ∷
      asked 0x62 (0x01 ∷ []) ∷
      sample_of 3 ∷
      sample_of 0 ∷
      sample_of 3 ∷
      asked 0x61 (0x01 ∷ []) ∷
      [])
      (account 1 3 0 ∷ account 2 3 0 ∷ [])
  -- a reset ends runs, edges and collected: a run of 1, number 2, does not go on
  pub reset : Tallies (
      asked 0x6A (0x01 ∷ 0x03 ∷ []) ∷
      asked 0x62 (0x02 ∷ []) ∷
      sample_of 1 ∷
      sample_of 1 ∷
      sample_of 0 ∷
      asked 0x61 (0x01 ∷ 0x00 ∷ 0x00 ∷ 0x00 ∷ 0x01 ∷ []) ∷
      asked 0xE3 [] ∷
      sample_of 0 ∷
      [])
      (account 1 0 0 ∷ [])
  -- and keeps modes, the number and stable states
  pub reset_keeps : Tallies (
      asked 0x6A (0x01 ∷ 0x02 ∷ []) ∷
      asked 0x62 (0x02 ∷ []) ∷
      sample_of 1 ∷
      sample_of 1 ∷
      asked 0xE3 [] ∷
      sample_of 0 ∷
      sample_of 0 ∷
      sample_of 1 ∷
      sample_of 1 ∷
      [])
      (account 1 1 0 ∷ [])
  -- E0H with the permission is a reset, without it nothing
  pub reset_by_address : Tallies (
      asked 0x6A (0x01 ∷ 0x03 ∷ 0x02 ∷ 0x03 ∷ []) ∷
      asked 0x62 (0x01 ∷ []) ∷
      sample_of 3 ∷
      sample_of 0 ∷
      sample_of 3 ∷
      asked 0xE0 (0x31 ∷ 0x06 ∷ []) ∷
      asked 0xE4 [] ∷
      asked 0xE0 (0x31 ∷ 0x06 ∷ []) ∷
      sample_of 0 ∷
      [])
      (account 1 1 0 ∷ account 2 1 0 ∷ [])
  -- E0H without the permission
  pub not_reset : Tallies (
      asked 0x6A (0x01 ∷ 0x03 ∷ 0x02 ∷ 0x03 ∷ []) ∷
      asked 0x62 (0x01 ∷ []) ∷
      sample_of 3 ∷
      sample_of 0 ∷
      sample_of 3 ∷
      asked 0xE0 (0x31 ∷ 0x06 ∷ []) ∷
      requested 0x06 1 49 ∷
      [])
      (account 1 3 0 ∷ account 2 3 0 ∷ [])
  -- registers 1 to 2, written with the permission, are a reset
  pub address_set : Tallies (
      asked 0x6A (0x01 ∷ 0x03 ∷ 0x02 ∷ 0x03 ∷ []) ∷
      asked 0x62 (0x01 ∷ []) ∷
      sample_of 3 ∷
      sample_of 0 ∷
      sample_of 3 ∷
      requested 0x06 0 255 ∷
      written 1 (5 ∷ 6 ∷ []) ∷
      [])
      (account 1 0 0 ∷ account 2 0 0 ∷ [])
  -- register 2 alone too
  pub speed_set : Tallies (
      asked 0x6A (0x01 ∷ 0x03 ∷ 0x02 ∷ 0x03 ∷ []) ∷
      asked 0x62 (0x01 ∷ []) ∷
      sample_of 3 ∷
      sample_of 0 ∷
      sample_of 3 ∷
      requested 0x06 0 255 ∷
      requested 0x06 2 6 ∷
      sample_of 0 ∷
      [])
      (account 1 1 0 ∷ account 2 1 0 ∷ [])
  -- register 301 sets input 2 to mode 3, registers 302 and 303 inputs 3 and 4
  pub mode_by_register : Tallies (
      requested 0x06 301 3 ∷
      written 302 (1 ∷ 2 ∷ []) ∷
      asked 0x62 (0x01 ∷ []) ∷
      sample_of 15 ∷
      sample_of 0 ∷
      [])
      (account 1 0 0 ∷ account 2 2 0 ∷ account 3 1 0 ∷ account 4 1 0 ∷ [])
  -- registers 302 and 303 in one write: each input by its own value
  pub modes_by_registers : Tallies (
      written 302 (1 ∷ 2 ∷ []) ∷
      asked 0x62 (0x01 ∷ []) ∷
      sample_of 12 ∷
      sample_of 0 ∷
      sample_of 12 ∷
      [])
      (account 3 2 0 ∷ account 4 1 0 ∷ [])
  -- a sample with a short buffer is none
  pub refused_sample : Tallies (
      asked 0x6A (0x01 ∷ 0x03 ∷ []) ∷
      asked 0x62 (0x01 ∷ []) ∷
      lending 255 (sample_of 1) ∷
      [])
      (account 1 0 0 ∷ [])
  -- other instructions and functions with the same bytes do nothing
  pub other_frames : Tallies (
      asked 0x6A (0x01 ∷ 0x03 ∷ 0x02 ∷ 0x03 ∷ []) ∷
      asked 0x62 (0x01 ∷ []) ∷
      sample_of 3 ∷
      sample_of 0 ∷
      sample_of 3 ∷
      asked 0x20 (0x81 ∷ []) ∷
      asked 0x23 (0x01 ∷ 0x81 ∷ []) ∷
      requested 0x05 1 0 ∷
      requested 0x03 101 1 ∷
      requested 0x06 301 3 ∷
      written 600 (0 ∷ 0 ∷ 0 ∷ 0 ∷ []) ∷
      asked 0x26 (0x01 ∷ 0x02 ∷ 0x01 ∷ []) ∷
      switched 1 2 (0x03 ∷ []) ∷
      [])
      (account 1 3 0 ∷ account 2 3 0 ∷ [])
  -- EEH's byte is no sampling number: with number 3 two samples flip nothing
  pub sum_test_no_number : Tallies (
      asked 0x6A (0x01 ∷ 0x03 ∷ 0x02 ∷ 0x03 ∷ []) ∷
      asked 0x62 (0x01 ∷ []) ∷
      sample_of 3 ∷
      sample_of 0 ∷
      sample_of 3 ∷
      asked 0x62 (0x03 ∷ []) ∷
      asked 0xE4 [] ∷
      asked 0xEE (0x00 ∷ []) ∷
      asked 0xE4 [] ∷
      asked 0xEE (0x01 ∷ []) ∷
      sample_of 0 ∷
      sample_of 0 ∷
      [])
      (account 1 3 0 ∷ account 2 3 0 ∷ [])
  -- 6BH sets no mode and clears nothing
  pub lists_read : Tallies (
      asked 0x6A (0x01 ∷ 0x03 ∷ 0x02 ∷ 0x03 ∷ []) ∷
      asked 0x62 (0x01 ∷ []) ∷
      sample_of 3 ∷
      sample_of 0 ∷
      sample_of 3 ∷
      asked 0x6B (0x00 ∷ []) ∷
      asked 0x6B (0x01 ∷ 0x02 ∷ []) ∷
      sample_of 0 ∷
      sample_of 3 ∷
      [])
      (account 1 5 0 ∷ account 2 5 0 ∷ [])
  -- SUM untested (E5): 6AH, 62H, 61H and 60H with a wrong SUM count as with a right one
  pub any_sum_counts : Tallies (
      asked 0xE4 [] ∷
      asked 0xEE (0x00 ∷ []) ∷
      spinel_frame (0x2A ∷ 0x61 ∷ 0x00 ∷ 0x09 ∷ 0x31 ∷ 0x02 ∷ 0x6A ∷ 0x01 ∷ 0x03 ∷ 0x02 ∷ 0x03 ∷ 0xC6 ∷ 0x0D ∷ []) ∷
      spinel_frame (0x2A ∷ 0x61 ∷ 0x00 ∷ 0x06 ∷ 0x31 ∷ 0x02 ∷ 0x62 ∷ 0x01 ∷ 0xD9 ∷ 0x0D ∷ []) ∷
      sample_of 3 ∷
      sample_of 0 ∷
      sample_of 3 ∷
      spinel_frame (0x2A ∷ 0x61 ∷ 0x00 ∷ 0x0A ∷ 0x31 ∷ 0x02 ∷ 0x61 ∷ 0x01 ∷ 0x00 ∷ 0x00 ∷ 0x00 ∷ 0x02 ∷ 0xD4 ∷
      0x0D ∷ []) ∷
      spinel_frame (0x2A ∷ 0x61 ∷ 0x00 ∷ 0x06 ∷ 0x31 ∷ 0x02 ∷ 0x60 ∷ 0x82 ∷ 0x5A ∷ 0x0D ∷ []) ∷
      spinel_frame (0x2A ∷ 0x61 ∷ 0x00 ∷ 0x06 ∷ 0x31 ∷ 0x02 ∷ 0x60 ∷ 0x80 ∷ 0x5C ∷ 0x0D ∷ []) ∷
      [])
      (account 1 3 3 ∷ account 2 3 3 ∷ [])
  -- and so does 61H 00
  pub any_sum_clears : Tallies (
      asked 0x6A (0x01 ∷ 0x03 ∷ 0x02 ∷ 0x03 ∷ []) ∷
      asked 0x62 (0x01 ∷ []) ∷
      sample_of 3 ∷
      sample_of 0 ∷
      sample_of 3 ∷
      asked 0xE4 [] ∷
      asked 0xEE (0x00 ∷ []) ∷
      asked 0x61 (0x01 ∷ 0x00 ∷ 0x00 ∷ 0x00 ∷ 0x01 ∷ []) ∷
      spinel_frame (0x2A ∷ 0x61 ∷ 0x00 ∷ 0x06 ∷ 0x31 ∷ 0x02 ∷ 0x61 ∷ 0x00 ∷ 0xDB ∷ 0x0D ∷ []) ∷
      sample_of 0 ∷
      [])
      (account 1 1 0 ∷ account 2 1 0 ∷ [])
  -- E3H with a wrong SUM is a reset: a run of 1, number 2, does not go on
  pub any_sum_resets : Tallies (
      asked 0x6A (0x01 ∷ 0x03 ∷ 0x02 ∷ 0x03 ∷ []) ∷
      asked 0x62 (0x01 ∷ []) ∷
      sample_of 3 ∷
      sample_of 0 ∷
      sample_of 3 ∷
      asked 0xE4 [] ∷
      asked 0xEE (0x00 ∷ []) ∷
      asked 0x61 (0x01 ∷ 0x00 ∷ 0x00 ∷ 0x00 ∷ 0x01 ∷ []) ∷
      spinel_frame (0x2A ∷ 0x61 ∷ 0x00 ∷ 0x06 ∷ 0x31 ∷ 0x02 ∷ 0x62 ∷ 0x02 ∷ 0xD8 ∷ 0x0D ∷ []) ∷
      sample_of 0 ∷
      spinel_frame (0x2A ∷ 0x61 ∷ 0x00 ∷ 0x05 ∷ 0x31 ∷ 0x02 ∷ 0xE3 ∷ 0x5A ∷ 0x0D ∷ []) ∷
      sample_of 0 ∷
      sample_of 3 ∷
      sample_of 0 ∷
      sample_of 0 ∷
      [])
      (account 1 1 0 ∷ account 2 1 0 ∷ [])
  -- and so is E0H, permitted by an E4H with a wrong SUM
  pub any_sum_readdressed : Tallies (
      asked 0x6A (0x01 ∷ 0x03 ∷ 0x02 ∷ 0x03 ∷ []) ∷
      asked 0x62 (0x01 ∷ []) ∷
      sample_of 3 ∷
      sample_of 0 ∷
      sample_of 3 ∷
      asked 0xE4 [] ∷
      asked 0xEE (0x00 ∷ []) ∷
      asked 0x61 (0x01 ∷ 0x00 ∷ 0x00 ∷ 0x00 ∷ 0x01 ∷ []) ∷
      spinel_frame (0x2A ∷ 0x61 ∷ 0x00 ∷ 0x05 ∷ 0x31 ∷ 0x02 ∷ 0xE4 ∷ 0x59 ∷ 0x0D ∷ []) ∷
      spinel_frame (0x2A ∷ 0x61 ∷ 0x00 ∷ 0x07 ∷ 0x31 ∷ 0x02 ∷ 0xE0 ∷ 0x31 ∷ 0x06 ∷ 0x24 ∷ 0x0D ∷ []) ∷
      sample_of 0 ∷
      [])
      (account 1 1 0 ∷ account 2 1 0 ∷ [])
  -- SUM tested: the same frames are refused by 4 and change nothing
  pub wrong_sum : Tallies (
      asked 0x6A (0x01 ∷ 0x03 ∷ 0x02 ∷ 0x03 ∷ []) ∷
      asked 0x62 (0x01 ∷ []) ∷
      sample_of 3 ∷
      sample_of 0 ∷
      sample_of 3 ∷
      asked 0x61 (0x01 ∷ 0x00 ∷ 0x00 ∷ 0x00 ∷ 0x01 ∷ []) ∷
      spinel_frame (0x2A ∷ 0x61 ∷ 0x00 ∷ 0x09 ∷ 0x31 ∷ 0x02 ∷ 0x6A ∷ 0x01 ∷ 0x00 ∷ 0x02 ∷ 0x00 ∷ 0xCC ∷ 0x0D ∷ []) ∷
      spinel_frame (0x2A ∷ 0x61 ∷ 0x00 ∷ 0x06 ∷ 0x31 ∷ 0x02 ∷ 0x62 ∷ 0x02 ∷ 0xD8 ∷ 0x0D ∷ []) ∷
      spinel_frame (0x2A ∷ 0x61 ∷ 0x00 ∷ 0x0A ∷ 0x31 ∷ 0x02 ∷ 0x61 ∷ 0x01 ∷ 0x00 ∷ 0x00 ∷ 0x00 ∷ 0x01 ∷ 0xD5 ∷
      0x0D ∷ []) ∷
      spinel_frame (0x2A ∷ 0x61 ∷ 0x00 ∷ 0x06 ∷ 0x31 ∷ 0x02 ∷ 0x60 ∷ 0x82 ∷ 0x5A ∷ 0x0D ∷ []) ∷
      spinel_frame (0x2A ∷ 0x61 ∷ 0x00 ∷ 0x06 ∷ 0x31 ∷ 0x02 ∷ 0x61 ∷ 0x00 ∷ 0xDB ∷ 0x0D ∷ []) ∷
      spinel_frame (0x2A ∷ 0x61 ∷ 0x00 ∷ 0x05 ∷ 0x31 ∷ 0x02 ∷ 0xE3 ∷ 0x5A ∷ 0x0D ∷ []) ∷
      asked 0xE4 [] ∷
      spinel_frame (0x2A ∷ 0x61 ∷ 0x00 ∷ 0x07 ∷ 0x31 ∷ 0x02 ∷ 0xE0 ∷ 0x31 ∷ 0x06 ∷ 0x24 ∷ 0x0D ∷ []) ∷
      sample_of 0 ∷
      [])
      (account 1 4 1 ∷ account 2 4 0 ∷ [])
  -- EEH and FEH change nothing: a run of 1, number 2, goes on
  pub sum_test_turned : Tallies (
      asked 0x6A (0x01 ∷ 0x03 ∷ 0x02 ∷ 0x03 ∷ []) ∷
      asked 0x62 (0x01 ∷ []) ∷
      sample_of 3 ∷
      sample_of 0 ∷
      sample_of 3 ∷
      asked 0x61 (0x01 ∷ 0x00 ∷ 0x00 ∷ 0x00 ∷ 0x01 ∷ []) ∷
      asked 0x62 (0x02 ∷ []) ∷
      sample_of 0 ∷
      asked 0xE4 [] ∷
      asked 0xEE (0x00 ∷ []) ∷
      asked 0xFE [] ∷
      asked 0xEE (0x01 ∷ []) ∷
      asked 0xE4 [] ∷
      asked 0xEE (0x01 ∷ []) ∷
      asked 0xFE [] ∷
      sample_of 0 ∷
      [])
      (account 1 4 1 ∷ account 2 4 0 ∷ [])
  -- 40H and 41H (E8) change nothing, accepted or refused: a run of 1, number 2, goes on; edges are counted once beside links
  pub links_change_nothing : Tallies (
      asked 0x6A (0x01 ∷ 0x03 ∷ 0x02 ∷ 0x03 ∷ []) ∷
      asked 0x62 (0x01 ∷ []) ∷
      sample_of 3 ∷
      sample_of 0 ∷
      sample_of 3 ∷
      asked 0x61 (0x01 ∷ 0x00 ∷ 0x00 ∷ 0x00 ∷ 0x01 ∷ []) ∷
      asked 0x62 (0x02 ∷ []) ∷
      sample_of 0 ∷
      asked 0x40 (0x01 ∷ 0x01 ∷ 0x01 ∷ 0x02 ∷ 0x02 ∷ 0x02 ∷ []) ∷
      asked 0x40 (0x01 ∷ 0x03 ∷ 0x05 ∷ []) ∷
      asked 0x41 (0x00 ∷ []) ∷
      asked 0x41 (0x01 ∷ 0x02 ∷ []) ∷
      asked 0x41 [] ∷
      asked 0x1A (0x01 ∷ 0x81 ∷ 0x01 ∷ 0x2C ∷ 0x00 ∷ 0xC8 ∷ 0x00 ∷ 0x00 ∷ []) ∷
      asked_at 0xFF 0x40 (0x01 ∷ 0x01 ∷ 0x01 ∷ []) ∷
      sample_of 0 ∷
      asked 0x62 (0x01 ∷ []) ∷
      sample_of 3 ∷
      sample_of 0 ∷
      sample_of 1 ∷
      [])
      (account 1 7 1 ∷ account 2 6 0 ∷ [])
  -- a 40H whose bytes look like 61H, 60H, 6AH or 62H (E8) is none of them, and an output turned by a link is no edge
  pub links_no_counts : Tallies (
      asked 0x6A (0x01 ∷ 0x03 ∷ 0x02 ∷ 0x03 ∷ []) ∷
      asked 0x62 (0x01 ∷ []) ∷
      sample_of 3 ∷
      sample_of 0 ∷
      sample_of 3 ∷
      asked 0x40 (0x01 ∷ 0x01 ∷ 0x02 ∷ []) ∷
      asked 0x40 (0x01 ∷ 0x02 ∷ 0x00 ∷ []) ∷
      asked 0x40 (0x02 ∷ 0x01 ∷ 0x01 ∷ 0x01 ∷ 0x02 ∷ 0x03 ∷ []) ∷
      asked 0x40 (replicate 15 0x01) ∷
      asked 0x40 (0x01 ∷ 0x00 ∷ 0x00 ∷ []) ∷
      asked 0x40 (0x00 ∷ []) ∷
      asked 0x40 (0x02 ∷ []) ∷
      asked 0x41 (0x01 ∷ []) ∷
      asked 0x41 (0x00 ∷ []) ∷
      asked 0x40 (0x01 ∷ 0x00 ∷ 0x00 ∷ 0x00 ∷ 0x01 ∷ 0x01 ∷ []) ∷
      sample_of 3 ∷
      sample_of 0 ∷
      [])
      (account 1 4 0 ∷ account 2 4 0 ∷ account 3 0 0 ∷ [])
  -- accepted texts (E2) but AS and SS change nothing: a run of 1, number 2, goes on
  pub text_changes_nothing : Tallies (
      asked 0x6A (0x01 ∷ 0x03 ∷ 0x02 ∷ 0x03 ∷ []) ∷
      asked 0x62 (0x01 ∷ []) ∷
      sample_of 3 ∷
      sample_of 0 ∷
      sample_of 3 ∷
      asked 0x61 (0x01 ∷ 0x00 ∷ 0x00 ∷ 0x00 ∷ 0x01 ∷ []) ∷
      asked 0x62 (0x02 ∷ []) ∷
      sample_of 0 ∷
      temperature_of true (pos 291) ∷
      spinel_frame (0x2A ∷ 0x42 ∷ 0x31 ∷ 0x49 ∷ 0x52 ∷ 0x31 ∷ 0x0D ∷ []) ∷
      spinel_frame (0x2A ∷ 0x42 ∷ 0x31 ∷ 0x49 ∷ 0x52 ∷ 0x30 ∷ 0x31 ∷ 0x36 ∷ 0x0D ∷ []) ∷
      spinel_frame (0x2A ∷ 0x42 ∷ 0x31 ∷ 0x4F ∷ 0x52 ∷ 0x31 ∷ 0x0D ∷ []) ∷
      spinel_frame (0x2A ∷ 0x42 ∷ 0x31 ∷ 0x4F ∷ 0x52 ∷ 0x31 ∷ 0x36 ∷ 0x0D ∷ []) ∷
      spinel_frame (0x2A ∷ 0x42 ∷ 0x31 ∷ 0x4F ∷ 0x53 ∷ 0x31 ∷ 0x48 ∷ 0x0D ∷ []) ∷
      spinel_frame (0x2A ∷ 0x42 ∷ 0x31 ∷ 0x4F ∷ 0x53 ∷ 0x30 ∷ 0x31 ∷ 0x4C ∷ 0x0D ∷ []) ∷
      spinel_frame (0x2A ∷ 0x42 ∷ 0x31 ∷ 0x4F ∷ 0x53 ∷ 0x30 ∷ 0x31 ∷ 0x36 ∷ 0x48 ∷ 0x0D ∷ []) ∷
      spinel_frame (0x2A ∷ 0x42 ∷ 0x31 ∷ 0x4F ∷ 0x54 ∷ 0x31 ∷ 0x48 ∷ 0x31 ∷ 0x0D ∷ []) ∷
      spinel_frame (0x2A ∷ 0x42 ∷ 0x31 ∷ 0x4F ∷ 0x54 ∷ 0x31 ∷ 0x36 ∷ 0x4C ∷ 0x32 ∷ 0x35 ∷ 0x35 ∷ 0x0D ∷ []) ∷
      spinel_frame (0x2A ∷ 0x42 ∷ 0x31 ∷ 0x4F ∷ 0x53 ∷ 0x54 ∷ 0x31 ∷ 0x48 ∷ 0x31 ∷ 0x0D ∷ []) ∷
      spinel_frame (0x2A ∷ 0x42 ∷ 0x31 ∷ 0x4F ∷ 0x53 ∷ 0x54 ∷ 0x30 ∷ 0x32 ∷ 0x4C ∷ 0x30 ∷ 0x32 ∷ 0x30 ∷ 0x0D ∷ []) ∷
      spinel_frame (0x2A ∷ 0x42 ∷ 0x31 ∷ 0x52 ∷ 0x54 ∷ 0x31 ∷ 0x0D ∷ []) ∷
      spinel_frame (0x2A ∷ 0x42 ∷ 0x31 ∷ 0x52 ∷ 0x54 ∷ 0x30 ∷ 0x30 ∷ 0x31 ∷ 0x0D ∷ []) ∷
      spinel_frame (0x2A ∷ 0x42 ∷ 0x31 ∷ 0x49 ∷ 0x53 ∷ 0x31 ∷ 0x0D ∷ []) ∷
      spinel_frame (0x2A ∷ 0x42 ∷ 0x31 ∷ 0x49 ∷ 0x58 ∷ 0x0D ∷ []) ∷
      spinel_frame (0x2A ∷ 0x42 ∷ 0x31 ∷ 0x49 ∷ 0x53 ∷ 0x30 ∷ 0x0D ∷ []) ∷
      spinel_frame (0x2A ∷ 0x42 ∷ 0x31 ∷ 0x45 ∷ 0x0D ∷ []) ∷
      spinel_frame (0x2A ∷ 0x42 ∷ 0x31 ∷ 0x45 ∷ 0x0D ∷ []) ∷
      temperature_of false (pos 0) ∷
      spinel_frame (0x2A ∷ 0x42 ∷ 0x31 ∷ 0x52 ∷ 0x54 ∷ 0x31 ∷ 0x0D ∷ []) ∷
      spinel_frame (0x2A ∷ 0x42 ∷ 0x25 ∷ 0x4F ∷ 0x53 ∷ 0x31 ∷ 0x48 ∷ 0x0D ∷ []) ∷
      spinel_frame (0x2A ∷ 0x42 ∷ 0x25 ∷ 0x4F ∷ 0x54 ∷ 0x32 ∷ 0x48 ∷ 0x31 ∷ 0x0D ∷ []) ∷
      spinel_frame (0x2A ∷ 0x42 ∷ 0x24 ∷ 0x49 ∷ 0x58 ∷ 0x0D ∷ []) ∷
      sample_of 0 ∷
      [])
      (account 1 4 1 ∷ account 2 4 0 ∷ [])
  -- an accepted AS is a reset: a run of 1, number 2, does not go on
  pub text_readdressed : Tallies (
      asked 0x6A (0x01 ∷ 0x03 ∷ 0x02 ∷ 0x03 ∷ []) ∷
      asked 0x62 (0x01 ∷ []) ∷
      sample_of 3 ∷
      sample_of 0 ∷
      sample_of 3 ∷
      asked 0x61 (0x01 ∷ 0x00 ∷ 0x00 ∷ 0x00 ∷ 0x01 ∷ []) ∷
      asked 0x62 (0x02 ∷ []) ∷
      sample_of 0 ∷
      spinel_frame (0x2A ∷ 0x42 ∷ 0x31 ∷ 0x45 ∷ 0x0D ∷ []) ∷
      spinel_frame (0x2A ∷ 0x42 ∷ 0x31 ∷ 0x41 ∷ 0x53 ∷ 0x35 ∷ 0x0D ∷ []) ∷
      sample_of 0 ∷
      sample_of 3 ∷
      sample_of 0 ∷
      sample_of 0 ∷
      [])
      (account 1 1 0 ∷ account 2 1 0 ∷ [])
  -- and so is an accepted SS, also permitted by E4H, and where nothing changes
  pub text_speed_set : Tallies (
      asked 0x6A (0x01 ∷ 0x03 ∷ 0x02 ∷ 0x03 ∷ []) ∷
      asked 0x62 (0x01 ∷ []) ∷
      sample_of 3 ∷
      sample_of 0 ∷
      sample_of 3 ∷
      asked 0x61 (0x01 ∷ 0x00 ∷ 0x00 ∷ 0x00 ∷ 0x01 ∷ []) ∷
      asked 0xE4 [] ∷
      spinel_frame (0x2A ∷ 0x42 ∷ 0x31 ∷ 0x53 ∷ 0x53 ∷ 0x36 ∷ 0x0D ∷ []) ∷
      sample_of 0 ∷
      [])
      (account 1 1 0 ∷ account 2 1 0 ∷ [])
  -- after AS frames to the new address count, those to the old one are refused by 5
  pub text_new_address : Tallies (
      asked 0x6A (0x01 ∷ 0x03 ∷ 0x02 ∷ 0x03 ∷ []) ∷
      asked 0x62 (0x01 ∷ []) ∷
      sample_of 3 ∷
      sample_of 0 ∷
      sample_of 3 ∷
      spinel_frame (0x2A ∷ 0x42 ∷ 0x31 ∷ 0x45 ∷ 0x0D ∷ []) ∷
      spinel_frame (0x2A ∷ 0x42 ∷ 0x31 ∷ 0x41 ∷ 0x53 ∷ 0x35 ∷ 0x0D ∷ []) ∷
      asked 0x61 (0x01 ∷ 0x00 ∷ 0x00 ∷ 0x00 ∷ 0x00 ∷ []) ∷
      sample_of 0 ∷
      sample_of 3 ∷
      sample_of 0 ∷
      asked 0x61 (0x01 ∷ 0x00 ∷ 0x00 ∷ 0x00 ∷ 0x01 ∷ []) ∷
      asked_at 0x35 0x61 (0x01 ∷ 0x00 ∷ 0x00 ∷ 0x00 ∷ 0x02 ∷ []) ∷
      asked 0x60 (0x81 ∷ []) ∷
      asked_at 0x35 0x60 (0x82 ∷ []) ∷
      [])
      (account 1 3 2 ∷ account 2 3 3 ∷ [])
  -- refused ones are none: no permission, to $, another character, none, lower case, to all, a short buffer, no carriage return, another address
  pub text_not_reset : Tallies (
      asked 0x6A (0x01 ∷ 0x03 ∷ 0x02 ∷ 0x03 ∷ []) ∷
      asked 0x62 (0x01 ∷ []) ∷
      sample_of 3 ∷
      sample_of 0 ∷
      sample_of 3 ∷
      asked 0x61 (0x01 ∷ 0x00 ∷ 0x00 ∷ 0x00 ∷ 0x01 ∷ []) ∷
      spinel_frame (0x2A ∷ 0x42 ∷ 0x31 ∷ 0x41 ∷ 0x53 ∷ 0x31 ∷ 0x0D ∷ []) ∷
      spinel_frame (0x2A ∷ 0x42 ∷ 0x31 ∷ 0x53 ∷ 0x53 ∷ 0x36 ∷ 0x0D ∷ []) ∷
      spinel_frame (0x2A ∷ 0x42 ∷ 0x31 ∷ 0x45 ∷ 0x0D ∷ []) ∷
      spinel_frame (0x2A ∷ 0x42 ∷ 0x24 ∷ 0x41 ∷ 0x53 ∷ 0x31 ∷ 0x0D ∷ []) ∷
      spinel_frame (0x2A ∷ 0x42 ∷ 0x31 ∷ 0x45 ∷ 0x0D ∷ []) ∷
      spinel_frame (0x2A ∷ 0x42 ∷ 0x24 ∷ 0x53 ∷ 0x53 ∷ 0x36 ∷ 0x0D ∷ []) ∷
      spinel_frame (0x2A ∷ 0x42 ∷ 0x31 ∷ 0x45 ∷ 0x0D ∷ []) ∷
      spinel_frame (0x2A ∷ 0x42 ∷ 0x31 ∷ 0x41 ∷ 0x53 ∷ 0x0D ∷ []) ∷
      spinel_frame (0x2A ∷ 0x42 ∷ 0x31 ∷ 0x45 ∷ 0x0D ∷ []) ∷
      spinel_frame (0x2A ∷ 0x42 ∷ 0x31 ∷ 0x41 ∷ 0x53 ∷ 0x31 ∷ 0x31 ∷ 0x0D ∷ []) ∷
      spinel_frame (0x2A ∷ 0x42 ∷ 0x31 ∷ 0x45 ∷ 0x0D ∷ []) ∷
      spinel_frame (0x2A ∷ 0x42 ∷ 0x31 ∷ 0x53 ∷ 0x53 ∷ 0x43 ∷ 0x0D ∷ []) ∷
      spinel_frame (0x2A ∷ 0x42 ∷ 0x31 ∷ 0x45 ∷ 0x0D ∷ []) ∷
      spinel_frame (0x2A ∷ 0x42 ∷ 0x31 ∷ 0x61 ∷ 0x73 ∷ 0x31 ∷ 0x0D ∷ []) ∷
      spinel_frame (0x2A ∷ 0x42 ∷ 0x31 ∷ 0x45 ∷ 0x0D ∷ []) ∷
      spinel_frame (0x2A ∷ 0x42 ∷ 0x31 ∷ 0x73 ∷ 0x73 ∷ 0x36 ∷ 0x0D ∷ []) ∷
      spinel_frame (0x2A ∷ 0x42 ∷ 0x31 ∷ 0x45 ∷ 0x0D ∷ []) ∷
      spinel_frame (0x2A ∷ 0x42 ∷ 0x31 ∷ 0x53 ∷ 0x41 ∷ 0x31 ∷ 0x0D ∷ []) ∷
      spinel_frame (0x2A ∷ 0x42 ∷ 0x31 ∷ 0x45 ∷ 0x0D ∷ []) ∷
      spinel_frame (0x2A ∷ 0x42 ∷ 0x25 ∷ 0x41 ∷ 0x53 ∷ 0x31 ∷ 0x0D ∷ []) ∷
      spinel_frame (0x2A ∷ 0x42 ∷ 0x25 ∷ 0x53 ∷ 0x53 ∷ 0x36 ∷ 0x0D ∷ []) ∷
      lending 255 (spinel_frame (0x2A ∷ 0x42 ∷ 0x31 ∷ 0x41 ∷ 0x53 ∷ 0x31 ∷ 0x0D ∷ [])) ∷
      spinel_frame (0x2A ∷ 0x42 ∷ 0x31 ∷ 0x41 ∷ 0x53 ∷ 0x31 ∷ 0x0A ∷ []) ∷
      spinel_frame (0x2A ∷ 0x42 ∷ 0x32 ∷ 0x41 ∷ 0x53 ∷ 0x31 ∷ 0x0D ∷ []) ∷
      spinel_frame (0x2A ∷ 0x42 ∷ 0xFE ∷ 0x41 ∷ 0x53 ∷ 0x31 ∷ 0x0D ∷ []) ∷
      spinel_frame (0x2A ∷ 0x42 ∷ 0x31 ∷ 0x49 ∷ 0x58 ∷ 0x0D ∷ []) ∷
      spinel_frame (0x2A ∷ 0x42 ∷ 0x31 ∷ 0x53 ∷ 0x53 ∷ 0x36 ∷ 0x0D ∷ []) ∷
      sample_of 0 ∷
      [])
      (account 1 4 1 ∷ account 2 4 0 ∷ [])
  -- E permits E0H, which resets; E4H and E then permit one reset
  pub text_by_e_0 : Tallies (
      asked 0x6A (0x01 ∷ 0x03 ∷ 0x02 ∷ 0x03 ∷ []) ∷
      asked 0x62 (0x01 ∷ []) ∷
      sample_of 3 ∷
      sample_of 0 ∷
      sample_of 3 ∷
      asked 0x61 (0x01 ∷ 0x00 ∷ 0x00 ∷ 0x00 ∷ 0x01 ∷ []) ∷
      spinel_frame (0x2A ∷ 0x42 ∷ 0x31 ∷ 0x45 ∷ 0x0D ∷ []) ∷
      asked 0xE0 (0x31 ∷ 0x06 ∷ []) ∷
      sample_of 0 ∷
      sample_of 3 ∷
      asked 0xE4 [] ∷
      spinel_frame (0x2A ∷ 0x42 ∷ 0x31 ∷ 0x45 ∷ 0x0D ∷ []) ∷
      spinel_frame (0x2A ∷ 0x42 ∷ 0x31 ∷ 0x49 ∷ 0x58 ∷ 0x0D ∷ []) ∷
      asked 0xE0 (0x31 ∷ 0x06 ∷ []) ∷
      spinel_frame (0x2A ∷ 0x42 ∷ 0x31 ∷ 0x41 ∷ 0x53 ∷ 0x31 ∷ 0x0D ∷ []) ∷
      [])
      (account 1 2 0 ∷ account 2 2 0 ∷ [])
  -- prefix before code: refused texts whose seventh byte, an instruction's place, is 60H, 61H, 62H, 6AH, E0H, E3H or E4H, and what follows as its data
  pub text_like_codes : Tallies (
      asked 0x6A (0x01 ∷ 0x03 ∷ 0x02 ∷ 0x03 ∷ []) ∷
      asked 0x62 (0x01 ∷ []) ∷
      sample_of 3 ∷
      sample_of 0 ∷
      sample_of 3 ∷
      asked 0x61 (0x01 ∷ 0x00 ∷ 0x00 ∷ 0x00 ∷ 0x01 ∷ []) ∷
      spinel_frame (0x2A ∷ 0x42 ∷ 0x31 ∷ 0x4F ∷ 0x53 ∷ 0x31 ∷ 0x60 ∷ 0x80 ∷ 0x0D ∷ []) ∷
      spinel_frame (0x2A ∷ 0x42 ∷ 0x31 ∷ 0x4F ∷ 0x53 ∷ 0x31 ∷ 0x61 ∷ 0x0D ∷ []) ∷
      spinel_frame (0x2A ∷ 0x42 ∷ 0x31 ∷ 0x4F ∷ 0x53 ∷ 0x31 ∷ 0x61 ∷ 0x00 ∷ 0x0D ∷ []) ∷
      spinel_frame (0x2A ∷ 0x42 ∷ 0x31 ∷ 0x4F ∷ 0x53 ∷ 0x31 ∷ 0x62 ∷ 0x05 ∷ 0x0D ∷ []) ∷
      spinel_frame (0x2A ∷ 0x42 ∷ 0x31 ∷ 0x4F ∷ 0x53 ∷ 0x31 ∷ 0x6A ∷ 0x01 ∷ 0x00 ∷ 0x0D ∷ []) ∷
      spinel_frame (0x2A ∷ 0x42 ∷ 0x31 ∷ 0x4F ∷ 0x53 ∷ 0x31 ∷ 0xE0 ∷ 0x31 ∷ 0x06 ∷ 0x0D ∷ []) ∷
      spinel_frame (0x2A ∷ 0x42 ∷ 0x31 ∷ 0x4F ∷ 0x53 ∷ 0x31 ∷ 0xE3 ∷ 0x0D ∷ []) ∷
      spinel_frame (0x2A ∷ 0x42 ∷ 0x31 ∷ 0x4F ∷ 0x53 ∷ 0x31 ∷ 0xE4 ∷ 0x0D ∷ []) ∷
      spinel_frame (0x2A ∷ 0x42 ∷ 0x31 ∷ 0x78 ∷ 0x78 ∷ 0x78 ∷ 0x60 ∷ 0x82 ∷ 0x00 ∷ 0x0D ∷ []) ∷
      spinel_frame (0x2A ∷ 0x42 ∷ 0x31 ∷ 0x78 ∷ 0x78 ∷ 0x78 ∷ 0x61 ∷ 0x00 ∷ 0x00 ∷ 0x0D ∷ []) ∷
      spinel_frame (0x2A ∷ 0x42 ∷ 0x31 ∷ 0x78 ∷ 0x78 ∷ 0x78 ∷ 0x62 ∷ 0x05 ∷ 0x00 ∷ 0x0D ∷ []) ∷
      spinel_frame (0x2A ∷ 0x42 ∷ 0x31 ∷ 0x78 ∷ 0x78 ∷ 0x78 ∷ 0x6A ∷ 0x01 ∷ 0x00 ∷ 0x00 ∷ 0x0D ∷ []) ∷
      spinel_frame (0x2A ∷ 0x42 ∷ 0x31 ∷ 0x78 ∷ 0x78 ∷ 0x78 ∷ 0xE3 ∷ 0x00 ∷ 0x0D ∷ []) ∷
      spinel_frame (0x2A ∷ 0x42 ∷ 0x31 ∷ 0x78 ∷ 0x78 ∷ 0x78 ∷ 0xE4 ∷ 0x00 ∷ 0x0D ∷ []) ∷
      asked 0xE0 (0x31 ∷ 0x06 ∷ []) ∷
      sample_of 0 ∷
      [])
      (account 1 4 1 ∷ account 2 4 0 ∷ [])
  -- prefix before code: to address 53H, S, a 61H of twelve items has AS in its bytes 4 and 5, and is no reset; it collects
  pub binary_like_text : Tallies (
      asked 0x6A (0x01 ∷ 0x03 ∷ 0x02 ∷ 0x03 ∷ []) ∷
      asked 0x62 (0x01 ∷ []) ∷
      sample_of 3 ∷
      sample_of 0 ∷
      sample_of 3 ∷
      asked 0xE4 [] ∷
      asked 0xE0 (0x53 ∷ 0x06 ∷ []) ∷
      sample_of 0 ∷
      sample_of 3 ∷
      asked_at 0x53 0x61 (0x01 ∷ 0x00 ∷ 0x00 ∷ 0x00 ∷ 0x01 ∷ 0x03 ∷ 0x00 ∷ 0x00 ∷ 0x00 ∷ 0x00 ∷ 0x04 ∷ 0x00 ∷ 0x00 ∷
      0x00 ∷ 0x00 ∷ 0x05 ∷ 0x00 ∷ 0x00 ∷ 0x00 ∷ 0x00 ∷ 0x06 ∷ 0x00 ∷ 0x00 ∷ 0x00 ∷ 0x00 ∷ 0x07 ∷
      0x00 ∷ 0x00 ∷ 0x00 ∷ 0x00 ∷ 0x08 ∷ 0x00 ∷ 0x00 ∷ 0x00 ∷ 0x00 ∷ 0x09 ∷ 0x00 ∷ 0x00 ∷ 0x00 ∷
      0x00 ∷ 0x0A ∷ 0x00 ∷ 0x00 ∷ 0x00 ∷ 0x00 ∷ 0x0B ∷ 0x00 ∷ 0x00 ∷ 0x00 ∷ 0x00 ∷ 0x0C ∷ 0x00 ∷
      0x00 ∷ 0x00 ∷ 0x00 ∷ 0x02 ∷ 0x00 ∷ 0x00 ∷ 0x00 ∷ 0x02 ∷ []) ∷
      asked_at 0x53 0x60 (0x01 ∷ []) ∷
      sample_of 0 ∷
      [])
      (account 1 3 1 ∷ account 2 3 2 ∷ [])

pub tally_table : TallyTable
unfolding computing
tally_table = record {
  raw = refl;
  debounced = refl;
  debounced_once = refl;
  run_after_flip = refl;
  selected = refl;
  inputs = refl;
  repeated_mode = refl;
  refused_mode = refl;
  read_and_cleared = refl;
  read_one = refl;
  read_only = refl;
  read_refused = refl;
  read_high = refl;
  deducted = refl;
  deducted_high = refl;
  deducted_by_registers = refl;
  cleared = refl;
  cleared_one = refl;
  cleared_some = refl;
  cleared_all = refl;
  not_cleared = refl;
  reset = refl;
  reset_keeps = refl;
  reset_by_address = refl;
  not_reset = refl;
  address_set = refl;
  speed_set = refl;
  mode_by_register = refl;
  modes_by_registers = refl;
  refused_sample = refl;
  other_frames = refl;
  sum_test_no_number = refl;
  lists_read = refl;
  any_sum_counts = refl;
  any_sum_clears = refl;
  any_sum_resets = refl;
  any_sum_readdressed = refl;
  wrong_sum = refl;
  sum_test_turned = refl;
  links_change_nothing = refl;
  links_no_counts = refl;
  text_changes_nothing = refl;
  text_readdressed = refl;
  text_speed_set = refl;
  text_new_address = refl;
  text_not_reset = refl;
  text_by_e_0 = refl;
  text_like_codes = refl;
  binary_like_text = refl;
}

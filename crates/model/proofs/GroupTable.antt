-- Each group of registers by itself: the refusal's number of a range that begins before it, in it, or ends behind it. Assumes nothing.
use Prim.Native.Nat.{ℕ}
use mathlib.Core.Bool.{true, false}
use mathlib.Core.Path.{◌≡◌, refl}
use mathlib.Core.List.{[], ◌∷◌, map}
use lib.ListN.{replicate}
use Rattle.model.specs.declared.Reading.TheVariants.{Fault}
use Rattle.model.specs.State.{port, fresh_module}
use Rattle.model.specs.Refusals.{Request, judged}
use Rattle.model.specs.Registers.{port_group, counter_group, mode_group, output_group, reading_group, read_words, read_bits, read_thermostat}
use Rattle.model.specs.Registers.{write_permission, write_port, write_counters, write_deductions, write_modes, write_pulse, write_thermostat, write_coils}
use Rattle.model.proofs.Computing.{computing}

-- the refusal's number, 0 for none
abbrev number : {P : Type 0} → Request P → ℕ
number q = (judged q.after q).refusal

pub record GroupTable : Type 0 where
  -- no register at all: in the group, and behind its last
  pub none_read : map (λ r. number (read_words counter_group (replicate 16 0) r 0)) (100 ∷ 116 ∷ []) ≡ (9 ∷ 9 ∷ [])
  pub no_bit_read : map (λ r. number (read_bits (replicate 16 true) r 0)) (0 ∷ 16 ∷ []) ≡ (9 ∷ 9 ∷ [])
  pub none_of_port : map (λ r. number (write_port true r [] fresh_module)) (1 ∷ 2 ∷ 3 ∷ []) ≡ (9 ∷ 9 ∷ 9 ∷ [])
  pub none_cleared : map (λ r. number (write_counters r [] (replicate 16 0))) (100 ∷ 116 ∷ []) ≡ (9 ∷ 9 ∷ [])
  pub none_deducted : map (λ r. number (write_deductions r [] (replicate 16 0))) (200 ∷ 216 ∷ []) ≡ (9 ∷ 9 ∷ [])
  pub no_modes : map (λ r. number (write_modes r [] (replicate 16 0))) (300 ∷ 316 ∷ []) ≡ (9 ∷ 9 ∷ [])
  pub no_coils : map (λ r. number (write_coils Fault [] r [] [])) (0 ∷ 16 ∷ []) ≡ (9 ∷ 9 ∷ [])
  -- one register read: before the group, its first, its last, behind it
  pub port_read : map (λ r. number (read_words port_group (6 ∷ 6 ∷ []) r 1)) (0 ∷ 1 ∷ 2 ∷ 3 ∷ []) ≡ (9 ∷ 0 ∷ 0 ∷ 9 ∷ [])
  pub counters_read : map (λ r. number (read_words counter_group (replicate 16 0) r 1)) (99 ∷ 100 ∷ 115 ∷ 116 ∷ []) ≡ (9 ∷ 0 ∷ 0 ∷ 9 ∷ [])
  pub modes_read : map (λ r. number (read_words mode_group (replicate 16 0) r 1)) (299 ∷ 300 ∷ 315 ∷ 316 ∷ []) ≡ (9 ∷ 0 ∷ 0 ∷ 9 ∷ [])
  pub outputs_read : map (λ r. number (read_words output_group (replicate 16 0) r 1)) (499 ∷ 500 ∷ 515 ∷ 516 ∷ []) ≡ (9 ∷ 0 ∷ 0 ∷ 9 ∷ [])
  pub reading_read : map (λ r. number (read_words reading_group (replicate 4 0) r 1)) (0 ∷ 3 ∷ 4 ∷ []) ≡ (0 ∷ 0 ∷ 9 ∷ [])
  pub bits_read : map (λ r. number (read_bits (replicate 16 true) r 1)) (0 ∷ 15 ∷ 16 ∷ []) ≡ (0 ∷ 0 ∷ 9 ∷ [])
  -- two registers: across the first, at the last two, across the last
  pub two_read : map (λ r. number (read_words counter_group (replicate 16 0) r 2)) (99 ∷ 114 ∷ 115 ∷ []) ≡ (9 ∷ 0 ∷ 9 ∷ [])
  pub two_cleared : map (λ r. number (write_counters r (0 ∷ 0 ∷ []) (replicate 16 0))) (99 ∷ 114 ∷ 115 ∷ []) ≡ (9 ∷ 0 ∷ 9 ∷ [])
  -- four for a thermostat
  pub thermostat_read : map (λ r. number (read_thermostat [] r 4)) (596 ∷ 599 ∷ 600 ∷ 660 ∷ 664 ∷ []) ≡ (9 ∷ 9 ∷ 0 ∷ 0 ∷ 9 ∷ [])
  pub thermostat_written : map (λ r. number (write_thermostat [] r (0 ∷ 0 ∷ 0 ∷ 0 ∷ []) [])) (596 ∷ 599 ∷ 600 ∷ 660 ∷ 664 ∷ []) ≡ (9 ∷ 9 ∷ 0 ∷ 0 ∷ 9 ∷ [])
  -- one register written
  pub permission_written : map (λ r. number (write_permission true r (255 ∷ []) (port 1 3 false))) (0 ∷ 1 ∷ []) ≡ (0 ∷ 9 ∷ [])
  pub port_written : map (λ r. number (write_port true r (6 ∷ []) fresh_module)) (0 ∷ 1 ∷ 2 ∷ 3 ∷ []) ≡ (9 ∷ 0 ∷ 0 ∷ 9 ∷ [])
  pub counters_written : map (λ r. number (write_counters r (0 ∷ []) (replicate 16 0))) (99 ∷ 100 ∷ 115 ∷ 116 ∷ []) ≡ (9 ∷ 0 ∷ 0 ∷ 9 ∷ [])
  pub deductions_written : map (λ r. number (write_deductions r (0 ∷ []) (replicate 16 0))) (199 ∷ 200 ∷ 215 ∷ 216 ∷ []) ≡ (9 ∷ 0 ∷ 0 ∷ 9 ∷ [])
  pub modes_written : map (λ r. number (write_modes r (0 ∷ []) (replicate 16 0))) (299 ∷ 300 ∷ 315 ∷ 316 ∷ []) ≡ (9 ∷ 0 ∷ 0 ∷ 9 ∷ [])
  pub pulse_written : map (λ r. number (write_pulse Fault [] r (0xFF01 ∷ []) [])) (499 ∷ 500 ∷ 515 ∷ 516 ∷ []) ≡ (9 ∷ 0 ∷ 0 ∷ 9 ∷ [])
  pub coils_written : map (λ r. number (write_coils Fault [] r (1 ∷ []) [])) (0 ∷ 15 ∷ 16 ∷ []) ≡ (0 ∷ 0 ∷ 9 ∷ [])

pub group_table : GroupTable
unfolding computing
group_table = record {
  none_read = refl;
  no_bit_read = refl;
  none_of_port = refl;
  none_cleared = refl;
  none_deducted = refl;
  no_modes = refl;
  no_coils = refl;
  port_read = refl;
  counters_read = refl;
  modes_read = refl;
  outputs_read = refl;
  reading_read = refl;
  bits_read = refl;
  two_read = refl;
  two_cleared = refl;
  thermostat_read = refl;
  thermostat_written = refl;
  permission_written = refl;
  port_written = refl;
  counters_written = refl;
  deductions_written = refl;
  modes_written = refl;
  pulse_written = refl;
  coils_written = refl;
}

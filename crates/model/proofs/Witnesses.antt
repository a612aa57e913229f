-- A witness for each slip and cheat that 01 names: what the honest module answers. Written by reference/tables.py. Assumes nothing.
use mathlib.Core.Bool.{true, false}
use mathlib.Core.Path.{refl}
use mathlib.Core.List.{[], ◌∷◌}
use lib.IntN.{pos}
use Rattle.model.specs.State.{fresh_module}
use Rattle.model.proofs.Computing.{computing}
use Rattle.model.proofs.Exchanges.{Plays, ◌⇒◌, sample_of, temperature_of, spinel_frame, modbus_frame, asked, asked_at, sent_to, requested, silently}
use Rattle.model.proofs.Exchanges.{answers, answers_from, refuses, gives, gives_from, echoes}

pub record Witnesses : Type 0 where
  -- slip: deducting while still judging. Counters 3, 3, 0; 2, 1 and 1 from them: 11, still 3, 3
  pub deducts_after_judging : Plays fresh_module (
      (asked 0x6A (0x01 ∷ 0x03 ∷ 0x02 ∷ 0x03 ∷ []) ⇒ answers []) ∷
      (asked 0x62 (0x01 ∷ []) ⇒ answers []) ∷
      (sample_of 3 ⇒ silently 0) ∷
      (sample_of 0 ⇒ silently 0) ∷
      (sample_of 3 ⇒ silently 0) ∷
      (asked 0x61 (0x01 ∷ 0x00 ∷ 0x00 ∷ 0x00 ∷ 0x02 ∷ 0x02 ∷ 0x00 ∷ 0x00 ∷ 0x00 ∷ 0x01 ∷ 0x03 ∷ 0x00 ∷ 0x00 ∷
      0x00 ∷ 0x01 ∷ []) ⇒ refuses 11 0x03) ∷
      (asked 0x60 (0x01 ∷ 0x02 ∷ []) ⇒ answers (0x20 ∷ 0x00 ∷ 0x00 ∷ 0x00 ∷ 0x03 ∷ 0x00 ∷ 0x00 ∷ 0x00 ∷ 0x03 ∷ [])) ∷
      [])
  -- slip: counting every change of a sample. Six changes, none of them 20 samples long: no edge
  pub counts_stable_changes : Plays fresh_module (
      (asked 0x6A (0x01 ∷ 0x03 ∷ []) ⇒ answers []) ∷
      (sample_of 1 ⇒ silently 0) ∷
      (sample_of 0 ⇒ silently 0) ∷
      (sample_of 1 ⇒ silently 0) ∷
      (sample_of 0 ⇒ silently 0) ∷
      (sample_of 1 ⇒ silently 0) ∷
      (sample_of 0 ⇒ silently 0) ∷
      (asked 0x31 [] ⇒ answers (0x00 ∷ 0x00 ∷ [])) ∷
      (asked 0x60 (0x01 ∷ []) ⇒ answers (0x20 ∷ 0x00 ∷ 0x00 ∷ 0x00 ∷ 0x00 ∷ [])) ∷
      [])
  -- slip: a 60H to all that clears. It is refused by 6, and the counter is still 3
  pub broadcast_clears_nothing : Plays fresh_module (
      (asked 0x6A (0x01 ∷ 0x03 ∷ 0x02 ∷ 0x03 ∷ []) ⇒ answers []) ∷
      (asked 0x62 (0x01 ∷ []) ⇒ answers []) ∷
      (sample_of 3 ⇒ silently 0) ∷
      (sample_of 0 ⇒ silently 0) ∷
      (sample_of 3 ⇒ silently 0) ∷
      (asked_at 0xFF 0x60 (0x80 ∷ []) ⇒ silently 6) ∷
      (asked 0x60 (0x01 ∷ []) ⇒ answers (0x20 ∷ 0x00 ∷ 0x00 ∷ 0x00 ∷ 0x03 ∷ [])) ∷
      [])
  -- slip: a wrong checksum that ends a permission. E4H, a wrong SUM (4), and E0H is permitted
  pub bad_sum_keeps_permission : Plays fresh_module (
      (asked 0xE4 [] ⇒ answers []) ∷
      (spinel_frame (0x2A ∷ 0x61 ∷ 0x00 ∷ 0x07 ∷ 0x31 ∷ 0x02 ∷ 0xE0 ∷ 0x32 ∷ 0x07 ∷ 0x22 ∷ 0x0D ∷ []) ⇒ silently 4) ∷
      (asked 0xE0 (0x32 ∷ 0x07 ∷ []) ⇒ answers []) ∷
      (asked_at 0x32 0xF0 [] ⇒ answers_from 0x32 (0x32 ∷ 0x07 ∷ [])) ∷
      [])
  -- the same over Modbus: register 0, a wrong CRC (4), then address 32H
  pub bad_crc_keeps_permission : Plays fresh_module (
      (requested 0x06 0 255 ⇒ echoes 0x06 0 255) ∷
      (modbus_frame (0x31 ∷ 0x06 ∷ 0x00 ∷ 0x01 ∷ 0x00 ∷ 0x32 ∷ 0x5D ∷ 0x2F ∷ []) ⇒ silently 4) ∷
      (requested 0x06 1 50 ⇒ echoes 0x06 1 50) ∷
      (sent_to 0x32 0x03 (0x00 ∷ 0x01 ∷ 0x00 ∷ 0x02 ∷ []) ⇒ gives_from 0x32 0x03 (0x04 ∷ 0x00 ∷ 0x32 ∷ 0x00 ∷ 0x06 ∷ [])) ∷
      [])
  -- cheat: no edge counted, nothing collected. Counter 3; read and zeroed; 0; one more edge, 1
  pub counts_and_collects : Plays fresh_module (
      (asked 0x6A (0x01 ∷ 0x03 ∷ 0x02 ∷ 0x03 ∷ []) ⇒ answers []) ∷
      (asked 0x62 (0x01 ∷ []) ⇒ answers []) ∷
      (sample_of 3 ⇒ silently 0) ∷
      (sample_of 0 ⇒ silently 0) ∷
      (sample_of 3 ⇒ silently 0) ∷
      (asked 0x60 (0x81 ∷ []) ⇒ answers (0x20 ∷ 0x00 ∷ 0x00 ∷ 0x00 ∷ 0x03 ∷ [])) ∷
      (asked 0x60 (0x01 ∷ []) ⇒ answers (0x20 ∷ 0x00 ∷ 0x00 ∷ 0x00 ∷ 0x00 ∷ [])) ∷
      (sample_of 0 ⇒ silently 0) ∷
      (asked 0x60 (0x01 ∷ []) ⇒ answers (0x20 ∷ 0x00 ∷ 0x00 ∷ 0x00 ∷ 0x01 ∷ [])) ∷
      [])
  -- cheat: an invented value, a fixed ACK. Counters 3 and 1 in the order asked; ACK 03 and 02 where refused
  pub own_values : Plays fresh_module (
      (asked 0x6A (0x01 ∷ 0x03 ∷ 0x02 ∷ 0x01 ∷ []) ⇒ answers []) ∷
      (asked 0x62 (0x01 ∷ []) ⇒ answers []) ∷
      (sample_of 3 ⇒ silently 0) ∷
      (sample_of 0 ⇒ silently 0) ∷
      (sample_of 1 ⇒ silently 0) ∷
      (asked 0x60 (0x02 ∷ 0x01 ∷ []) ⇒ answers (0x20 ∷ 0x00 ∷ 0x00 ∷ 0x00 ∷ 0x01 ∷ 0x00 ∷ 0x00 ∷ 0x00 ∷ 0x03 ∷ [])) ∷
      (asked 0x61 (0x02 ∷ 0x00 ∷ 0x00 ∷ 0x00 ∷ 0x02 ∷ []) ⇒ refuses 11 0x03) ∷
      (asked 0x70 [] ⇒ refuses 7 0x02) ∷
      [])
  -- cheat: only the first deduction is honoured. Counters 3, 3; deduct 1 and 3; 2, 0
  pub every_item : Plays fresh_module (
      (asked 0x6A (0x01 ∷ 0x03 ∷ 0x02 ∷ 0x03 ∷ []) ⇒ answers []) ∷
      (asked 0x62 (0x01 ∷ []) ⇒ answers []) ∷
      (sample_of 3 ⇒ silently 0) ∷
      (sample_of 0 ⇒ silently 0) ∷
      (sample_of 3 ⇒ silently 0) ∷
      (asked 0x61 (0x01 ∷ 0x00 ∷ 0x00 ∷ 0x00 ∷ 0x01 ∷ 0x02 ∷ 0x00 ∷ 0x00 ∷ 0x00 ∷ 0x03 ∷ []) ⇒ answers []) ∷
      (asked 0x60 (0x01 ∷ 0x02 ∷ []) ⇒ answers (0x20 ∷ 0x00 ∷ 0x00 ∷ 0x00 ∷ 0x02 ∷ 0x00 ∷ 0x00 ∷ 0x00 ∷ 0x00 ∷ [])) ∷
      [])
  -- cheat: 11 whatever is asked. A deduction that fits, an output that nothing holds
  pub not_always_11 : Plays fresh_module (
      (asked 0x6A (0x01 ∷ 0x03 ∷ 0x02 ∷ 0x03 ∷ []) ⇒ answers []) ∷
      (asked 0x62 (0x01 ∷ []) ⇒ answers []) ∷
      (sample_of 3 ⇒ silently 0) ∷
      (sample_of 0 ⇒ silently 0) ∷
      (sample_of 3 ⇒ silently 0) ∷
      (asked 0x61 (0x01 ∷ 0x00 ∷ 0x00 ∷ 0x00 ∷ 0x03 ∷ []) ⇒ answers []) ∷
      (asked 0x20 (0x81 ∷ []) ⇒ answers []) ∷
      (asked 0x30 [] ⇒ answers (0x00 ∷ 0x01 ∷ [])) ∷
      [])
  -- cheat: a thermostat that holds unlooked. 20.0 to 30.0: 12 before a reading; free at 25.0 and both ends
  pub looks_before_holding : Plays fresh_module (
      (asked 0x1A (0x01 ∷ 0x81 ∷ 0x01 ∷ 0x2C ∷ 0x00 ∷ 0xC8 ∷ 0x00 ∷ 0x00 ∷ []) ⇒ answers []) ∷
      (asked 0x20 (0x81 ∷ []) ⇒ refuses 12 0x03) ∷
      (temperature_of true (pos 250) ⇒ silently 0) ∷
      (asked 0x20 (0x81 ∷ []) ⇒ answers []) ∷
      (temperature_of true (pos 200) ⇒ silently 0) ∷
      (asked 0x20 (0x01 ∷ []) ⇒ answers []) ∷
      (temperature_of true (pos 300) ⇒ silently 0) ∷
      (asked 0x20 (0x81 ∷ []) ⇒ answers []) ∷
      (temperature_of true (pos 301) ⇒ silently 0) ∷
      (asked 0x20 (0x01 ∷ []) ⇒ refuses 12 0x03) ∷
      (asked 0x20 (0x82 ∷ []) ⇒ answers []) ∷
      (temperature_of false (pos 0) ⇒ silently 0) ∷
      (asked 0x20 (0x01 ∷ []) ⇒ refuses 12 0x03) ∷
      [])
  -- cheat: samples ignored. The inputs read as sampled on both ports
  pub sees_samples : Plays fresh_module (
      (asked 0x62 (0x01 ∷ []) ⇒ answers []) ∷
      (sample_of 0x8005 ⇒ silently 0) ∷
      (asked 0x31 [] ⇒ answers (0x80 ∷ 0x05 ∷ [])) ∷
      (requested 0x02 0 16 ⇒ gives 0x02 (0x02 ∷ 0x05 ∷ 0x80 ∷ [])) ∷
      [])

pub witnesses : Witnesses
unfolding computing
witnesses = record {
  deducts_after_judging = refl;
  counts_stable_changes = refl;
  broadcast_clears_nothing = refl;
  bad_sum_keeps_permission = refl;
  bad_crc_keeps_permission = refl;
  counts_and_collects = refl;
  own_values = refl;
  every_item = refl;
  not_always_11 = refl;
  looks_before_holding = refl;
  sees_samples = refl;
}

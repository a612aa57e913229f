-- What the take-over keeps, field by field; rows from a state in which no field is as in a fresh one; and what a reader takes from the claim
-- across it. Assumes nothing.
use Prim.Native.Nat.{ℕ, ◌+◌, ◌*◌, ◌%◌}
use native.Mathlib.Omega.{arith}
use mathlib.Core.Path.{◌≡◌, refl}
use mathlib.Core.Bool.{Bool, true, false}
use mathlib.Core.List.{List, [], ◌∷◌, ◌++◌}
use lib.IntN.{pos, negsuc}
use lib.ListN.{get_or, replicate}
use Rattle.model.specs.declared.Reading.{Reading}
use Rattle.model.specs.declared.Reading.TheVariants.{Valid, Fault}
use Rattle.model.specs.State.{line, output, preset, thermostat, notice, fresh_line, fresh_output, fresh_preset, fresh_link, fresh_thermostat, fresh_module}
use Rattle.model.specs.Temperature.{degrees}
use Rattle.model.specs.Call.{Call}
use Rattle.model.specs.Calls.{run}
use Rattle.model.specs.Cycles.{counter_of, tally_after}
use Rattle.model.proofs.Readings.{standing, Sixteen, alike_standing}
use Rattle.model.proofs.Computing.{computing}
use Rattle.model.proofs.Exchanges.{sample_of, temperature_of, asked_at, sent_to, two, silently, answers_from, refuses_from, announces, gives_from, excepts_from, Plays, ◌⇒◌}
use Rattle.takeover.specs.declared.ModuleBefore.{ModuleBefore}
use Rattle.takeover.specs.TakenOver.{taken_over}
use Rattle.takeover.specs.Across.{counting_before, Agreed, CyclesConservedAcross}

-- two readings, of 15.0 and of 30.0 degrees; no module has another last valid reading than its valid one, but it tells the fields apart
abbrev fifteen : Reading
fifteen = Valid (pos 150) (degrees (pos 150))

abbrev thirty : Reading
thirty = Valid (pos 300) (degrees (pos 300))

-- the permissions given; no other field is as in a fresh module
abbrev full : Bool → Bool → ModuleBefore
full s m = record {
  inputs = record { lines = line true 5 ∷ line false 29 ∷ line true 0 ∷ replicate 13 fresh_line; counters = 65535 ∷ 2 ∷ 300 ∷ replicate 12 0 ++ 4660 ∷ [] };
  outputs = output true 750 ∷ output false 1 ∷ output true 0 ∷ replicate 12 fresh_output ++ output true 255000 ∷ [];
  settings = record {
    modes = 3 ∷ 1 ∷ 2 ∷ replicate 12 0 ++ 3 ∷ [];
    sampling = 30;
    presets = preset 2 4 ∷ preset 3 255 ∷ replicate 13 fresh_preset ++ preset 0 9 ∷ [];
    thermostats = replicate 3 fresh_thermostat ++ thermostat 0xC1 (pos 300) (negsuc 4) 1 2 ∷ replicate 12 fresh_thermostat;
    notice = notice 0x61 0x0002 0x05;
  };
  reading = fifteen;
  last = thirty;
  spinel = record { address = 0x32; speed = 7; permitted = s };
  modbus = record { address = 0x05; speed = 8; permitted = m };
}

-- the fields, of any state; no output has a link yet, and SUM, which was always tested, still is
pub record Kept (b : ModuleBefore) : Type 0 where
  pub lines : (taken_over b).inputs.lines ≡ b.inputs.lines
  pub counters : (taken_over b).inputs.counters ≡ b.inputs.counters
  pub outputs : (taken_over b).outputs ≡ b.outputs
  pub modes : (taken_over b).settings.modes ≡ b.settings.modes
  pub sampling : (taken_over b).settings.sampling ≡ b.settings.sampling
  pub presets : (taken_over b).settings.presets ≡ b.settings.presets
  pub links : (taken_over b).settings.links ≡ replicate 16 fresh_link
  pub thermostats : (taken_over b).settings.thermostats ≡ b.settings.thermostats
  pub notice : (taken_over b).settings.notice ≡ b.settings.notice
  pub sum_tested : (taken_over b).settings.sum_tested ≡ true
  pub reading : (taken_over b).reading ≡ b.reading
  pub last : (taken_over b).last ≡ b.last
  pub spinel_address : (taken_over b).spinel.address ≡ b.spinel.address
  pub spinel_speed : (taken_over b).spinel.speed ≡ b.spinel.speed
  pub spinel_permitted : (taken_over b).spinel.permitted ≡ b.spinel.permitted
  pub modbus_address : (taken_over b).modbus.address ≡ b.modbus.address
  pub modbus_speed : (taken_over b).modbus.speed ≡ b.modbus.speed
  pub modbus_permitted : (taken_over b).modbus.permitted ≡ b.modbus.permitted

pub kept : (b : ModuleBefore) → Kept b
kept b = record {
  lines = refl;
  counters = refl;
  outputs = refl;
  modes = refl;
  sampling = refl;
  presets = refl;
  links = refl;
  thermostats = refl;
  notice = refl;
  sum_tested = refl;
  reading = refl;
  last = refl;
  spinel_address = refl;
  spinel_speed = refl;
  spinel_permitted = refl;
  modbus_address = refl;
  modbus_speed = refl;
  modbus_permitted = refl;
}

-- from a state with 65,535 edges of input 16 uncollected, however many were collected: over every later list no edge of it is lost but to a
-- whole turn of the counter of now
pub across_16 : CyclesConservedAcross → (b : ModuleBefore) (collected : ℕ) → Sixteen (counting_before b) → get_or b.inputs.counters 15 0 ≡ 65535 → (calls : List Call)
    → ((tally_after (taken_over b) (standing (counting_before b) collected 0) calls).input 16).edges % 4294967296
    ≡ (((tally_after (taken_over b) (standing (counting_before b) collected 0) calls).input 16).collected + counter_of (run (taken_over b) calls) 16) % 4294967296
across_16 claim b c s e calls =
    let t = standing (counting_before b) c 0 in
    omega (
      arith,
      (claim b t 16 (omega arith) (omega arith) (record { alike = alike_standing 16 (counting_before b) c 0 s; turns = 0; sum = omega arith }) (omega (arith, e)) calls).sum,
    )

-- a tally that has lost whole turns agreed too
pub turned : (k n : ℕ) (b : ModuleBefore) → Sixteen (counting_before b) → Agreed k b (standing (counting_before b) 0 (65536 * n))
turned k n b s = record { alike = alike_standing k (counting_before b) 0 (65536 * n) s; turns = n; sum = omega arith }

pub record Rows : Type 0 where
  -- a fresh state of before is a fresh module
  pub fresh : taken_over (record {
    inputs = record { lines = replicate 16 fresh_line; counters = replicate 16 0 };
    outputs = replicate 16 fresh_output;
    settings = record { modes = replicate 16 0; sampling = 20; presets = replicate 16 fresh_preset; thermostats = replicate 16 fresh_thermostat; notice = notice 0 0 0 };
    reading = Fault;
    last = Fault;
    spinel = record { address = 0x31; speed = 6; permitted = false };
    modbus = record { address = 0x31; speed = 6; permitted = false };
  }) ≡ fresh_module
  -- the run of input 2 ends in an edge, which the notice tells; the counter of input 1 goes on past 65,535; pulses, presets, the thermostat
  -- and the last valid reading go on; there is no link
  pub goes_on : Plays (taken_over (full true true)) (
      (sample_of 0x0007 ⇒ announces 0x32 0x05 (0x00 ∷ 0x07 ∷ [])) ∷
      (asked_at 0x32 0x62 (0x01 ∷ []) ⇒ answers_from 0x32 []) ∷
      (sample_of 0x0006 ⇒ silently 0) ∷
      (asked_at 0x32 0x60 (0x01 ∷ 0x02 ∷ 0x03 ∷ 0x10 ∷ []) ⇒ answers_from 0x32 (0x20 ∷ 0x00 ∷ 0x01 ∷ 0x00 ∷ 0x00 ∷ 0x00 ∷ 0x00 ∷ 0x00 ∷ 0x03 ∷ 0x00 ∷ 0x00 ∷ 0x01 ∷ 0x2C ∷ 0x00 ∷ 0x00 ∷ 0x12 ∷ 0x34 ∷ [])) ∷
      (sent_to 0x05 0x03 (two 100 ++ two 3) ⇒ gives_from 0x05 0x03 (0x06 ∷ 0x00 ∷ 0x00 ∷ 0x00 ∷ 0x03 ∷ 0x01 ∷ 0x2C ∷ [])) ∷
      (asked_at 0x32 0x33 (0x01 ∷ 0x02 ∷ 0x03 ∷ 0x10 ∷ []) ⇒ answers_from 0x32 (0x81 ∷ 0x02 ∷ 0x82 ∷ 0x00 ∷ 0x83 ∷ 0x00 ∷ 0x90 ∷ 0xFF ∷ [])) ∷
      (asked_at 0x32 0x36 (0x01 ∷ 0x02 ∷ 0x10 ∷ []) ⇒ answers_from 0x32 (0x02 ∷ 0x04 ∷ 0x03 ∷ 0xFF ∷ 0x00 ∷ 0x09 ∷ [])) ∷
      (asked_at 0x32 0x41 (0x04 ∷ 0x10 ∷ []) ⇒ answers_from 0x32 (0x00 ∷ 0x00 ∷ 0x00 ∷ 0x00 ∷ [])) ∷
      (asked_at 0x32 0x6B (0x01 ∷ 0x02 ∷ 0x03 ∷ 0x10 ∷ []) ⇒ answers_from 0x32 (0x03 ∷ 0x01 ∷ 0x02 ∷ 0x03 ∷ [])) ∷
      (asked_at 0x32 0x1B (0x04 ∷ []) ⇒ answers_from 0x32 (0x04 ∷ 0xC1 ∷ 0x01 ∷ 0x2C ∷ 0xFF ∷ 0xFB ∷ 0x01 ∷ 0x02 ∷ [])) ∷
      (asked_at 0x32 0x11 [] ⇒ answers_from 0x32 (0x61 ∷ 0x00 ∷ 0x02 ∷ [])) ∷
      (asked_at 0x32 0x51 (0x01 ∷ []) ⇒ answers_from 0x32 (0x01 ∷ 0x80 ∷ 0x00 ∷ 0x96 ∷ [])) ∷
      (asked_at 0x32 0x63 [] ⇒ answers_from 0x32 (0x01 ∷ [])) ∷
      (temperature_of true (pos 301) ⇒ silently 0) ∷
      (asked_at 0x32 0x33 (0x04 ∷ []) ⇒ answers_from 0x32 (0x84 ∷ 0x02 ∷ [])) ∷
      (asked_at 0x32 0xF0 [] ⇒ answers_from 0x32 (0x32 ∷ 0x07 ∷ [])) ∷
      (sent_to 0x05 0x03 (two 1 ++ two 2) ⇒ gives_from 0x05 0x03 (0x04 ∷ 0x00 ∷ 0x05 ∷ 0x00 ∷ 0x08 ∷ [])) ∷
      [])
  -- a permission of either port still stands, and one that was not given does not
  pub spinel_permitted : Plays (taken_over (full true false)) (
      (sent_to 0x05 0x06 (two 1 ++ two 9) ⇒ excepts_from 0x05 10 0x86 0x04) ∷
      (asked_at 0x32 0xE0 (0x40 ∷ 0x06 ∷ []) ⇒ answers_from 0x32 []) ∷
      (asked_at 0x40 0xF0 [] ⇒ answers_from 0x40 (0x40 ∷ 0x06 ∷ [])) ∷
      [])
  pub modbus_permitted : Plays (taken_over (full false true)) (
      (asked_at 0x32 0xE0 (0x40 ∷ 0x06 ∷ []) ⇒ refuses_from 0x32 10 0x04) ∷
      (sent_to 0x05 0x06 (two 1 ++ two 9) ⇒ gives_from 0x05 0x06 (two 1 ++ two 9)) ∷
      (sent_to 0x09 0x03 (two 1 ++ two 1) ⇒ gives_from 0x09 0x03 (0x02 ∷ two 9)) ∷
      [])

pub rows : Rows
unfolding computing
rows = record { fresh = refl; goes_on = refl; spinel_permitted = refl; modbus_permitted = refl }

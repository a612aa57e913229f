-- Register groups by their ranges. Assumes nothing.
use Prim.Native.Nat.{ℕ, ◌≤◌}
use native.Mathlib.Omega.{arith}
use mathlib.Core.Path.{◌≡◌, refl}
use mathlib.Core.Bool.{Bool, false}
use mathlib.Core.List.{List, map}
use Rattle.lists.specs.Tests.{within}
use Rattle.lists.proofs.Choices.{cond_case, is_within, not_within}
use Rattle.model.specs.declared.Module.{Module}
use Rattle.model.specs.State.{with_outputs, with_modbus, with_counters, with_modes, with_thermostats}
use Rattle.model.specs.Refusals.{Request, on_part}
use Rattle.model.specs.Counters.{deduct, set_modes}
use Rattle.model.specs.Outputs.{act_on, pulse_outputs}
use Rattle.model.specs.Registers.{port_group, counter_group, mode_group, output_group, read_words, port_words, counter_word, output_word, read_thermostat}
use Rattle.model.specs.Registers.{write_permission, write_port, write_counters, write_deductions, write_modes, write_pulse, write_thermostat}
use Rattle.model.specs.Modbus.{no_group, registers_read, registers_written}

-- a register that 03 does not read
pub record Unread (a : ℕ) : Type 0 where
  pub port : 1 ≤ a → a ≤ 2 → ⊥
  pub counters : 100 ≤ a → a ≤ 115 → ⊥
  pub modes : 300 ≤ a → a ≤ 315 → ⊥
  pub outputs : 500 ≤ a → a ≤ 515 → ⊥
  pub thermostats : 600 ≤ a → a ≤ 663 → ⊥

module _ (a n : ℕ) (m : Module) where
  pub read_at_1 : 1 ≤ a → a ≤ 2 → read_words port_group (port_words m.modbus) a n ≡ registers_read a n m
  unfolding registers_read
  read_at_1 p q = rw (is_within 1 2 a p q)

  pub read_at_100 : 100 ≤ a → a ≤ 115 → read_words counter_group (map counter_word m.inputs.counters) a n ≡ registers_read a n m
  unfolding registers_read
  read_at_100 p q = rw (not_within 1 2 a (λ x y. omega arith), is_within 100 115 a p q)

  pub read_at_300 : 300 ≤ a → a ≤ 315 → read_words mode_group m.settings.modes a n ≡ registers_read a n m
  unfolding registers_read
  read_at_300 p q = rw (not_within 1 2 a (λ x y. omega arith), not_within 100 115 a (λ x y. omega arith), is_within 300 315 a p q)

  pub read_at_500 : 500 ≤ a → a ≤ 515 → read_words output_group (map output_word m.outputs) a n ≡ registers_read a n m
  unfolding registers_read
  read_at_500 p q =
      rw (not_within 1 2 a (λ x y. omega arith), not_within 100 115 a (λ x y. omega arith), not_within 300 315 a (λ x y. omega arith), is_within 500 515 a p q)

  pub read_at_600 : 600 ≤ a → a ≤ 663 → read_thermostat m.settings.thermostats a n ≡ registers_read a n m
  unfolding registers_read
  read_at_600 p q =
      rw (not_within 1 2 a (λ x y. omega arith), not_within 100 115 a (λ x y. omega arith), not_within 300 315 a (λ x y. omega arith), not_within 500 515 a (λ x y. omega arith), is_within 600 663 a p q)

  pub read_nowhere : Unread a → no_group tt ≡ registers_read a n m
  unfolding registers_read
  read_nowhere u =
      rw (not_within 1 2 a u.port, not_within 100 115 a u.counters, not_within 300 315 a u.modes, not_within 500 515 a u.outputs, not_within 600 663 a u.thermostats)

  -- 03 is listed, whatever the register
  pub groups_listed : (registers_read a n m).holds 7 ≡ false
  unfolding registers_read read_words read_thermostat
  groups_listed =
      cond_case L (within 1 2 a) _ _ (λ _. refl) λ _.
      cond_case L (within 100 115 a) _ _ (λ _. refl) λ _.
      cond_case L (within 300 315 a) _ _ (λ _. refl) λ _.
      cond_case L (within 500 515 a) _ _ (λ _. refl) λ _.
      cond_case L (within 600 663 a) _ _ (λ _. refl) λ _. refl
    where
      L : Request (Unit {0}) → Type 0
      L q = q.holds 7 ≡ false

-- a register that neither 06 nor 10H writes
pub record Unwritten (a : ℕ) : Type 0 where
  pub permission : a ≡ 0 → ⊥
  pub port : 1 ≤ a → a ≤ 2 → ⊥
  pub counters : 100 ≤ a → a ≤ 115 → ⊥
  pub deductions : 200 ≤ a → a ≤ 215 → ⊥
  pub modes : 300 ≤ a → a ≤ 315 → ⊥
  pub outputs : 500 ≤ a → a ≤ 515 → ⊥
  pub thermostats : 600 ≤ a → a ≤ 663 → ⊥

module _ (permitted single : Bool) (a : ℕ) (vs : List ℕ) (m : Module) where
  pub write_at_0 : a ≡ 0 → on_part (with_modbus m) (write_permission single a vs m.modbus) ≡ registers_written permitted single a vs m
  unfolding registers_written
  write_at_0 e = rw (is_within 0 0 a (omega arith) (omega (arith, e)))

  pub write_at_1 : 1 ≤ a → a ≤ 2 → write_port permitted a vs m ≡ registers_written permitted single a vs m
  unfolding registers_written
  write_at_1 p q =
      rw (not_within 0 0 a (λ x y. omega arith), is_within 1 2 a p q)

  pub write_at_100 : 100 ≤ a → a ≤ 115 → on_part (with_counters m) (write_counters a vs m.inputs.counters) ≡ registers_written permitted single a vs m
  unfolding registers_written
  write_at_100 p q =
      rw (not_within 0 0 a (λ x y. omega arith), not_within 1 2 a (λ x y. omega arith), is_within 100 115 a p q)

  pub write_at_200 : 200 ≤ a → a ≤ 215 → on_part (with_counters m) (write_deductions a vs m.inputs.counters) ≡ registers_written permitted single a vs m
  unfolding registers_written
  write_at_200 p q =
      rw (not_within 0 0 a (λ x y. omega arith), not_within 1 2 a (λ x y. omega arith), not_within 100 115 a (λ x y. omega arith), is_within 200 215 a p q)

  pub write_at_300 : 300 ≤ a → a ≤ 315 → on_part (with_modes m) (write_modes a vs m.settings.modes) ≡ registers_written permitted single a vs m
  unfolding registers_written
  write_at_300 p q =
      rw (not_within 0 0 a (λ x y. omega arith), not_within 1 2 a (λ x y. omega arith), not_within 100 115 a (λ x y. omega arith), not_within 200 215 a (λ x y. omega arith), is_within 300 315 a p q)

  pub write_at_500 : 500 ≤ a → a ≤ 515 → on_part (with_outputs m) (write_pulse m.reading m.settings.thermostats a vs m.outputs) ≡ registers_written permitted single a vs m
  unfolding registers_written
  write_at_500 p q =
      rw (not_within 0 0 a (λ x y. omega arith), not_within 1 2 a (λ x y. omega arith), not_within 100 115 a (λ x y. omega arith), not_within 200 215 a (λ x y. omega arith), not_within 300 315 a (λ x y. omega arith), is_within 500 515 a p q)

  pub write_at_600 : 600 ≤ a → a ≤ 663 → on_part (with_thermostats m) (write_thermostat m.settings.links a vs m.settings.thermostats) ≡ registers_written permitted single a vs m
  unfolding registers_written
  write_at_600 p q =
      rw (not_within 0 0 a (λ x y. omega arith), not_within 1 2 a (λ x y. omega arith), not_within 100 115 a (λ x y. omega arith), not_within 200 215 a (λ x y. omega arith), not_within 300 315 a (λ x y. omega arith), not_within 500 515 a (λ x y. omega arith), is_within 600 663 a p q)

  pub write_nowhere : Unwritten a → no_group m ≡ registers_written permitted single a vs m
  unfolding registers_written
  write_nowhere u =
      rw (
        not_within 0 0 a (λ x y. u.permission (omega arith)),
        not_within 1 2 a u.port,
        not_within 100 115 a u.counters,
        not_within 200 215 a u.deductions,
        not_within 300 315 a u.modes,
        not_within 500 515 a u.outputs,
        not_within 600 663 a u.thermostats,
      )

  -- 06 and 10H are listed, whatever the register
  pub writes_listed : (registers_written permitted single a vs m).holds 7 ≡ false
  unfolding registers_written write_permission write_port write_counters write_deductions deduct write_modes set_modes write_pulse pulse_outputs act_on write_thermostat
  writes_listed =
      cond_case L (within 0 0 a) _ _ (λ _. refl) λ _.
      cond_case L (within 1 2 a) _ _ (λ _. refl) λ _.
      cond_case L (within 100 115 a) _ _ (λ _. refl) λ _.
      cond_case L (within 200 215 a) _ _ (λ _. refl) λ _.
      cond_case L (within 300 315 a) _ _ (λ _. refl) λ _.
      cond_case L (within 500 515 a) _ _ (λ _. refl) λ _.
      cond_case L (within 600 663 a) _ _ (λ _. refl) λ _. refl
    where
      L : Request Module → Type 0
      L q = q.holds 7 ≡ false

-- Each function and register group of the Modbus port keeps the invariant: its conditions, then the change of `Effects`, then the
-- tally's reading by `Bridge`. Assumes nothing.
use Prim.Native.Nat.{ℕ, suc, ◌+◌, ◌-◌, ◌*◌, ◌≤◌, ◌<◌}
use native.Mathlib.Omega.{arith}
use mathlib.Core.Path.{◌≡◌, refl}
use mathlib.Core.List.{List, [], ◌∷◌}
use mathlib.Core.Bool.{Bool, true, false, not, true≢false}
use lib.ListN.{length, take, drop}
use lib.Dec.{leb, ltb, eqb}
use borrow.Author.Tests.{eqb-true, ltb-false, not-false, le-leb}
use Rattle.lists.specs.Tests.{all}
use Rattle.lists.specs.declared.Entry.{Entry}
use Rattle.lists.specs.Entries.{numbered}
use Rattle.lists.proofs.Choices.{cond_case, cond_eq, or_left, or_right, within_low, within_high}
use Rattle.model.specs.declared.Module.{Module}
use Rattle.model.specs.declared.Group.{Group}
use Rattle.model.specs.State.{with_modbus, with_counters, with_modes}
use Rattle.model.specs.Frames.{function_of, modbus_body}
use Rattle.model.specs.Refusals.{Request, refuse, on_part}
use Rattle.model.specs.Counters.{deduct, set_modes, reset}
use Rattle.model.specs.Registers.{permission_group, port_group, counter_group, deduction_group, mode_group, output_group, thermostat_group, in_group, outside, number_at, read_words, read_bits, read_thermostat, write_permission, write_port, write_counters, write_deductions, write_modes}
use Rattle.model.specs.Modbus.{start_of, second_of, count_wrong, words, registers_read, registers_written, answering, coil_written, register_written, coils_written, several_written, modbus_asked}
use Rattle.model.specs.Tally.{Tally, Account, two_at, quantity, writes, modbus_tallied}
use Rattle.model.proofs.Bridge.{Values, single, several, is_write, writes_below, writes_above, writes_not, lookup, lookup_collect, lookup_mode, lookup_clear, quiet, at_counter, at_deduction, at_mode, at_settings}
use Rattle.model.specs.Cycles.{Counting, counting_of}
use Rattle.model.proofs.Invariant.{Inv}
use Rattle.model.proofs.Judged.{order, passes_without}
use Rattle.model.proofs.Accepted.{Good}
use Rattle.model.proofs.Deductions.{registers_once}
use Rattle.model.proofs.Effects as effects

-- a register's number, as the difference from the register before its group
number_at_lem : (k r : ℕ) → r + 1 - (k + 1) ≡ r - k
number_at_lem k r = omega arith

-- the numbers from s on, s at least 1, are at least 1
numbers_from : (s : ℕ) (vs : List ℕ) → 1 ≤ s → all (λ (e : Entry). leb 1 e.number) (numbered s vs) ≡ true
unfolding numbered all
numbers_from s [] h = refl
numbers_from s (a ∷ vs) h = rw (le-leb 1 s h) (numbers_from (suc s) vs (omega arith))

-- a write that is not outside its group does not reach past its end
ends : (g : Group) (f vs : List ℕ) → Values f vs → outside g (two_at f 2) (length vs) ≡ false → two_at f 2 + quantity f ≤ g.first + g.count
ends g f vs o h = omega (arith, o.size, ltb-false (g.first + g.count) (two_at f 2 + length vs) (or_right (ltb (two_at f 2) g.first) _ (or_right (eqb (length vs) 0) _ h)))

module _ (i : ℕ) (small : i < 16) (m : Module) (t : Tally) (v : Inv i (counting_of m) t) (f : List ℕ) where
  abbrev x : Counting
  x = counting_of m

  abbrev u : Account
  u = t.input (suc i)

  -- an accepted frame, whatever its reply
  abbrev pub on : List ℕ → Tally
  on b = modbus_tallied f t

  -- a request that leaves the inputs as they are, and writes no register from 1 to 315
  silent : (q : Request Module) → counting_of q.after ≡ x → ((k : ℕ) → 1 ≤ k → k ≤ 315 → writes f k ≡ false) → Good i on q
  silent q e h = record { keeps = λ p. rw (e, quiet i f u small h) v }

  -- another function than 06 and 10H
  reads : (q : Request Module) → counting_of q.after ≡ x → is_write f ≡ false → Good i on q
  reads q e h = silent q e (λ k l r. writes_not f k h)

  -- the values vs for the registers from the frame's first on
  module _ (vs : List ℕ) (w : is_write f ≡ true) (o : Values f vs) where
    counters_good : 100 ≤ two_at f 2 → Good i on (on_part (with_counters m) (write_counters (two_at f 2) vs m.inputs.counters))
    unfolding order write_counters
    counters_good l = record {
      keeps = λ p. rw (at_counter i f u small l (ends counter_group f vs o (p.at 9 refl)), ← lookup_clear u (lookup i 99 f vs w o l), ← number_at_lem 99 (two_at f 2))
          (effects.zeroes_some i small x t.sampling u v _ (numbers_from (number_at counter_group (two_at f 2)) vs (omega arith)));
    }

    deductions_good : 200 ≤ two_at f 2 → Good i on (on_part (with_counters m) (write_deductions (two_at f 2) vs m.inputs.counters))
    unfolding order write_deductions deduct
    deductions_good l = record {
      keeps = λ p. rw (at_deduction i f u small l (ends deduction_group f vs o (or_left _ _ (p.at 9 refl))), ← lookup_collect u (lookup i 199 f vs w o l), ← number_at_lem 199 (two_at f 2))
          (effects.deducts i small x t.sampling u v _ (registers_once _ vs) (not-false _ (p.at 11 refl)));
    }

    modes_good : 300 ≤ two_at f 2 → Good i on (on_part (with_modes m) (write_modes (two_at f 2) vs m.settings.modes))
    unfolding order write_modes set_modes
    modes_good l = record {
      keeps = λ p. rw (at_mode i f u small l, ← lookup_mode u (lookup i 299 f vs w o l), ← number_at_lem 299 (two_at f 2))
          (effects.modes i small x t.sampling u v _ (not-false _ (p.at 11 refl)));
    }

    port_good : (a : Bool) → 1 ≤ two_at f 2 → two_at f 2 ≤ 2 → Good i on (write_port a (two_at f 2) vs m)
    unfolding write_port reset
    port_good a l h = record { keeps = λ p. rw (at_settings i f u small w o.some l h) (effects.resets i small x t.sampling u v) }

    permission_good : (b : Bool) → Good i on (on_part (with_modbus m) (write_permission b (two_at f 2) vs m.modbus))
    unfolding order write_permission
    permission_good b = record {
      keeps = λ p. rw (quiet i f u small (λ k l h. writes_above f k (omega (arith, ends permission_group f vs o (or_left _ _ (p.at 9 refl)))))) v;
    }

    -- every group
    pub registers_good : (a b : Bool) → Good i on (registers_written a b (two_at f 2) vs m)
    unfolding order registers_written
    registers_good a b =
        cond_case P (in_group permission_group (two_at f 2)) _ _ (λ _. permission_good b) λ _.
        cond_case P (in_group port_group (two_at f 2)) _ _ (λ e. port_good a (within_low 1 2 _ e) (within_high 1 2 _ e)) λ _.
        cond_case P (in_group counter_group (two_at f 2)) _ _ (λ e. counters_good (within_low 100 115 _ e)) λ _.
        cond_case P (in_group deduction_group (two_at f 2)) _ _ (λ e. deductions_good (within_low 200 215 _ e)) λ _.
        cond_case P (in_group mode_group (two_at f 2)) _ _ (λ e. modes_good (within_low 300 315 _ e)) λ _.
        cond_case P (in_group output_group (two_at f 2)) _ _ (λ e. silent _ refl (λ k l h. writes_below f k (omega (arith, within_low 500 515 _ e)))) λ _.
        cond_case P (in_group thermostat_group (two_at f 2)) _ _ (λ e. silent _ refl (λ k l h. writes_below f k (omega (arith, within_low 600 663 _ e)))) λ _.
        record { keeps = λ p. absurd (true≢false (p.at 9 refl)) }
      where
        P : Request Module → Type 0
        P q = Good i on q

  -- a write's request behind its length and its echo
  framed : (b : Bool) (echo : List ℕ) (q : Request Module) → (b ≡ false → Good i on q) → Good i on (refuse 8 b (answering echo q))
  unfolding order
  framed b echo q g = record { keeps = λ p. (g (or_right (q.holds 8) b (p.at 8 refl))).keeps (passes_without 8 b q (record { at = p.at })) }

  abbrev body : List ℕ
  body = modbus_body f

  single_good : (a : Bool) → function_of f ≡ 0x06 → Good i on (register_written a body m)
  unfolding register_written
  single_good a e =
      framed (not (eqb (length body) 4)) body (registers_written a true (start_of body) (second_of body ∷ []) m) λ h.
      let o : Values f (second_of body ∷ []) = single f e (eqb-true (length body) 4 (not-false _ h)) in
      rw o.start (registers_good (second_of body ∷ []) (rw e) o a true)

  several_good : (a : Bool) → function_of f ≡ 0x10 → Good i on (several_written a body m)
  unfolding several_written
  several_good a e =
      framed (count_wrong 123 (2 * second_of body) body) (take 4 body) (registers_written a false (start_of body) (words (drop 5 body)) m) λ h.
      let o : Values f (words (drop 5 body)) = several f e h in
      rw o.start (registers_good (words (drop 5 body)) (rw e) o a false)

  -- every function
  pub modbus_good : (a : Bool) → Good i on (modbus_asked a (function_of f) body m)
  unfolding order modbus_asked read_bits read_words read_thermostat registers_read coil_written coils_written
  modbus_good a =
      cond_eq P (function_of f) 0x01 _ _ (λ e. reads _ refl (rw e))
      (cond_eq P (function_of f) 0x02 _ _ (λ e. reads _ refl (rw e))
      (cond_eq P (function_of f) 0x03 _ _ (λ e. reads _ refl (rw e))
      (cond_eq P (function_of f) 0x04 _ _ (λ e. reads _ refl (rw e))
      (cond_eq P (function_of f) 0x05 _ _ (λ e. reads _ refl (rw e))
      (cond_eq P (function_of f) 0x06 _ _ (single_good a)
      (cond_eq P (function_of f) 0x0F _ _ (λ e. reads _ refl (rw e))
      (cond_eq P (function_of f) 0x10 _ _ (several_good a)
      (record { keeps = λ p. absurd (true≢false (p.at 7 refl)) }))))))))
    where
      P : Request Module → Type 0
      P q = Good i on q

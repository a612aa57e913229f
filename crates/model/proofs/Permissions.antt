-- An accepted request leaves its port permitted exactly where it gives the permission, and a reset ends both. Assumes nothing.
use Prim.Native.Nat.{ℕ, zero, suc, ◌≤◌}
use native.Mathlib.Omega.{arith}
use mathlib.Core.Path.{◌≡◌, refl, sym}
use mathlib.Core.Bool.{Bool, true, false, ◌&&◌, ◌||◌, and-false, true≢false}
use mathlib.Core.List.{List}
use Rattle.std.specs.Prelude.{Option, Some, None}
use lib.ListN.{length}
use lib.Dec.{eqb}
use borrow.Author.Tests.{ne_eqb, not-false}
use Rattle.lists.specs.Tests.{within}
use Rattle.lists.proofs.Choices.{cond_case, cond_eq, or_right, within_high}
use Rattle.model.specs.declared.Module.{Module}
use Rattle.model.specs.declared.TextCode.{TextCode}
use Rattle.model.specs.declared.TextCode.TheVariants.{ReadInput, ReadOutput, SetOutput, PulseOutput, ReadTemperature, SetNotice, ReadNotice, GivePermission, SetAddress, SetSpeed}
use Rattle.model.specs.Frames.{function_of, modbus_body}
use Rattle.model.specs.Refusals.{Request, Out}
use Rattle.model.specs.Wire.{Wire, used_up, frame_answered, frame_call}
use Rattle.model.specs.Counters.{list_read, read_sampling, reset, set_port, read_port, reset_module, give_permission}
use Rattle.model.specs.Outputs.{read_states}
use Rattle.model.specs.Notice.{read_notice}
use Rattle.model.specs.Temperature.{read_temperature, read_thermostats}
use Rattle.model.specs.Registers.{permission_group, outside, read_words, read_bits, write_permission, write_port}
use Rattle.model.specs.SumTest.{read_sum_test}
use Rattle.model.specs.Spinel.{SpinelRequest, spinel_asked, spinel_request, spinel_wire}
use Rattle.model.specs.Text.{is_text, characters, typed, read_state, read_thermometer, tell_notice, configure, TextRequest, asked_by, asked_if, text_request, text_wire}
use Rattle.model.specs.Modbus.{start_of, registers_written, coil_written, register_written, coils_written, several_written, modbus_asked, modbus_wire}
use Rattle.model.specs.Call.{Act, sample, temperature, spinel, modbus}
use Rattle.model.specs.Calls.{spinel_call, modbus_call, acted, step}
use Rattle.model.specs.Demand1.{gives_by, resets_by, gives_permission, resets_module, port_permitted, PermissionsHold}
use Rattle.model.proofs.Judged.{order, frame_either}

-- a refusal is no acceptance
late : {A : Type 0} (n : ℕ) → 7 ≤ n → n ≡ 0 → A
late n l e = absurd (omega arith)

-- register 0, or another
first : (r : ℕ) → within 0 0 r ≡ true → r ≡ 0
first r e = omega (arith, within_high 0 0 r e)

not_first : (r : ℕ) → within 0 0 r ≡ false → eqb r 0 ≡ false
unfolding within
not_first zero e = absurd (true≢false e)
not_first (suc r) e = ne_eqb (suc r) 0 (λ z. omega arith)

-- the state n after an accepted request: its port's permission is `own`, and after a reset both have ended
record Fair (own gives resets : Bool) (n : Module) : Type 0 where
  used : own ≡ gives
  ended : resets ≡ true → (n.spinel.permitted ≡ false) × (n.modbus.permitted ≡ false)

-- nothing given and nothing reset
idle : {n : Module} → Fair false false false n
idle = record { used = refl; ended = λ h. absurd (true≢false (sym h)) }

module _ (m : Module) where
  -- Spinel
  record FairBySpinel (i : ℕ) (q : Request Module) : Type 0 where
    fair : q.holds 7 ≡ false → Fair q.after.spinel.permitted (eqb i 0xE4) (eqb i 0xE0 || eqb i 0xE3) q.after

  -- an instruction that neither gives the permission nor resets
  plainly : (i : ℕ) (q : Request Module) → q.after.spinel.permitted ≡ false → eqb i 0xE4 ≡ false → eqb i 0xE0 ≡ false → eqb i 0xE3 ≡ false → FairBySpinel i q
  plainly i q e a b c = record { fair = λ _. record { used = rw (e, a); ended = rw (b, c) (λ h. absurd (true≢false (sym h))) } }

  spinel_fair : (q : SpinelRequest) (i : ℕ) → q.instruction ≡ i → FairBySpinel i (spinel_asked q (used_up spinel_wire m))
  unfolding spinel_asked read_notice read_thermostats read_states list_read read_temperature read_sampling read_port read_sum_test set_port reset_module reset give_permission
  spinel_fair q i e =
      rw e
      (cond_eq (FairBySpinel i) i 0x10 _ _ (λ e. rw e (plainly 0x10 _ refl refl refl refl))
      (cond_eq (FairBySpinel i) i 0x11 _ _ (λ e. rw e (plainly 0x11 _ refl refl refl refl))
      (cond_eq (FairBySpinel i) i 0x1A _ _ (λ e. rw e (plainly 0x1A _ refl refl refl refl))
      (cond_eq (FairBySpinel i) i 0x1B _ _ (λ e. rw e (plainly 0x1B _ refl refl refl refl))
      (cond_eq (FairBySpinel i) i 0x20 _ _ (λ e. rw e (plainly 0x20 _ refl refl refl refl))
      (cond_eq (FairBySpinel i) i 0x23 _ _ (λ e. rw e (plainly 0x23 _ refl refl refl refl))
      (cond_eq (FairBySpinel i) i 0x25 _ _ (λ e. rw e (plainly 0x25 _ refl refl refl refl))
      (cond_eq (FairBySpinel i) i 0x26 _ _ (λ e. rw e (plainly 0x26 _ refl refl refl refl))
      (cond_eq (FairBySpinel i) i 0x30 _ _ (λ e. rw e (plainly 0x30 _ refl refl refl refl))
      (cond_eq (FairBySpinel i) i 0x31 _ _ (λ e. rw e (plainly 0x31 _ refl refl refl refl))
      (cond_eq (FairBySpinel i) i 0x33 _ _ (λ e. rw e (plainly 0x33 _ refl refl refl refl))
      (cond_eq (FairBySpinel i) i 0x36 _ _ (λ e. rw e (plainly 0x36 _ refl refl refl refl))
      (cond_eq (FairBySpinel i) i 0x38 _ _ (λ e. rw e (plainly 0x38 _ refl refl refl refl))
      (cond_eq (FairBySpinel i) i 0x40 _ _ (λ e. rw e (plainly 0x40 _ refl refl refl refl))
      (cond_eq (FairBySpinel i) i 0x41 _ _ (λ e. rw e (plainly 0x41 _ refl refl refl refl))
      (cond_eq (FairBySpinel i) i 0x51 _ _ (λ e. rw e (plainly 0x51 _ refl refl refl refl))
      (cond_eq (FairBySpinel i) i 0x60 _ _ (λ e. rw e (plainly 0x60 _ refl refl refl refl))
      (cond_eq (FairBySpinel i) i 0x61 _ _ (λ e. rw e (plainly 0x61 _ refl refl refl refl))
      (cond_eq (FairBySpinel i) i 0x62 _ _ (λ e. rw e (plainly 0x62 _ refl refl refl refl))
      (cond_eq (FairBySpinel i) i 0x63 _ _ (λ e. rw e (plainly 0x63 _ refl refl refl refl))
      (cond_eq (FairBySpinel i) i 0x6A _ _ (λ e. rw e (plainly 0x6A _ refl refl refl refl))
      (cond_eq (FairBySpinel i) i 0x6B _ _ (λ e. rw e (plainly 0x6B _ refl refl refl refl))
      (cond_eq (FairBySpinel i) i 0xE0 _ _ (λ e. rw e (record { fair = λ _. record { used = refl; ended = λ _. (refl, refl) } }))
      (cond_eq (FairBySpinel i) i 0xE3 _ _ (λ e. rw e (record { fair = λ _. record { used = refl; ended = λ _. (refl, refl) } }))
      (cond_eq (FairBySpinel i) i 0xE4 _ _ (λ e. rw e (record { fair = λ _. record { used = refl; ended = λ h. absurd (true≢false (sym h)) } }))
      (cond_eq (FairBySpinel i) i 0xEE _ _ (λ e. rw e (plainly 0xEE _ refl refl refl refl))
      (cond_eq (FairBySpinel i) i 0xF0 _ _ (λ e. rw e (plainly 0xF0 _ refl refl refl refl))
      (cond_eq (FairBySpinel i) i 0xFE _ _ (λ e. rw e (plainly 0xFE _ refl refl refl refl))
      (record { fair = λ h. absurd (true≢false h) })))))))))))))))))))))))))))))

  -- text, by its code
  code_fair : (c : TextCode) (q : TextRequest) → let n = (asked_by c q (used_up text_wire m)).after in Fair n.spinel.permitted (gives_by (Some c)) (resets_by (Some c)) n
  unfolding asked_by read_state read_thermometer tell_notice give_permission configure reset gives_by resets_by
  code_fair ReadInput q = idle
  code_fair ReadOutput q = idle
  code_fair SetOutput q = idle
  code_fair PulseOutput q = idle
  code_fair ReadTemperature q = idle
  code_fair SetNotice q = idle
  code_fair ReadNotice q = idle
  code_fair GivePermission q = record { used = refl; ended = λ h. absurd (true≢false (sym h)) }
  code_fair SetAddress q = record { used = refl; ended = λ _. (refl, refl) }
  code_fair SetSpeed q = record { used = refl; ended = λ _. (refl, refl) }

  text_fair : (c : Option TextCode) (q : TextRequest) → (asked_if c q (used_up text_wire m)).holds 7 ≡ false
      → let n = (asked_if c q (used_up text_wire m)).after in Fair n.spinel.permitted (gives_by c) (resets_by c) n
  unfolding asked_if
  text_fair (Some c) q h = code_fair c q
  text_fair None q h = absurd (true≢false h)

  -- registers written from r on, by 06 or not
  record FairWrite (single : Bool) (r : ℕ) (q : Request Module) : Type 0 where
    fair : q.holds 9 ≡ false → Fair q.after.modbus.permitted (single && eqb r 0) (within 1 2 r) q.after

  -- a group whose write neither gives the permission nor resets
  harmless : (single : Bool) (r : ℕ) (q : Request Module) → q.after.modbus.permitted ≡ false → within 0 0 r ≡ false → within 1 2 r ≡ false → FairWrite single r q
  harmless single r q e a b = record { fair = λ _. record { used = rw (e, not_first r a) (sym (and-false single)); ended = rw b (λ h. absurd (true≢false (sym h))) } }

  -- the permission's register
  given : (single : Bool) (r : ℕ) (q : Request Module) → r ≡ 0 → q.after.modbus.permitted ≡ true → (q.holds 9 ≡ false → single ≡ true) → FairWrite single r q
  unfolding within
  given single r q e g s = rw e (record { fair = λ h. record { used = rw (g, s h); ended = λ z. absurd (true≢false (sym z)) } })

  registers_fair : (permitted single : Bool) (r : ℕ) (vs : List ℕ) → FairWrite single r (registers_written permitted single r vs (used_up modbus_wire m))
  unfolding registers_written write_permission write_port reset
  registers_fair permitted single r vs =
      cond_case (FairWrite single r) (within 0 0 r) _ _ (λ e. given single r _ (first r e) refl (λ h. not-false single (or_right (outside permission_group r (length vs)) _ h))) λ a.
      cond_case (FairWrite single r) (within 1 2 r) _ _ (λ e. record { fair = λ _. record { used = rw (not_first r a) (sym (and-false single)); ended = λ _. (refl, refl) } }) λ b.
      cond_case (FairWrite single r) (within 100 115 r) _ _ (λ _. harmless single r _ refl a b) λ _.
      cond_case (FairWrite single r) (within 200 215 r) _ _ (λ _. harmless single r _ refl a b) λ _.
      cond_case (FairWrite single r) (within 300 315 r) _ _ (λ _. harmless single r _ refl a b) λ _.
      cond_case (FairWrite single r) (within 500 515 r) _ _ (λ _. harmless single r _ refl a b) λ _.
      cond_case (FairWrite single r) (within 600 663 r) _ _ (λ _. harmless single r _ refl a b) λ _. harmless single r _ refl a b

  -- Modbus: the function fn at register r
  record FairByModbus (fn r : ℕ) (q : Request Module) : Type 0 where
    fair : q.holds 7 ≡ false → q.holds 9 ≡ false → Fair q.after.modbus.permitted (eqb fn 0x06 && eqb r 0) ((eqb fn 0x06 || eqb fn 0x10) && within 1 2 r) q.after

  -- a function that writes no register
  apart : (fn r : ℕ) (q : Request Module) → q.after.modbus.permitted ≡ false → eqb fn 0x06 ≡ false → eqb fn 0x10 ≡ false → FairByModbus fn r q
  apart fn r q e a b = record { fair = λ _ _. record { used = rw (e, a); ended = rw (a, b) (λ h. absurd (true≢false (sym h))) } }

  modbus_fair : (permitted : Bool) (fn : ℕ) (b : List ℕ) → FairByModbus fn (start_of b) (modbus_asked permitted fn b (used_up modbus_wire m))
  unfolding modbus_asked read_bits read_words coil_written register_written coils_written several_written
  modbus_fair permitted fn b =
      cond_eq F fn 0x01 _ _ (λ e. rw e (apart 0x01 r _ refl refl refl))
      (cond_eq F fn 0x02 _ _ (λ e. rw e (apart 0x02 r _ refl refl refl))
      (cond_eq F fn 0x03 _ _ (λ e. rw e (apart 0x03 r _ refl refl refl))
      (cond_eq F fn 0x04 _ _ (λ e. rw e (apart 0x04 r _ refl refl refl))
      (cond_eq F fn 0x05 _ _ (λ e. rw e (apart 0x05 r _ refl refl refl))
      (cond_eq F fn 0x06 _ _ (λ e. rw e (record { fair = λ _ h. (registers_fair permitted true r _).fair h }))
      (cond_eq F fn 0x0F _ _ (λ e. rw e (apart 0x0F r _ refl refl refl))
      (cond_eq F fn 0x10 _ _ (λ e. rw e (record { fair = λ _ h. (registers_fair permitted false r _).fair h }))
      (record { fair = λ h. absurd (true≢false h) }))))))))
    where
      r : ℕ
      r = start_of b

      F : Request Module → Type 0
      F = FairByModbus fn r

  -- calls: an answer that is accepted is fair
  record FairAnswer (a : Act) (o : Out) : Type 0 where
    fair : o.refusal ≡ 0 → Fair (port_permitted a o.after) (gives_permission a) (resets_module a) o.after

  binary_answer : (f : List ℕ) → is_text f ≡ false → (room : ℕ) → FairAnswer (spinel f) (frame_call spinel_wire room f m)
  unfolding order spinel_request port_permitted gives_permission resets_module frame_answered
  binary_answer f b =
      frame_either (FairAnswer (spinel f)) spinel_wire f m (λ _. record { fair = λ e. absurd (omega arith) }) (λ n l. record { fair = λ e. late n l e })
      (λ _ p. record { fair = λ _. rw b ((spinel_fair (spinel_request m.spinel.permitted f) _ refl).fair (p.at 7 refl)) })

  text_answer : (f : List ℕ) → is_text f ≡ true → (room : ℕ) → FairAnswer (spinel f) (frame_call text_wire room f m)
  unfolding order text_request port_permitted gives_permission resets_module frame_answered
  text_answer f b =
      frame_either (FairAnswer (spinel f)) text_wire f m (λ _. record { fair = λ e. absurd (omega arith) }) (λ n l. record { fair = λ e. late n l e })
      (λ _ p. record { fair = λ _. rw b (text_fair (typed (characters f)).code (text_request m.spinel.permitted f) (p.at 7 refl)) })

  spinel_answer : (f : List ℕ) (room : ℕ) → FairAnswer (spinel f) (spinel_call room f m)
  spinel_answer f room = cond_case (λ (w : Wire). FairAnswer (spinel f) (frame_call w room f m)) (is_text f) text_wire spinel_wire (λ b. text_answer f b room) (λ b. binary_answer f b room)

  modbus_answer : (f : List ℕ) (room : ℕ) → FairAnswer (modbus f) (modbus_call room f m)
  unfolding order port_permitted gives_permission resets_module frame_answered
  modbus_answer f =
      frame_either (FairAnswer (modbus f)) modbus_wire f m (λ _. record { fair = λ e. absurd (omega arith) }) (λ n l. record { fair = λ e. late n l e })
      (λ _ p. record { fair = λ _. (modbus_fair m.modbus.permitted (function_of f) (modbus_body f)).fair (p.at 7 refl) (p.at 9 refl) })

  call_answer : (room : ℕ) (a : Act) → FairAnswer a (acted room a m)
  unfolding port_permitted gives_permission resets_module
  call_answer room (sample bits) = record { fair = λ _. record { used = refl; ended = λ h. absurd (true≢false (sym h)) } }
  call_answer room (temperature good tenths) = record { fair = λ _. record { used = refl; ended = λ h. absurd (true≢false (sym h)) } }
  call_answer room (spinel f) = spinel_answer f room
  call_answer room (modbus f) = modbus_answer f room

pub permissions_hold : PermissionsHold
unfolding step
permissions_hold m c =
    let a = call_answer m c.room c.act in
    record { used = λ e. (a.fair e).used; ended = λ e. (a.fair e).ended }

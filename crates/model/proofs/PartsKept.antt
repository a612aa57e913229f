-- Each call leaves what its line of `Parts` leaves, in every state. Assumes nothing.
use Prim.Native.Nat.{ℕ}
use mathlib.Core.Path.{◌≡◌, refl, ap}
use mathlib.Core.Bool.{Bool, true, false}
use mathlib.Core.List.{List, [], ◌∷◌, map}
use Rattle.std.specs.Prelude.{Option, Some, None}
use lib.Dec.{eqb}
use lib.ListN.{get_or}
use lib.IntN.{ℤ}
use Rattle.lists.specs.Tests.{within}
use Rattle.lists.proofs.Choices.{cond_case, cond_eq}
use Rattle.model.specs.declared.Line.{Line}
use Rattle.model.specs.declared.Reading.{Reading}
use Rattle.model.specs.declared.Reading.TheVariants.{Valid, Fault}
use Rattle.model.specs.declared.Module.{Module}
use Rattle.model.specs.declared.Notice.{Notice}
use Rattle.model.specs.declared.TextCode.{TextCode}
use Rattle.model.specs.declared.TextCode.TheVariants.{ReadInput, ReadOutput, SetOutput, PulseOutput, ReadTemperature, SetNotice, ReadNotice, GivePermission, SetAddress, SetSpeed}
use Rattle.model.specs.State.{line}
use Rattle.model.specs.Samples.{inputs_sampled}
use Rattle.model.specs.Frames.{function_of, modbus_body}
use Rattle.model.specs.Refusals.{Request, Out, silent, buffer_short}
use Rattle.model.specs.Wire.{Wire, used_up, frame_answered, frame_call}
use Rattle.model.specs.Counters.{list_read, set_sampling, read_sampling, runs_ended, reset, set_port, read_port, reset_module, give_permission}
use Rattle.model.specs.Outputs.{read_states}
use Rattle.model.specs.Notice.{read_notice}
use Rattle.model.specs.Temperature.{reading_of, taken, read_temperature, read_thermostats}
use Rattle.model.specs.Registers.{read_words, read_bits, write_permission, write_port}
use Rattle.model.specs.SumTest.{read_sum_test}
use Rattle.model.specs.Spinel.{SpinelRequest, spinel_asked, spinel_request, spinel_wire}
use Rattle.model.specs.Text.{is_text, characters, typed, read_state, read_thermometer, switch_notice, tell_notice, configure, TextRequest, asked_by, asked_if, text_request, text_wire}
use Rattle.model.specs.Modbus.{start_of, registers_written, coil_written, register_written, coils_written, several_written, modbus_asked, modbus_wire}
use Rattle.model.specs.Call.{Act, sample, temperature, spinel, modbus}
use Rattle.model.specs.Calls.{sampled, sample_call, temperature_call, spinel_call, modbus_call, acted, step}
use Rattle.model.specs.Parts.{without_spinel_permission, without_modbus_permission, spinel_leaves, text_leaves, registers_leave, modbus_leaves, leaves, PartsKept}
use Rattle.model.proofs.Judged.{frame_either}

-- ending the runs twice is ending them once
ended_twice : (ls : List Line) → map (λ (y : Line). line y.stable 0) (map (λ (y : Line). line y.stable 0) ls) ≡ map (λ (y : Line). line y.stable 0) ls
ended_twice [] = refl
ended_twice (l ∷ ls) = ap (line l.stable 0 ∷◌) (ended_twice ls)

-- IS, on and off, leaves the signature
switched : (t : List ℕ) (n : Notice) → (switch_notice t n).after.signature ≡ n.signature
unfolding switch_notice
switched t n = cond_case (λ (x : Notice). x.signature ≡ n.signature) (eqb (get_or t 0 0) 0x31) _ _ (λ _. refl) (λ _. refl)

module _ (m : Module) where
  -- Spinel: the request leaves what instruction i leaves
  record LeftAlone (i : ℕ) (r : Request Module) : Type 0 where
    kept : spinel_leaves i (without_spinel_permission r.after) ≡ spinel_leaves i (without_spinel_permission m)

  spinel_leaves_lem : (q : SpinelRequest) (i : ℕ) → q.instruction ≡ i → LeftAlone i (spinel_asked q (used_up spinel_wire m))
  unfolding spinel_asked spinel_leaves read_notice read_thermostats read_states list_read read_temperature read_sampling read_port read_sum_test set_port reset_module reset runs_ended set_sampling give_permission
  spinel_leaves_lem q i e =
      rw e
      (cond_eq P i 0x10 _ _ (λ e. record { kept = rw e refl })
      (cond_eq P i 0x11 _ _ (λ e. record { kept = rw e refl })
      (cond_eq P i 0x1A _ _ (λ e. record { kept = rw e refl })
      (cond_eq P i 0x1B _ _ (λ e. record { kept = rw e refl })
      (cond_eq P i 0x20 _ _ (λ e. record { kept = rw e refl })
      (cond_eq P i 0x23 _ _ (λ e. record { kept = rw e refl })
      (cond_eq P i 0x25 _ _ (λ e. record { kept = rw e refl })
      (cond_eq P i 0x26 _ _ (λ e. record { kept = rw e refl })
      (cond_eq P i 0x30 _ _ (λ e. record { kept = rw e refl })
      (cond_eq P i 0x31 _ _ (λ e. record { kept = rw e refl })
      (cond_eq P i 0x33 _ _ (λ e. record { kept = rw e refl })
      (cond_eq P i 0x36 _ _ (λ e. record { kept = rw e refl })
      (cond_eq P i 0x38 _ _ (λ e. record { kept = rw e refl })
      (cond_eq P i 0x40 _ _ (λ e. record { kept = rw e refl })
      (cond_eq P i 0x41 _ _ (λ e. record { kept = rw e refl })
      (cond_eq P i 0x51 _ _ (λ e. record { kept = rw e refl })
      (cond_eq P i 0x60 _ _ (λ e. record { kept = rw e refl })
      (cond_eq P i 0x61 _ _ (λ e. record { kept = rw e refl })
      (cond_eq P i 0x62 _ _ (λ e. record { kept = rw e refl })
      (cond_eq P i 0x63 _ _ (λ e. record { kept = rw e refl })
      (cond_eq P i 0x6A _ _ (λ e. record { kept = rw e refl })
      (cond_eq P i 0x6B _ _ (λ e. record { kept = rw e refl })
      (cond_eq P i 0xE0 _ _ (λ e. record { kept = rw (e, ended_twice m.inputs.lines) refl })
      (cond_eq P i 0xE3 _ _ (λ e. record { kept = rw (e, ended_twice m.inputs.lines) refl })
      (cond_eq P i 0xE4 _ _ (λ e. record { kept = rw e refl })
      (cond_eq P i 0xEE _ _ (λ e. record { kept = rw e refl })
      (cond_eq P i 0xF0 _ _ (λ e. record { kept = rw e refl })
      (cond_eq P i 0xFE _ _ (λ e. record { kept = rw e refl })
      (record { kept = refl })))))))))))))))))))))))))))))
    where
      P : Request Module → Type 0
      P = LeftAlone i

  -- text: what code c leaves
  code_leaves : (c : TextCode) (q : TextRequest) → text_leaves (Some c) (without_spinel_permission (asked_by c q (used_up text_wire m)).after) ≡ text_leaves (Some c) (without_spinel_permission m)
  unfolding asked_by text_leaves read_state read_thermometer tell_notice give_permission configure reset runs_ended
  code_leaves ReadInput q = refl
  code_leaves ReadOutput q = refl
  code_leaves SetOutput q = refl
  code_leaves PulseOutput q = refl
  code_leaves ReadTemperature q = refl
  code_leaves SetNotice q = rw (switched q.typed.parameters m.settings.notice) refl
  code_leaves ReadNotice q = refl
  code_leaves GivePermission q = refl
  code_leaves SetAddress q = rw (ended_twice m.inputs.lines) refl
  code_leaves SetSpeed q = rw (ended_twice m.inputs.lines) refl

  text_leaves_lem : (c : Option TextCode) (q : TextRequest) → text_leaves c (without_spinel_permission (asked_if c q (used_up text_wire m)).after) ≡ text_leaves c (without_spinel_permission m)
  unfolding asked_if text_leaves
  text_leaves_lem (Some c) q = code_leaves c q
  text_leaves_lem None q = refl

  -- the request leaves what a write of registers from r on leaves
  record Left (r : ℕ) (q : Request Module) : Type 0 where
    kept : registers_leave r (without_modbus_permission q.after) ≡ registers_leave r (without_modbus_permission m)

  -- whatever the values
  registers_leave_lem : (permitted single : Bool) (r : ℕ) (vs : List ℕ) → Left r (registers_written permitted single r vs (used_up modbus_wire m))
  unfolding registers_written registers_leave write_permission write_port reset runs_ended
  registers_leave_lem permitted single r vs =
      cond_case (Left r) (within 0 0 r) _ _ (λ _. record { kept = refl }) λ _.
      cond_case (Left r) (within 1 2 r) _ _ (λ e. record { kept = rw (e, ended_twice m.inputs.lines) refl }) λ a.
      cond_case (Left r) (within 100 115 r) _ _ (λ e. record { kept = rw (a, e) refl }) λ b.
      cond_case (Left r) (within 200 215 r) _ _ (λ e. record { kept = rw (a, b, e) refl }) λ c.
      cond_case (Left r) (within 300 315 r) _ _ (λ e. record { kept = rw (a, b, c, e) refl }) λ d.
      cond_case (Left r) (within 500 515 r) _ _ (λ e. record { kept = rw (a, b, c, d, e) refl }) λ f.
      cond_case (Left r) (within 600 663 r) _ _ (λ e. record { kept = rw (a, b, c, d, f, e) refl }) λ _. record { kept = refl }

  -- Modbus: the request leaves what function fn leaves, from register r on
  record LeftBy (fn r : ℕ) (q : Request Module) : Type 0 where
    kept : modbus_leaves fn r (without_modbus_permission q.after) ≡ modbus_leaves fn r (without_modbus_permission m)

  modbus_leaves_lem : (permitted : Bool) (b : List ℕ) (fn : ℕ) → LeftBy fn (start_of b) (modbus_asked permitted fn b (used_up modbus_wire m))
  unfolding modbus_asked modbus_leaves read_bits read_words coil_written register_written coils_written several_written
  modbus_leaves_lem permitted b fn =
      cond_eq P fn 0x01 _ _ (λ e. record { kept = rw e refl })
      (cond_eq P fn 0x02 _ _ (λ e. record { kept = rw e refl })
      (cond_eq P fn 0x03 _ _ (λ e. record { kept = rw e refl })
      (cond_eq P fn 0x04 _ _ (λ e. record { kept = rw e refl })
      (cond_eq P fn 0x05 _ _ (λ e. record { kept = rw e refl })
      (cond_eq P fn 0x06 _ _ (λ e. record { kept = rw e (registers_leave_lem permitted true (start_of b) _).kept })
      (cond_eq P fn 0x0F _ _ (λ e. record { kept = rw e refl })
      (cond_eq P fn 0x10 _ _ (λ e. record { kept = rw e (registers_leave_lem permitted false (start_of b) _).kept })
      (record { kept = refl }))))))))
    where
      P : Request Module → Type 0
      P = LeftBy fn (start_of b)

  -- the answer leaves what its call leaves
  record Kept (a : Act) (o : Out) : Type 0 where
    kept : leaves a o.after ≡ leaves a m

  binary_kept : (f : List ℕ) → is_text f ≡ false → (room : ℕ) → Kept (spinel f) (frame_call spinel_wire room f m)
  unfolding spinel_request leaves frame_answered
  binary_kept f b =
      frame_either (Kept (spinel f)) spinel_wire f m (λ _. record { kept = refl }) (λ _ _. record { kept = refl })
      (λ _ _. record { kept = rw b (spinel_leaves_lem (spinel_request m.spinel.permitted f) _ refl).kept })

  text_kept : (f : List ℕ) → is_text f ≡ true → (room : ℕ) → Kept (spinel f) (frame_call text_wire room f m)
  unfolding text_request leaves frame_answered
  text_kept f b =
      frame_either (Kept (spinel f)) text_wire f m (λ _. record { kept = refl }) (λ _ _. record { kept = refl })
      (λ _ _. record { kept = rw b (text_leaves_lem (typed (characters f)).code (text_request m.spinel.permitted f)) })

  spinel_kept : (f : List ℕ) (room : ℕ) → Kept (spinel f) (spinel_call room f m)
  spinel_kept f room = cond_case (λ (w : Wire). Kept (spinel f) (frame_call w room f m)) (is_text f) text_wire spinel_wire (λ b. text_kept f b room) (λ b. binary_kept f b room)

  modbus_kept : (f : List ℕ) (room : ℕ) → Kept (modbus f) (modbus_call room f m)
  unfolding leaves frame_answered
  modbus_kept f =
      frame_either (Kept (modbus f)) modbus_wire f m (λ _. record { kept = refl }) (λ _ _. record { kept = refl })
      (λ _ _. record { kept = (modbus_leaves_lem m.modbus.permitted (modbus_body f) (function_of f)).kept })

  taken_kept : (good : Bool) (tenths : ℤ) (r : Reading) → leaves (temperature good tenths) (taken r m) ≡ leaves (temperature good tenths) m
  unfolding taken leaves
  taken_kept good tenths (Valid t x) = refl
  taken_kept good tenths Fault = refl

  call_kept : (room : ℕ) (a : Act) → Kept a (acted room a m)
  unfolding sample_call sampled inputs_sampled temperature_call leaves
  call_kept room (sample bits) = cond_case (Kept (sample bits)) (buffer_short room) (silent 1 m) (sampled bits m) (λ _. record { kept = refl }) (λ _. record { kept = refl })
  call_kept room (temperature good tenths) = record { kept = taken_kept good tenths (reading_of good tenths) }
  call_kept room (spinel f) = spinel_kept f room
  call_kept room (modbus f) = modbus_kept f room

pub parts_kept : PartsKept
unfolding step
parts_kept m c = (call_kept m c.room c.act).kept

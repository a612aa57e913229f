-- How long a reply's data is: at most 128 bytes over Spinel, at most 8 characters of text, at most 252 in a Modbus body. Assumes nothing.
use Prim.Native.Nat.{ℕ, zero, suc, ◌+◌, ◌-◌, ◌*◌, ◌/◌, ◌%◌, ◌≤◌}
use native.Mathlib.Omega.{arith}
use native.Mathlib.Nat.{mul-suc}
use mathlib.Core.Path.{◌≡◌, refl}
use Rattle.std.specs.Prelude.{Option, Some, None}
use mathlib.Core.Bool.{Bool, true, false, cond, not, ◌&&◌, ◌||◌}
use mathlib.Core.List.{List, [], ◌∷◌, map, flat_map}
use lib.Dec.{eqb}
use lib.ListN.{length, get_or, take, drop, length-append, length-map, length-take}
use borrow.Author.Tests.{eqb-true, leb-true, not-false}
use Rattle.lists.specs.Chunks.{chunks_of}
use Rattle.lists.specs.Numbers.{bytes}
use Rattle.lists.proofs.Choices.{cond_case, cond_eq, and_right, or_right, within_high}
use Rattle.lists.proofs.ChunkLaws.{length-chunks_of}
use Rattle.lists.proofs.NumberLaws.{length-bytes}
use Rattle.model.specs.declared.Module.{Module}
use Rattle.model.specs.declared.Group.{Group}
use Rattle.model.specs.declared.Reading.{Reading}
use Rattle.model.specs.declared.Reading.TheVariants.{Valid, Fault}
use Rattle.model.specs.declared.Thermostat.{Thermostat}
use Rattle.model.specs.declared.TextCode.{TextCode}
use Rattle.model.specs.declared.TextCode.TheVariants.{ReadInput, ReadOutput, SetOutput, PulseOutput, ReadTemperature, SetNotice, ReadNotice, GivePermission, SetAddress, SetSpeed}
use Rattle.model.specs.declared.Notice.{Notice}
use Rattle.model.specs.declared.Inputs.{Inputs}
use Rattle.model.specs.Samples.{input_states}
use Rattle.model.specs.Frames.{spinel_reply, with_crc, modbus_reply, exception_function, exception_reply}
use Rattle.model.specs.Refusals.{Request, refuse, reading, Done, judged, ack_of, exception_of}
use Rattle.model.specs.Counters.{most_items, items_of, every_number, listed, list_read, zeroes, number_in, parameters, read_one, values_read, read_counters, clear_all, deduct, deduct_counters, set_sampling, read_sampling, set_modes_list, set_modes, mode_shown, set_port, reset_module, give_permission, read_port}
use Rattle.model.specs.Temperature.{set_thermostats, reading_shown, read_temperature, group_shown, read_thermostats}
use Rattle.model.specs.SumTest.{set_sum_test, read_sum_test}
use Rattle.model.specs.Outputs.{set_outputs, set_pulses, pulse_outputs, act_on, start_presets, set_presets, states_shown, read_states, pulse_shown, preset_shown, mode_byte}
use Rattle.model.specs.Links.{set_links, link_shown}
use Rattle.model.specs.Registers.{port_group, counter_group, mode_group, output_group, thermostat_group, reading_group, in_group, packed, read_bits, read_words, read_thermostat, port_words, counter_word, output_word, thermostat_words, write_coils}
use Rattle.model.specs.Modbus.{start_of, second_of, quantity_wrong, no_group, registers_read, registers_written, coil_written, register_written, coils_written, several_written, modbus_asked}
use Rattle.model.specs.Spinel.{SpinelRequest, spinel_asked}
use Rattle.model.specs.Text.{last_digit, text_reply, read_state, set_one, pulse_one, temperature_told, read_thermometer, switch_notice, tell_notice, configure, TextRequest, asked_by, asked_if, text_asked, text_notice}
use Rattle.model.specs.Notice.{set_notice, read_notice, noticed, notice_frame, notice_written}
use Rattle.model.proofs.Judged.{judged_either, order}

-- a request that is not refused by 8 has at most so much data
pub record Short {P : Type 0} (most : ℕ) (q : Request P) : Type 0 where
  pub bound : q.holds 8 ≡ false → length q.reply ≤ most

-- a refused request has no data
pub judged_short : {P : Type 0} (most : ℕ) (p : P) (q : Request P) → Short most q → length (judged p q).reply ≤ most
unfolding order
judged_short {P} most p q s = judged_either (λ (o : Done P). length o.reply ≤ most) p q (λ _ _. omega arith) (λ a. s.bound (a.at 8 refl))

-- Lists ----------------------------------------------------------------------------------

-- at most n items of at most k bytes each
pub flat_most : {A : Type 0} (k : ℕ) (show : A → List ℕ) → ((x : A) → length (show x) ≤ k) → (n : ℕ) (xs : List A) → length xs ≤ n → length (flat_map show xs) ≤ k * n
unfolding flat_map
flat_most k show h n [] l = omega arith
flat_most k show h zero (x ∷ xs) l = absurd (omega arith)
flat_most k show h (suc n) (x ∷ xs) l =
    simp (length-append, mul-suc) (omega (arith, h x, flat_most k show h n xs (omega arith)))

-- 1 to 12 items of one byte each
pub few_items : (d : List ℕ) → not (items_of 1 d) ≡ false → length d ≤ 12
unfolding items_of
few_items d e = omega (arith, within_high 1 most_items (length d / 1) (and_right (eqb (length d % 1) 0) _ (not-false (items_of 1 d) e)))

-- a list, or all sixteen in its place
all_or_list : (t : Bool) (every d : List ℕ) → length every ≤ 16 → length d ≤ 12 → length (cond t every d) ≤ 16
all_or_list t every d l h = cond_case (λ (ns : List ℕ). length ns ≤ 16) t every d (λ _. omega arith) (λ _. omega arith)

-- a list read of pieces of at most k bytes
pub list_short : (k most : ℕ) (show : ℕ → List ℕ) → ((n : ℕ) → length (show n) ≤ k) → k * 16 ≤ most → (d : List ℕ) → Short most (list_read show d)
unfolding list_read listed
list_short k most show h fit d =
    record { bound = λ e. omega (arith, flat_most k show h 16 (listed d) (all_or_list (eqb (length d) 1 && eqb (get_or d 0 0) 0) every_number d (omega arith) (few_items d e))) }

-- 60H: four bytes each
pub length_values : (ps cs : List ℕ) → length (values_read ps cs) ≡ 4 * length ps
unfolding values_read
length_values [] cs = refl
length_values (p ∷ ps) cs = simp (length-append, length-bytes, length_values ps (read_one cs p)) (omega arith)

pub few_parameters : (d : List ℕ) → length d ≤ 12 → length (parameters d) ≤ 16
unfolding parameters
few_parameters d h =
    all_or_list (eqb (length d) 1 && eqb (number_in (get_or d 0 0)) 0) _ d
    (cond_case (λ (ns : List ℕ). length ns ≤ 16) (zeroes (get_or d 0 0)) _ _ (λ _. omega arith) (λ _. omega arith)) h

pub counters_short : (d cs : List ℕ) → Short 128 (read_counters d cs)
unfolding read_counters
counters_short d cs = record { bound = λ e. omega (arith, length_values (parameters d) cs, few_parameters d (few_items d e)) }

deduct_short : (d cs : List ℕ) → Short 128 (deduct_counters d cs)
unfolding deduct_counters clear_all deduct
deduct_short d cs = cond_case (Short 128) (eqb (length d) 1) _ _ (λ _. omega arith) (λ _. omega arith)

reading_short : (d : List ℕ) (r : Reading) → Short 128 (read_temperature d r)
unfolding read_temperature reading_shown bytes
reading_short d (Valid t x) = omega arith
reading_short d Fault = omega arith

pub group_most : (hs : List Thermostat) (n : ℕ) → length (group_shown hs n) ≤ 8
unfolding group_shown bytes
group_most hs n = omega arith

pub thermostats_short : (d : List ℕ) (hs : List Thermostat) → Short 128 (read_thermostats d hs)
unfolding read_thermostats
thermostats_short d hs =
    record { bound = λ e. flat_most 8 (group_shown hs) (group_most hs) 16 _ (all_or_list (eqb (length d) 0) every_number d (omega arith) (leb-true (length d) most_items (not-false _ e))) }

-- Spinel ---------------------------------------------------------------------------------

pub asked_short : (q : SpinelRequest) (m : Module) → Short 128 (spinel_asked q m)
unfolding spinel_asked set_notice read_notice set_thermostats set_outputs set_pulses pulse_outputs act_on start_presets set_presets read_states set_sampling read_sampling set_modes_list set_modes set_port reset_module give_permission read_port set_sum_test read_sum_test pulse_shown preset_shown mode_byte mode_shown set_links link_shown bytes
asked_short q m =
    cond_eq S i 0x10 _ _ (λ _. omega arith)
    (cond_eq S i 0x11 _ _ (λ _. omega arith)
    (cond_eq S i 0x1A _ _ (λ _. omega arith)
    (cond_eq S i 0x1B _ _ (λ _. record { bound = (thermostats_short d m.settings.thermostats).bound })
    (cond_eq S i 0x20 _ _ (λ _. omega arith)
    (cond_eq S i 0x23 _ _ (λ _. omega arith)
    (cond_eq S i 0x25 _ _ (λ _. omega arith)
    (cond_eq S i 0x26 _ _ (λ _. omega arith)
    (cond_eq S i 0x30 _ _ (λ _. omega arith)
    (cond_eq S i 0x31 _ _ (λ _. omega arith)
    (cond_eq S i 0x33 _ _ (λ _. record { bound = (list_short 2 128 _ (λ n. omega arith) (omega arith) d).bound })
    (cond_eq S i 0x36 _ _ (λ _. record { bound = (list_short 2 128 _ (λ n. omega arith) (omega arith) d).bound })
    (cond_eq S i 0x38 _ _ (λ _. record { bound = (list_short 1 128 _ (λ n. omega arith) (omega arith) d).bound })
    (cond_eq S i 0x40 _ _ (λ _. omega arith)
    (cond_eq S i 0x41 _ _ (λ _. record { bound = (list_short 2 128 _ (λ n. omega arith) (omega arith) d).bound })
    (cond_eq S i 0x51 _ _ (λ _. record { bound = (reading_short d m.reading).bound })
    (cond_eq S i 0x60 _ _ (λ _. record { bound = (counters_short d m.inputs.counters).bound })
    (cond_eq S i 0x61 _ _ (λ _. record { bound = (deduct_short d m.inputs.counters).bound })
    (cond_eq S i 0x62 _ _ (λ _. omega arith)
    (cond_eq S i 0x63 _ _ (λ _. omega arith)
    (cond_eq S i 0x6A _ _ (λ _. omega arith)
    (cond_eq S i 0x6B _ _ (λ _. record { bound = (list_short 1 128 _ (λ n. omega arith) (omega arith) d).bound })
    (cond_eq S i 0xE0 _ _ (λ _. omega arith)
    (cond_eq S i 0xE3 _ _ (λ _. omega arith)
    (cond_eq S i 0xE4 _ _ (λ _. omega arith)
    (cond_eq S i 0xEE _ _ (λ _. omega arith)
    (cond_eq S i 0xF0 _ _ (λ _. omega arith)
    (cond_eq S i 0xFE _ _ (λ _. omega arith)
    (omega arith))))))))))))))))))))))))))))
  where
    S : Request Module → Type 0
    S = Short 128

    i : ℕ
    i = q.instruction

    d : List ℕ
    d = q.content

pub spinel_short : (q : SpinelRequest) (p m : Module) → length (judged p (spinel_asked q m)).reply ≤ 128
spinel_short q p m = judged_short 128 p (spinel_asked q m) (asked_short q m)

pub length-spinel_reply : (own signature ack : ℕ) (d : List ℕ) → length (spinel_reply own signature ack d) ≡ length d + 9
unfolding spinel_reply bytes
length-spinel_reply own signature ack d = simp length-append (omega arith)

-- the whole reply, 9 bytes more
pub spinel_fits : (own signature : ℕ) (o : Done Module) → length o.reply ≤ 128 → length (spinel_reply own signature (ack_of o.refusal) o.reply) ≤ 137
spinel_fits own signature o h = omega (arith, length-spinel_reply own signature (ack_of o.refusal) o.reply)

-- Text -----------------------------------------------------------------------------------

told_short : (r : Reading) → length (temperature_told r) ≤ 8
unfolding temperature_told
told_short (Valid t x) = omega arith
told_short Fault = omega arith

code_short : (c : TextCode) (q : TextRequest) (m : Module) → length (asked_by c q m).reply ≤ 8
unfolding asked_by read_state set_one pulse_one pulse_outputs act_on read_thermometer switch_notice tell_notice give_permission configure
code_short ReadInput q m = omega arith
code_short ReadOutput q m = omega arith
code_short SetOutput q m = omega arith
code_short PulseOutput q m = omega arith
code_short ReadTemperature q m = told_short m.reading
code_short SetNotice q m = omega arith
code_short ReadNotice q m = omega arith
code_short GivePermission q m = omega arith
code_short SetAddress q m = omega arith
code_short SetSpeed q m = omega arith

pub text_asked_short : (c : Option TextCode) (q : TextRequest) (m : Module) → length (asked_if c q m).reply ≤ 8
unfolding asked_if
text_asked_short (Some c) q m = code_short c q m
text_asked_short None q m = omega arith

pub text_short : (q : TextRequest) (p m : Module) → length (judged p (text_asked q m)).reply ≤ 8
text_short q p m = judged_short 8 p (text_asked q m) (record { bound = λ _. text_asked_short q.typed.code q m })

pub length-text_reply : (own : ℕ) (told : List ℕ) → length (text_reply own told) ≡ length told + 4
unfolding text_reply
length-text_reply own told = simp length-append (omega arith)

-- the whole reply, 4 bytes more
pub text_fits : (own : ℕ) (o : Done Module) → length o.reply ≤ 8 → length (text_reply own (cond (eqb o.refusal 0) o.reply (last_digit (ack_of o.refusal) ∷ []))) ≤ 12
text_fits own o h =
    cond_case (λ (l : List ℕ). length (text_reply own l) ≤ 12) (eqb o.refusal 0) o.reply (last_digit (ack_of o.refusal) ∷ [])
    (λ _. omega (arith, length-text_reply own o.reply))
    (λ _. omega (arith, length-text_reply own (last_digit (ack_of o.refusal) ∷ [])))

-- What a sample writes ---------------------------------------------------------------------

pub length-text_notice : (own : ℕ) (states : List Bool) → length (text_notice own states) ≡ 25
unfolding text_notice text_reply flat_map chunks_of
length-text_notice own states = refl

pub notice_fits : (own : ℕ) (n : Notice) (edged : List Bool) (x : Inputs) → length (notice_written own n edged x) ≤ 25
unfolding notice_written notice_frame bytes
notice_fits own n edged x =
    cond_case (λ (l : List ℕ). length l ≤ 25) (noticed n edged) _ _
    (λ _. cond_case (λ (l : List ℕ). length l ≤ 25) (eqb n.format 0x42) _ _ (λ _. omega (arith, length-text_notice own (input_states x)))
    (λ _. omega (arith, length-spinel_reply own n.signature 0x0D (states_shown (input_states x)))))
    (λ _. omega arith)

-- Modbus ---------------------------------------------------------------------------------

pub quantity_most : (most : ℕ) (b : List ℕ) → quantity_wrong most b ≡ false → second_of b ≤ most
unfolding quantity_wrong
quantity_most most b e = within_high 1 most (second_of b) (and_right (eqb (length b) 4) _ (not-false _ e))

pub length-packed : (bs : List Bool) → length (packed bs) ≡ (length bs + 7) / 8
unfolding packed
length-packed bs = simp (length-map, length-chunks_of)

-- n registers, two bytes each
pub words_most : (n : ℕ) (ws : List ℕ) → length (flat_map (bytes 2) (take n ws)) ≤ 2 * n
words_most n ws = flat_most 2 (bytes 2) (λ x. omega (arith, length-bytes 2 x)) n (take n ws) (simp length-take (omega arith))

module _ (b : List ℕ) (m : Module) where
  bits_short : (bs : List Bool) → Short 252 (reading m (refuse 8 (quantity_wrong 2000 b) (read_bits bs (start_of b) (second_of b))))
  unfolding read_bits
  bits_short bs = record { bound = λ e. simp (length-packed, length-take) (omega (arith, quantity_most 2000 b e)) }

  words_short : (g : Group) (ws : List ℕ) → Short 252 (reading m (refuse 8 (quantity_wrong 125 b) (read_words g ws (start_of b) (second_of b))))
  unfolding read_words
  words_short g ws = record { bound = λ e. omega (arith, words_most (second_of b) (drop (start_of b - g.first) ws), quantity_most 125 b e) }

  registers_short : Short 252 (reading m (refuse 8 (quantity_wrong 125 b) (registers_read (start_of b) (second_of b) m)))
  unfolding registers_read read_thermostat thermostat_words flat_map bytes
  registers_short =
      cond_case S (in_group port_group (start_of b)) _ _ (λ _. words_short port_group (port_words m.modbus)) λ _.
      cond_case S (in_group counter_group (start_of b)) _ _ (λ _. words_short counter_group (map counter_word m.inputs.counters)) λ _.
      cond_case S (in_group mode_group (start_of b)) _ _ (λ _. words_short mode_group m.settings.modes) λ _.
      cond_case S (in_group output_group (start_of b)) _ _ (λ _. words_short output_group (map output_word m.outputs)) λ _.
      cond_case S (in_group thermostat_group (start_of b)) (read_thermostat m.settings.thermostats (start_of b) (second_of b)) (no_group tt) (λ _. omega arith) λ _. omega arith
    where
      S : Request (Unit {0}) → Type 0
      S q = Short 252 (reading m (refuse 8 (quantity_wrong 125 b) q))

  -- the body comes back where it has four bytes
  echo_short : (wrong : Bool) → (wrong || not (eqb (length b) 4)) ≡ false → length b ≤ 252
  echo_short wrong e = omega (arith, eqb-true (length b) 4 (not-false _ (or_right wrong _ e)))

  pub body_short : (permitted : Bool) (fn : ℕ) → Short 252 (modbus_asked permitted fn b m)
  unfolding modbus_asked coil_written write_coils act_on register_written coils_written several_written
  body_short permitted fn =
      cond_eq (Short 252) fn 0x01 _ _ (λ _. bits_short _)
      (cond_eq (Short 252) fn 0x02 _ _ (λ _. bits_short _)
      (cond_eq (Short 252) fn 0x03 _ _ (λ _. registers_short)
      (cond_eq (Short 252) fn 0x04 _ _ (λ _. words_short reading_group _)
      (cond_eq (Short 252) fn 0x05 _ _ (λ _. record { bound = echo_short false })
      (cond_eq (Short 252) fn 0x06 _ _ (λ _. record { bound = echo_short ((registers_written permitted true (start_of b) (second_of b ∷ []) m).holds 8) })
      (cond_eq (Short 252) fn 0x0F _ _ (λ _. omega (arith, length-take 4 b))
      (cond_eq (Short 252) fn 0x10 _ _ (λ _. omega (arith, length-take 4 b))
      (omega arith))))))))

pub modbus_short : (permitted : Bool) (fn : ℕ) (b : List ℕ) (p m : Module) → length (judged p (modbus_asked permitted fn b m)).reply ≤ 252
modbus_short permitted fn b p m = judged_short 252 p (modbus_asked permitted fn b m) (body_short b m permitted fn)

pub length-modbus_reply : (own fn : ℕ) (body : List ℕ) → length (modbus_reply own fn body) ≡ length body + 4
unfolding with_crc
length-modbus_reply own fn body = simp length-append (omega arith)

pub modbus_fits : (own fn : ℕ) (o : Done Module) → length o.reply ≤ 252
    → length (cond (eqb o.refusal 0) (modbus_reply own fn o.reply) (exception_reply own fn (exception_of o.refusal))) ≤ 256
modbus_fits own fn o h =
    cond_case (λ (l : List ℕ). length l ≤ 256) (eqb o.refusal 0) _ _
    (λ _. omega (arith, length-modbus_reply own fn o.reply))
    (λ _. omega (arith, length-modbus_reply own (exception_function fn) (exception_of o.refusal ∷ [])))

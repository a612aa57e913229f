-- Writes of coils and of registers 500 up, refused and done: in their group the coils are decoded whole, and a single register's value is
-- its two bytes. Assumes nothing.
use native.Mathlib.Omega.{arith}
use Rattle.std.proofs.Common.{◌≡◌, refl, sym, ap, ◌∙◌, ℕ, ◌/◌, ◌%◌, Bool, List, [], ◌∷◌, length, take, get_or}
use mathlib.Core.Bool.{false, cond, not, ◌||◌, ◌&&◌}
use mathlib.Core.List.{foldl}
use lib.Dec.{eqb}
use borrow.Author.Tests.{eqb-true, not-false}
use Rattle.lists.specs.Numbers.{word_at}
use Rattle.lists.specs.Data.{data_of}
use Rattle.lists.specs.declared.Entry.{Entry}
use Rattle.lists.specs.Entries.{entry, numbered, entries_of, entries_in}
use Rattle.lists.proofs.Choices.{or_right, not-or}
use Rattle.model.specs.declared.Module.{Module}
use Rattle.model.specs.declared.Output.{Output}
use Rattle.model.specs.State.{half_seconds, with_outputs}
use Rattle.model.specs.Refusals.{Request, refuse, on_part, refusal_of}
use Rattle.model.specs.Outputs.{set_output, start_pulse, act_on, pulse_outputs}
use Rattle.model.specs.Registers.{bit_group, output_group, outside, number_at, write_coils, write_pulse}
use Rattle.model.specs.Modbus.{words, bits_from}
use Rattle.model.proofs.Refusing.{stops, goes, passes}
use Rattle.decoders.proofs.Places.{bits_length, coils_whole, words_length, value_place}
use Rattle.output_effects.proofs.Judging.{also_11}
use Rattle.outcomes.proofs.Laws.{Refused, Done, Passes, refused_first, refused_later, done_later, item_refused, list_done}

-- 0F
module _ (m : Module) (a n : ℕ) (d : List ℕ) where
  abbrev outside_coils : Bool
  outside_coils = outside bit_group a n

  abbrev decoded : List Entry
  decoded = entries_in (entries_of (take 16 (numbered (number_at bit_group a) (bits_from 0 n d))))

  abbrev coils : Request Module
  coils = on_part (with_outputs m) (write_coils m.reading m.settings.thermostats a (bits_from 0 n d) m.outputs)

  abbrev set_refusal : List Entry → ℕ
  set_refusal es = refusal_of (act_on set_output m.reading m.settings.thermostats es m.outputs)

  coils_first : refusal_of coils ≡ cond outside_coils 9 (set_refusal (numbered (number_at bit_group a) (bits_from 0 n d)))
  unfolding write_coils act_on refusal_of
  coils_first = rw (bits_length n 0 d)

  pub no_coils : Refused m coils (cond outside_coils 9 0)
  no_coils = refused_first m coils outside_coils 8 _ coils_first

  pub coils_refused : Passes outside_coils 9 → Refused m coils (set_refusal decoded)
  coils_refused = item_refused m coils outside_coils 8 set_refusal _ coils_first _ (coils_whole a n d)

  pub coils_done : Passes outside_coils 9 → 0 ≡ set_refusal decoded → Done m coils (with_outputs m (foldl set_output m.outputs decoded))
  unfolding write_coils act_on
  coils_done =
      list_done m coils outside_coils 8 set_refusal _ coils_first _ (coils_whole a n d) (λ es. with_outputs m (foldl set_output m.outputs es)) (λ _. refl) refl

-- 05: 11 for the value or the number
module _ (m : Module) (a v : ℕ) where
  abbrev outside_coil : Bool
  outside_coil = outside bit_group a 1

  abbrev no_state : Bool
  no_state = not (eqb v 0xFF00) && not (eqb v 0x0000)

  abbrev coil : Request Module
  coil = on_part (with_outputs m) (refuse 11 (not (eqb v 0xFF00 || eqb v 0x0000)) (write_coils m.reading m.settings.thermostats a (v / 0xFF00 ∷ []) m.outputs))

  abbrev switched : Request (List Output)
  switched = act_on set_output m.reading m.settings.thermostats (entry (number_at bit_group a) (v / 0xFF00) ∷ []) m.outputs

  coil_first : refusal_of coil ≡ cond outside_coil 9 (cond no_state 11 (refusal_of switched))
  unfolding write_coils act_on refusal_of numbered
  coil_first = rw (← not-or (eqb v 0xFF00) (eqb v 0x0000)) (sym (ap (cond outside_coil 9) (also_11 switched (not (eqb v 0xFF00 || eqb v 0x0000)) _ refl refl)))

  pub no_coil : Refused m coil (cond outside_coil 9 0)
  no_coil = refused_first m coil outside_coil 8 _ coil_first

  pub no_coil_state : Passes outside_coil 9 → Refused m coil (cond no_state 11 0)
  no_coil_state g r e = refused_later m coil outside_coil 8 _ coil_first r g (stops no_state 11 _ r e)

  pub coil_refused : Passes outside_coil 9 → Passes no_state 11 → Refused m coil (refusal_of switched)
  coil_refused g f r e = refused_later m coil outside_coil 8 _ coil_first r g (e ∙ goes no_state 10 _ f)

  pub coil_done : Passes outside_coil 9 → Passes no_state 11 → 0 ≡ refusal_of switched
      → Done m coil (with_outputs m (foldl set_output m.outputs (entry (number_at bit_group a) (v / 0xFF00) ∷ [])))
  unfolding write_coils act_on numbered
  coil_done g f e = done_later m coil outside_coil 8 _ coil_first _ (data_of []) g (e ∙ goes no_state 10 _ f) refl refl

-- registers 500 up
module _ (m : Module) (a : ℕ) (d : List ℕ) where
  abbrev outside_outputs : Bool
  outside_outputs = outside output_group a (length d / 2) || not (eqb (length d / 2) 1)

  abbrev register : Request Module
  register = on_part (with_outputs m) (write_pulse m.reading m.settings.thermostats a (words d) m.outputs)

  -- the first state is neither FF nor 00
  abbrev no_first : ℕ → Bool
  no_first v = not (eqb (v / 256) 0xFF) && not (eqb (v / 256) 0x00)

  -- a pulse by the register's value
  abbrev pulsed : ℕ → Request (List Output)
  pulsed v = pulse_outputs (half_seconds (v % 256)) m.reading m.settings.thermostats (entry (number_at output_group a) (v / 0xFF00) ∷ []) m.outputs

  abbrev rest : ℕ → ℕ
  rest v = cond (no_first v) 11 (refusal_of (pulsed v))

  register_first : refusal_of register ≡ cond outside_outputs 9 (rest (get_or (words d) 0 0))
  unfolding write_pulse pulse_outputs act_on refusal_of
  register_first =
      let v = get_or (words d) 0 0 in
      rw (words_length d, ← not-or (eqb (v / 256) 0xFF) (eqb (v / 256) 0x00))
      (sym (ap (cond outside_outputs 9) (also_11 (pulsed v) (not (eqb (v / 256) 0xFF || eqb (v / 256) 0x00)) _ refl refl)))

  -- a single value is the first two bytes
  value : Passes outside_outputs 9 → get_or (words d) 0 0 ≡ word_at d 0
  value g =
      let n = length d / 2 in
      let one : n ≡ 1 = eqb-true n 1 (not-false (eqb n 1) (or_right (outside output_group a n) (not (eqb n 1)) (passes outside_outputs 8 g))) in
      sym (value_place d 0 (omega (arith, one)))

  settled : Passes outside_outputs 9 → refusal_of register ≡ cond outside_outputs 9 (rest (word_at d 0))
  settled g = register_first ∙ ap (λ v. cond outside_outputs 9 (rest v)) (value g)

  pub no_register : Refused m register (cond outside_outputs 9 0)
  no_register = refused_first m register outside_outputs 8 _ register_first

  pub no_pulse_state : Passes outside_outputs 9 → Refused m register (cond (no_first (word_at d 0)) 11 0)
  no_pulse_state g r e = refused_later m register outside_outputs 8 _ (settled g) r g (stops (no_first (word_at d 0)) 11 _ r e)

  pub pulse_refused : Passes outside_outputs 9 → Passes (no_first (word_at d 0)) 11 → Refused m register (refusal_of (pulsed (word_at d 0)))
  pulse_refused g f r e = refused_later m register outside_outputs 8 _ (settled g) r g (e ∙ goes (no_first (word_at d 0)) 10 _ f)

  pub pulse_done : Passes outside_outputs 9 → Passes (no_first (word_at d 0)) 11 → 0 ≡ refusal_of (pulsed (word_at d 0))
      → Done m register (with_outputs m (foldl (start_pulse (half_seconds (word_at d 0 % 256))) m.outputs (entry (number_at output_group a) (word_at d 0 / 0xFF00) ∷ [])))
  unfolding write_pulse pulse_outputs act_on
  pulse_done g f e =
      done_later m register outside_outputs 8 _ (settled g) _ (data_of []) g (e ∙ goes (no_first (word_at d 0)) 10 _ f) (rw (value g)) refl

-- Writes of registers 100, 200 and 300 up, refused and done. Assumes nothing.
use native.Mathlib.Omega.{arith}
use Rattle.std.proofs.Common.{◌≡◌, refl, ap, ◌/◌, ℕ, Bool, List, length, take}
use mathlib.Core.Bool.{false, cond, not, ◌||◌}
use mathlib.Core.List.{foldl}
use lib.Dec.{ltb}
use borrow.Author.Tests.{not-false}
use Rattle.lists.specs.Tests.{all}
use Rattle.lists.specs.declared.Entry.{Entry}
use Rattle.lists.specs.Entries.{numbered, entries_of, entries_in}
use Rattle.lists.proofs.Choices.{or_left}
use Rattle.model.specs.declared.Group.{Group}
use Rattle.model.specs.declared.Module.{Module}
use Rattle.model.specs.State.{with_counters, with_modes}
use Rattle.model.specs.Refusals.{Request, on_part, refusal_of}
use Rattle.model.specs.Counters.{most_items, deduct, deduct_one, mode_settable, set_modes}
use Rattle.model.specs.Registers.{counter_group, deduction_group, mode_group, outside, number_at, is_zero, clear_one}
use Rattle.model.specs.Registers.{write_counters, write_deductions, write_modes}
use Rattle.model.specs.Modbus.{words}
use Rattle.model.proofs.Refusing.{passes}
use Rattle.decoders.proofs.Places.{words_length, range_whole}
use Rattle.counter_effects.specs.Answers.{set_mode_byte}
use Rattle.counter_effects.proofs.Modes.{modes_whole}
use Rattle.outcomes.proofs.Laws.{Refused, Done, Passes, refused_first, item_refused, list_done}

-- the values that a group's registers are given, and what is decoded of them
abbrev written : Group → ℕ → List ℕ → List Entry
written g a d = numbered (number_at g a) (words d)

abbrev decoded : Group → ℕ → List ℕ → List Entry
decoded g a d = entries_in (entries_of (take 16 (written g a d)))

-- the number of a list in which some entry fails a test
abbrev misfit : (Entry → Bool) → List Entry → ℕ
misfit fits es = cond (not (all fits es)) 11 0

module _ (m : Module) (a : ℕ) (d : List ℕ) where
  -- registers 100 up
  abbrev no_counters : Bool
  no_counters = outside counter_group a (length d / 2)

  abbrev counters : Request Module
  counters = on_part (with_counters m) (write_counters a (words d) m.inputs.counters)

  counters_first : refusal_of counters ≡ cond no_counters 9 (misfit is_zero (written counter_group a d))
  unfolding write_counters refusal_of
  counters_first = rw (words_length d) refl

  pub counters_outside : Refused m counters (cond no_counters 9 0)
  counters_outside = refused_first m counters no_counters 8 _ counters_first

  pub counters_unfit : Passes no_counters 9 → Refused m counters (misfit is_zero (decoded counter_group a d))
  counters_unfit = item_refused m counters no_counters 8 (misfit is_zero) _ counters_first _ (range_whole counter_group a d (omega arith))

  pub counters_done : Passes no_counters 9 → 0 ≡ misfit is_zero (decoded counter_group a d)
      → Done m counters (with_counters m (foldl clear_one m.inputs.counters (decoded counter_group a d)))
  unfolding write_counters
  counters_done =
      list_done m counters no_counters 8 (misfit is_zero) _ counters_first _ (range_whole counter_group a d (omega arith))
      (λ es. with_counters m (foldl clear_one m.inputs.counters es)) (λ _. refl) refl

  -- registers 200 up
  abbrev no_deductions : Bool
  no_deductions = outside deduction_group a (length d / 2) || ltb most_items (length d / 2)

  abbrev deductions : Request Module
  deductions = on_part (with_counters m) (write_deductions a (words d) m.inputs.counters)

  abbrev uncovered : List Entry → ℕ
  uncovered es = refusal_of (deduct es m.inputs.counters)

  deductions_first : refusal_of deductions ≡ cond no_deductions 9 (uncovered (written deduction_group a d))
  unfolding write_deductions deduct refusal_of
  deductions_first = rw (words_length d) refl

  deductions_whole : no_deductions ≡ false → decoded deduction_group a d ≡ written deduction_group a d
  deductions_whole h = range_whole deduction_group a d (omega arith) (or_left (outside deduction_group a (length d / 2)) _ h)

  pub deductions_outside : Refused m deductions (cond no_deductions 9 0)
  deductions_outside = refused_first m deductions no_deductions 8 _ deductions_first

  pub deductions_unfit : Passes no_deductions 9 → Refused m deductions (uncovered (decoded deduction_group a d))
  deductions_unfit = item_refused m deductions no_deductions 8 uncovered _ deductions_first _ deductions_whole

  pub deductions_done : Passes no_deductions 9 → 0 ≡ uncovered (decoded deduction_group a d)
      → Done m deductions (with_counters m (foldl deduct_one m.inputs.counters (decoded deduction_group a d)))
  unfolding write_deductions deduct
  deductions_done =
      list_done m deductions no_deductions 8 uncovered _ deductions_first _ deductions_whole
      (λ es. with_counters m (foldl deduct_one m.inputs.counters es)) (λ _. refl) refl

  -- registers 300 up
  abbrev no_modes : Bool
  no_modes = outside mode_group a (length d / 2)

  abbrev modes : Request Module
  modes = on_part (with_modes m) (write_modes a (words d) m.settings.modes)

  abbrev no_mode : List Entry → ℕ
  no_mode es = refusal_of (set_modes es m.settings.modes)

  modes_first : refusal_of modes ≡ cond no_modes 9 (no_mode (written mode_group a d))
  unfolding write_modes set_modes refusal_of
  modes_first = rw (words_length d) refl

  pub modes_outside : Refused m modes (cond no_modes 9 0)
  modes_outside = refused_first m modes no_modes 8 _ modes_first

  pub modes_unfit : Passes no_modes 9 → Refused m modes (no_mode (decoded mode_group a d))
  modes_unfit = item_refused m modes no_modes 8 no_mode _ modes_first _ (range_whole mode_group a d (omega arith))

  pub modes_done : Passes no_modes 9 → 0 ≡ no_mode (decoded mode_group a d)
      → Done m modes (with_modes m (foldl set_mode_byte m.settings.modes (decoded mode_group a d)))
  unfolding write_modes set_modes refusal_of
  modes_done =
      list_done m modes no_modes 8 no_mode _ modes_first _ (range_whole mode_group a d (omega arith))
      (λ es. with_modes m (foldl set_mode_byte m.settings.modes es))
      (λ f. ap (with_modes m) (modes_whole _ m.settings.modes (not-false _ (passes (not (all mode_settable (written mode_group a d))) 10 f)))) refl

-- 60H, 61H and 6AH over a list, refused and done: an allowed list is decoded whole. Assumes nothing.
use Rattle.std.proofs.Common.{◌≡◌, refl, sym, Ok, ap, ◌∙◌, ℕ, Bool, List, length, take}
use mathlib.Core.Bool.{false, cond, not}
use mathlib.Core.List.{foldl}
use borrow.Author.Tests.{not-false}
use Rattle.lists.specs.Tests.{all}
use Rattle.lists.specs.declared.Entry.{Entry}
use Rattle.lists.specs.Entries.{entries, entries_of, entries_in}
use Rattle.model.specs.declared.Module.{Module}
use Rattle.model.specs.State.{with_counters, with_modes}
use Rattle.lists.proofs.Choices.{passed}
use Rattle.model.specs.Refusals.{Request, refuse, on_part, refusal_of, judged}
use Rattle.model.specs.Counters.{items_of, parameters, read_counters, deduct, deduct_one, named_twice, mode_settable, set_modes, set_modes_list}
use Rattle.model.proofs.Refusing.{stops, goes, passes}
use Rattle.number_lists.specs.Items.{items_in}
use Rattle.decoders.proofs.Places.{list_whole}
use Rattle.counter_effects.specs.Answers.{set_mode_byte}
use Rattle.counter_effects.proofs.Modes.{modes_whole}
use Rattle.counter_reads.specs.declared.Collected.{Collected}
use Rattle.counter_reads.specs.Reading.{read_rest, read_start}
use Rattle.counter_reads.proofs.Readings.{values_fit}
use Rattle.outcomes.specs.Parts.{outcome, served_of}
use Rattle.outcomes.proofs.Laws.{Refused, Done, Passes, refused_at, done_at, refused_first, item_refused, list_done}

-- what is no list of entries of w bytes, and what is decoded of one
abbrev wrong : ℕ → List ℕ → Bool
wrong w d = not (items_in w (length d))

abbrev decoded : ℕ → List ℕ → List Entry
decoded w d = entries_in (entries_of (take 16 (entries w d)))

whole : (w : ℕ) (d : List ℕ) → wrong w d ≡ false → decoded w d ≡ entries w d
unfolding items_of items_in
whole w d h = list_whole w d (not-false _ h)

module _ (m : Module) (d : List ℕ) where
  -- 61H
  abbrev deductions : Request Module
  deductions = on_part (with_counters m) (refuse 8 (not (items_of 5 d)) (refuse 13 (named_twice (entries 5 d)) (deduct (entries 5 d) m.inputs.counters)))

  abbrev uncovered : List Entry → ℕ
  uncovered es = refusal_of (deduct es m.inputs.counters)

  abbrev unfit : List Entry → ℕ
  unfit es = cond (named_twice es) 13 (uncovered es)

  deductions_first : refusal_of deductions ≡ cond (wrong 5 d) 8 (unfit (entries 5 d))
  unfolding items_of items_in deduct refusal_of
  deductions_first = refl

  pub no_deductions : Refused m deductions (cond (wrong 5 d) 8 0)
  no_deductions = refused_first m deductions (wrong 5 d) 7 _ deductions_first

  pub named_again : Passes (wrong 5 d) 8 → Refused m deductions (cond (named_twice (decoded 5 d)) 13 0)
  named_again g r e =
      item_refused m deductions (wrong 5 d) 7 unfit _ deductions_first _ (whole 5 d) g r (stops (named_twice (decoded 5 d)) 13 (uncovered (decoded 5 d)) r e)

  pub not_covered : Passes (wrong 5 d) 8 → Passes (named_twice (decoded 5 d)) 13 → Refused m deductions (uncovered (decoded 5 d))
  not_covered g f r e =
      item_refused m deductions (wrong 5 d) 7 unfit _ deductions_first _ (whole 5 d) g r (e ∙ goes (named_twice (decoded 5 d)) 12 (uncovered (decoded 5 d)) f)

  pub deducted : Passes (wrong 5 d) 8 → Passes (named_twice (decoded 5 d)) 13 → 0 ≡ uncovered (decoded 5 d)
      → Done m deductions (with_counters m (foldl deduct_one m.inputs.counters (decoded 5 d)))
  unfolding deduct
  deducted g f e =
      list_done m deductions (wrong 5 d) 7 unfit _ deductions_first _ (whole 5 d) (λ es. with_counters m (foldl deduct_one m.inputs.counters es)) (λ _. refl) refl g
      (e ∙ goes (named_twice (decoded 5 d)) 12 (uncovered (decoded 5 d)) f)

  -- 6AH
  abbrev modes : Request Module
  modes = on_part (with_modes m) (set_modes_list d m.settings.modes)

  abbrev no_mode : List Entry → ℕ
  no_mode es = refusal_of (set_modes es m.settings.modes)

  modes_first : refusal_of modes ≡ cond (wrong 2 d) 8 (no_mode (entries 2 d))
  unfolding items_of items_in set_modes_list set_modes refusal_of
  modes_first = refl

  pub no_modes : Refused m modes (cond (wrong 2 d) 8 0)
  no_modes = refused_first m modes (wrong 2 d) 7 _ modes_first

  pub modes_unfit : Passes (wrong 2 d) 8 → Refused m modes (no_mode (decoded 2 d))
  modes_unfit = item_refused m modes (wrong 2 d) 7 no_mode _ modes_first _ (whole 2 d)

  pub modes_done : Passes (wrong 2 d) 8 → 0 ≡ no_mode (decoded 2 d) → Done m modes (with_modes m (foldl set_mode_byte m.settings.modes (decoded 2 d)))
  unfolding set_modes_list set_modes refusal_of
  modes_done =
      list_done m modes (wrong 2 d) 7 no_mode _ modes_first _ (whole 2 d) (λ es. with_modes m (foldl set_mode_byte m.settings.modes es))
      (λ f. ap (with_modes m) (modes_whole _ m.settings.modes (not-false _ (passes (not (all mode_settable (entries 2 d))) 10 f)))) refl

  -- 60H: the values fit in a reply
  abbrev read : Request (List ℕ)
  read = read_counters d m.inputs.counters

  abbrev collected : Collected
  collected = read_rest (read_start m.inputs.counters) (parameters d)

  pub not_read : Refused m (on_part (with_counters m) read) (refusal_of read)
  unfolding refusal_of
  not_read = refused_at m (on_part (with_counters m) read)

  pub read_done : 0 ≡ refusal_of read → outcome m (Ok (record { after = with_counters m collected.counters; body = collected.reply })) ≡ served_of (judged m (on_part (with_counters m) read))
  unfolding read_counters read_rest refusal_of
  read_done e = done_at m (on_part (with_counters m) read) _ _ e refl (values_fit d m.inputs.counters (not-false _ (passed _ 7 _ (sym e)).0))

-- 20H, 23H, 25H and 26H, refused and done: an allowed list is decoded whole. Assumes nothing.
use Rattle.std.proofs.Common.{◌≡◌, refl, ℕ, Bool, List, [], length, take}
use mathlib.Core.Bool.{false, cond, not}
use mathlib.Core.List.{map, foldl}
use borrow.Author.Tests.{not-false}
use Rattle.lists.specs.Chunks.{chunks}
use Rattle.lists.specs.Data.{data_of}
use Rattle.lists.specs.declared.Entry.{Entry}
use Rattle.lists.specs.Entries.{entries_of, entries_in}
use Rattle.model.specs.declared.HalfSeconds.{HalfSeconds}
use Rattle.model.specs.declared.Module.{Module}
use Rattle.model.specs.declared.Output.{Output}
use Rattle.model.specs.declared.Preset.{Preset}
use Rattle.model.specs.State.{with_outputs, with_presets}
use Rattle.model.specs.Refusals.{Request, refuse, on_part, refusal_of}
use Rattle.model.specs.Counters.{items_of}
use Rattle.model.specs.Outputs.{set_byte, set_output, start_pulse, act_on, set_outputs, pulse_outputs, start_preset, start_presets, set_preset, set_presets}
use Rattle.number_lists.specs.Items.{items_in}
use Rattle.decoders.proofs.Places.{sets_whole}
use Rattle.outcomes.proofs.Laws.{Refused, Done, Passes, refused_at, done_at, refused_first, item_refused, list_done}

-- what is no list of set bytes, and what is decoded of one
abbrev wrong : List ℕ → Bool
wrong d = not (items_in 1 (length d))

abbrev decoded : List ℕ → List Entry
decoded d = entries_in (entries_of (take 16 (map set_byte d)))

whole : (d : List ℕ) → wrong d ≡ false → decoded d ≡ map set_byte d
unfolding items_of items_in
whole d h = sets_whole d (not-false _ h)

module _ (m : Module) (d : List ℕ) where
  -- 20H
  abbrev sets : Request Module
  sets = on_part (with_outputs m) (set_outputs m.reading m.settings.thermostats d m.outputs)

  abbrev set_refusal : List Entry → ℕ
  set_refusal es = refusal_of (act_on set_output m.reading m.settings.thermostats es m.outputs)

  sets_first : refusal_of sets ≡ cond (wrong d) 8 (set_refusal (map set_byte d))
  unfolding items_of items_in set_outputs act_on refusal_of
  sets_first = refl

  pub no_sets : Refused m sets (cond (wrong d) 8 0)
  no_sets = refused_first m sets (wrong d) 7 _ sets_first

  pub sets_refused : Passes (wrong d) 8 → Refused m sets (set_refusal (decoded d))
  sets_refused = item_refused m sets (wrong d) 7 set_refusal _ sets_first _ (whole d)

  pub sets_done : Passes (wrong d) 8 → 0 ≡ set_refusal (decoded d) → Done m sets (with_outputs m (foldl set_output m.outputs (decoded d)))
  unfolding set_outputs act_on
  sets_done =
      list_done m sets (wrong d) 7 set_refusal _ sets_first _ (whole d) (λ es. with_outputs m (foldl set_output m.outputs es)) (λ _. refl) refl

  -- 25H
  abbrev start : Request (List Output)
  start = start_presets m.settings.presets m.reading m.settings.thermostats d m.outputs

  pub start_refused : Refused m (on_part (with_outputs m) start) (refusal_of start)
  unfolding refusal_of
  start_refused = refused_at m (on_part (with_outputs m) start)

  pub started : 0 ≡ refusal_of start → Done m (on_part (with_outputs m) start) (with_outputs m (foldl (start_preset m.settings.presets) m.outputs d))
  unfolding start_presets refusal_of
  started e = done_at m (on_part (with_outputs m) start) _ (data_of []) e refl refl

  -- 26H
  abbrev presets : Request (List Preset)
  presets = set_presets d m.settings.presets

  pub presets_refused : Refused m (on_part (with_presets m) presets) (refusal_of presets)
  unfolding refusal_of
  presets_refused = refused_at m (on_part (with_presets m) presets)

  pub presets_done : 0 ≡ refusal_of presets → Done m (on_part (with_presets m) presets) (with_presets m (foldl set_preset m.settings.presets (chunks 3 d)))
  unfolding set_presets refusal_of
  presets_done e = done_at m (on_part (with_presets m) presets) _ (data_of []) e refl refl

-- pulses of one time
module _ (m : Module) (time : HalfSeconds) (d : List ℕ) where
  abbrev pulses : Request Module
  pulses = on_part (with_outputs m) (refuse 8 (not (items_of 1 d)) (pulse_outputs time m.reading m.settings.thermostats (map set_byte d) m.outputs))

  abbrev pulse_refusal : List Entry → ℕ
  pulse_refusal es = refusal_of (pulse_outputs time m.reading m.settings.thermostats es m.outputs)

  pulses_first : refusal_of pulses ≡ cond (wrong d) 8 (pulse_refusal (map set_byte d))
  unfolding items_of items_in pulse_outputs act_on refusal_of
  pulses_first = refl

  pub no_pulses : Refused m pulses (cond (wrong d) 8 0)
  no_pulses = refused_first m pulses (wrong d) 7 _ pulses_first

  pub pulses_refused : Passes (wrong d) 8 → Refused m pulses (pulse_refusal (decoded d))
  pulses_refused = item_refused m pulses (wrong d) 7 pulse_refusal _ pulses_first _ (whole d)

  pub pulses_done : Passes (wrong d) 8 → 0 ≡ pulse_refusal (decoded d) → Done m pulses (with_outputs m (foldl (start_pulse time) m.outputs (decoded d)))
  unfolding pulse_outputs act_on
  pulses_done =
      list_done m pulses (wrong d) 7 pulse_refusal _ pulses_first _ (whole d) (λ es. with_outputs m (foldl (start_pulse time) m.outputs es)) (λ _. refl) refl

-- 1AH, refused and done: an allowed list is decoded whole. Assumes nothing.
use Rattle.std.proofs.Common.{◌≡◌, ℕ, Bool, List, length, take}
use mathlib.Core.Bool.{false, cond, not}
use mathlib.Core.List.{map, foldl}
use borrow.Author.Tests.{not-false}
use Rattle.lists.specs.Chunks.{chunks}
use Rattle.model.specs.declared.Module.{Module}
use Rattle.model.specs.State.{with_thermostats}
use Rattle.model.specs.Refusals.{Request, on_part, refusal_of}
use Rattle.model.specs.Counters.{items_of}
use Rattle.model.specs.Temperature.{set_thermostats}
use Rattle.number_lists.specs.Items.{items_in}
use Rattle.setpoints.specs.declared.Setpoint.{Setpoint}
use Rattle.setpoints.specs.Setpoints.{group_setpoint, setpoints_of, setpoints_in}
use Rattle.setpoints.proofs.Decoded.{groups_whole}
use Rattle.thermostat_effects.specs.Parts.{setpoint_put, set_setpoints, setpoints_refusal}
use Rattle.thermostat_effects.proofs.Effects.{groups_request}
use Rattle.outcomes.proofs.Laws.{Refused, Done, Passes, refused_first, item_refused, list_done}

module _ (m : Module) (d : List ℕ) where
  abbrev wrong : Bool
  wrong = not (items_in 8 (length d))

  abbrev decoded : List Setpoint
  decoded = setpoints_in (setpoints_of (take 12 (map group_setpoint (chunks 8 d))))

  abbrev asked : Request Module
  asked = on_part (with_thermostats m) (set_thermostats m.settings.links d m.settings.thermostats)

  -- what is looked at in the setpoints
  abbrev rest : List Setpoint → ℕ
  rest es = setpoints_refusal m.settings.links es

  first : refusal_of asked ≡ cond wrong 8 (rest (map group_setpoint (chunks 8 d)))
  unfolding items_of items_in set_setpoints setpoints_refusal refusal_of
  first = rw (← groups_request m.settings.links d m.settings.thermostats)

  whole : wrong ≡ false → decoded ≡ map group_setpoint (chunks 8 d)
  unfolding items_of items_in
  whole h = groups_whole d (not-false _ h)

  pub no_groups : Refused m asked (cond wrong 8 0)
  no_groups = refused_first m asked wrong 7 _ first

  pub groups_refused : Passes wrong 8 → Refused m asked (rest decoded)
  groups_refused = item_refused m asked wrong 7 rest _ first _ whole

  pub groups_set : Passes wrong 8 → 0 ≡ rest decoded → Done m asked (with_thermostats m (foldl setpoint_put m.settings.thermostats decoded))
  unfolding set_setpoints
  groups_set =
      list_done m asked wrong 7 rest _ first _ whole (λ es. with_thermostats m (foldl setpoint_put m.settings.thermostats es))
      (λ _. rw (← groups_request m.settings.links d m.settings.thermostats)) (rw (← groups_request m.settings.links d m.settings.thermostats))

-- A write of registers 600 up, refused and done. Assumes nothing.
use Rattle.std.proofs.Common.{◌≡◌, refl, sym, ap, ◌∙◌, ℕ, ◌<◌, ◌/◌, Bool, List, [], ◌∷◌, length, get_or}
use mathlib.Core.Bool.{cond}
use mathlib.Core.List.{foldl}
use lib.Dec.{ltb}
use Rattle.lists.specs.Data.{data_of}
use Rattle.lists.specs.Numbers.{word_at}
use Rattle.model.specs.declared.Module.{Module}
use Rattle.model.specs.State.{with_thermostats}
use Rattle.model.specs.Refusals.{Request, on_part, refusal_of}
use Rattle.model.specs.Registers.{no_thermostat, write_thermostat}
use Rattle.model.specs.Modbus.{words}
use Rattle.model.proofs.Refusing.{stops, goes}
use Rattle.decoders.proofs.Places.{words_length}
use Rattle.setpoints.specs.declared.Setpoint.{Setpoint}
use Rattle.setpoints.specs.Setpoints.{register_setpoint, setpoints_of, setpoints_in}
use Rattle.setpoints.proofs.Decoded.{setpoints_in_lem}
use Rattle.thermostat_effects.specs.Parts.{setpoint_put, setpoints_refusal}
use Rattle.thermostat_effects.proofs.Effects.{write_refusal, registers_refused, registers_put}
use Rattle.outcomes.proofs.Laws.{Refused, Done, Passes, refused_first, refused_later, done_later}

module _ (m : Module) (a : ℕ) (d : List ℕ) (byte : (i : ℕ) → get_or d i 0 < 256) where
  abbrev wrong : Bool
  wrong = no_thermostat a (length d / 2)

  abbrev wide : Bool
  wide = ltb 255 (word_at d 0)

  abbrev asked : Request Module
  asked = on_part (with_thermostats m) (write_thermostat m.settings.links a (words d) m.settings.thermostats)

  abbrev decoded : List Setpoint
  decoded = setpoints_in (setpoints_of (register_setpoint a d ∷ []))

  -- what is looked at in the setpoint
  abbrev judged_by : List Setpoint → ℕ
  judged_by es = setpoints_refusal m.settings.links es

  abbrev rest : ℕ
  rest = cond wide 11 (judged_by (register_setpoint a d ∷ []))

  first : refusal_of asked ≡ cond wrong 9 rest
  unfolding write_refusal refusal_of
  first = sym (rw (words_length d) at (registers_refused a d (byte 7) m.settings.links m.settings.thermostats))

  pub no_place : Refused m asked (cond wrong 9 0)
  no_place = refused_first m asked wrong 8 rest first

  pub flags_wide : Passes wrong 9 → Refused m asked (cond wide 11 0)
  flags_wide g r e = refused_later m asked wrong 8 rest first r g (stops wide 11 _ r e)

  pub settings_refused : Passes wrong 9 → Passes wide 11 → Refused m asked (judged_by decoded)
  settings_refused g f r e = refused_later m asked wrong 8 rest first r g (e ∙ ap judged_by (setpoints_in_lem (register_setpoint a d ∷ [])) ∙ goes wide 10 _ f)

  pub written : Passes wrong 9 → Passes wide 11 → 0 ≡ judged_by decoded → Done m asked (with_thermostats m (foldl setpoint_put m.settings.thermostats decoded))
  unfolding write_thermostat write_refusal
  written g f e =
      let hs = m.settings.thermostats in
      let whole = setpoints_in_lem (register_setpoint a d ∷ []) in
      let fits : 0 ≡ rest = e ∙ ap judged_by whole ∙ goes wide 10 (judged_by (register_setpoint a d ∷ [])) f in
      let none : 0 ≡ write_refusal m.settings.links a d = rw (words_length d) (fits ∙ goes wrong 8 rest g) in
      done_later m asked wrong 8 rest first _ (data_of []) g fits (rw whole (ap (with_thermostats m) (registers_put a d (byte 7) m.settings.links hs (sym none)))) refl

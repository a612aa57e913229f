-- Writes of registers 0 to 2, refused and done: in its group a range is decoded whole, and allowed values are bytes. Assumes nothing.
use native.Mathlib.Omega.{arith}
use Rattle.std.proofs.Common.{◌≡◌, refl, sym, ap, ◌∙◌, [], List, ℕ, ◌+◌, ◌-◌, ◌/◌, Bool, true, false, length, take, get_or}
use mathlib.Core.Bool.{cond, not, ◌||◌}
use mathlib.Core.List.{foldl}
use lib.Dec.{eqb}
use borrow.Author.Tests.{not-false}
use Rattle.lists.specs.Tests.{all}
use Rattle.lists.specs.Data.{data_of}
use Rattle.lists.specs.declared.Entry.{Entry}
use Rattle.lists.specs.Entries.{numbered, entries_of, entries_in}
use Rattle.model.specs.declared.Module.{Module}
use Rattle.model.specs.declared.Port.{Port}
use Rattle.model.specs.State.{with_modbus, permit}
use Rattle.model.specs.Refusals.{Request, on_part, refusal_of}
use Rattle.model.specs.Counters.{reset}
use Rattle.model.specs.Registers.{permission_group, port_group, outside, number_at, port_settable, write_permission, write_port}
use Rattle.model.specs.Modbus.{words}
use Rattle.model.proofs.Refusing.{stops, goes, passes}
use Rattle.decoders.proofs.Places.{words_length, range_whole}
use Rattle.port_effects.specs.Parts.{set_port_byte}
use Rattle.port_effects.proofs.Fields.{fields_whole}
use Rattle.outcomes.proofs.Laws.{Refused, Done, Passes, refused_first, refused_later, done_later, item_refused, list_done}

-- register 1 is the port's first
own-number : (a : ℕ) → a + 1 - 1 ≡ a
own-number a = omega arith

module _ (m : Module) (single : Bool) (a : ℕ) (d : List ℕ) where
  -- register 0
  abbrev no_place : Bool
  no_place = outside permission_group a (length d / 2) || not single

  abbrev permission : Request Module
  permission = on_part (with_modbus m) (write_permission single a (words d) m.modbus)

  abbrev no_mark : ℕ
  no_mark = cond (not (eqb (get_or (words d) 0 0) 0x00FF)) 11 0

  permission_first : refusal_of permission ≡ cond no_place 9 no_mark
  unfolding write_permission refusal_of
  permission_first = rw (words_length d) refl

  pub no_permission : Refused m permission (cond no_place 9 0)
  no_permission = refused_first m permission no_place 8 _ permission_first

  pub permission_unfit : Passes no_place 9 → Refused m permission no_mark
  permission_unfit g r e = refused_later m permission no_place 8 _ permission_first r g e

  pub permission_given : Passes no_place 9 → 0 ≡ no_mark → Done m permission (with_modbus m (permit true m.modbus))
  unfolding write_permission
  permission_given g e = done_later m permission no_place 8 _ permission_first _ (data_of []) g e refl refl

module _ (m : Module) (permitted : Bool) (a : ℕ) (d : List ℕ) where
  -- registers 1 to 2
  abbrev wrong : Bool
  wrong = outside port_group a (length d / 2)

  abbrev decoded : List Entry
  decoded = entries_in (entries_of (take 16 (numbered (number_at port_group a) (words d))))

  -- the number for a value that is no address or speed
  abbrev misfit : List Entry → ℕ
  misfit es = cond (not (all port_settable es)) 11 0

  abbrev unfit : List Entry → ℕ
  unfit es = cond (not permitted) 10 (misfit es)

  abbrev asked : Request Module
  asked = write_port permitted a (words d) m

  first : refusal_of asked ≡ cond wrong 9 (unfit (numbered a (words d)))
  unfolding write_port refusal_of
  first = rw (words_length d) refl

  whole : wrong ≡ false → decoded ≡ numbered a (words d)
  whole h = range_whole port_group a d (omega arith) h ∙ ap (λ (n : ℕ). numbered n (words d)) (own-number a)

  pub no_port : Refused m asked (cond wrong 9 0)
  no_port = refused_first m asked wrong 8 _ first

  pub port_closed : Passes wrong 9 → Refused m asked (cond (not permitted) 10 0)
  port_closed g r e = refused_later m asked wrong 8 _ first r g (stops (not permitted) 10 _ r e)

  pub port_unfit : Passes wrong 9 → Passes (not permitted) 10 → Refused m asked (misfit decoded)
  port_unfit g f r e = item_refused m asked wrong 8 unfit _ first _ whole g r (e ∙ goes (not permitted) 9 (misfit decoded) f)

  fitting : 0 ≡ unfit (numbered a (words d)) → Passes (not permitted) 10 → all port_settable (numbered a (words d)) ≡ true
  fitting e f = not-false _ (passes (not (all port_settable (numbered a (words d)))) 10 (e ∙ sym (goes (not permitted) 9 (misfit (numbered a (words d))) f)))

  pub port_set : Passes wrong 9 → Passes (not permitted) 10 → 0 ≡ misfit decoded → Done m asked (reset (with_modbus m (foldl set_port_byte m.modbus decoded)))
  unfolding write_port
  port_set g f e =
      list_done m asked wrong 8 unfit _ first _ whole (λ es. reset (with_modbus m (foldl set_port_byte m.modbus es)))
      (λ k. ap (λ (q : Port). reset (with_modbus m q)) (fields_whole (numbered a (words d)) m.modbus (fitting k f))) refl g (e ∙ goes (not permitted) 9 (misfit decoded) f)

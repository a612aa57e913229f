-- E0H, E4H and EEH, refused and done. Assumes nothing.
use Rattle.std.proofs.Common.{◌≡◌, refl, ◌∙◌, [], List, ℕ, Bool, true, false, length, get_or}
use mathlib.Core.Bool.{cond, not, ◌||◌}
use lib.Dec.{eqb, ltb}
use Rattle.lists.specs.Data.{data_of}
use Rattle.lists.specs.Tests.{within}
use Rattle.lists.proofs.Choices.{not-and, within_zero}
use Rattle.model.specs.declared.Module.{Module}
use Rattle.model.specs.State.{with_spinel, with_sum_tested, permit}
use Rattle.model.specs.Refusals.{Request, on_part, refusal_of}
use Rattle.model.specs.Counters.{some_data, give_permission, set_port, reset}
use Rattle.model.specs.SumTest.{set_sum_test}
use Rattle.model.proofs.Refusing.{stops, goes}
use Rattle.outcomes.proofs.Laws.{Refused, Done, Passes, refused_first, refused_later, done_later}

module _ (m : Module) (universal : Bool) (d : List ℕ) where
  -- E4H
  abbrev permission : Request Module
  permission = on_part (with_spinel m) (give_permission universal d m.spinel)

  permission_first : refusal_of permission ≡ cond (some_data d) 8 (cond universal 10 0)
  unfolding give_permission refusal_of
  permission_first = refl

  pub permission_with_data : Refused m permission (cond (some_data d) 8 0)
  permission_with_data = refused_first m permission (some_data d) 7 _ permission_first

  pub permission_to_all : Passes (some_data d) 8 → Refused m permission (cond universal 10 0)
  permission_to_all g r e = refused_later m permission (some_data d) 7 _ permission_first r g e

  pub permission_given : Passes (some_data d) 8 → Passes universal 10 → Done m permission (with_spinel m (permit true m.spinel))
  unfolding give_permission
  permission_given g f = done_later m permission (some_data d) 7 _ permission_first _ (data_of []) g f refl refl

-- a request that asks for its length, then for the permission, then for its values
module _ (m : Module) (q : Request Module) (wrong closed : Bool) (misfit : ℕ) (first : refusal_of q ≡ cond wrong 8 (cond closed 10 misfit)) where
  by_length : Refused m q (cond wrong 8 0)
  by_length = refused_first m q wrong 7 _ first

  by_permission : Passes wrong 8 → Refused m q (cond closed 10 0)
  by_permission g r e = refused_later m q wrong 7 _ first r g (stops closed 10 misfit r e)

  by_value : Passes wrong 8 → Passes closed 10 → Refused m q misfit
  by_value g f r e = refused_later m q wrong 7 _ first r g (e ∙ goes closed 9 misfit f)

  by_none : (p : Module) → p ≡ q.after → q.reply ≡ [] → Passes wrong 8 → Passes closed 10 → 0 ≡ misfit → Done m q p
  by_none p a r g f e = done_later m q wrong 7 _ first p (data_of []) g (e ∙ goes closed 9 misfit f) a (rw r refl)

module _ (m : Module) (permitted universal : Bool) (d : List ℕ) where
  -- E0H
  abbrev port : Request Module
  port = set_port permitted universal d m

  abbrev wrong : Bool
  wrong = not (eqb (length d) 2)

  abbrev closed : Bool
  closed = universal || not permitted

  -- the number for an address or a speed that is too great
  abbrev misfit : ℕ
  misfit = cond (ltb 0xFD (get_or d 0 0) || ltb 0x0B (get_or d 1 0)) 11 0

  first : refusal_of port ≡ cond wrong 8 (cond closed 10 misfit)
  unfolding set_port refusal_of
  first = rw (not-and (within 0 0xFD (get_or d 0 0)) (within 0 0x0B (get_or d 1 0)), within_zero 0xFD (get_or d 0 0), within_zero 0x0B (get_or d 1 0))

  pub port_length : Refused m port (cond wrong 8 0)
  port_length = by_length m port wrong closed misfit first

  pub port_closed : Passes wrong 8 → Refused m port (cond closed 10 0)
  port_closed = by_permission m port wrong closed misfit first

  pub port_unfit : Passes wrong 8 → Passes closed 10 → Refused m port misfit
  port_unfit = by_value m port wrong closed misfit first

  pub port_set : Passes wrong 8 → Passes closed 10 → 0 ≡ misfit
      → Done m port (reset (with_spinel m (record { address = get_or d 0 0; speed = get_or d 1 0; permitted = false })))
  unfolding set_port
  port_set = by_none m port wrong closed misfit first _ refl refl

module _ (m : Module) (permitted : Bool) (d : List ℕ) where
  -- EEH
  abbrev turned : Request Module
  turned = on_part (with_sum_tested m) (set_sum_test permitted d)

  abbrev amiss : Bool
  amiss = not (eqb (length d) 1)

  -- the number for neither 00 nor 01
  abbrev neither : ℕ
  neither = cond (ltb 1 (get_or d 0 0)) 11 0

  turned_first : refusal_of turned ≡ cond amiss 8 (cond (not permitted) 10 neither)
  unfolding set_sum_test refusal_of
  turned_first = rw (within_zero 1 (get_or d 0 0))

  pub turned_length : Refused m turned (cond amiss 8 0)
  turned_length = by_length m turned amiss (not permitted) neither turned_first

  pub turned_closed : Passes amiss 8 → Refused m turned (cond (not permitted) 10 0)
  turned_closed = by_permission m turned amiss (not permitted) neither turned_first

  pub turned_unfit : Passes amiss 8 → Passes (not permitted) 10 → Refused m turned neither
  turned_unfit = by_value m turned amiss (not permitted) neither turned_first

  pub turned_so : Passes amiss 8 → Passes (not permitted) 10 → 0 ≡ neither → Done m turned (with_sum_tested m (eqb (get_or d 0 0) 1))
  unfolding set_sum_test
  turned_so = by_none m turned amiss (not permitted) neither turned_first _ refl refl

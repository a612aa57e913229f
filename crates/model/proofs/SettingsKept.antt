-- What could be stored before the third S can be stored now and means the same; all else that can is a new mode. Assumes nothing.
use Prim.Native.Nat.{ℕ, zero, suc, ◌+◌, ◌*◌, ◌/◌, ◌%◌, ◌<◌}
use native.Mathlib.Omega.{arith}
use mathlib.Core.Path.{◌≡◌, refl, ap}
use mathlib.Core.List.{List, [], ◌∷◌}
use mathlib.Core.Bool.{Bool, true, false, not, ◌&&◌, ◌||◌}
use lib.ListN.{get_or}
use lib.Dec.{eqb, leb, ltb}
use lib.IntN.{ℤ}
use lib.Signed.{le_z}
use borrow.Author.Tests.{eqb-true, eqb-false, eq-eqb, ne_eqb}
use Rattle.lists.specs.Tests.{all}
use Rattle.lists.proofs.Choices.{all_first, all_rest, and_left, and_right}
use Rattle.lists.proofs.Somes.{mapi-alike}
use Rattle.model.specs.declared.Output.{Output}
use Rattle.model.specs.declared.Thermostat.{Thermostat}
use Rattle.model.specs.declared.Reading.{Reading}
use Rattle.model.specs.declared.Reading.TheVariants.{Valid, Fault}
use Rattle.model.specs.declared.Module.{Module}
use Rattle.model.specs.State.{fresh_output, fresh_thermostat, with_reading}
use Rattle.model.specs.Temperature.{active, action, third_s, sensor, setting_shown, thermostat_fits, free, heated, taken}
use Rattle.model.specs.Temperature.{sensor_before, setting_before, fits_before, free_before, heated_before, taken_before, is_new_mode}
use Rattle.model.specs.Temperature.{SettingKept, HeatKept}

-- four bits are 8 t + s where the topmost is t and the others s
four_bits : (f t s : ℕ) → t < 2 → s < 8 → eqb (f % 16) (8 * t + s) ≡ (eqb (f / 8 % 2) t && eqb (f % 8) s)
four_bits f t s h k = go (eqb (f / 8 % 2) t) (eqb (f % 8) s) refl refl
  where
    go : (x y : Bool) → eqb (f / 8 % 2) t ≡ x → eqb (f % 8) s ≡ y → eqb (f % 16) (8 * t + s) ≡ (x && y)
    go false y a b =
        let none : (f / 8 % 2 ≡ t → ⊥) = eqb-false (f / 8 % 2) t a in
        ne_eqb (f % 16) (8 * t + s) (omega arith)
    go true false a b =
        let none : (f % 8 ≡ s → ⊥) = eqb-false (f % 8) s b in
        ne_eqb (f % 16) (8 * t + s) (omega arith)
    go true true a b =
        let top : f / 8 % 2 ≡ t = eqb-true (f / 8 % 2) t a in
        let low : f % 8 ≡ s = eqb-true (f % 8) s b in
        eq-eqb (f % 16) (8 * t + s) (omega arith)

-- a remainder by 2 that is 0 is not 1
clear_bit : (n : ℕ) → eqb (n % 2) 0 ≡ not (eqb (n % 2) 1)
clear_bit n = go (eqb (n % 2) 1) refl
  where
    go : (x : Bool) → eqb (n % 2) 1 ≡ x → eqb (n % 2) 0 ≡ not x
    go true a =
        let one : n % 2 ≡ 1 = eqb-true (n % 2) 1 a in
        ne_eqb (n % 2) 0 (omega arith)
    go false a =
        let none : (n % 2 ≡ 1 → ⊥) = eqb-false (n % 2) 1 a in
        eq-eqb (n % 2) 0 (omega arith)

-- so what was sensor 1 is sensor 1 without the third S, and what was 9 is 1 with it
first : (f : ℕ) → eqb (f % 16) 1 ≡ (not (eqb (f / 8 % 2) 1) && eqb (f % 8) 1)
first f = rw (← clear_bit (f / 8)) (four_bits f 0 1 (omega arith) (omega arith))

ninth : (f : ℕ) → eqb (f % 16) 9 ≡ (eqb (f / 8 % 2) 1 && eqb (f % 8) 1)
ninth f = four_bits f 1 1 (omega arith) (omega arith)

-- the tests of old and new, the error, F, the third S, the sensor, the limits, SS and the time each by its result
by_tests : (e f t s l a z : Bool)
    → (e && (not f || (s && (l && (a || (not t && not z))))))
    ≡ ((e && (not f || ((not t && s) && (l && (a || not z))))) || (e && (f && ((t && s) && (l && a)))))
by_tests false f t s l a z = refl
by_tests true false t s l a z = refl
by_tests true true t false l a z = go t
  where
    go : (t : Bool) → false ≡ (((not t && false) && (l && (a || not z))) || ((t && false) && (l && a)))
    go true = refl
    go false = refl
by_tests true true true true false a z = refl
by_tests true true true true true true z = refl
by_tests true true true true true false z = refl
by_tests true true false true l a z = go (l && (a || not z))
  where
    go : (b : Bool) → b ≡ (b || false)
    go true = refl
    go false = refl

module _ (h : Thermostat) where
  stored : thermostat_fits h ≡ (fits_before h || is_new_mode h)
  unfolding thermostat_fits fits_before is_new_mode
  stored =
      rw (first h.flags, ninth h.flags)
      (by_tests (leb h.err 2) (active h) (third_s h) (eqb (sensor h) 1) (le_z h.tempy h.tempx) (ltb (action h) 2) (eqb h.time.0 0))

  holds : (r : Reading) → free r h ≡ free_before r h
  unfolding free free_before
  holds (Valid t x) = refl
  holds Fault = refl

  clear : fits_before h ≡ true → active h ≡ true → third_s h ≡ false
  unfolding fits_before
  clear s e =
      let rest = rw e at (and_right (leb h.err 2) _ s) in
      let one : eqb (sensor_before h) 1 ≡ true = and_left (eqb (sensor_before h) 1) _ rest in
      let low : h.flags % 16 ≡ 1 = eqb-true (h.flags % 16) 1 one in
      ne_eqb (h.flags / 8 % 2) 1 (omega arith)

  apart : is_new_mode h ≡ true → fits_before h ≡ false
  unfolding is_new_mode
  apart n = go (fits_before h) refl
    where
      go : (b : Bool) → fits_before h ≡ b → b ≡ false
      go false e = refl
      go true e =
          let rest = and_right (leb h.err 2) _ n in
          let low : eqb (h.flags / 8 % 2) 1 ≡ false = clear e (and_left (active h) _ rest) in
          let none : (h.flags / 8 % 2 ≡ 1 → ⊥) = eqb-false (h.flags / 8 % 2) 1 low in
          let nine : h.flags % 16 ≡ 9 = eqb-true (h.flags % 16) 9 (and_left (eqb (h.flags % 16) 9) _ (and_right (active h) _ rest)) in
          absurd (omega arith)

  acts : fits_before h ≡ true → (last : Reading) (now : ℤ) (o : Output) → heated last now h o ≡ heated_before last now h o
  unfolding heated heated_before
  acts s last now o = go (active h) refl
    where
      go : (b : Bool) → active h ≡ b → heated last now h o ≡ heated_before last now h o
      go false e = rw e refl
      go true e = rw (e, clear s e) refl

  shown : fits_before h ≡ true → active h ≡ true → setting_shown h ≡ setting_before h
  shown s e = rw (clear s e) (omega arith)

  pub setting_kept : SettingKept h
  setting_kept = record { stored = stored; apart = apart; holds = holds; clear = clear; acts = acts; shown = shown }

-- the one at a place, which is fresh where there is none
at_place : (hs : List Thermostat) (i : ℕ) → all fits_before hs ≡ true → fits_before (get_or hs i fresh_thermostat) ≡ true
unfolding fits_before
at_place [] i a = refl
at_place (h ∷ hs) zero a = all_first fits_before h hs a
at_place (h ∷ hs) (suc i) a = at_place hs i (all_rest fits_before h hs a)

pub heat_kept : (m : Module) → HeatKept m
unfolding taken taken_before
heat_kept m a (Valid t x) =
    let hs = m.settings.thermostats in
    ap (λ os. with_reading m os (Valid t x) (Valid t x))
    (mapi-alike _ _ m.outputs fresh_output (λ i l. acts (get_or hs i fresh_thermostat) (at_place hs i a) m.last t (get_or m.outputs i fresh_output)))
heat_kept m a Fault = refl

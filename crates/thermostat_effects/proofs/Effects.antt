-- What setpoints come to is what the definitions say of groups and of registers. Assumes nothing.
use Prim.Native.Nat.{ℕ, ◌+◌, ◌-◌, ◌<◌, ◌≤◌}
use native.Mathlib.Omega.{arith}
use mathlib.Core.Path.{◌≡◌, refl, sym}
use mathlib.Core.Bool.{Bool, true, false, cond, not, ◌&&◌}
use mathlib.Core.List.{List, [], ◌∷◌, map, foldl}
use lib.Dec.{leb, ltb}
use lib.ListN.{length, get_or, set}
use borrow.Author.Tests.{le-leb, lt-leb, ltb-true, ltb-false}
use Rattle.lists.specs.Tests.{all, any, within}
use Rattle.lists.specs.Chunks.{chunks}
use Rattle.lists.specs.Numbers.{word_at}
use Rattle.lists.proofs.Choices.{or_left, passed, one_of_one}
use Rattle.model.specs.declared.Link.{Link}
use Rattle.model.specs.declared.Thermostat.{Thermostat}
use Rattle.model.specs.State.{fresh_link}
use Rattle.model.specs.Refusals.{refuse, refusal_of}
use Rattle.model.specs.Counters.{items_of}
use Rattle.model.specs.Temperature.{thermostat_fits, clash, group_fits, set_group, group_clashes, set_thermostats}
use Rattle.model.specs.Modbus.{words}
use Rattle.model.specs.Registers.{thermostat_group, outside, no_thermostat, place_of, words_thermostat, write_thermostat}
use Rattle.groups.proofs.Inside.{inside, four}
use Rattle.decoders.proofs.Places.{words_length, value_place}
use Rattle.setpoints.specs.Setpoints.{group_setpoint, register_setpoint}
use Rattle.thermostat_effects.specs.Parts.{setpoint_fits, setpoint_clashes, setpoint_put, set_setpoints, setpoints_refusal}
use Rattle.setpoints.proofs.Decoded.{register_whole}

-- 1AH ------------------------------------------------------------------------------------

groups_fit : (cs : List (List ℕ)) → all setpoint_fits (map group_setpoint cs) ≡ all group_fits cs
unfolding all setpoint_fits group_setpoint group_fits
groups_fit [] = refl
groups_fit (c ∷ cs) = rw (groups_fit cs)

groups_put : (cs : List (List ℕ)) (hs : List Thermostat) → foldl setpoint_put hs (map group_setpoint cs) ≡ foldl set_group hs cs
unfolding setpoint_put group_setpoint set_group
groups_put [] hs = refl
groups_put (c ∷ cs) hs = groups_put cs (set_group hs c)

groups_clash : (ls : List Link) (cs : List (List ℕ)) → any (setpoint_clashes ls) (map group_setpoint cs) ≡ any (group_clashes ls) cs
unfolding any setpoint_clashes group_setpoint group_clashes
groups_clash ls [] = refl
groups_clash ls (c ∷ cs) = rw (groups_clash ls cs)

pub groups_request : (ls : List Link) (d : List ℕ) (hs : List Thermostat) → refuse 8 (not (items_of 8 d)) (set_setpoints ls (map group_setpoint (chunks 8 d)) hs) ≡ set_thermostats ls d hs
unfolding set_setpoints set_thermostats
groups_request ls d hs = rw (groups_fit (chunks 8 d), groups_clash ls (chunks 8 d), groups_put (chunks 8 d) hs)

-- registers 600 up ---------------------------------------------------------------------------

-- the number that refuses a write: 9 for the registers, 11 for flags that are no byte, or what a setpoint is refused by
unfoldable pub write_refusal : List Link → ℕ → List ℕ → ℕ
write_refusal ls a d = cond (no_thermostat a (length (words d))) 9 (cond (ltb 255 (word_at d 0)) 11 (setpoints_refusal ls (register_setpoint a d ∷ [])))

-- the last byte is below 256, as bytes are
module _ (a : ℕ) (d : List ℕ) (byte : get_or d 7 0 < 256) where
  fits : no_thermostat a (length (words d)) ≡ false → word_at d 0 ≤ 255 → all setpoint_fits (register_setpoint a d ∷ []) ≡ thermostat_fits (words_thermostat (words d))
  unfolding all setpoint_fits within
  fits h f =
      let i = inside thermostat_group a (length (words d)) (or_left (outside thermostat_group a (length (words d))) _ h) in
      rw (register_whole a d h f byte, le-leb 1 (place_of a + 1) (omega arith), le-leb (place_of a + 1) 16 (omega (arith, i.begins, i.ends, i.some))) (one_of_one _)

  clashes : (ls : List Link) → no_thermostat a (length (words d)) ≡ false → word_at d 0 ≤ 255 → any (setpoint_clashes ls) (register_setpoint a d ∷ []) ≡ clash (get_or ls (place_of a) fresh_link) (words_thermostat (words d))
  unfolding any setpoint_clashes
  clashes ls h f =
      let same : place_of a + 1 - 1 ≡ place_of a = omega arith in
      rw (register_whole a d h f byte, same) (one_of_one _)

  pub registers_refused : (ls : List Link) (hs : List Thermostat) → write_refusal ls a d ≡ refusal_of (write_thermostat ls a (words d) hs)
  unfolding write_refusal setpoints_refusal write_thermostat refusal_of
  registers_refused ls hs = go (no_thermostat a (length (words d))) (ltb 255 (word_at d 0)) refl refl
    where
      first : no_thermostat a (length (words d)) ≡ false → get_or (words d) 0 0 ≡ word_at d 0
      first h = sym (value_place d 0 (omega (arith, four a (length (words d)) h, words_length d)))

      go : (wrong wide : Bool) → no_thermostat a (length (words d)) ≡ wrong → ltb 255 (word_at d 0) ≡ wide
          → ◌≡◌ {A = ℕ} (cond wrong 9 (cond wide 11 (cond (not (all setpoint_fits (register_setpoint a d ∷ []))) 11 (cond (any (setpoint_clashes ls) (register_setpoint a d ∷ [])) 14 0))))
          (cond wrong 9 (cond (not (leb (get_or (words d) 0 0) 0xFF && thermostat_fits (words_thermostat (words d)))) 11 (cond (clash (get_or ls (place_of a) fresh_link) (words_thermostat (words d))) 14 0)))
      go true wide h f = refl
      go false true h f = rw (first h, lt-leb (word_at d 0) 255 (ltb-true 255 (word_at d 0) f))
      go false false h f = rw (first h, le-leb (word_at d 0) 255 (ltb-false 255 (word_at d 0) f), fits h (ltb-false 255 (word_at d 0) f), clashes ls h (ltb-false 255 (word_at d 0) f))

  pub registers_put : (ls : List Link) (hs : List Thermostat) → write_refusal ls a d ≡ 0 → foldl setpoint_put hs (register_setpoint a d ∷ []) ≡ set hs (place_of a) (words_thermostat (words d))
  unfolding write_refusal setpoint_put
  registers_put ls hs e =
      let same : place_of a + 1 - 1 ≡ place_of a = omega arith in
      let right = passed _ 8 _ e in
      let small = passed _ 10 _ right.1 in
      rw (register_whole a d right.0 (ltb-false 255 (word_at d 0) small.0) byte, same)

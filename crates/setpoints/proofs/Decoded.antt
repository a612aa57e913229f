-- Setpoints by their places in the bytes. Assumes nothing.
use Prim.Native.Nat.{ℕ, ◌+◌, ◌/◌, ◌%◌, ◌<◌, ◌≤◌}
use native.Mathlib.Omega.{arith}
use native.Mathlib.Nat.{mod-eq_of_lt}
use mathlib.Core.Path.{◌≡◌, sym, ◌∙◌}
use mathlib.Core.Bool.{true, false}
use mathlib.Core.List.{List, map}
use lib.Dec.{eqb}
use lib.ListN.{length, get_or, take, length-map}
use lib.Seq.{take_all, take-append_seam}
use Rattle.lists.specs.Chunks.{chunks}
use Rattle.lists.specs.Numbers.{word_at}
use Rattle.lists.proofs.Choices.{and_right, or_left, within_high}
use Rattle.lists.proofs.ChunkLaws.{length-chunks_of}
use Rattle.model.specs.Counters.{items_of}
use Rattle.model.specs.Temperature.{group_thermostat}
use Rattle.model.specs.Modbus.{words}
use Rattle.model.specs.Registers.{thermostat_group, outside, no_thermostat, place_of, words_thermostat}
use Rattle.groups.proofs.Inside.{inside, four}
use Rattle.decoders.proofs.Places.{words_length, value_place}
use Rattle.setpoints.specs.declared.Setpoint.{Setpoint}
use Rattle.setpoints.specs.Setpoints.{setpoint, group_setpoint, register_setpoint, setpoints_of, setpoints_in}

groups_length : (d : List ℕ) → length (map group_setpoint (chunks 8 d)) ≡ length d / 8
unfolding chunks
groups_length d = length-map (chunks 8 d) group_setpoint ∙ length-chunks_of 8 (length d / 8) d

-- what was decoded counts
pub setpoints_in_lem : (l : List Setpoint) → setpoints_in (setpoints_of l) ≡ l
unfolding setpoints_of
setpoints_in_lem l = take-append_seam l _

-- an allowed list has twelve groups at most
pub groups_whole : (d : List ℕ) → items_of 8 d ≡ true → setpoints_in (setpoints_of (take 12 (map group_setpoint (chunks 8 d)))) ≡ map group_setpoint (chunks 8 d)
unfolding items_of
groups_whole d h =
    let few = within_high 1 12 (length d / 8) (and_right (eqb (length d % 8) 0) _ h) in
    setpoints_in_lem _ ∙ take_all 12 _ (rw (groups_length d) few)

-- four registers whose flags are a byte
words_group : (d : List ℕ) → length d / 2 ≡ 4 → word_at d 0 ≤ 255 → get_or d 7 0 < 256 → group_thermostat d ≡ words_thermostat (words d)
unfolding group_thermostat words_thermostat
words_group d n f b =
    let flags : word_at d 0 ≡ get_or d 1 0 = omega arith in
    let time : word_at d 6 / 256 ≡ get_or d 6 0 = omega arith in
    let err : word_at d 6 % 256 ≡ get_or d 7 0 = omega arith in
    rw (← value_place d 0 (omega arith), ← value_place d 1 (omega arith), ← value_place d 2 (omega arith), ← value_place d 3 (omega arith), flags, time, err)

-- so written, they are one thermostat's
pub register_whole : (a : ℕ) (d : List ℕ) → no_thermostat a (length (words d)) ≡ false → word_at d 0 ≤ 255 → get_or d 7 0 < 256
    → register_setpoint a d ≡ setpoint (place_of a + 1) (words_thermostat (words d))
unfolding register_setpoint
register_whole a d h f b =
    let n = four a (length (words d)) h in
    let i = inside thermostat_group a (length (words d)) (or_left (outside thermostat_group a (length (words d))) _ h) in
    let small : place_of a + 1 < 256 = omega (arith, i.begins, i.ends) in
    rw (mod-eq_of_lt small, words_group d (sym (words_length d) ∙ n) f b)

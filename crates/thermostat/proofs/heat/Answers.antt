-- `thermostat::heat` meets its contract. Assumes nothing.
use mathlib.Core.Bool.{true, false}
use mathlib.Core.Path.{◌≡◌, sym, ◌∙◌}
use mir.Facts.{to_z-of_z}
use Rattle.model.specs.Temperature.{active, third_s, heated}
use Rattle.thermostat.proofs.heat.Goals as goal
use Rattle.thermostat.proofs.heat.Goals.{Else-not-is_active, Else-has_third_s}

-- the thermostat is active, and has no third S
on : (c : Else-not-is_active) → active c.args.h ≡ true
on c = sym c.is_active.ensures ∙ c.if-not-is_active.false

by_ss : (c : Else-has_third_s) → third_s c.args.h ≡ false
by_ss c = sym c.has_third_s.ensures ∙ c.if-has_third_s.false

pub returns-then-not-is_active : goal.returns-then-not-is_active
unfolding heated
returns-then-not-is_active c = rw (sym c.is_active.ensures ∙ c.if-not-is_active.true)

pub returns-then-has_third_s : goal.returns-then-has_third_s
unfolding heated
returns-then-has_third_s c =
    rw (on (goal.at.returns-then-has_third_s c).Else-not-is_active, sym c.has_third_s.ensures ∙ c.if-has_third_s.true) (rw (to_z-of_z c.ranges.now) at c.band.ensures)

pub returns-in-On : goal.returns-in-On
unfolding heated
returns-in-On c =
    let here = goal.at.returns-in-On c in
    rw (on here.Else-not-is_active, by_ss here.Else-has_third_s, ← c.action_of.ensures, c.in-On.is) (rw (to_z-of_z c.ranges.now) at c.level.ensures)

pub returns-in-Off : goal.returns-in-Off
unfolding heated
returns-in-Off c =
    let here = goal.at.returns-in-Off c in
    rw (on here.Else-not-is_active, by_ss here.Else-has_third_s, ← c.action_of.ensures, c.in-Off.is) (rw (to_z-of_z c.ranges.now) at c.level-in-Off.ensures)

pub returns-in-OnPulse : goal.returns-in-OnPulse
unfolding heated
returns-in-OnPulse c =
    let here = goal.at.returns-in-OnPulse c in
    rw (on here.Else-not-is_active, by_ss here.Else-has_third_s, ← c.action_of.ensures, c.in-OnPulse.is) (rw (to_z-of_z c.ranges.now) at c.cross.ensures)

pub returns-in-OffPulse : goal.returns-in-OffPulse
unfolding heated
returns-in-OffPulse c =
    let here = goal.at.returns-in-OffPulse c in
    rw (on here.Else-not-is_active, by_ss here.Else-has_third_s, ← c.action_of.ensures, c.in-OffPulse.is) (rw (to_z-of_z c.ranges.now) at c.cross-in-OffPulse.ensures)

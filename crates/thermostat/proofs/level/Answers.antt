-- `thermostat::level` meets its contract. Assumes nothing.
use mathlib.Core.Path.{◌≡◌}
use mathlib.Core.Bool.{true, false}
use lib.Signed.{lt_z}
use mir.Syntax.{w16}
use mir.Val.{SFits}
use mir.Facts.{to_z-of_z}
use Rattle.model.specs.Temperature.{levelled}
use borrow.Author.Rules.{rules}
use Rattle.thermostat.proofs.level.Goals as goal
use Rattle.thermostat.proofs.level.Goals.{Else-h-now, Then-h-now}

-- the first test, of the fields themselves
over : (c : Then-h-now) → lt_z c.args.h.tempx c.args.now ≡ true
over c =
    let fx : SFits w16 c.args.h.tempx = search rules in
    rw (to_z-of_z fx, to_z-of_z c.ranges.now) at c.if-h-now.true

not-over : (c : Else-h-now) → lt_z c.args.h.tempx c.args.now ≡ false
not-over c =
    let fx : SFits w16 c.args.h.tempx = search rules in
    rw (to_z-of_z fx, to_z-of_z c.ranges.now) at c.if-h-now.false

pub returns-then-h-now : goal.returns-then-h-now
unfolding levelled
returns-then-h-now c = rw (over (goal.at.returns-then-h-now c).Then-h-now) c.set.ensures

pub returns-then-now-h : goal.returns-then-now-h
unfolding levelled
returns-then-now-h c =
    let fy : SFits w16 c.args.h.tempy = search rules in
    let under : lt_z c.args.now c.args.h.tempy ≡ true = rw (to_z-of_z fy, to_z-of_z c.ranges.now) at c.if-now-h.true in
    rw (not-over (goal.at.returns-then-now-h c).Else-h-now, under) c.set-then-now-h.ensures

pub returns : goal.returns
unfolding levelled
returns c =
    let fy : SFits w16 c.args.h.tempy = search rules in
    let not-under : lt_z c.args.now c.args.h.tempy ≡ false = rw (to_z-of_z fy, to_z-of_z c.ranges.now) at c.if-now-h.false in
    rw (not-over (goal.at.returns c).Else-h-now, not-under)

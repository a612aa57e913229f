-- `thermostat::crossed_limit` meets its contract. Assumes nothing.
use mathlib.Core.Path.{sym, ◌∙◌}
use mir.Syntax.{w16}
use mir.Val.{SFits}
use mir.Facts.{to_z-of_z}
use Rattle.model.specs.Temperature.{crossed}
use borrow.Author.Rules.{rules}
use Rattle.thermostat.proofs.crossed_limit.Goals as goal

pub returns-in_default : goal.returns-in_default
unfolding crossed
returns-in_default c = rw c.in_default.is

pub returns-then-is_on_fall : goal.returns-then-is_on_fall
unfolding crossed
returns-then-is_on_fall c =
    let ft : SFits w16 c.in-Valid.t = search rules in
    let fy : SFits w16 c.args.h.tempy = search rules in
    rw (c.in-Valid.is, sym c.is_on_fall.ensures ∙ c.if-is_on_fall.true)
    (rw (to_z-of_z fy, to_z-of_z ft, to_z-of_z c.ranges.now) at c.fell.ensures)

pub returns : goal.returns
unfolding crossed
returns c =
    let ft : SFits w16 c.in-Valid.t = search rules in
    let fx : SFits w16 c.args.h.tempx = search rules in
    rw (c.in-Valid.is, sym c.is_on_fall.ensures ∙ c.if-is_on_fall.false)
    (rw (to_z-of_z fx, to_z-of_z ft, to_z-of_z c.ranges.now) at c.rose.ensures)

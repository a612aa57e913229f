-- `thermostat::fail` meets its contract. Assumes nothing.
use mathlib.Core.Bool.{true}
use mathlib.Core.Path.{◌≡◌, sym, ◌∙◌}
use native.Mathlib.Omega.{arith}
use Rattle.model.specs.Temperature.{active}
use borrow.Author.Tests.{eq-eqb, ne_eqb}
use Rattle.model.specs.Temperature.{failed}
use Rattle.lists.proofs.Choices.{eqb_at}
use Rattle.thermostat.proofs.fail.Goals as goal
use Rattle.thermostat.proofs.fail.Goals.{Else-not-is_active}

on : (c : Else-not-is_active) → active c.args.h ≡ true
on c = sym c.is_active.ensures ∙ c.if-not-is_active.false

pub returns-then-not-is_active : goal.returns-then-not-is_active
unfolding failed
returns-then-not-is_active c = rw (sym c.is_active.ensures ∙ c.if-not-is_active.true)

pub returns-in-1 : goal.returns-in-1
unfolding failed
returns-in-1 c =
    rw (on (goal.at.returns-in-1 c).Else-not-is_active, eq-eqb c.args.h.err 1 c.in-1.is) c.set.ensures

pub returns-in-2 : goal.returns-in-2
unfolding failed
returns-in-2 c =
    let err = c.args.h.err in
    rw (on (goal.at.returns-in-2 c).Else-not-is_active, eqb_at err 2 1 c.in-2.is, eqb_at err 2 2 c.in-2.is) c.set-in-2.ensures

pub returns-in_default : goal.returns-in_default
unfolding failed
returns-in_default c =
    let err = c.args.h.err in
    rw (on (goal.at.returns-in_default c).Else-not-is_active, ne_eqb err 1 (omega arith), ne_eqb err 2 (omega arith))

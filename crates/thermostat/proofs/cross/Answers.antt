-- `thermostat::cross` meets its contract. Assumes nothing.
use mathlib.Core.Path.{◌≡◌}
use mir.Facts.{to_z-of_z}
use Rattle.model.specs.Temperature.{crossed, crossing}
use Rattle.thermostat.proofs.cross.Goals as goal
use Rattle.thermostat.proofs.cross.Goals.{After-crossed_limit}

-- what the callee answered, of the arguments themselves
went : (c : After-crossed_limit) → let a = c.args in c.crossed_limit.result ≡ crossed a.h a.last a.now
went c = rw (to_z-of_z c.ranges.now) at c.crossed_limit.ensures

pub returns-then-crossed_limit : goal.returns-then-crossed_limit
unfolding crossing
returns-then-crossed_limit c =
    rw (← went (goal.at.returns-then-crossed_limit c).After-crossed_limit, c.if-crossed_limit.true, ← c.second_samples.ensures) c.start.ensures

pub returns : goal.returns
unfolding crossing
returns c = rw (← went (goal.at.returns c).After-crossed_limit, c.if-crossed_limit.false)

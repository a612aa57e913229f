-- `holding::is_free` meets its contract. Assumes nothing.
use mathlib.Core.Path.{◌≡◌}
use mir.Syntax.{w16}
use mir.Val.{SFits}
use mir.Facts.{to_z-of_z}
use borrow.Author.Rules.{rules}
use Rattle.model.specs.Temperature.{in_band, free}
use Rattle.holding.proofs.is_free.Goals as goal

pub returns-in-Valid : goal.returns-in-Valid
unfolding free
returns-in-Valid c =
    let ft : SFits w16 c.in-Valid.t = search rules in
    let there : c.is_in_band.result ≡ in_band c.args.h c.in-Valid.t = rw (to_z-of_z ft) at c.is_in_band.ensures in
    rw (c.in-Valid.is, c.is_active-off.ensures, there)

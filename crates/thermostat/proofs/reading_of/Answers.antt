-- `thermostat::reading_of` meets its contract. Assumes nothing.
use mathlib.Core.Path.{◌≡◌}
use mathlib.Core.Bool.{Bool, true, false, ◌&&◌}
use lib.IntN.{ℤ, pos, negsuc}
use lib.Signed.{le_z}
use mir.Facts.{to_z-of_z}
use Rattle.model.specs.Temperature.{reading_of, degrees}
use Rattle.thermostat.proofs.reading_of.Goals as goal

-- a good mark, and tenths in range
abbrev in_range : Bool → ℤ → Bool
in_range good t = good && (le_z (negsuc 999) t && le_z t (pos 2000))

pub returns-then-good-tenths : goal.returns-then-good-tenths
unfolding reading_of degrees
returns-then-good-tenths c =
    let h : in_range c.args.good c.args.tenths ≡ true = rw (to_z-of_z c.ranges.tenths) at c.if-good-tenths.true in
    rw (to_z-of_z c.ranges.tenths, h)

pub returns : goal.returns
unfolding reading_of
returns c =
    let h : in_range c.args.good c.args.tenths ≡ false = rw (to_z-of_z c.ranges.tenths) at c.if-good-tenths.false in
    rw h

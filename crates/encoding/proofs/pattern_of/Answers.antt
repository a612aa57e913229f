-- `encoding::pattern_of` meets its contract. Assumes nothing.
use mir.Facts.{to_z-of_z}
use Rattle.encoding.proofs.Words.{pattern}
use Rattle.encoding.proofs.pattern_of.Goals as goal

pub returns : goal.returns
returns c = rw (c.cast_unsigned.ensures, to_z-of_z c.ranges.x) (pattern c.args.x c.ranges.x)

-- `sampling::heat` meets its contract. Assumes nothing.
use mir.Facts.{to_z-of_z}
use Rattle.heating.proofs.TakenLaw.{taken_parts_lem}
use Rattle.sampling.proofs.heat.Goals as goal

pub returns : goal.returns
returns c =
    rw (c.take_reading-t.ensures, rw (to_z-of_z c.ranges.tenths) at c.reading_of-r.ensures) (taken_parts_lem _ c.args.m)

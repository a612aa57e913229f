-- `thermostat_effects::show_reading` meets its contract. Assumes nothing.
use borrow.Author.Rules.{rules}
use mir.Syntax.{w16}
use mir.Val.{SFits}
use mir.Facts.{to_z-of_z}
use Rattle.lists.specs.Numbers.{bytes}
use Rattle.model.specs.Temperature.{reading_shown, pattern_of}
use Rattle.lists.proofs.DataLaws.{bytes_and_word}
use Rattle.thermostat_effects.proofs.show_reading.Goals as goal

pub returns-in-Valid : goal.returns-in-Valid
unfolding reading_shown
returns-in-Valid c =
    let ft : SFits w16 c.in-Valid.t = search rules in
    rw (c.push16.ensures, rw (to_z-of_z ft) at c.pattern_of.ensures, c.push-in-Valid.ensures, c.push.ensures, c.empty.ensures, c.in-Valid.is) (bytes_and_word 1 0x80 (pattern_of c.in-Valid.t))

pub returns-in-Fault : goal.returns-in-Fault
unfolding reading_shown bytes
returns-in-Fault c =
    rw (c.push16-in-Fault.ensures, c.push-in-Fault-2.ensures, c.push-in-Fault.ensures, c.empty-in-Fault.ensures, c.in-Fault.is) (bytes_and_word 1 0 0)

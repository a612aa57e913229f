-- `heating::take_reading` meets its contract. Assumes nothing.
use Rattle.heating.specs.Parts.{taken_parts}
use Rattle.heating.proofs.take_reading.Goals as goal

pub returns-in-Valid : goal.returns-in-Valid
unfolding taken_parts
returns-in-Valid c = rw (c.act_all-outputs.ensures, c.in-Valid.is)

pub returns-in-Fault : goal.returns-in-Fault
unfolding taken_parts
returns-in-Fault c = rw (c.act_all-outputs.ensures, c.in-Fault.is)

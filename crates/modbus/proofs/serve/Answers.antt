-- `modbus::serve` meets its contract. Assumes nothing.
use Rattle.model.specs.Modbus.{modbus_asked}
use Rattle.outcomes.proofs.Laws.{told_law}
use Rattle.modbus.proofs.serve.Goals as goal

pub returns-in-1 : goal.returns-in-1
unfolding modbus_asked
returns-in-1 c = rw (c.in-1.is, c.told.ensures, c.read_coils.ensures) (told_law _ _)

pub returns-in-2 : goal.returns-in-2
unfolding modbus_asked
returns-in-2 c = rw (c.in-2.is, c.told-in-2.ensures, c.read_inputs.ensures) (told_law _ _)

pub returns-in-3 : goal.returns-in-3
unfolding modbus_asked
returns-in-3 c = rw (c.in-3.is, c.told-in-3.ensures, c.read_registers.ensures) (told_law _ _)

pub returns-in-4 : goal.returns-in-4
unfolding modbus_asked
returns-in-4 c = rw (c.in-4.is, c.told-in-4.ensures, c.read_reading.ensures) (told_law _ _)

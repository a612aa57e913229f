-- `modbus::read_registers` meets its contract. Assumes nothing.
use Rattle.std.proofs.Common.{◌≡◌, Err, rules}
use Rattle.model.specs.Modbus.{start_of, second_of, quantity_wrong, registers_read}
use Rattle.modbus_bodies.proofs.Laws.{read_refused}
use Rattle.modbus.proofs.Ranges.{groups_listed}
use Rattle.modbus.proofs.read_registers.Goals as goal

pub returns-in_err-a : goal.returns-in_err-a
returns-in_err-a c =
    let a = c.args in
    let b = a.b.now in
    let r : c.from_residual.result ≡ Err c.in_err-a.field-0.0 = search rules in
    rw r (read_refused (registers_read (start_of b) (second_of b) a.m.now) (quantity_wrong 125 b) _ (groups_listed _ _ _) c.in_err-a.ensures.number)

-- `modbus::read_reading` meets its contract. Assumes nothing.
use Rattle.std.proofs.Common.{◌≡◌, refl, Err, rules}
use Rattle.model.specs.Temperature.{reading_words}
use Rattle.model.specs.Registers.{reading_group, read_words}
use Rattle.model.specs.Modbus.{start_of, second_of, quantity_wrong}
use Rattle.modbus_bodies.proofs.Laws.{read_refused}
use Rattle.modbus.proofs.read_reading.Goals as goal

pub returns-in_err-a : goal.returns-in_err-a
unfolding read_words
returns-in_err-a c =
    let a = c.args in
    let b = a.b.now in
    let r : c.from_residual.result ≡ Err c.in_err-a.field-0.0 = search rules in
    rw r (read_refused (read_words reading_group (reading_words a.reading) (start_of b) (second_of b)) (quantity_wrong 125 b) _ refl c.in_err-a.ensures.number)

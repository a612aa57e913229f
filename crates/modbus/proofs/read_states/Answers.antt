-- `modbus::read_states` meets its contract. Assumes nothing.
use Rattle.std.proofs.Common.{◌≡◌, ◌∙◌, refl, Err, rules}
use Rattle.model.specs.Registers.{read_bits}
use Rattle.model.specs.Modbus.{start_of, second_of, quantity_wrong}
use Rattle.bit_reads.proofs.Bits.{bits_told_lem}
use Rattle.modbus_bodies.proofs.Laws.{read_refused, read_passed}
use Rattle.modbus.proofs.read_states.Goals as goal

pub returns-in_err-a : goal.returns-in_err-a
unfolding read_bits
returns-in_err-a c states long e =
    let b = c.args.b.now in
    let r : c.from_residual.result ≡ Err c.in_err-a.field-0.0 = search rules in
    rw r (read_refused (read_bits states (start_of b) (second_of b)) (quantity_wrong 2000 b) _ refl c.in_err-a.ensures.number)

pub returns : goal.returns
returns c states long e =
    let b = c.args.b.now in
    rw (c.read_bits.ensures, c.in_ok-a.ensures.part.0, c.in_ok-a.ensures.part.1)
    (bits_told_lem states c.args.bits (start_of b) (second_of b) long e ∙ read_passed (read_bits states (start_of b) (second_of b)) (quantity_wrong 2000 b) c.in_ok-a.ensures.number)

-- `decoders::registers` meets its contract. Assumes nothing.
use Rattle.std.proofs.Common.{rules}
use Rattle.lists.specs.Entries.{numbered}
use Rattle.model.specs.Modbus.{words}
use Rattle.model.specs.Registers.{number_at}
use Rattle.decoders.proofs.Places.{length_registers}
use Rattle.decoders.proofs.registers.Goals as goal

pub returns : goal.returns
returns c =
    let n = number_at c.args.g c.args.a in
    c.decode.ensures (numbered n (words c.args.d.now)) (length_registers n c.args.d.now) (λ j e h p. search rules)

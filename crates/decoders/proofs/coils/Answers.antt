-- `decoders::coils` meets its contract. Assumes nothing.
use Rattle.std.proofs.Common.{rules, sym, ◌∙◌}
use Rattle.lists.specs.Entries.{numbered}
use Rattle.model.specs.Modbus.{bits_from}
use Rattle.model.specs.Registers.{bit_group, number_at}
use Rattle.decoders.proofs.Places.{length_coils}
use Rattle.decoders.proofs.coils.Goals as goal

pub returns : goal.returns
returns c =
    let k = number_at bit_group c.args.a in
    let n = c.args.n in
    let d = c.args.d.now in
    c.decode.ensures (numbered k (bits_from 0 n d)) (length_coils k n d ∙ sym c.from.ensures) (λ j e h p. search rules)

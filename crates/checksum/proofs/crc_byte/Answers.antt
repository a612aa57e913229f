-- `checksum::crc_byte` meets its contract. Assumes nothing.
use Rattle.std.proofs.Common.{◌+◌, ◌-◌, sym, ap, ◌∙◌, arith}
use Rattle.model.specs.Frames.{crc_bits}
use Rattle.checksum.proofs.Laws.{bits_next, bits_end}
use Rattle.checksum.proofs.crc_byte.Goals as goal

pub loop-bit-preserved : goal.loop-bit-preserved
loop-bit-preserved c =
    ap (crc_bits (8 - (c.loop-bit._bit + 1))) c.crc_bit-x.ensures ∙ sym (bits_next c.loop-bit._bit c.loop-bit.x (omega arith)) ∙ c.loop-bit.invariant

pub returns : goal.returns
returns c =
    sym (bits_end c.loop-bit._bit c.loop-bit.x (omega arith)) ∙ c.loop-bit.invariant

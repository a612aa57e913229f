-- `checksum::crc_byte` meets its contract. The loop's invariant: the bits still to pass, on what stands now, come to the byte's CRC. Assumes nothing.
use Rattle.std.proofs.Common.{◌≡◌, ◌-◌}
use Rattle.model.specs.Frames.{crc_bits, crc_byte}
use Rattle.checksum.proofs.crc_byte.Given as goal

abbrev pub invariant-loop-bit : goal.invariant-loop-bit
invariant-loop-bit l = crc_bits (8 - l._bit) l.x ≡ crc_byte l.c l.b

-- `checksum::crc16` meets its contract. The loop's invariant: the bytes still to pass, from what stands now, come to the CRC of all. Assumes nothing.
use Rattle.std.proofs.Common.{◌≡◌, drop}
use mathlib.Core.List.{foldl}
use Rattle.model.specs.Frames.{crc_byte, crc_of}
use Rattle.checksum.proofs.crc16.Given as goal

abbrev pub invariant-loop-b : goal.invariant-loop-b
invariant-loop-b l = foldl crc_byte l.c (drop l.b-index l.s) ≡ crc_of l.s

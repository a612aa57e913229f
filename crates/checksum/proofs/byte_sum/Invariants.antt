-- `checksum::byte_sum` meets its contract. The loop's invariant: the sum so far and the bytes still to pass come to the sum of all. Assumes nothing.
use Rattle.std.proofs.Common.{◌≡◌, ◌+◌, ◌%◌, ◌<◌, drop}
use Rattle.model.specs.Frames.{total}
use Rattle.checksum.proofs.byte_sum.Given as goal

abbrev pub invariant-loop-b : goal.invariant-loop-b
invariant-loop-b l = (l.sum < 256) × ((l.sum + total (drop l.b-index l.s)) % 256 ≡ total l.s % 256)

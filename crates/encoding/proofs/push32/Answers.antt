-- `encoding::push32` meets its contract of four bytes. Assumes nothing.
use Rattle.std.proofs.Common.{◌≡◌, ◌/◌, ◌%◌, arith}
use Rattle.lists.specs.Numbers.{bytes}
use Rattle.encoding.proofs.push32.Goals as goal

pub returns : goal.returns
unfolding bytes
returns c =
    let v = c.args.v in
    let first : v / 16777216 % 256 ≡ v / 256 / 256 / 256 % 256 = omega arith in
    let second : v / 65536 % 256 ≡ v / 256 / 256 % 256 = omega arith in
    rw (c.append.ensures, c.to_be_bytes.ensures, first, second)

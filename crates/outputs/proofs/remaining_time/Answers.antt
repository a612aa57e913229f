-- `outputs::remaining_time` meets its contract. Assumes nothing.
use native.Mathlib.Omega.{arith}
use Prim.Native.Nat.{◌+◌, ◌/◌, ◌<◌, ◌≤◌}
use borrow.Author.Tests.{lt-ltb, le-ltb}
use Rattle.model.specs.Outputs.{remaining}
use Rattle.outputs.proofs.remaining_time.Goals as goal

pub returns-then-left-gt127500 : goal.returns-then-left-gt127500
unfolding remaining
returns-then-left-gt127500 c =
    let more : 255 < (c.args.left + 499) / 500 = omega arith in
    rw (lt-ltb 255 ((c.args.left + 499) / 500) more)

pub returns : goal.returns
unfolding remaining
returns c =
    let few : (c.args.left + 499) / 500 ≤ 255 = omega arith in
    rw (le-ltb 255 ((c.args.left + 499) / 500) few)

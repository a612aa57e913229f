-- `load::left_by` meets its contract. Assumes nothing.
use Prim.Native.Nat.{ℕ, ◌+◌}
use native.Mathlib.Omega.{arith}
use mir.Val.{bool_byte}
use mathlib.Core.Path.{◌≡◌}
use mathlib.Core.Bool.{Bool, true, false, cond}
use Rattle.load.specs.Play.{left_by}
use Rattle.load.proofs.left_by.Goals as goal

-- a `bool` as a number
one_more : (n : ℕ) (on : Bool) → n + bool_byte on ≡ cond on (n + 1) n
one_more n true = omega arith
one_more n false = omega arith

pub returns : goal.returns
unfolding left_by
returns c = rw (c.from.ensures, c.from-2.ensures, c.from-3.ensures) (one_more _ c.args.o.on)

-- `inputs::any_moving` meets its contract. Assumes nothing.
use borrow.Author.Rules.{rules}
use native.Mathlib.Omega.{arith}
use mathlib.Core.Path.{◌≡◌, sym, ◌∙◌}
use lib.ListN.{length, get_or}
use Rattle.lists.specs.Numbers.{bit_at}
use Rattle.lists.proofs.Somes.{some_none, some_turn, some_any}
use Rattle.model.specs.State.{fresh_line}
use Rattle.inputs.specs.Passes.{is_moving, any_moving}
use Rattle.inputs.proofs.any_moving.Goals as goal
use Rattle.inputs.proofs.any_moving.Goals.{Start}

long : (c : Start) → length c.args.a ≡ 16
long c = search rules

pub loop-i-init : goal.loop-i-init
loop-i-init c = (omega arith, some_none _)

pub loop-i-preserved : goal.loop-i-preserved
loop-i-preserved c =
    let a = c.args in
    (omega arith, rw (c.is_moving-found.ensures, c.bit_at.ensures, c.loop-i.invariant.1) (some_turn (λ k. is_moving (bit_at a.bits k) (get_or a.a k fresh_line)) c.loop-i.i))

pub returns : goal.returns
unfolding any_moving
returns c =
    let e : c.loop-i.i ≡ 16 = omega arith in
    c.loop-i.invariant.1 ∙ rw e (rw (long (goal.at.returns c).Start) at (sym (some_any (λ k x. is_moving (bit_at c.args.bits k) x) c.args.a fresh_line)))

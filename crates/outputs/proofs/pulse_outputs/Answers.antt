-- `outputs::pulse_outputs` meets its contract. Assumes nothing.
use Prim.Native.Nat.{◌<◌}
use mathlib.Core.Path.{◌≡◌, sym, ◌∙◌}
use lib.ListN.{length}
use Rattle.lists.proofs.Done.{done_none, done_turn, done_map}
use Rattle.model.specs.State.{fresh_output}
use Rattle.model.specs.Outputs.{pulsed}
use borrow.Author.Rules.{rules}
use native.Mathlib.Omega.{arith}
use Rattle.outputs.proofs.pulse_outputs.Goals as goal
use Rattle.outputs.proofs.pulse_outputs.Goals.{Start}

long : (c : Start) → length c.args.a ≡ 16
long c = search rules

pub loop-o-init : goal.loop-o-init
loop-o-init c = sym (done_none _ _)

pub loop-o-preserved : goal.loop-o-preserved
loop-o-preserved c =
    let a = c.args.a in
    let h : c.loop-o.o-index < length a = rw (long (goal.at.loop-o-preserved c).Start) (omega arith) in
    rw (c.pulse.ensures, c.loop-o.invariant) (done_turn (λ k o. pulsed o) c.loop-o.o-index a fresh_output h)

pub returns : goal.returns
returns c =
    let e : c.loop-o.o-index ≡ 16 = omega arith in
    c.loop-o.invariant ∙ rw e (done_map pulsed 16 c.args.a (long (goal.at.returns c).Start))

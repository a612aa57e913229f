-- `lists::Bounded::append` meets its contract. Assumes nothing.
use Rattle.std.proofs.Common.{◌≡◌, refl, ◌∙◌}
use borrow.Author.Tests.{lt-ltb, le-ltb}
use Rattle.lists.specs.Bounded.{added}
use Rattle.lists.proofs.Loops.{each_goes, each_ends}
use Rattle.lists.proofs.Bounded.append.Goals as goal
use Rattle.lists.proofs.Bounded.append.Goals.{then-out, else-out}

pub loop-x-preserved : goal.loop-x-preserved
unfolding added
loop-x-preserved g c =
    let one : c.if-out.out ≡ added c.loop-x.out c.x-item.result = elim c.if-out.branch [ then-out w ↦ rw (w.out-is, lt-ltb _ _ w.if-out.true) | else-out w ↦ rw (w.out-is, le-ltb _ _ w.if-out.false) ] in
    let goes = each_goes added c.loop-x.out c.args.more.now refl c.loop-x.x-index c.x-item.result c.loop-x-test.true in
    rw one ((rw (← c.x-item.is) at goes) ∙ c.loop-x.invariant)

pub returns : goal.returns
returns g c = each_ends added c.loop-x.out c.args.more.now refl c.loop-x.x-index c.loop-x-test.false ∙ c.loop-x.invariant

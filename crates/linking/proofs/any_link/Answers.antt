-- `linking::any_link` meets its contract. Assumes nothing.
use borrow.Author.Rules.{rules}
use native.Mathlib.Omega.{arith}
use mathlib.Core.Path.{◌≡◌, sym, ◌∙◌}
use lib.ListN.{length, get_or}
use Rattle.lists.proofs.Somes.{some_none, some_turn, some_any}
use Rattle.model.specs.State.{fresh_link, has_link}
use Rattle.linking.proofs.Laws.{any_as}
use Rattle.linking.proofs.any_link.Goals as goal
use Rattle.linking.proofs.any_link.Goals.{Start}

long : (c : Start) → length c.args.links ≡ 16
long c = search rules

pub loop-i-init : goal.loop-i-init
loop-i-init c = (omega arith, some_none _)

pub loop-i-preserved : goal.loop-i-preserved
loop-i-preserved c =
    (omega arith, rw (c.is_linked-found.ensures, c.loop-i.invariant.1) (some_turn (λ k. has_link (get_or c.args.links k fresh_link)) c.loop-i.i))

pub returns : goal.returns
returns c =
    let e : c.loop-i.i ≡ 16 = omega arith in
    c.loop-i.invariant.1 ∙ rw e (rw (long (goal.at.returns c).Start) at (sym (any_as has_link c.args.links ∙ some_any (λ k x. has_link x) c.args.links fresh_link)))

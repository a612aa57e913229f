-- `linking::set_bits` meets its contract. Assumes nothing.
use Rattle.std.proofs.Common.{rules, arith, ◌≡◌, refl, length, ◌∙◌}
use Rattle.lists.specs.Numbers.{bits_number}
use Rattle.linking.specs.Links.{sets}
use Rattle.linking.proofs.Laws.{bits_turn, bits_whole}
use Rattle.linking.proofs.set_bits.Goals as goal
use Rattle.linking.proofs.set_bits.Goals.{Start}

long : (c : Start) → length c.args.links ≡ 16
long c = search rules

pub loop-i-init : goal.loop-i-init
unfolding bits_number
loop-i-init c = (omega arith, refl)

pub loop-i-preserved : goal.loop-i-preserved
loop-i-preserved c =
    (omega arith, rw (c.from.ensures, c.is_set.ensures, c.loop-i.invariant.1) (bits_turn (sets c.args.found c.args.states) c.args.links c.loop-i.i (long (goal.at.loop-i-preserved c).Start) (omega arith)))

pub returns : goal.returns
returns c =
    let e : c.loop-i.i ≡ 16 = omega arith in
    c.loop-i.invariant.1 ∙ rw e (bits_whole (sets c.args.found c.args.states) c.args.links (long (goal.at.returns c).Start))

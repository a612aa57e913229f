-- `spinel_reads::show_groups` meets its contract. Assumes nothing.
use Rattle.std.proofs.Common.{rules, ◌≡◌}
use Rattle.model.specs.Temperature.{group_shown}
use Rattle.spinel_reads.specs.Shown.{all_if_none}
use Rattle.spinel_reads.proofs.show_groups.Goals as goal
use Rattle.spinel_reads.proofs.show_groups.Goals.{Joined-is_empty, then-is_empty, else-is_empty}

asked : (c : Joined-is_empty) → c.if-is_empty.asked.now ≡ all_if_none c.args.d.now
unfolding all_if_none
asked c = elim c.if-is_empty.branch [ then-is_empty w ↦ rw (w.asked-is, ← w.if-is_empty.ensures) | else-is_empty w ↦ rw (w.asked-is, ← w.if-is_empty.ensures) ]

pub returns : goal.returns
returns c =
    rw (← asked (goal.at.returns c).Joined-is_empty) (c.show_listed.ensures (group_shown c.args.hs) (λ n out r p. search rules))

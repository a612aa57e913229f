-- `inputs::sample` meets its contract. Assumes nothing.
use borrow.Author.Rules.{rules}
use mathlib.Core.Path.{◌≡◌, refl, sym, ◌∙◌}
use lib.ListN.{length}
use Rattle.lists.proofs.DataLaws.{field_length}
use Rattle.inputs.proofs.Edges.{with_edge, without_edge, still, no_own_edge}
use Rattle.inputs.proofs.sample.Goals as goal
use Rattle.inputs.proofs.sample.Goals.{After-sample_lines-lines, Start}

lines_long : (c : After-sample_lines-lines) → length c.sample_lines-lines.result ≡ 16
lines_long c = search rules

given-long : (c : Start) → length c.args.x.lines ≡ 16
given-long c = search rules

counters-long : (c : Start) → length c.args.x.counters ≡ 16
counters-long c = field_length c.args.x.counters (search rules)

pub returns-then-not-any_moving : goal.returns-then-not-any_moving
returns-then-not-any_moving c =
    let a = c.args in
    let at = goal.at.returns-then-not-any_moving c in
    without_edge a.bits a.sampling a.modes a.x a.x.lines (still a.sampling a.bits a.x.lines (sym c.any_moving.ensures ∙ c.if-not-any_moving.true)) _ refl (no_own_edge a.x.lines) (given-long at.Start ∙ sym (counters-long at.Start))

pub returns-then-not-any_edge : goal.returns-then-not-any_edge
returns-then-not-any_edge c =
    let a = c.args in
    let at = goal.at.returns-then-not-any_edge c in
    without_edge a.bits a.sampling a.modes a.x _ c.sample_lines-lines.ensures _ c.edges_of-edges.ensures (sym c.if-not-any_edge.true ∙ c.any_edge.ensures) (lines_long at.After-sample_lines-lines ∙ sym (counters-long at.Start))

pub returns : goal.returns
returns c =
    let a = c.args in
    with_edge a.bits a.sampling a.modes a.x _ c.sample_lines-lines.ensures _ c.edges_of-edges.ensures _ _ _ c.count_lines-counters.ensures c.bits_of.ensures c.stable_bits.ensures (sym c.if-not-any_edge.false ∙ c.any_edge.ensures)

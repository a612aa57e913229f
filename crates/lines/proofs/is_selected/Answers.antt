-- `lines::is_selected` meets its contract. Assumes nothing.
use Rattle.model.specs.Samples.{selected_edge}
use Rattle.lines.proofs.Modes.{selected_formula}
use Rattle.lines.proofs.is_selected.Goals as goal

pub returns : goal.returns
unfolding selected_edge
returns c =
    let a = c.args in
    rw c.is_edge.ensures (selected_formula a.mode a.was.stable a.now.stable)

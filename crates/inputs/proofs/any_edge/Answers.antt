-- `inputs::any_edge` meets its contract. Assumes nothing.
use mathlib.Core.Path.{◌∙◌}
use Rattle.inputs.proofs.Edges.{has_true}
use Rattle.inputs.proofs.any_edge.Goals as goal

pub returns : goal.returns
returns c = c.contains.ensures.value ∙ has_true c.args.edged

-- `inputs::edges_of` meets its contract. Assumes nothing.
use Rattle.std.proofs.Common.{rules}
use lib.ListN.{get_or}
use Rattle.model.specs.State.{fresh_line}
use Rattle.model.specs.Samples.{is_edge, edges}
use Rattle.lists.proofs.Made.{made}
use Rattle.inputs.proofs.edges_of.Goals as goal

pub returns : goal.returns
unfolding edges
returns c =
    let a = c.args in
    made _ (λ i x. is_edge x (get_or a.now i fresh_line)) _ a.was _ 16 c.from_fn.ensures.items (search rules) fresh_line (λ k y q l e. search rules)

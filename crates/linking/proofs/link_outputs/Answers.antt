-- `linking::link_outputs` meets its contract. Assumes nothing.
use Rattle.std.proofs.Common.{sym, ◌∙◌}
use Rattle.linking.specs.Links.{linked_by}
use Rattle.linking.proofs.Laws.{no_link_sets}
use Rattle.linking.proofs.link_outputs.Goals as goal

pub returns-then-any_link : goal.returns-then-any_link
returns-then-any_link c = rw c.in-Some.is c.drive.ensures

pub returns-else-any_link : goal.returns-else-any_link
returns-else-any_link c =
    let a = c.args in
    let e = c.in-Some.e in
    rw c.in-Some.is (no_link_sets e.found e.states a.links a.a (sym c.any_link.ensures ∙ c.if-any_link.false))

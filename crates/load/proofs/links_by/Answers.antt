-- `load::links_by` meets its contract. Assumes nothing.
use Rattle.std.proofs.Common.{rules, ne_eqb, ◌+◌, replicate}
use Rattle.lists.proofs.Made.{made}
use Rattle.model.specs.State.{link, fresh_link}
use Rattle.load.specs.Play.{links_by}
use Rattle.load.proofs.links_by.Goals as goal

pub returns-then-action-eq0 : goal.returns-then-action-eq0
unfolding links_by
returns-then-action-eq0 c = rw c.if-action-eq0.true

pub returns : goal.returns
unfolding links_by
returns c =
    rw (ne_eqb _ _ c.if-action-eq0.false) (made _ (λ i l. link (i + 1) c.args.action) _ (replicate 16 fresh_link) _ 16 c.from_fn.ensures.items (search rules) fresh_link (λ k y q l e. search rules))

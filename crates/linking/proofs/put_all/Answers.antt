-- `linking::put_all` meets its contract. Assumes nothing.
use Rattle.std.proofs.Common.{rules}
use mathlib.Core.Bool.{cond}
use Rattle.lists.specs.Numbers.{bit_at}
use Rattle.lists.proofs.Made.{made}
use Rattle.model.specs.State.{output, fresh_output}
use Rattle.linking.specs.Links.{outputs_set}
use Rattle.linking.proofs.put_all.Goals as goal

pub returns : goal.returns
unfolding outputs_set
returns c =
    let a = c.args in
    made _ (λ i o. cond (bit_at a.s.set i) (output (bit_at a.s.on i) 0) o) _ a.a _ 16 c.from_fn.ensures.items (search rules) fresh_output (λ k y q l e. search rules)

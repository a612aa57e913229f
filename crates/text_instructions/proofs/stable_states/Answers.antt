-- `text_instructions::stable_states` meets its contract. Assumes nothing.
use Rattle.std.proofs.Common.{rules}
use Rattle.lists.proofs.Chains.{mapped}
use Rattle.model.specs.declared.Line.{Line}
use Rattle.model.specs.State.{fresh_line}
use Rattle.text_instructions.proofs.stable_states.Goals as goal

pub returns : goal.returns
returns c = mapped _ (λ (y : Line). y.stable) _ _ _ 16 c.map.ensures.items (search rules) fresh_line (λ p x y q k. search rules)

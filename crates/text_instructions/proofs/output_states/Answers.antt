-- `text_instructions::output_states` meets its contract. Assumes nothing.
use Rattle.std.proofs.Common.{rules}
use Rattle.lists.proofs.Chains.{mapped}
use Rattle.model.specs.declared.Output.{Output}
use Rattle.model.specs.State.{fresh_output}
use Rattle.text_instructions.proofs.output_states.Goals as goal

pub returns : goal.returns
returns c = mapped _ (λ (o : Output). o.on) _ _ _ 16 c.map.ensures.items (search rules) fresh_output (λ p x y q k. search rules)

-- `register_reads::output_words` meets its contract. Assumes nothing.
use Rattle.std.proofs.Common.{rules}
use Rattle.lists.proofs.Chains.{mapped}
use Rattle.model.specs.State.{fresh_output}
use Rattle.model.specs.Registers.{output_word}
use Rattle.register_reads.proofs.output_words.Goals as goal

pub returns : goal.returns
returns c = mapped _ output_word _ _ _ 16 c.map.ensures.items (search rules) fresh_output (λ p x y q k. search rules)

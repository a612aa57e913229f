-- `spinel_reads::output_bits` meets its contract. Assumes nothing.
use Rattle.std.proofs.Common.{rules, ◌∙◌, ap}
use Rattle.lists.specs.Numbers.{bits_number}
use Rattle.lists.proofs.Chains.{mapped}
use Rattle.model.specs.declared.Output.{Output}
use Rattle.model.specs.State.{fresh_output}
use Rattle.spinel_reads.proofs.output_bits.Goals as goal

pub returns : goal.returns
returns c =
    c.bits_of.ensures ∙ ap bits_number (mapped _ (λ (o : Output). o.on) _ _ _ 16 c.map.ensures.items (search rules) fresh_output (λ p x y q k. search rules))

-- `inputs::sample_lines` meets its contract. Assumes nothing.
use Rattle.std.proofs.Common.{rules}
use Rattle.lists.specs.Numbers.{bit_at}
use Rattle.lists.proofs.Made.{made}
use Rattle.model.specs.State.{fresh_line}
use Rattle.model.specs.Samples.{line_sampled, lines_sampled}
use Rattle.inputs.proofs.sample_lines.Goals as goal

pub returns : goal.returns
unfolding lines_sampled
returns c =
    let a = c.args in
    made _ (λ i x. line_sampled a.sampling (bit_at a.bits i) x) _ a.a _ 16 c.from_fn.ensures.items (search rules) fresh_line (λ k y q l e. search rules)

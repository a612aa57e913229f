-- `inputs::stable_bits` meets its contract. Assumes nothing.
use Rattle.std.proofs.Common.{rules, ◌∙◌, ap}
use Rattle.lists.specs.Numbers.{bits_number}
use Rattle.lists.proofs.Done.{mapi-map}
use Rattle.lists.proofs.Made.{made}
use Rattle.model.specs.declared.Line.{Line}
use Rattle.model.specs.State.{fresh_line}
use Rattle.inputs.specs.Passes.{stable_bits}
use Rattle.inputs.proofs.stable_bits.Goals as goal

pub returns : goal.returns
unfolding stable_bits
returns c =
    let a = c.args.a in
    c.bits_of.ensures
    ∙ ap bits_number (made _ (λ i (x : Line). x.stable) _ a _ 16 c.from_fn.ensures.items (search rules) fresh_line (λ k y q l e. search rules) ∙ mapi-map (λ (x : Line). x.stable) a)

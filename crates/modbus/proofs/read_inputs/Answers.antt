-- `modbus::read_inputs` meets its contract. Assumes nothing.
use Rattle.std.proofs.Common.{◌≡◌, ◌∙◌, sym, length, rules}
use lib.ListN.{length-map}
use Rattle.model.specs.declared.Line.{Line}
use Rattle.model.specs.Samples.{input_states}
use Rattle.inputs.specs.Passes.{stable_bits}
use Rattle.modbus.proofs.read_inputs.Goals as goal

pub returns : goal.returns
unfolding stable_bits
returns c =
    let x = c.args.x in
    let long : length x.lines ≡ 16 = search rules in
    c.read_states.ensures (input_states x) (length-map x.lines (λ (y : Line). y.stable) ∙ long) (sym c.stable_bits.ensures)

-- `inputs::any_masked` meets its contract. Assumes nothing.
use Rattle.inputs.proofs.Masks.{masked_bits}
use Rattle.inputs.proofs.any_masked.Goals as goal

pub returns : goal.returns
returns c edged e = rw e (masked_bits edged c.args.mask)

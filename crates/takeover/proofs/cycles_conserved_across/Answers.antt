-- `takeover::cycles_conserved_across` meets its contract, which is demand 3 across the take-over. Assumes nothing.
use Rattle.takeover.proofs.Conservation.{conserved_across}
use Rattle.takeover.proofs.cycles_conserved_across.Goals as goal

pub returns : goal.returns
returns c = conserved_across

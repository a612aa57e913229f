-- `spinel_reads::read_pulses` meets its contract. Assumes nothing.
use Rattle.std.proofs.Common.{rules, arith}
use Rattle.model.specs.Outputs.{pulse_shown}
use Rattle.spinel_reads.proofs.read_pulses.Goals as goal

pub returns : goal.returns
unfolding pulse_shown
returns c = c.list_read.ensures (pulse_shown c.args.os) (λ n out r p. search rules) (λ n. omega arith)

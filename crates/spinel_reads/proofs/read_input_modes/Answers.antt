-- `spinel_reads::read_input_modes` meets its contract. Assumes nothing.
use Rattle.std.proofs.Common.{rules, arith}
use Rattle.model.specs.Counters.{mode_shown}
use Rattle.spinel_reads.proofs.read_input_modes.Goals as goal

pub returns : goal.returns
unfolding mode_shown
returns c = c.list_read.ensures (mode_shown c.args.ms) (λ n out r p. search rules) (λ n. omega arith)

-- `spinel_reads::read_modes` meets its contract. Assumes nothing.
use Rattle.std.proofs.Common.{rules, arith}
use Rattle.model.specs.Outputs.{mode_byte}
use Rattle.spinel_reads.proofs.read_modes.Goals as goal

pub returns : goal.returns
unfolding mode_byte
returns c = c.list_read.ensures (mode_byte c.args.hs c.args.ps) (λ n out r p. search rules) (λ n. omega arith)

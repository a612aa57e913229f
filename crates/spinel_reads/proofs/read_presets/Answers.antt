-- `spinel_reads::read_presets` meets its contract. Assumes nothing.
use Rattle.std.proofs.Common.{rules, arith}
use Rattle.model.specs.Outputs.{preset_shown}
use Rattle.spinel_reads.proofs.read_presets.Goals as goal

pub returns : goal.returns
unfolding preset_shown
returns c = c.list_read.ensures (preset_shown c.args.ps) (λ n out r p. search rules) (λ n. omega arith)

-- `spinel_reads::read_links` meets its contract. Assumes nothing.
use Rattle.std.proofs.Common.{rules, arith}
use Rattle.model.specs.Links.{link_shown}
use Rattle.spinel_reads.proofs.read_links.Goals as goal

pub returns : goal.returns
unfolding link_shown
returns c = c.list_read.ensures (link_shown c.args.ls) (λ n out r p. search rules) (λ n. omega arith)

-- `script::without_cr` meets its contract. Assumes nothing.
use mathlib.Core.Path.{refl}
use Rattle.script.proofs.Bodies.{uncr_law}
use Rattle.script.proofs.without_cr.Goals as goal

pub returns : goal.returns
returns c = rw c.unwrap_or.ensures (uncr_law c.args.line.now c.strip_suffix.result c.args.line refl c.strip_suffix.ensures.cases)

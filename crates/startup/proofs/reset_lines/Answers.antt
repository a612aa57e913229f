-- `startup::reset_lines` meets its contract. Assumes nothing.
use Rattle.std.proofs.Common.{rules}
use Rattle.lists.proofs.Chains.{mapped}
use Rattle.model.specs.declared.Line.{Line}
use Rattle.model.specs.State.{line, fresh_line}
use Rattle.model.specs.Counters.{runs_ended}
use Rattle.startup.proofs.reset_lines.Goals as goal

pub returns : goal.returns
unfolding runs_ended
returns c =
    mapped _ (λ (y : Line). line y.stable 0) _ _ _ 16 c.map.ensures.items (search rules) fresh_line (λ p x y q k. search rules)

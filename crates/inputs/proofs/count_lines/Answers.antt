-- `inputs::count_lines` meets its contract. Assumes nothing.
use Rattle.std.proofs.Common.{rules, ◌∙◌, ◌≡◌, length}
use mathlib.Core.Bool.{false}
use lib.ListN.{get_or}
use Rattle.model.specs.Samples.{counted}
use Rattle.inputs.proofs.Edges.{by_found}
use Rattle.lists.proofs.Made.{made}
use Rattle.inputs.proofs.count_lines.Goals as goal
use Rattle.inputs.proofs.count_lines.Goals.{Start}

lines_long : (c : Start) → length c.args.was ≡ length c.args.counters
lines_long c = search rules

pub returns : goal.returns
returns c =
    let a = c.args in
    made _ (λ i n. counted (get_or c.selected_lines-found.result i false) n) _ a.counters _ 16 c.from_fn.ensures.items (search rules) 0 (λ k y q l e. search rules)
    ∙ by_found _ a.was a.now a.modes a.counters (lines_long (goal.at.returns c).Start) c.selected_lines-found.ensures

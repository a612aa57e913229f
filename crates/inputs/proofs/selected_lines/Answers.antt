-- `inputs::selected_lines` meets its contract. The loop's invariant: the selected ones before `i`, then none. Assumes nothing.
use borrow.Author.Rules.{rules}
use native.Mathlib.Omega.{arith}
use Prim.Native.Nat.{◌<◌}
use mathlib.Core.Bool.{false}
use mathlib.Core.Path.{◌≡◌, sym, ◌∙◌}
use lib.ListN.{length, get_or}
use Rattle.lists.proofs.DataLaws.{made_turn, made_all}
use Rattle.lists.proofs.Done.{get_or-mapi, length-mapi}
use Rattle.model.specs.State.{fresh_line}
use Rattle.model.specs.Samples.{selected_edge}
use Rattle.inputs.specs.Passes.{selected_lines}
use Rattle.inputs.proofs.selected_lines.Goals as goal
use Rattle.inputs.proofs.selected_lines.Goals.{Start}

lines_long : (c : Start) → length c.args.was ≡ 16
lines_long c = search rules

long : (c : Start) → length (selected_lines c.args.modes c.args.was c.args.now) ≡ 16
unfolding selected_lines
long c = length-mapi _ c.args.was ∙ lines_long c

pub loop-i-preserved : goal.loop-i-preserved
unfolding selected_lines
loop-i-preserved c =
    let a = c.args in
    let t : c.loop-i.i < 16 = omega arith in
    let edge = get_or-mapi (λ k x. selected_edge (get_or a.modes k 0) x (get_or a.now k fresh_line)) a.was c.loop-i.i fresh_line false (rw (lines_long (goal.at.loop-i-preserved c).Start) t) in
    made_turn false (selected_lines a.modes a.was a.now) c.loop-i.found c.loop-i.i (long (goal.at.loop-i-preserved c).Start) c.loop-i.invariant (c.is_selected.ensures ∙ sym edge) t

pub returns : goal.returns
returns c =
    let a = c.args in
    made_all false (selected_lines a.modes a.was a.now) c.loop-i.found c.loop-i.i (long (goal.at.returns c).Start) c.loop-i.invariant (omega arith)

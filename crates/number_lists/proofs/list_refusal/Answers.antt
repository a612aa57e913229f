-- `number_lists::list_refusal` meets its contract: its two checks in turn. Assumes nothing.
use Rattle.std.proofs.Common.{◌≡◌, Err, rules}
use mathlib.Core.Bool.{not}
use Rattle.model.specs.Counters.{items_of}
use Rattle.model.proofs.Refusing.{stops, goes}
use Rattle.number_lists.specs.Items.{list_refusal}
use Rattle.number_lists.proofs.Lists.{items_length}
use Rattle.number_lists.proofs.list_refusal.Goals as goal

pub returns-in_err-refused_if : goal.returns-in_err-refused_if
unfolding list_refusal
returns-in_err-refused_if c =
    let e : c.from_residual.result ≡ Err c.in_err-refused_if.field-0.0 = search rules in
    rw e (stops (not (items_of 1 c.args.d.now)) 8 _ _ (rw (c.items_of.ensures, ← items_length 1 c.args.d.now) at c.in_err-refused_if.ensures))

pub returns : goal.returns
unfolding list_refusal
returns c =
    rw (c.refused_if-2.ensures, c.all_listed.ensures) (goes (not (items_of 1 c.args.d.now)) 7 _ (rw (c.items_of.ensures, ← items_length 1 c.args.d.now) at c.in_ok-refused_if.ensures))

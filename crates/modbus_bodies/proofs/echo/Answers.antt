-- `modbus_bodies::echo` meets its contract. Assumes nothing.
use Rattle.std.proofs.Common.{ℕ, rules, tests, refl, get_or}
use Rattle.std.proofs.lemmas.Iterator.{YieldsList-from_range}
use Rattle.std.proofs.lemmas.Iterator.Consumers.{fold_from_yields_List}
use Rattle.lists.specs.Data.{Data, pushed}
use Rattle.lists.proofs.DataLaws.{four_pushed}
use Rattle.modbus_bodies.proofs.echo.Goals as goal

pub returns : goal.returns
returns c m =
    let body = fold_from_yields_List _ (λ (d : Data) (i : ℕ). pushed d (get_or c.args.b.now i 0)) _ _ c.fold-body.ensures.ran (YieldsList-from_range 0 4 4 refl refl) (λ a x y q k. search (rules, tests)) in
    rw (c.in_ok-after.was, body, c.empty.ensures, four_pushed)

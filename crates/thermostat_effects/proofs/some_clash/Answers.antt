-- `thermostat_effects::some_clash` meets its contract. Assumes nothing.
use borrow.Author.Tests.{tests}
use Rattle.std.proofs.Common.{rules, ◌∙◌}
use Rattle.std.proofs.lemmas.Iterator.Search.{any_from_yields_List}
use Rattle.std.proofs.lemmas.Iterator.{YieldsList-from_slice}
use Rattle.lists.proofs.Chains.{any_same}
use Rattle.thermostat_effects.specs.Parts.{setpoint_clashes}
use Rattle.thermostat_effects.proofs.some_clash.Goals as goal

pub returns : goal.returns
returns c =
    let test = setpoint_clashes c.args.ls.now in
    any_from_yields_List test _ _ _ c.any.ensures.ran (YieldsList-from_slice c.args.es.now cc) (λ x b q k. search (rules, tests)) ∙ any_same test c.args.es.now

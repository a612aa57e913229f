-- `thermostat_effects::all_fit` meets its contract. Assumes nothing.
use borrow.Author.Tests.{tests}
use Rattle.std.proofs.Common.{rules, ◌∙◌}
use Rattle.std.proofs.lemmas.Iterator.Search.{all_from_yields_List}
use Rattle.std.proofs.lemmas.Iterator.{YieldsList-from_slice}
use Rattle.lists.proofs.Chains.{all_same}
use Rattle.thermostat_effects.specs.Parts.{setpoint_fits}
use Rattle.thermostat_effects.proofs.all_fit.Goals as goal

pub returns : goal.returns
returns c =
    all_from_yields_List setpoint_fits _ _ _ c.all.ensures.ran (YieldsList-from_slice c.args.es.now cc) (λ x b q k. search (rules, tests)) ∙ all_same setpoint_fits c.args.es.now

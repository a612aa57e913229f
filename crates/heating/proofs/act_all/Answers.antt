-- `heating::act_all` meets its contract. Assumes nothing.
use Rattle.std.proofs.Common.{rules}
use lib.ListN.{get_or}
use Rattle.model.specs.State.{fresh_output, fresh_thermostat}
use Rattle.thermostat.specs.Acting.{acting}
use Rattle.lists.proofs.Made.{made}
use Rattle.heating.proofs.act_all.Goals as goal

pub returns : goal.returns
returns c =
    let a = c.args in
    made _ (λ i o. acting a.last a.r (get_or a.hs i fresh_thermostat) o) _ a.os _ 16 c.from_fn.ensures.items (search rules) fresh_output (λ k y q l e. search rules)

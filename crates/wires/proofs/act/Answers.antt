-- `wires::act` meets its contract. Assumes nothing.
use Rattle.std.proofs.Common.{Ok, Err, rules, tests}
use Rattle.model.specs.Wire.{used_up}
use Rattle.outcomes.specs.Parts.{outcome}
use Rattle.wires.proofs.Laws.{acted_as}
use Rattle.wires.proofs.act.Goals as goal

pub returns-in-Ok : goal.returns-in-Ok
returns-in-Ok g c =
    let a = c.args in
    let w = g.W.Wire in
    let x = outcome (used_up w.wire a.m) (Ok c.in-Ok.served) in
    acted_as w.wire w.room a.frame.now a.m x c.answer.result (g.met.W.Wire.short _ _ _) (rw (c.with_port-used.ensures, c.permitted.ensures, c.port-port.ensures) at c.in-Ok.ensures) (rw c.port-port.ensures at (c.answer.ensures x.after)) _ (search (rules, tests))

pub returns-in-Err : goal.returns-in-Err
returns-in-Err g c =
    let a = c.args in
    let w = g.W.Wire in
    let x = outcome (used_up w.wire a.m) (Err c.in-Err.refusal) in
    acted_as w.wire w.room a.frame.now a.m x c.answer-in-Err.result (g.met.W.Wire.short _ _ _) (rw (c.with_port-used.ensures, c.permitted.ensures, c.port-port.ensures) at c.in-Err.ensures) (rw c.port-port.ensures at (c.answer-in-Err.ensures x.after)) _ (search (rules, tests))

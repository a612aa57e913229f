-- `output_effects::pulse_refusal` meets its contract: a byte is at most 255. Assumes nothing.
use Rattle.std.proofs.Common.{rules, arith, ◌≡◌, refl, Err, ◌∙◌}
use lib.Dec.{ltb}
use Rattle.model.specs.Refusals.{refusal_of}
use Rattle.model.specs.Outputs.{start_pulse, act_on, pulse_outputs}
use Rattle.model.proofs.Refusing.{stops, goes}
use Rattle.output_effects.proofs.Judging.{also_11}
use Rattle.lists.proofs.Choices.{byte_some}
use Rattle.output_effects.proofs.pulse_refusal.Goals as goal

pub returns-in_err-refused_if : goal.returns-in_err-refused_if
unfolding pulse_outputs act_on refusal_of
returns-in_err-refused_if c os =
    let a = c.args in
    let e : c.from_residual.result ≡ Err c.in_err-refused_if.field-0.0 = search rules in
    let q = act_on (start_pulse a.time) a.holders.now.reading a.holders.now.thermostats a.es.now os in
    rw (e, byte_some a.time.0 (omega arith)) (stops (ltb a.time.0 1) 11 _ _ c.in_err-refused_if.ensures ∙ also_11 q (ltb a.time.0 1) _ refl refl)

pub returns : goal.returns
unfolding pulse_outputs act_on refusal_of
returns c os =
    let a = c.args in
    let q = act_on (start_pulse a.time) a.holders.now.reading a.holders.now.thermostats a.es.now os in
    rw (c.switch_refusal.ensures (start_pulse a.time) os, byte_some a.time.0 (omega arith)) (goes (ltb a.time.0 1) 10 _ c.in_ok-refused_if.ensures ∙ also_11 q (ltb a.time.0 1) _ refl refl)

-- `thermostat_effects::read_temperature` meets its contract: 8 before 11. Assumes nothing.
use Rattle.std.proofs.Common.{rules, ◌≡◌, Err, not, length, get_or, ◌∙◌}
use lib.Dec.{eqb}
use Rattle.lists.proofs.Choices.{below}
use Rattle.model.specs.Refusals.{refusal_of}
use Rattle.model.specs.Temperature.{read_temperature}
use Rattle.model.proofs.Refusing.{stops, goes}
use Rattle.encoding.proofs.Telling.{told_refused, told_answered}
use Rattle.thermostat_effects.proofs.read_temperature.Goals as goal

pub returns-in_err-refused_if : goal.returns-in_err-refused_if
unfolding read_temperature refusal_of
returns-in_err-refused_if c =
    let d = c.args.d.now in
    let e : c.from_residual.result ≡ Err c.in_err-refused_if.field-0.0 = search rules in
    rw e (told_refused (read_temperature d c.args.r) _ (stops (not (eqb (length d) 1)) 8 _ _ c.in_err-refused_if.ensures))

pub returns-in_err-refused_if-2 : goal.returns-in_err-refused_if-2
unfolding read_temperature refusal_of
returns-in_err-refused_if-2 c =
    let d = c.args.d.now in
    let e : c.from_residual-in_err-refused_if-2.result ≡ Err c.in_err-refused_if-2.field-0.0 = search rules in
    rw e
    (told_refused (read_temperature d c.args.r) _ (rw (c.at.ensures, below 1 (get_or d 0 0)) at c.in_err-refused_if-2.ensures ∙ goes (not (eqb (length d) 1)) 7 _ c.in_ok-refused_if.ensures))

pub returns : goal.returns
unfolding read_temperature refusal_of
returns c =
    let d = c.args.d.now in
    told_answered (read_temperature d c.args.r) _ (rw (c.at.ensures, below 1 (get_or d 0 0)) at c.in_ok-refused_if-2.ensures ∙ goes (not (eqb (length d) 1)) 7 _ c.in_ok-refused_if.ensures) c.show_reading.ensures

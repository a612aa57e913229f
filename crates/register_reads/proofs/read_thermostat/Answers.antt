-- `register_reads::read_thermostat` meets its contract: the four registers of one thermostat, or 9. Assumes nothing.
use Rattle.std.proofs.Common.{rules, ◌≡◌, Err}
use Rattle.model.specs.Refusals.{refusal_of}
use Rattle.model.specs.Registers.{read_thermostat, thermostat_words}
use Rattle.model.proofs.Refusing.{passes}
use Rattle.encoding.proofs.Telling.{told_refused, told_answered}
use Rattle.groups.proofs.Inside.{four}
use Rattle.register_reads.proofs.read_thermostat.Goals as goal

pub returns-in_err-refused_if : goal.returns-in_err-refused_if
unfolding read_thermostat refusal_of
returns-in_err-refused_if c =
    let e : c.from_residual.result ≡ Err c.in_err-refused_if.field-0.0 = search rules in
    rw e (told_refused _ _ (rw (c.no_thermostat.ensures, c.from.ensures) at c.in_err-refused_if.ensures))

pub returns : goal.returns
unfolding read_thermostat thermostat_words refusal_of
returns c =
    let s = c.args in
    let passed = rw (c.no_thermostat.ensures, c.from.ensures) at c.in_ok-refused_if.ensures in
    told_answered _ _ passed (rw (c.show_words.ensures, c.thermostat_words-words.ensures, c.element.ensures, c.place-place.ensures, four s.a s.n (passes _ 8 passed)))

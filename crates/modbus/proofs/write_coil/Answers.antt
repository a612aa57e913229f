-- `modbus::write_coil` meets its contract. Assumes nothing.
use Rattle.std.proofs.Common.{◌≡◌, ◌∙◌, refl, Err, [], ◌∷◌, ◌/◌, length, rules, tests, arith}
use mathlib.Core.Bool.{not, ◌||◌}
use lib.Dec.{eqb}
use lib.Seq.{take_all}
use native.Mathlib.Nat.{le_of_eq}
use Rattle.model.specs.Refusals.{refuse, on_part}
use Rattle.model.specs.Outputs.{act_on}
use Rattle.model.specs.State.{with_outputs}
use Rattle.model.specs.Registers.{write_coils}
use Rattle.model.specs.Modbus.{start_of, second_of, answering, coil_written}
use Rattle.outcomes.specs.Parts.{outcome}
use Rattle.modbus_bodies.specs.Parts.{head_of}
use Rattle.modbus_bodies.proofs.Laws.{write_refused}
use Rattle.modbus_bodies.proofs.Echoes.{echoed_as, head_law}
use Rattle.modbus.proofs.Bodies.{four}
use Rattle.modbus.proofs.write_coil.Goals as goal

pub returns-in_err-refused_if : goal.returns-in_err-refused_if
unfolding coil_written write_coils act_on
returns-in_err-refused_if c =
    let m = c.args.m in
    let b = c.args.b.now in
    let q = refuse 11 (not (eqb (second_of b) 0xFF00 || eqb (second_of b) 0x0000)) (answering b (on_part (with_outputs m) (write_coils m.reading m.settings.thermostats (start_of b) (second_of b / 0xFF00 ∷ []) m.outputs))) in
    let r : c.from_residual.result ≡ Err c.in_err-refused_if.field-0.0 = search rules in
    rw r (write_refused m q (not (eqb (length b) 4)) _ refl c.in_err-refused_if.ensures)

pub returns : goal.returns
unfolding coil_written
returns c =
    let m = c.args.m in
    let b = c.args.b.now in
    let q = refuse 11 (not (eqb (second_of b) 0xFF00 || eqb (second_of b) 0x0000)) (write_coils m.reading m.settings.thermostats (start_of b) (second_of b / 0xFF00 ∷ []) m.outputs) in
    let long = four b c.in_ok-refused_if.ensures in
    echoed_as m (on_part (with_outputs m) q) (head_of b) b (not (eqb (length b) 4)) (outcome m c.write_coil.result) (head_law b (omega (arith, long)) ∙ take_all 4 b (le_of_eq long))
    (rw (c.write_coil.ensures, c.word_from-v.ensures, c.word_from-a.ensures))
    c.in_ok-refused_if.ensures _ (search (rules, tests)) _ (c.echo.ensures m)

-- `modbus::write_register` meets its contract. Assumes nothing.
use Rattle.std.proofs.Common.{◌≡◌, ◌∙◌, true, Err, [], ◌∷◌, length, rules, tests, arith}
use mathlib.Core.Bool.{not}
use lib.Dec.{eqb}
use lib.Seq.{take_all}
use native.Mathlib.Nat.{le_of_eq}
use Rattle.lists.proofs.ChunkLaws.{rest_whole}
use Rattle.model.specs.Modbus.{start_of, second_of, answering, registers_written, register_written}
use Rattle.outcomes.specs.Parts.{outcome}
use Rattle.modbus_bodies.specs.Parts.{head_of}
use Rattle.modbus_bodies.proofs.Laws.{write_refused}
use Rattle.modbus_bodies.proofs.Echoes.{echoed_as, head_law}
use Rattle.modbus.proofs.Bodies.{four, one_word}
use Rattle.modbus.proofs.Ranges.{writes_listed}
use Rattle.modbus.proofs.write_register.Goals as goal

pub returns-in_err-refused_if : goal.returns-in_err-refused_if
unfolding register_written
returns-in_err-refused_if c =
    let a = c.args in
    let b = a.b.now in
    let q = answering b (registers_written a.permitted true (start_of b) (second_of b ∷ []) a.m) in
    let r : c.from_residual.result ≡ Err c.in_err-refused_if.field-0.0 = search rules in
    rw r (write_refused a.m q (not (eqb (length b) 4)) _ (writes_listed a.permitted true (start_of b) (second_of b ∷ []) a.m) c.in_err-refused_if.ensures)

pub returns : goal.returns
unfolding register_written
returns c =
    let a = c.args in
    let b = a.b.now in
    let q = registers_written a.permitted true (start_of b) (second_of b ∷ []) a.m in
    let long = four b c.in_ok-refused_if.ensures in
    echoed_as a.m q (head_of b) b (not (eqb (length b) 4)) (outcome a.m c.write_group.result) (head_law b (omega (arith, long)) ∙ take_all 4 b (le_of_eq long))
    (rw (c.write_group.ensures, c.word_from-a.ensures, rest_whole 2 b, one_word b long))
    c.in_ok-refused_if.ensures _ (search (rules, tests)) _ (c.echo.ensures a.m)

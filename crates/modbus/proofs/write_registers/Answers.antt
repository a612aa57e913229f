-- `modbus::write_registers` meets its contract. Assumes nothing.
use Rattle.std.proofs.Common.{◌≡◌, ℕ, false, Err, ◌*◌, take, drop, rules, tests, arith}
use mathlib.Core.Bool.{cond}
use Rattle.lists.proofs.ChunkLaws.{rest_whole}
use Rattle.model.specs.Numbers.{number_of}
use Rattle.model.specs.Modbus.{start_of, second_of, count_wrong, words, answering, registers_written, several_written}
use Rattle.outcomes.specs.Parts.{outcome}
use Rattle.modbus_bodies.specs.Parts.{head_of}
use Rattle.modbus_bodies.proofs.Laws.{write_refused}
use Rattle.modbus_bodies.proofs.Echoes.{echoed_as, head_law}
use Rattle.modbus.proofs.Ranges.{writes_listed}
use Rattle.modbus.proofs.write_registers.Goals as goal

pub returns-in_err-count_refusal : goal.returns-in_err-count_refusal
unfolding several_written
returns-in_err-count_refusal c =
    let a = c.args in
    let b = a.b.now in
    let q = answering (take 4 b) (registers_written a.permitted false (start_of b) (words (drop 5 b)) a.m) in
    let r : c.from_residual.result ≡ Err c.in_err-count_refusal.field-0.0 = search rules in
    let e : number_of c.in_err-count_refusal.field-0.0 ≡ cond (count_wrong 123 (2 * c.from-size.result) b) 8 0 = c.in_err-count_refusal.ensures.number in
    rw r (write_refused a.m q (count_wrong 123 (2 * second_of b) b) _ (writes_listed a.permitted false (start_of b) (words (drop 5 b)) a.m) (rw (c.from-size.ensures, c.word_from-n.ensures) at e))

pub returns : goal.returns
unfolding several_written
returns c =
    let a = c.args in
    let b = a.b.now in
    let q = registers_written a.permitted false (start_of b) (words (drop 5 b)) a.m in
    let e : ◌≡◌ {A = ℕ} 0 (cond (count_wrong 123 (2 * c.from-size.result) b) 8 0) = c.in_ok-count_refusal.ensures.number in
    echoed_as a.m q (head_of b) (take 4 b) (count_wrong 123 (2 * second_of b) b) (outcome a.m c.write_group.result) (head_law b (omega (arith, c.in_ok-count_refusal.ensures.counted)))
    (rw (c.write_group.ensures, c.word_from-a.ensures, rest_whole 5 b))
    (rw (c.from-size.ensures, c.word_from-n.ensures) at e) _ (search (rules, tests)) _ (c.echo.ensures a.m)

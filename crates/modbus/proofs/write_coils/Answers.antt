-- `modbus::write_coils` meets its contract. Assumes nothing.
use Rattle.std.proofs.Common.{◌≡◌, ℕ, refl, Err, ◌+◌, ◌/◌, ◌%◌, min, take, drop, rules, tests, arith}
use mathlib.Core.Bool.{cond}
use Rattle.lists.proofs.ChunkLaws.{rest_whole}
use Rattle.model.specs.Numbers.{number_of}
use Rattle.model.specs.Refusals.{on_part}
use Rattle.model.specs.Outputs.{act_on}
use Rattle.model.specs.State.{with_outputs}
use Rattle.model.specs.Registers.{write_coils}
use Rattle.model.specs.Modbus.{start_of, second_of, count_wrong, bits_from, answering, coils_written}
use Rattle.outcomes.specs.Parts.{outcome}
use Rattle.modbus_bodies.specs.Parts.{head_of}
use Rattle.modbus_bodies.proofs.Laws.{write_refused}
use Rattle.modbus_bodies.proofs.Echoes.{echoed_as, head_law}
use Rattle.modbus.proofs.Bodies.{eighth}
use Rattle.modbus.proofs.write_coils.Goals as goal

pub returns-in_err-count_refusal : goal.returns-in_err-count_refusal
unfolding coils_written write_coils act_on
returns-in_err-count_refusal c =
    let m = c.args.m in
    let b = c.args.b.now in
    let q = answering (take 4 b) (on_part (with_outputs m) (write_coils m.reading m.settings.thermostats (start_of b) (bits_from 0 (second_of b) (drop 5 b)) m.outputs)) in
    let r : c.from_residual.result ≡ Err c.in_err-count_refusal.field-0.0 = search rules in
    let e : number_of c.in_err-count_refusal.field-0.0 ≡ cond (count_wrong 1968 (c.from.result / 8 + min 1 (c.from.result % 8)) b) 8 0 = rw c.div_ceil-size.ensures at c.in_err-count_refusal.ensures.number in
    rw r (write_refused m q (count_wrong 1968 ((second_of b + 7) / 8) b) _ refl (rw (eighth c.from.result, c.from.ensures, c.word_from-n.ensures) at e))

pub returns : goal.returns
unfolding coils_written
returns c =
    let m = c.args.m in
    let b = c.args.b.now in
    let q = write_coils m.reading m.settings.thermostats (start_of b) (bits_from 0 (second_of b) (drop 5 b)) m.outputs in
    let e : ◌≡◌ {A = ℕ} 0 (cond (count_wrong 1968 (c.from.result / 8 + min 1 (c.from.result % 8)) b) 8 0) = rw c.div_ceil-size.ensures at c.in_ok-count_refusal.ensures.number in
    echoed_as m (on_part (with_outputs m) q) (head_of b) (take 4 b) (count_wrong 1968 ((second_of b + 7) / 8) b) (outcome m c.write_coils.result) (head_law b (omega (arith, c.in_ok-count_refusal.ensures.counted)))
    (rw (c.write_coils.ensures, c.word_from-a.ensures, c.word_from-n.ensures, rest_whole 5 b))
    (rw (eighth c.from.result, c.from.ensures, c.word_from-n.ensures) at e) _ (search (rules, tests)) _ (c.echo.ensures m)

-- `digits::digits_of` meets its contract. The loop's invariant: what is left, after the number so far, comes to the whole. Assumes nothing.
use Prim.Native.Nat.{◌+◌, ◌*◌, ◌<◌, ◌≤◌}
use native.Mathlib.Omega.{arith}
use mathlib.Core.Path.{◌≡◌, sym, ap, ◌∙◌}
use lib.ListN.{get_or}
use borrow.Author.Tests.{lt-ltb}
use Rattle.digits.specs.Reading.{digit, digits, found}
use Rattle.digits.proofs.Digits.{found_some, found_none, some_if, none_if, digits_goes, digits_none, digits_large, digits_ends}
use Rattle.digits.proofs.digits_of.Goals as goal

pub returns-in_err-d : goal.returns-in_err-d
returns-in_err-d c =
    let none = found_none _ _ (sym c.digit_below.ensures ∙ c.in_err-d.was) in
    c.from_residual.ensures ∙ ap (found 65536) (digits_none _ _ _ _ c.loop-b-test.true none ∙ c.loop-b.invariant.1)

pub returns-in_err-checked_mul : goal.returns-in_err-checked_mul
returns-in_err-checked_mul c =
    let some = found_some _ _ (sym c.digit_below.ensures ∙ c.in_ok-d.was) in
    let n = c.loop-b.n in
    let large : 65536 ≤ n * c.args.base = omega (arith, rw c.from.ensures at (none_if _ _ c.checked_mul.ensures c.in_err-checked_mul.was)) in
    c.from_residual-in_err-checked_mul.ensures ∙ ap (found 65536) (digits_large _ _ _ _ c.loop-b-test.true some.0 (omega arith) ∙ c.loop-b.invariant.1)

pub returns-in_err-n : goal.returns-in_err-n
returns-in_err-n c =
    let some = found_some _ _ (sym c.digit_below.ensures ∙ c.in_ok-d.was) in
    let product = some_if _ c.checked_mul.ensures c.in_ok-checked_mul.was in
    let base = c.from.ensures in
    let large : 65536 ≤ c.loop-b.n * c.args.base + c.in_ok-d.d = rw (product.1, base, c.from-in-loop-b.ensures) at (let h : 65536 ≤ c.in_ok-checked_mul.field-0 + c.from-in-loop-b.result = omega (arith, none_if _ _ c.checked_add.ensures c.in_err-n.was) in h) in
    c.from_residual-in_err-n.ensures ∙ ap (found 65536) (digits_large _ _ _ _ c.loop-b-test.true some.0 (omega arith) ∙ c.loop-b.invariant.1)

pub loop-b-preserved : goal.loop-b-preserved
loop-b-preserved c =
    let some = found_some _ _ (sym c.digit_below.ensures ∙ c.in_ok-d.was) in
    let product = some_if _ c.checked_mul.ensures c.in_ok-checked_mul.was in
    let sum = some_if _ c.checked_add.ensures c.in_ok-n.was in
    let b = get_or c.args.w.now c.loop-b.b-index 0 in
    let e : c.in_ok-n.n ≡ c.loop-b.n * c.args.base + digit b = rw (sum.1, product.1, c.from.ensures, c.from-in-loop-b.ensures, some.1) in
    let small : c.loop-b.n * c.args.base + digit b < 65536 = rw (product.1, c.from.ensures, c.from-in-loop-b.ensures, sym some.1) at sum.0 in
    (rw e small, rw e (digits_goes c.args.base c.loop-b.n c.args.w.now c.loop-b.b-index c.loop-b-test.true some.0 small ∙ c.loop-b.invariant.1))

pub returns : goal.returns
returns c =
    let e : c.loop-b.n ≡ digits c.args.base 0 c.args.w.now = digits_ends _ _ _ _ c.loop-b-test.false ∙ c.loop-b.invariant.1 in
    rw (sym e) (rw (lt-ltb c.loop-b.n 65536 c.loop-b.invariant.0))

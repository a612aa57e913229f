-- `texts::answer_characters` meets its contract. Assumes nothing.
use Prim.Native.Nat.{ℕ, min}
use native.Mathlib.Omega.{arith}
use mathlib.Core.Path.{◌≡◌, sym}
use mathlib.Core.List.{List}
use borrow.Author.Tests.{eqb-true, eqb-false}
use lib.ListN.{length, take, length-take}
use Rattle.texts.proofs.Stores.{number_alone, number_before}
use Rattle.lists.proofs.Parts.{take-most}
use Rattle.texts.proofs.answer_characters.Goals as goal

-- what is shown: at most 256 bytes
shown : (n : ℕ) (reply : List ℕ) → n ≡ min (length reply) 256 → take n reply ≡ take 256 reply
shown n reply e = rw e (take-most 256 reply)

pub returns-then-is_empty : goal.returns-then-is_empty
returns-then-is_empty c =
    number_alone c.args.refusal _ (omega arith) c.number_text-number.ensures (rw (shown _ _ c.min.ensures) at (eqb-true _ _ (sym c.if-is_empty.ensures))) c.push.ensures

pub returns : goal.returns
returns c =
    let e = shown _ _ c.min.ensures in
    number_before c.args.refusal _ (omega arith) c.number_text-number.ensures (rw length-take (omega arith)) (rw e at (eqb-false _ _ (sym c.if-is_empty.ensures))) c.push-2.ensures (rw e at c.without_cr.ensures) c.append.ensures c.push-3.ensures

-- `texts::answer_text` meets its contract. The loop's invariant: what is stored is the number and the text of the bytes passed. Assumes nothing.
use Prim.Native.Nat.{ℕ, ◌+◌, ◌<◌, ◌≤◌, min}
use native.Mathlib.Omega.{arith}
use mathlib.Core.Path.{◌≡◌, sym, ap, ◌∙◌}
use mathlib.Core.List.{List, ◌++◌, append-nil}
use borrow.Author.Rules.{rules}
use lib.ListN.{length, take, length-take}
use lib.Seq.{take_all}
use Rattle.digits.specs.Writing.{decimal_text}
use Rattle.texts.specs.Texts.{bytes_text, answer_text, text_of}
use Rattle.texts.proofs.Stores.{push_law, push_byte, length-answer, bytes_turn}
use Rattle.lists.specs.Bounded.{added}
use Rattle.lists.proofs.Parts.{take-most}
use Rattle.texts.proofs.answer_text.Goals as goal

pub loop-b-init : goal.loop-b-init
unfolding bytes_text
loop-b-init c = rw (c.number_text-out.ensures, append-nil)

-- what is shown has at most 256 bytes
shown : (n : ℕ) (reply : List ℕ) → n ≡ min (length reply) 256 → length (take n reply) ≤ 256
shown n reply e = rw length-take (omega arith)

pub loop-b-preserved : goal.loop-b-preserved
loop-b-preserved c =
    let s = take c.min.result c.args.reply.now in
    let i = c.loop-b.b-index in
    let head = decimal_text c.args.refusal in
    let few : length (take i s) ≤ 255 = rw length-take (omega (arith, shown _ _ c.min.ensures, c.loop-b-test.true)) in
    let room : length (head ++ bytes_text (take i s)) + 2 < 772 = omega (arith, length-answer c.args.refusal 255 (take i s) (omega arith) few) in
    rw (c.put-in-loop-b-2.ensures, c.put-in-loop-b.ensures, c.put.ensures) (push_byte _ _ room c.hex_text-pair.ensures c.loop-b.invariant) ∙ ap text_of (bytes_turn head s i c.loop-b-test.true)

pub returns : goal.returns
unfolding answer_text
returns c =
    let reply = c.args.reply.now in
    let s = take c.min.result reply in
    let head = decimal_text c.args.refusal in
    let same : s ≡ take 256 reply = rw (c.min.ensures, take-most 256 reply) in
    let e : c.loop-b.out ≡ text_of (head ++ bytes_text s) = rw (take_all c.loop-b.b-index s c.loop-b-test.false) at c.loop-b.invariant in
    let room : length (head ++ bytes_text s) < 772 = omega (arith, length-answer c.args.refusal 256 s (omega arith) (shown _ _ c.min.ensures)) in
    let whole : added c.loop-b.out 10 ≡ text_of (answer_text c.args.refusal (take 256 reply)) = rw (sym same) (push_law (head ++ bytes_text s) 10 room e) in
    search rules ∙ whole

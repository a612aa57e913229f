-- `register_reads::tell_words` meets its contract: outside the group, or the words. Assumes nothing.
use Rattle.std.proofs.Common.{rules, arith, ◌≡◌, ◌+◌, ◌-◌, ◌≤◌, length, Err}
use Rattle.lists.proofs.Parts.{part_length}
use Rattle.model.specs.Refusals.{refusal_of}
use Rattle.model.specs.Registers.{read_words}
use Rattle.model.proofs.Refusing.{passes}
use Rattle.groups.proofs.Inside.{inside}
use Rattle.encoding.proofs.Telling.{told_refused, told_answered}
use Rattle.register_reads.proofs.tell_words.Goals as goal

pub returns-in_err-refused_if : goal.returns-in_err-refused_if
unfolding read_words refusal_of
returns-in_err-refused_if c =
    let e : c.from_residual.result ≡ Err c.in_err-refused_if.field-0.0 = search rules in
    rw e (told_refused _ _ (rw (c.is_outside.ensures, c.from-count.ensures) at c.in_err-refused_if.ensures))

pub returns : goal.returns
unfolding read_words refusal_of
returns c =
    let s = c.args in
    let ws = s.words.now in
    let k = s.a - s.g.first in
    let passed = rw (c.is_outside.ensures, c.from-count.ensures) at c.in_ok-refused_if.ensures in
    let i = inside s.g s.a s.n (passes _ 8 passed) in
    let fits : k + s.n ≤ length ws = omega (arith, i.begins, i.ends, c.requires.whole) in
    let size : k + s.n - k ≡ s.n = omega arith in
    told_answered _ _ passed (rw (c.show_words.ensures, c.place-k.ensures, c.from-count.ensures, size, part_length ws k s.n fits))

-- `bit_reads::read_bits` meets its contract: outside the sixteen, or the bits. Assumes nothing.
use Rattle.std.proofs.Common.{rules, ◌≡◌, Err}
use Rattle.model.specs.Refusals.{refusal_of}
use Rattle.encoding.proofs.Telling.{told_refused, told_answered}
use Rattle.bit_reads.specs.Answers.{bits_told}
use Rattle.bit_reads.proofs.read_bits.Goals as goal

pub returns-in_err-refused_if : goal.returns-in_err-refused_if
unfolding bits_told refusal_of
returns-in_err-refused_if c =
    let outside = rw c.from.ensures at c.is_outside.ensures in
    let e : c.from_residual.result ≡ Err c.in_err-refused_if.field-0.0 = search rules in
    rw e (told_refused _ _ (rw outside at c.in_err-refused_if.ensures))

pub returns : goal.returns
unfolding bits_told refusal_of
returns c =
    let outside = rw c.from.ensures at c.is_outside.ensures in
    told_answered _ _ (rw outside at c.in_ok-refused_if.ensures) (rw (c.show_bits.ensures, c.bits_part.ensures))

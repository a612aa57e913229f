-- `replies::word_reply` meets its contract. Assumes nothing.
use Rattle.std.proofs.Common.{arith, ◌≡◌, ◌∙◌, sym, ◌/◌, ◌%◌}
use native.Mathlib.Nat.{mod-eq_of_lt}
use Rattle.lists.specs.Numbers.{bytes}
use Rattle.model.specs.Frames.{spinel_reply}
use Rattle.replies.proofs.word_reply.Goals as goal

pub returns : goal.returns
unfolding spinel_reply bytes
returns c =
    let high : c.high_byte-high.result ≡ c.args.word / 256 % 256 = c.high_byte-high.ensures ∙ sym (mod-eq_of_lt (omega (arith, c.ranges.word.fits))) in
    rw (c.spinel_sum-sum.ensures, high, c.low_byte-low.ensures)

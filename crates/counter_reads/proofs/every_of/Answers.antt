-- `counter_reads::every_of` meets its contract. Assumes nothing.
use borrow.Author.Tests.{lt-leb, le-leb}
use Rattle.std.proofs.Common.{rules, bit_or, refl, ℕ}
use Rattle.lists.proofs.Chains.{mapped}
use Rattle.counter_reads.specs.Reading.{every_of}
use Rattle.counter_reads.proofs.every_of.Goals as goal

pub returns-then-p-lt128 : goal.returns-then-p-lt128
unfolding every_of
returns-then-p-lt128 c = rw (lt-leb _ _ c.if-p-lt128.true)

pub returns-else-p-lt128 : goal.returns-else-p-lt128
unfolding every_of
returns-else-p-lt128 c =
    rw (le-leb _ _ c.if-p-lt128.false) (mapped _ (λ (n : ℕ). bit_or n 128) _ _ _ 16 c.map.ensures.items refl 0 (λ p x y q k. search rules))

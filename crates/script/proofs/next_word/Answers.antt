-- `script::next_word` meets its contract. Assumes nothing.
use mathlib.Core.Path.{sym}
use borrow.Author.Tests.{eqb-true, eqb-false}
use Rattle.script.specs.Words.{blank, solid}
use Rattle.script.proofs.Leading.{leading_le}
use Rattle.script.proofs.Splits.{none_left, word_left, behind_left, less_left}
use Rattle.script.proofs.next_word.Goals as goal

pub slice_bounds-start-count : goal.slice_bounds-start-count
slice_bounds-start-count c = rw c.blanks.ensures (leading_le blank _)

pub slice_bounds-start-start : goal.slice_bounds-start-start
slice_bounds-start-start c = rw c.blanks.ensures (leading_le blank _)

pub returns-then-is_empty-clause-cases : goal.returns-then-is_empty-clause-cases
returns-then-is_empty-clause-cases c = none_left _ _ c.blanks.ensures (eqb-true _ _ (sym c.if-is_empty.ensures))

pub split_at-requires : goal.split_at-requires
split_at-requires c = rw c.solids.ensures (leading_le solid _)

pub returns-clause-cases : goal.returns-clause-cases
returns-clause-cases c =
    rw (c.split_at.ensures.front, c.split_at.ensures.back) (word_left c.args.s.now c.blanks.result c.blanks.ensures c.solids.result c.solids.ensures (eqb-false _ _ (sym c.if-is_empty.ensures)))

pub returns-clause-rest : goal.returns-clause-rest
returns-clause-rest c =
    rw c.split_at.ensures.back (behind_left c.args.s.now c.blanks.result c.blanks.ensures c.solids.result c.solids.ensures (eqb-false _ _ (sym c.if-is_empty.ensures)))

pub returns-clause-shorter : goal.returns-clause-shorter
returns-clause-shorter c =
    rw c.split_at.ensures.back (less_left c.args.s.now c.blanks.result c.blanks.ensures c.solids.result c.solids.ensures (eqb-false _ _ (sym c.if-is_empty.ensures)))

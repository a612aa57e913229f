-- `digits::places_of` meets its contract. The loop's invariant: the digits counted and those of what is left are all. Assumes nothing.
use native.Mathlib.Omega.{arith}
use mathlib.Core.Path.{◌≡◌, sym, ◌∙◌}
use Rattle.digits.proofs.Characters.{count_stops, count_goes, count_ends}
use Rattle.digits.proofs.places_of.Goals as goal

pub returns-then-left-lt10 : goal.returns-then-left-lt10
returns-then-left-lt10 c = count_stops _ _ _ c.loop-count.invariant (omega arith) (omega arith)

pub loop-count-preserved : goal.loop-count-preserved
loop-count-preserved c = count_goes _ _ _ c.loop-count.invariant (omega arith) (omega arith)

pub returns : goal.returns
returns c =
    let all : c.loop-count.count ≡ 20 = omega arith in
    sym all ∙ count_ends _ _ _ c.loop-count.invariant c.loop-count-test.false

-- `rules::named_twice` meets its contract. The loop's invariant: a number stands twice among those left exactly where one does among all. Assumes nothing.
use mathlib.Core.Path.{◌≡◌}
use lib.ListN.{length}
use Rattle.model.specs.Counters.{named_twice}
use Rattle.rules.proofs.named_twice.Given as goal

abbrev pub invariant-loop-e : goal.invariant-loop-e
invariant-loop-e l = named_twice l.rest ≡ named_twice l.fn.es

abbrev pub decreases-loop-e : goal.decreases-loop-e
decreases-loop-e l = length l.rest

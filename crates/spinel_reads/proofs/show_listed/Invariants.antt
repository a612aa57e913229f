-- `spinel_reads::show_listed` meets its contract. The loop's invariant: the numbers left, after the reply so far, come to the whole. Assumes nothing.
use Rattle.std.proofs.Common.{◌≡◌, drop, ℕ, List}
use mathlib.Core.List.{[], flat_map}
use Rattle.lists.specs.Data.{data_of, extended}
use Rattle.model.specs.Counters.{listed}
use Rattle.spinel_reads.specs.Shown.{Shows}
use Rattle.spinel_reads.proofs.show_listed.Given as goal

abbrev pub invariant-loop-n : goal.invariant-loop-n
invariant-loop-n g l = (bytes : ℕ → List ℕ) → Shows (goal.F-post g l.show) bytes → extended l.reply (flat_map bytes (drop l.n-index (listed l.d))) ≡ extended (data_of []) (flat_map bytes (listed l.d))

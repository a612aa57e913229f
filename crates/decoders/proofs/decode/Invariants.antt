-- `decoders::decode` meets its contract. The loop's invariant: of any list whose entries the calls give, those left, after those so far, come to the whole. Assumes nothing.
use Rattle.std.proofs.Common.{◌≡◌, ℕ, List, ◌<◌, length, get_or}
use mathlib.Core.List.{foldl}
use lib.ListN.{drop}
use Rattle.lists.specs.declared.Entry.{Entry}
use Rattle.lists.specs.Entries.{entry, entry_added}
use Rattle.decoders.proofs.decode.Given as goal

abbrev pub invariant-loop-j : goal.invariant-loop-j
invariant-loop-j g l =
    (all : List Entry) → length all ≡ l.n → ((j : ℕ) (e : Entry) → j < l.n → goal.F-post g l.entry_at j e → e ≡ get_or all j (entry 0 0))
    → foldl entry_added l.es (drop l.j all) ≡ foldl entry_added l.initial.es all

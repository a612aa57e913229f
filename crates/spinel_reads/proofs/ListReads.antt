-- What a list read shows, and that it fits into a reply. Assumes nothing.
use Prim.Native.Nat.{ℕ, ◌≤◌}
use native.Mathlib.Omega.{arith}
use mathlib.Core.Path.{◌≡◌, refl}
use mathlib.Core.Bool.{Bool, true, cond, not}
use mathlib.Core.List.{List, [], ◌∷◌, flat_map}
use lib.Dec.{eqb, leb}
use lib.ListN.{length}
use borrow.Author.Tests.{ne_eqb}
use Rattle.lists.specs.Data.{data_of, extended}
use Rattle.lists.specs.Tests.{all, within}
use Rattle.lists.proofs.Choices.{cond_case, within_low, all_first}
use Rattle.lists.proofs.DataLaws.{extend_law}
use Rattle.model.specs.declared.Thermostat.{Thermostat}
use Rattle.model.specs.Counters.{is_number, every_number, listed}
use Rattle.model.specs.Refusals.{refusal_of}
use Rattle.model.specs.Temperature.{group_shown, read_thermostats}
use Rattle.model.proofs.Short.{flat_most, group_most}
use Rattle.spinel_reads.specs.Shown.{all_if_none}

-- 1BH: the numbers that its loop goes through are the ones it names, where each is a number
pub named_law : (d : List ℕ) → all is_number d ≡ true → listed (all_if_none d) ≡ cond (eqb (length d) 0) every_number d
unfolding all_if_none listed
named_law [] e = refl
named_law (n ∷ []) e =
    let some : 1 ≤ n = within_low 1 16 n (all_first is_number n [] e) in
    rw (ne_eqb n 0 (omega arith))
named_law (n ∷ k ∷ d) e = rw (ne_eqb (length (n ∷ k ∷ d)) 0 (omega arith), ne_eqb (length (n ∷ k ∷ d)) 1 (omega arith))

-- without data all are numbers; with data they are judged
pub named_numbers : (d : List ℕ) (b : Bool) → all is_number d ≡ b → all is_number (cond (eqb (length d) 0) every_number d) ≡ b
unfolding all within
named_numbers [] b e = e
named_numbers (n ∷ d) b e = rw (ne_eqb (length (n ∷ d)) 0 (λ q. omega arith)) e

-- 1BH: what refuses it, in the order of its checks
pub thermostats_refused : (d : List ℕ) (hs : List Thermostat) → refusal_of (read_thermostats d hs) ≡ cond (not (leb (length d) 12)) 8 (cond (not (all is_number d)) 11 0)
unfolding read_thermostats refusal_of
thermostats_refused d hs = rw (named_numbers d (all is_number d) refl)

-- at most sixteen groups fit a reply
pub groups_fit : (hs : List Thermostat) (d : List ℕ) → length d ≤ 12 → all is_number d ≡ true
    → extended (data_of []) (flat_map (group_shown hs) (listed (all_if_none d))) ≡ data_of (flat_map (group_shown hs) (cond (eqb (length d) 0) every_number d))
groups_fit hs d h e =
    rw (named_law d e)
    (extend_law (flat_map (group_shown hs) (cond (eqb (length d) 0) every_number d)) []
    (omega (arith, flat_most 8 (group_shown hs) (group_most hs) 16 (cond (eqb (length d) 0) every_number d) (cond_case (λ (ns : List ℕ). length ns ≤ 16) (eqb (length d) 0) every_number d (λ _. omega arith) (λ _. omega arith)))))

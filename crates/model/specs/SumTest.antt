-- 02, E5: the test of SUM on the Spinel port can be turned off. Refusal 4 goes by the setting (`Wire`); a reset keeps it.
use Rattle.std.specs.Prelude.{ℕ, Bool, cond, not, List, [], ◌∷◌, length, get_or, eqb}
use Rattle.lists.specs.Tests.{within}
use Rattle.model.specs.Refusals.{Request, accepting, telling, refuse}
use Rattle.model.specs.Counters.{some_data}

-- EEH: one byte, 01 turns the test on and 00 off; with a permission only, also where it comes to FE
unfoldable pub set_sum_test : Bool → List ℕ → Request Bool
set_sum_test permitted d =
    refuse 8 (not (eqb (length d) 1))
    (refuse 10 (not permitted)
    (refuse 11 (not (within 0 1 (get_or d 0 0)))
    (accepting (eqb (get_or d 0 0) 1) [])))

-- FEH: the same byte, by whether SUM is tested
unfoldable pub read_sum_test : List ℕ → Bool → Request (Unit {0})
read_sum_test d tested = refuse 8 (some_data d) (telling (cond tested 1 0 ∷ []))

-- A line without a CR at its end. Assumes nothing.
use Prim.Native.Nat.{ℕ, ◌+◌, ◌-◌}
use native.Mathlib.Omega.{arith}
use mathlib.Core.Path.{◌≡◌, refl, sym, ◌∙◌}
use mathlib.Core.Bool.{Bool, true, false, ◌&&◌}
use mathlib.Core.List.{List, [], ◌∷◌}
use lib.Dec.{eqb}
use lib.ListN.{length, get_or, take, drop, drop_of_length-le}
use Rattle.std.proofs.Common.{Bor}
use Rattle.std.specs.Prelude.{Option, Some, None, MatchOption}
use Rattle.std.specs.Option.{unwrap_or}
use Rattle.std.specs.Cmp.Lexicographic.{pointwise}
use Rattle.lists.proofs.ChunkLaws.{rest_first}
use Rattle.script.specs.Words.{uncr}

-- whether the last byte is a CR
last_law : (l : List ℕ) → pointwise eqb (drop (length l - 1) l) (13 ∷ []) ≡ eqb (get_or l (length l - 1) 0) 13
last_law [] = refl
last_law (a ∷ l) =
    let less : length (a ∷ l) - 1 ≡ length l = omega arith in
    rw (less, rest_first (a ∷ l) (length l) (omega arith), drop_of_length-le (a ∷ l) {i = length l + 1} (omega arith)) (go (eqb (get_or (a ∷ l) (length l) 0) 13))
  where
    go : (t : Bool) → (t && true) ≡ t
    go true = refl
    go false = refl

pub uncr_law : (l : List ℕ) (o : Option (Bor (List ℕ))) (d : Bor (List ℕ))
    → d.now ≡ l
    → MatchOption o (pointwise eqb (drop (length l - 1) l) (13 ∷ []) ≡ false) (λ x. (pointwise eqb (drop (length l - 1) l) (13 ∷ []) ≡ true) × (x.now ≡ take (length l - 1) l) × (length x.now + 1 ≡ length l))
    → (unwrap_or o d).now ≡ uncr l
unfolding uncr
uncr_law l None d e h = rw (sym (last_law l) ∙ h) e
uncr_law l (Some x) d e h = rw (sym (last_law l) ∙ h.0) h.1

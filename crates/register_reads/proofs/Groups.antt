-- Words of a group in a reply. Assumes nothing.
use Prim.Native.Nat.{ℕ, ◌≤◌}
use native.Mathlib.Omega.{arith}
use native.Mathlib.Nat.{le_of_eq}
use mathlib.Core.Path.{◌≡◌, refl, ap, ◌∙◌}
use mathlib.Core.List.{List, [], ◌∷◌, flat_map, foldl}
use lib.ListN.{length}
use Rattle.lists.specs.Data.{data_of, extended, pushed}
use Rattle.lists.specs.Data.{Data}
use Rattle.lists.specs.Numbers.{bytes}
use Rattle.lists.proofs.DataLaws.{push_law, extend_law, extended_append}
use Rattle.lists.proofs.NumberLaws.{length-bytes}
use Rattle.model.specs.declared.Reading.{Reading}
use Rattle.model.specs.declared.Reading.TheVariants.{Valid, Fault}
use Rattle.model.specs.Temperature.{reading_words}
use Rattle.model.proofs.Short.{flat_most}

-- a byte count and at most sixteen words fit a reply
pub words_data : (b : ℕ) (ws : List ℕ) → length ws ≤ 16 → extended (pushed (data_of []) b) (flat_map (bytes 2) ws) ≡ data_of (b ∷ flat_map (bytes 2) ws)
words_data b ws h =
    ap (λ (d : Data). extended d (flat_map (bytes 2) ws)) (push_law [] b (omega arith))
    ∙ extend_law (flat_map (bytes 2) ws) (b ∷ []) (omega (arith, flat_most 2 (bytes 2) (λ v. le_of_eq (length-bytes 2 v)) 16 ws h))

-- each word after the reply so far
pub words_each : (ws : List ℕ) (d : Data) → foldl (λ (r : Data) (w : ℕ). extended r (bytes 2 w)) d ws ≡ extended d (flat_map (bytes 2) ws)
unfolding extended flat_map
words_each [] d = refl
words_each (w ∷ ws) d = words_each ws (extended d (bytes 2 w)) ∙ rw (extended_append (bytes 2 w) (flat_map (bytes 2) ws) d)

-- a reading has four words
pub reading_four : (r : Reading) → length (reading_words r) ≡ 4
unfolding reading_words
reading_four (Valid t x) = refl
reading_four Fault = refl

-- Numbers as the definitions write them. Assumes nothing.
use mathlib.Core.Path.{◌≡◌, refl}
use mathlib.Core.List.{[], ◌∷◌}
use Rattle.digits.specs.Writing.{character, written, places_in, decimal_text, hex_text}

-- `0`
least : decimal_text 0 ≡ 48 ∷ []
unfolding character written places_in
least = refl

-- `205`
three_digits : decimal_text 205 ≡ 50 ∷ 48 ∷ 53 ∷ []
unfolding character written places_in
three_digits = refl

-- `18446744073709551615`
greatest : decimal_text 18446744073709551615 ≡ 49 ∷ 56 ∷ 52 ∷ 52 ∷ 54 ∷ 55 ∷ 52 ∷ 52 ∷ 48 ∷ 55 ∷ 51 ∷ 55 ∷ 48 ∷ 57 ∷ 53 ∷ 53 ∷ 49 ∷ 54 ∷ 49 ∷ 53 ∷ []
unfolding character written places_in
greatest = refl

-- `0A`
two_digits : hex_text 10 ≡ 48 ∷ 65 ∷ []
unfolding character written
two_digits = refl

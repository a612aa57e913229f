-- Answers whose replies are told as characters. Assumes nothing.
use mathlib.Core.Path.{◌≡◌, refl}
use mathlib.Core.List.{[], ◌∷◌, map}
use Rattle.digits.specs.Writing.{character, written, places_in}
use Rattle.script.specs.Words.{uncr}
use Rattle.texts.specs.Texts.{reply_characters, answer_characters}

-- 0 with the reply `*B1`: with a CR at its end, with none, and with one in its middle
characters_shown : map (answer_characters 0) ((42 ∷ 66 ∷ 49 ∷ 13 ∷ []) ∷ (42 ∷ 66 ∷ 49 ∷ []) ∷ (42 ∷ 13 ∷ 49 ∷ []) ∷ []) ≡ (48 ∷ 32 ∷ 42 ∷ 66 ∷ 49 ∷ 10 ∷ []) ∷ (48 ∷ 32 ∷ 42 ∷ 66 ∷ 49 ∷ 10 ∷ []) ∷ (48 ∷ 32 ∷ 42 ∷ 13 ∷ 49 ∷ 10 ∷ []) ∷ []
unfolding character written places_in uncr reply_characters answer_characters
characters_shown = refl

-- 13 without a reply, and 0 with a CR alone
characters_none : answer_characters 13 [] ≡ 49 ∷ 51 ∷ 10 ∷ []
unfolding character written places_in uncr reply_characters answer_characters
characters_none = refl

characters_cr : answer_characters 0 (13 ∷ []) ≡ 48 ∷ 32 ∷ 10 ∷ []
unfolding character written places_in uncr reply_characters answer_characters
characters_cr = refl

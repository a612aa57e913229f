-- The text of an answer, in ASCII but for the characters of a reply, which are its bytes as they stand.
use Rattle.std.specs.Prelude.{ℕ, List, [], ◌∷◌, ◌++◌, length}
use Rattle.lists.specs.declared.Bounded.{Bounded}
use Rattle.digits.specs.Writing.{decimal_text, hex_text, padded}
use Rattle.script.specs.Words.{uncr}

abbrev pub Text : Type 0
Text = Bounded ℕ 772

-- a blank and two hex digits for each byte
unfoldable pub bytes_text : List ℕ → List ℕ
bytes_text [] = []
bytes_text (b ∷ l) = 32 ∷ hex_text b ++ bytes_text l

-- the refusal's number, the reply's bytes and a line feed
unfoldable pub answer_text : ℕ → List ℕ → List ℕ
answer_text n l = decimal_text n ++ bytes_text l ++ 10 ∷ []

-- a reply in text, without a CR at its end, behind a blank; nothing where there is no reply
unfoldable pub reply_characters : List ℕ → List ℕ
reply_characters [] = []
reply_characters (b ∷ l) = 32 ∷ uncr (b ∷ l)

-- the refusal's number, the reply's characters and a line feed
unfoldable pub answer_characters : ℕ → List ℕ → List ℕ
answer_characters n l = decimal_text n ++ reply_characters l ++ 10 ∷ []

-- the characters l, and zeros to 772: three digits, 256 bytes and a line feed
abbrev pub text_of : List ℕ → Text
text_of l = record { items = padded 772 l; len = length l }

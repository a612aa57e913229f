-- A line as words.
use Rattle.std.specs.Prelude.{ℕ, suc, ◌-◌, Bool, true, false, cond, not, ◌||◌, List, [], ◌∷◌, ◌++◌, eqb, length, get_or, take, drop}

-- a space or a tab
abbrev pub blank : ℕ → Bool
blank b = eqb b 32 || eqb b 9

-- a byte of a word
abbrev pub solid : ℕ → Bool
solid b = not (blank b)

-- any byte but one
abbrev pub other : ℕ → ℕ → Bool
other stop b = not (eqb b stop)

-- any byte but `#`
abbrev pub plain : ℕ → Bool
plain b = other 35 b

-- how many elements at the start pass
unfoldable pub leading : (ℕ → Bool) → List ℕ → ℕ
leading f [] = 0
leading f (b ∷ l) = cond (f b) (suc (leading f l)) 0

-- a line without a CR at its end
unfoldable pub uncr : List ℕ → List ℕ
uncr l = cond (eqb (get_or l (length l - 1) 0) 13) (take (length l - 1) l) l

-- a line before its comment
unfoldable pub body : List ℕ → List ℕ
body l = take (leading plain (uncr l)) (uncr l)

-- the words of a line, where w is the start of one
unfoldable pub split : List ℕ → List ℕ → List (List ℕ)
split [] [] = []
split (a ∷ w) [] = (a ∷ w) ∷ []
split [] (b ∷ l) = cond (blank b) (split [] l) (split (b ∷ []) l)
split (a ∷ w) (b ∷ l) = cond (blank b) ((a ∷ w) ∷ split [] l) (split (a ∷ w ++ b ∷ []) l)

-- all its words: its parts between blanks
abbrev pub parts : List ℕ → List (List ℕ)
parts l = split [] l

-- a line from its first word on
abbrev pub skipped : List ℕ → List ℕ
skipped l = drop (leading blank l) l

-- what stands behind its first word
unfoldable pub behind : List ℕ → List ℕ
behind l = drop (leading solid (skipped l)) (skipped l)

-- a byte and what stands behind it; a blank with nothing behind it is left out
unfoldable pub kept : ℕ → List ℕ → List ℕ
kept b [] = cond (blank b) [] (b ∷ [])
kept b (c ∷ l) = b ∷ c ∷ l

-- without the blanks at the end
unfoldable pub trimmed : List ℕ → List ℕ
trimmed [] = []
trimmed (b ∷ l) = kept b (trimmed l)

-- the same bytes
unfoldable pub same : List ℕ → List ℕ → Bool
same [] [] = true
same [] (b ∷ v) = false
same (a ∷ w) [] = false
same (a ∷ w) (b ∷ v) = cond (eqb a b) (same w v) false

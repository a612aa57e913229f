-- Tests. `cond t a b` of the library is a where t is true, else b.
use Rattle.std.specs.Prelude.{ℕ, zero, suc, Bool, true, false, cond, ◌&&◌, ◌||◌, List, [], ◌∷◌, leb, eqb}

-- from low to high, ends included
unfoldable pub within : ℕ → ℕ → ℕ → Bool
within low high x = leb low x && leb x high

-- every element passes
unfoldable pub all : {A : Type 0} → (A → Bool) → List A → Bool
all f [] = true
all f (x ∷ xs) = cond (f x) (all f xs) false

-- some element passes
unfoldable pub any : {A : Type 0} → (A → Bool) → List A → Bool
any f [] = false
any f (x ∷ xs) = cond (f x) true (any f xs)

-- two elements have the same number: one, and another behind it
unfoldable pub twice : {A : Type 0} → (A → ℕ) → List A → Bool
twice f [] = false
twice f (x ∷ xs) = any (λ y. eqb (f x) (f y)) xs || twice f xs

-- some number below n passes: what a loop that looks at each has found after n turns
unfoldable pub some_below : (ℕ → Bool) → ℕ → Bool
some_below f zero = false
some_below f (suc n) = some_below f n || f n

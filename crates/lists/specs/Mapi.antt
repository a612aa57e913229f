-- Indexed maps over a list.
use Rattle.std.specs.Prelude.{ℕ, zero, suc, List, [], ◌∷◌}

-- f 0 of the first element, f 1 of the next, and so on
unfoldable pub mapi : {A B : Type 0} → (ℕ → A → B) → List A → List B
mapi f [] = []
mapi f (x ∷ l) = f 0 x ∷ mapi (λ i. f (suc i)) l

-- the same, as far as the first n
unfoldable pub done : {A : Type 0} → (ℕ → A → A) → ℕ → List A → List A
done f zero l = l
done f (suc n) [] = []
done f (suc n) (x ∷ l) = f 0 x ∷ done (λ i. f (suc i)) n l

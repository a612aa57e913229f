-- What stands at each place of a list, for any list: as values are put into it, where it is of one value, and as its elements are changed.
-- Assumes nothing.
use Prim.Native.Nat.{ℕ, zero, suc}
use mathlib.Core.Path.{◌≡◌, refl, ap}
use mathlib.Core.Bool.{Bool, false}
use mathlib.Core.List.{List, [], ◌∷◌, map, foldl}
use lib.ListN.{get_or, set, replicate}
use Rattle.lists.specs.Tests.{any}
use Rattle.lists.specs.Mapi.{mapi}
use Rattle.lists.proofs.Choices.{any_first, any_rest}

-- what stands at i after a value was put at j: that value, if i is j, or what stood there
pub set_either : {A : Type 0} (P : A → Type 0) (xs : List A) (j : ℕ) (v : A) (i : ℕ) (d : A) → (j ≡ i → P v) → P (get_or xs i d) → P (get_or (set xs j v) i d)
set_either P [] j v i d f g = g
set_either P (x ∷ xs) zero v zero d f g = f refl
set_either P (x ∷ xs) zero v (suc i) d f g = g
set_either P (x ∷ xs) (suc j) v zero d f g = g
set_either P (x ∷ xs) (suc j) v (suc i) d f g = set_either P xs j v i d (λ e. f (ap suc e)) g

-- A test of what stands at each place, which no element passes
module _ {A : Type 0} (bad : ℕ → A → Bool) (d : A) where
  pub record NonePasses (xs : List A) : Type 0 where
    pub at : (i : ℕ) → bad i (get_or xs i d) ≡ false

  -- stays so as values are put, of which each fails it for its place
  module _ {C : Type 0} (place : C → ℕ) (value : C → A) where
    pub put_one : (xs : List A) (c : C) → NonePasses xs → bad (place c) (value c) ≡ false → NonePasses (set xs (place c) (value c))
    put_one xs c h e = record {
      at = λ i. set_either (λ x. bad i x ≡ false) xs (place c) (value c) i d (λ same. rw same at e) (h.at i);
    }

    pub put_all : (cs : List C) (xs : List A) → NonePasses xs → any (λ c. bad (place c) (value c)) cs ≡ false
        → NonePasses (foldl (λ l c. set l (place c) (value c)) xs cs)
    put_all [] xs h e = h
    put_all (c ∷ cs) xs h e =
        put_all cs (set xs (place c) (value c)) (put_one xs c h (any_first (λ c. bad (place c) (value c)) c cs e)) (any_rest (λ c. bad (place c) (value c)) c cs e)

-- what stands at a place fails a test that no element passes, nor the value behind the end
pub none_at : {A : Type 0} (f : A → Bool) (l : List A) (i : ℕ) (d : A) → any f l ≡ false → f d ≡ false → f (get_or l i d) ≡ false
none_at f [] i d h e = e
none_at f (x ∷ l) zero d h e = any_first f x l h
none_at f (x ∷ l) (suc i) d h e = none_at f l i d (any_rest f x l h) e

-- a list of one value, also behind its end
pub get_or-replicate_same : {A : Type 0} (n i : ℕ) (x : A) → get_or (replicate n x) i x ≡ x
get_or-replicate_same zero i x = refl
get_or-replicate_same (suc n) zero x = refl
get_or-replicate_same (suc n) (suc i) x = get_or-replicate_same n i x

-- what stands at a place of an indexed map: what it makes of an element, or the value behind the end
pub get_or-mapi_either : {A B : Type 0} (P : B → Type 0) (f : ℕ → A → B) (l : List A) (i : ℕ) (d : B) → P d → ((x : A) → P (f i x)) → P (get_or (mapi f l) i d)
unfolding mapi
get_or-mapi_either P f [] i d e h = e
get_or-mapi_either P f (x ∷ l) zero d e h = h x
get_or-mapi_either P f (x ∷ l) (suc i) d e h = get_or-mapi_either P (λ k. f (suc k)) l i d e h

-- a place whose element no change moves
pub get_or-mapi_idle : {A : Type 0} (f : ℕ → A → A) (l : List A) (i : ℕ) (d : A) → ((x : A) → f i x ≡ x) → get_or (mapi f l) i d ≡ get_or l i d
unfolding mapi
get_or-mapi_idle f [] i d h = refl
get_or-mapi_idle f (x ∷ l) zero d h = h x
get_or-mapi_idle f (x ∷ l) (suc i) d h = get_or-mapi_idle (λ k. f (suc k)) l i d h

-- two changes of each element in either order
pub map-mapi_swap : {A : Type 0} (g : A → A) (f : ℕ → A → A) (l : List A) → ((i : ℕ) (x : A) → g (f i x) ≡ f i (g x)) → map g (mapi f l) ≡ mapi f (map g l)
unfolding mapi
map-mapi_swap g f [] h = refl
map-mapi_swap g f (x ∷ l) h = rw (h 0 x) (ap (f 0 (g x) ∷◌) (map-mapi_swap g (λ i. f (suc i)) l (λ i. h (suc i))))

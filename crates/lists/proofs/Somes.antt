-- A loop that looks whether some element passes, and passes that change nothing. Assumes nothing.
use Prim.Native.Nat.{ℕ, zero, suc, ◌+◌, ◌<◌}
use native.Mathlib.Omega.{arith}
use native.Mathlib.Numerals.{add-one}
use native.Mathlib.Decide.{ℕ_discrete}
use mathlib.Core.Path.{◌≡◌, refl, sym, ap, ◌∙◌}
use mathlib.Core.Bool.{Bool, true, false, cond, ◌||◌, or_assoc}
use mathlib.Core.List.{List, [], ◌∷◌}
use lib.ListN.{length, get_or}
use Rattle.lists.specs.Tests.{any, some_below}
use Rattle.lists.specs.Mapi.{mapi}
use Rattle.lists.proofs.Choices.{or_left, or_right}

-- one turn
pub some_turn : (f : ℕ → Bool) (n : ℕ) → (some_below f n || f n) ≡ some_below f (n + 1)
unfolding some_below
some_turn f n = rw add-one

pub some_none : (f : ℕ → Bool) → false ≡ some_below f 0
unfolding some_below
some_none f = refl

-- the first apart
some_first : (f : ℕ → Bool) (n : ℕ) → some_below f (suc n) ≡ (f 0 || some_below (λ i. f (suc i)) n)
unfolding some_below
some_first f zero = commute (f 0)
  where
    commute : (b : Bool) → (false || b) ≡ (b || false)
    commute true = refl
    commute false = refl
some_first f (suc n) = ap (◌|| f (suc n)) (some_first f n) ∙ or_assoc (f 0) (some_below (λ i. f (suc i)) n) (f (suc n))

choice_or : (b c : Bool) → cond b true c ≡ (b || c)
choice_or true c = refl
choice_or false c = refl

-- some element of an indexed map passes
pub some_any : {A : Type 0} (g : ℕ → A → Bool) (l : List A) (d : A) → any (λ b. b) (mapi g l) ≡ some_below (λ i. g i (get_or l i d)) (length l)
unfolding any mapi some_below
some_any g [] d = refl
some_any g (x ∷ l) d =
    choice_or (g 0 x) (any (λ b. b) (mapi (λ i. g (suc i)) l))
    ∙ ap (g 0 x ||◌) (some_any (λ i. g (suc i)) l d)
    ∙ sym (some_first (λ i. g i (get_or (x ∷ l) i d)) (length l))

-- none passes: not the one at i
pub some_false : (f : ℕ → Bool) (n i : ℕ) → some_below f n ≡ false → i < n → f i ≡ false
unfolding some_below
some_false f zero i h l = absurd (omega arith)
some_false f (suc n) i h l = go (ℕ_discrete i n) (some_false f n i (or_left (some_below f n) (f n) h))
  where
    go : Dec (i ≡ n) → (i < n → f i ≡ false) → f i ≡ false
    go (yes e) r = rw e (or_right (some_below f n) (f n) h)
    go (no e) r = r (omega arith)

-- each fails: none passes
pub none_below : (f : ℕ → Bool) (n : ℕ) → ((i : ℕ) → i < n → f i ≡ false) → some_below f n ≡ false
unfolding some_below
none_below f zero h = refl
none_below f (suc n) h = rw (none_below f n (λ i l. h i (omega arith)), h n (omega arith))

-- two indexed maps that make the same of each element
pub mapi-alike : {A B : Type 0} (f g : ℕ → A → B) (l : List A) (d : A) → ((i : ℕ) → i < length l → f i (get_or l i d) ≡ g i (get_or l i d)) → mapi f l ≡ mapi g l
unfolding mapi
mapi-alike f g [] d h = refl
mapi-alike f g (x ∷ l) d h = first (h 0 (omega arith)) (mapi-alike (λ i. f (suc i)) (λ i. g (suc i)) l d (λ i q. h (suc i) (omega arith)))
  where
    first : f 0 x ≡ g 0 x → mapi (λ i. f (suc i)) l ≡ mapi (λ i. g (suc i)) l → f 0 x ∷ mapi (λ i. f (suc i)) l ≡ g 0 x ∷ mapi (λ i. g (suc i)) l
    first e q = rw (e, q)

-- one that leaves each as it is
mapi-none : {A : Type 0} (l : List A) → mapi (λ i x. x) l ≡ l
unfolding mapi
mapi-none [] = refl
mapi-none (x ∷ l) = ap (x ∷◌) (mapi-none l)

pub mapi-same : {A : Type 0} (f : ℕ → A → A) (l : List A) (d : A) → ((i : ℕ) → i < length l → f i (get_or l i d) ≡ get_or l i d) → mapi f l ≡ l
mapi-same f l d h = mapi-alike f (λ i x. x) l d h ∙ mapi-none l

-- some of a list of tests passed
pub some_of : (l : List Bool) → any (λ b. b) l ≡ some_below (λ i. get_or l i false) (length l)
some_of l = ap (any (λ b. b)) (sym (mapi-same (λ i b. b) l false (λ i h. refl))) ∙ some_any (λ i b. b) l false

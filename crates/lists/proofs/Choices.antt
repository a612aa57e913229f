-- Tests and choices taken apart. Assumes nothing.
use Prim.Native.Nat.{ℕ, suc, ◌≤◌, ◌<◌}
use native.Mathlib.Omega.{arith}
use lib.Dec.{eqb, leb, ltb, leb-zero}
use borrow.Author.Tests.{eqb-true, leb-true, leb-false, le-leb, le-ltb, lt-ltb}
use mathlib.Core.Path.{◌≡◌, refl, sym, ap}
use mathlib.Core.Bool.{Bool, true, false, cond, not, ◌&&◌, ◌||◌, and-true}
use mathlib.Core.List.{List, ◌∷◌}
use Rattle.lists.specs.Tests.{within, all, any}

-- by the test's two results
pub cond_case : {A : Type 0} (P : A → Type 0) (t : Bool) (a b : A) → (t ≡ true → P a) → (t ≡ false → P b) → P (cond t a b)
cond_case P true a b f g = f refl
cond_case P false a b f g = g refl

-- one arm of a dispatch on a number
pub cond_eq : {A : Type 0} (P : A → Type 0) (n k : ℕ) (a b : A) → (n ≡ k → P a) → P b → P (cond (eqb n k) a b)
cond_eq P n k a b f g = cond_case P (eqb n k) a b (λ e. f (eqb-true n k e)) (λ _. g)

-- a test of a number that is known
pub eqb_at : (n a b : ℕ) → n ≡ a → eqb n b ≡ eqb a b
eqb_at n a b h = ap (λ m. eqb m b) h

-- a refusal's number that a test did not give
pub passed : (b : Bool) (n r : ℕ) → cond b (suc n) r ≡ 0 → (b ≡ false) × (r ≡ 0)
passed true n r h = absurd (omega arith)
passed false n r h = (refl, h)

-- a test as a choice
pub one_of_one : (b : Bool) → cond b true false ≡ b
one_of_one true = refl
one_of_one false = refl

-- two conditions of one number
pub either : (a b : Bool) (n r : ℕ) → cond b n (cond a n r) ≡ cond (a || b) n r
either true true n r = refl
either true false n r = refl
either false true n r = refl
either false false n r = refl

-- what is judged later may take for granted that an earlier condition does not hold
pub later : (b : Bool) (n x y : ℕ) → (b ≡ false → x ≡ y) → cond b n x ≡ cond b n y
later true n x y e = refl
later false n x y e = e refl

pub and_left : (a b : Bool) → (a && b) ≡ true → a ≡ true
and_left true b h = refl
and_left false b h = h

pub and_right : (a b : Bool) → (a && b) ≡ true → b ≡ true
and_right true b h = h
and_right false b h = cc

pub or_left : (a b : Bool) → (a || b) ≡ false → a ≡ false
or_left true b h = h
or_left false b h = refl

pub or_right : (a b : Bool) → (a || b) ≡ false → b ≡ false
or_right true b h = cc
or_right false b h = h

pub not-or : (a b : Bool) → not (a || b) ≡ (not a && not b)
not-or true b = refl
not-or false b = refl

pub not-and : (a b : Bool) → not (a && b) ≡ (not a || not b)
not-and true b = refl
not-and false b = refl

-- the two orders' tests are opposites
pub below : (a b : ℕ) → ltb a b ≡ not (leb b a)
below a b = go (leb b a) refl
  where
    go : (t : Bool) → leb b a ≡ t → ltb a b ≡ not t
    go true e = le-ltb a b (leb-true b a e)
    go false e = lt-ltb a b (leb-false b a e)

-- from 0 on there is only the upper end
pub within_zero : (high x : ℕ) → not (within 0 high x) ≡ ltb high x
unfolding within
within_zero high x = rw (leb-zero x) (sym (below high x))

module _ (low high x : ℕ) where
  pub within_low : within low high x ≡ true → low ≤ x
  unfolding within
  within_low h = leb-true low x (and_left (leb low x) (leb x high) h)

  pub within_high : within low high x ≡ true → x ≤ high
  unfolding within
  within_high h = leb-true x high (and_right (leb low x) (leb x high) h)

  pub is_within : low ≤ x → x ≤ high → within low high x ≡ true
  unfolding within
  is_within l h = rw (le-leb low x l, le-leb x high h)

  pub not_within : (low ≤ x → x ≤ high → ⊥) → within low high x ≡ false
  unfolding within
  not_within h = go (leb low x) (leb x high) refl refl
    where
      go : (a b : Bool) → leb low x ≡ a → leb x high ≡ b → (a && b) ≡ false
      go true true p q = absurd (h (leb-true low x p) (leb-true x high q))
      go true false p q = refl
      go false b p q = refl

-- by a test at each end
module _ (low high x : ℕ) where
  pub ends_within : (ltb x low || ltb high x) ≡ not (within low high x)
  unfolding within
  ends_within = rw (below x low, below high x) (sym (not-and (leb low x) (leb x high)))

-- a byte is at most 255
pub byte_within : (t : ℕ) → t < 256 → leb 1 t ≡ within 1 255 t
unfolding within
byte_within t h = rw (le-leb t 255 (omega arith)) (sym (and-true (leb 1 t)))

-- so it is from 1 to 255 unless it is 0
pub byte_some : (b : ℕ) → b < 256 → not (within 1 255 b) ≡ ltb b 1
byte_some b h = rw (← byte_within b h) (sym (below b 1))

-- of a list that passes whole, its first and its rest
module _ {A : Type 0} (f : A → Bool) (x : A) (xs : List A) (h : all f (x ∷ xs) ≡ true) where
  by_first : (b : Bool) → f x ≡ b → cond b (all f xs) false ≡ true → (f x ≡ true) × (all f xs ≡ true)
  by_first true e k = (e, k)
  by_first false e k = (cc, cc)

  pub all_first : f x ≡ true
  unfolding all
  all_first = (by_first (f x) refl h).0

  pub all_rest : all f xs ≡ true
  unfolding all
  all_rest = (by_first (f x) refl h).1

-- of a list of which none passes, its first and its rest
module _ {A : Type 0} (f : A → Bool) (x : A) (xs : List A) (h : any f (x ∷ xs) ≡ false) where
  by_none : (b : Bool) → f x ≡ b → cond b true (any f xs) ≡ false → (f x ≡ false) × (any f xs ≡ false)
  by_none true e k = (cc, cc)
  by_none false e k = (e, k)

  pub any_first : f x ≡ false
  unfolding any
  any_first = (by_none (f x) refl h).0

  pub any_rest : any f xs ≡ false
  unfolding any
  any_rest = (by_none (f x) refl h).1

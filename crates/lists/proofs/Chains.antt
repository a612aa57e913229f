-- What std's iterators give, in the words of our definitions. Assumes nothing.
use Rattle.std.proofs.Common.{◌≡◌, refl, sym, ◌∙◌, Bool, true, false, List, [], ◌∷◌, ℕ, length}
use Rattle.std.specs.List.{list_all, list_any}
use Rattle.std.specs.Array.{IsMapOf}
use Rattle.std.proofs.lemmas.List.{same_lists, length-map, get_or-map}
use mathlib.Core.Bool.{◌&&◌, ◌||◌, cond}
use mathlib.Core.List.{map}
use denote.Param.Members.{Mut, Called}
use Rattle.lists.specs.Tests.{all, any}

and_cond : (a b c : Bool) → b ≡ c → (a && b) ≡ cond a c false
and_cond true b c e = e
and_cond false b c e = refl

or_cond : (a b c : Bool) → b ≡ c → (a || b) ≡ cond a true c
or_cond true b c e = refl
or_cond false b c e = e

pub all_same : {A : Type 0} (f : A → Bool) (l : List A) → list_all f l ≡ all f l
unfolding all
all_same f [] = refl
all_same f (x ∷ l) = and_cond (f x) (list_all f l) (all f l) (all_same f l)

pub any_same : {A : Type 0} (f : A → Bool) (l : List A) → list_any f l ≡ any f l
unfolding any
any_same f [] = refl
any_same f (x ∷ l) = or_cond (f x) (list_any f l) (any f l) (any_same f l)

-- an array's `map`, by a closure that gives h of each element
pub mapped : {F A B : Type 0} (g : Mut F (A × Unit {0}) B) (h : A → B) (f : F) (xs : List A) (ys : List B) (n : ℕ) → IsMapOf g f xs ys n → length xs ≡ n → A
    → ((p : F) (x : A) (y : B) (q : F) → Called g p (x, tt) y q → y ≡ h x) → ys ≡ map h xs
mapped g h f xs ys n m long d acts =
    same_lists ys (map h xs) (m.long ∙ sym long ∙ sym (length-map xs h)) (λ k e l. let c = m.at k d e (rw m.long at l) in acts _ _ _ _ c.2 ∙ sym (get_or-map h xs k d e (rw (m.long, ← long) at l)))

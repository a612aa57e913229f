-- What std's `from_fn` makes by a closure that keeps its captures, in the words of our definitions. Assumes nothing.
use Rattle.std.proofs.Common.{◌≡◌, sym, ◌∙◌, ℕ, zero, suc, ◌+◌, ◌<◌, ◌≤◌, List, length, arith}
use Rattle.std.specs.Array.{IsFromFnResult, IsFromFnResultFrom}
use Rattle.std.proofs.lemmas.List.{same_lists}
use lib.ListN.{get_or}
use denote.Param.Members.{Mut, Called}
use Rattle.lists.specs.Mapi.{mapi}
use Rattle.lists.proofs.Done.{get_or-mapi, length-mapi}

-- element by element, from place i on
module _ {F B : Type 0} (g : Mut F (ℕ × Unit {0}) B) (h : ℕ → B) (f : F) (ys : List B) (most : ℕ)
    (acts : (k : ℕ) (y : B) (q : F) → k < most → Called g f (k, tt) y q → (y ≡ h k) × (q ≡ f)) where
  each : (n i : ℕ) → i + n ≤ most → IsFromFnResultFrom g f ys i n → (k : ℕ) → k < n → (e : B) → get_or ys (i + k) e ≡ h (i + k)
  each zero i b m k l e = absurd (omega arith)
  each (suc n) i b m zero l e =
      let here : i + 0 ≡ i = omega arith in
      rw here (m.2.1 e ∙ (acts i m.1 m.0 (omega arith) m.3).0)
  each (suc n) i b m (suc k) l e =
      let there : i + suc k ≡ i + 1 + k = omega arith in
      rw there (each n (i + 1) (omega arith) (rw (acts i m.1 m.0 (omega arith) m.3).1 at m.4) k (omega arith) e)

-- h of each index and of the element there
pub made : {F A B : Type 0} (g : Mut F (ℕ × Unit {0}) B) (h : ℕ → A → B) (f : F) (xs : List A) (ys : List B) (n : ℕ) → IsFromFnResult g f ys n → length xs ≡ n → (d : A)
    → ((k : ℕ) (y : B) (q : F) → k < n → Called g f (k, tt) y q → (y ≡ h k (get_or xs k d)) × (q ≡ f)) → ys ≡ mapi h xs
made g h f xs ys n m long d acts =
    same_lists ys (mapi h xs) (m.long ∙ sym long ∙ sym (length-mapi h xs)) (λ k e l.
    let first : 0 + k ≡ k = omega arith in
    (rw first at (each g (λ i. h i (get_or xs i d)) f ys n acts n 0 (omega arith) m.each k (rw m.long at l) e))
    ∙ sym (get_or-mapi h xs k d e (rw (m.long, ← long) at l)))

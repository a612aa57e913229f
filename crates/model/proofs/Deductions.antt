-- Deductions of which no two are from one input: whether each is judged by the counters as they stand, or by what those before it left,
-- comes to the same. So it is for 61H, which refuses others by 13, and for registers one after another. Assumes nothing.
use Prim.Native.Nat.{ℕ, ◌-◌, ◌≤◌}
use native.Mathlib.Omega.{arith}
use mathlib.Core.Path.{◌≡◌, refl, ◌∙◌}
use mathlib.Core.Bool.{Bool, true, false, cond, ◌&&◌}
use mathlib.Core.List.{List, [], ◌∷◌}
use lib.Dec.{leb, eqb}
use lib.ListN.{get_or, set}
use lib.Seq.{get_or-set_other}
use borrow.Author.Tests.{eqb-false}
use Rattle.lists.specs.Tests.{all, any, twice}
use Rattle.lists.specs.Walk.{all_pass}
use Rattle.lists.specs.declared.Entry.{Entry}
use Rattle.lists.specs.Entries.{numbered}
use Rattle.lists.proofs.Choices.{and_left, or_left, or_right, within_low, any_first, any_rest}
use Rattle.lists.proofs.EntryLaws.{numbered_once}
use Rattle.model.specs.Counters.{is_number, deductible, deduct_one, named_twice}

-- a deduction from one input does not move what another is judged by
other_judged : (cs : List ℕ) (e f : Entry) → is_number e.number ≡ true → eqb e.number f.number ≡ false → deductible (deduct_one cs e) f ≡ deductible cs f
unfolding deductible deduct_one
other_judged cs e f h q = go (is_number f.number) refl
  where
    go : (b : Bool) → is_number f.number ≡ b
        → (b && leb f.value (get_or (set cs (e.number - 1) (get_or cs (e.number - 1) 0 - e.value)) (f.number - 1) 0)) ≡ (b && leb f.value (get_or cs (f.number - 1) 0))
    go true k =
        let here : 1 ≤ e.number = within_low 1 16 e.number h in
        let there : 1 ≤ f.number = within_low 1 16 f.number k in
        rw (get_or-set_other cs (e.number - 1) (f.number - 1) (get_or cs (e.number - 1) 0 - e.value) 0 (λ s. eqb-false e.number f.number q (omega (arith, here, there, s))))
    go false k = refl

-- one of some deductions is from the input of e too
abbrev again : Entry → List Entry → Bool
again e es = any (λ (f : Entry). eqb e.number f.number) es

others_judged : (cs : List ℕ) (e : Entry) (es : List Entry) → is_number e.number ≡ true → again e es ≡ false
    → all (deductible (deduct_one cs e)) es ≡ all (deductible cs) es
unfolding all
others_judged cs e [] h q = refl
others_judged cs e (f ∷ es) h q =
    let same : Entry → Bool = λ (f : Entry). eqb e.number f.number in
    rw (other_judged cs e f h (any_first same f es q), others_judged cs e es h (any_rest same f es q))

is_input : (cs : List ℕ) (e : Entry) → deductible cs e ≡ true → is_number e.number ≡ true
unfolding deductible
is_input cs e h = and_left (is_number e.number) _ h

pub judged_alike : (es : List Entry) (cs : List ℕ) → named_twice es ≡ false → all_pass deductible deduct_one cs es ≡ all (deductible cs) es
unfolding named_twice twice all_pass all
judged_alike [] cs h = refl
judged_alike (e ∷ es) cs h = go (deductible cs e) refl (judged_alike es (deduct_one cs e) (or_right (again e es) _ h))
  where
    go : (b : Bool) → deductible cs e ≡ b → all_pass deductible deduct_one (deduct_one cs e) es ≡ all (deductible (deduct_one cs e)) es
        → cond b (all_pass deductible deduct_one (deduct_one cs e) es) false ≡ cond b (all (deductible cs) es) false
    go true k rest = rest ∙ others_judged cs e es (is_input cs e k) (or_left (again e es) _ h)
    go false k rest = refl

-- registers one after another name no input twice
pub registers_once : (n : ℕ) (vs : List ℕ) → named_twice (numbered n vs) ≡ false
unfolding named_twice
registers_once n vs = numbered_once n vs

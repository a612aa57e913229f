-- `rules::named_twice` meets its contract. The loop's invariant: a number stands twice among those left exactly where one does among all. Assumes nothing.
use borrow.Author.Tests.{tests}
use Rattle.std.proofs.Common.{◌≡◌, refl, sym, ◌∙◌, rules, arith, List, [], ◌∷◌, length, Bool, true, false, nat_eq}
use Rattle.std.proofs.lemmas.Iterator.Search.{any_from_yields_List}
use Rattle.std.proofs.lemmas.Iterator.{YieldsList-from_slice}
use Rattle.lists.proofs.Chains.{any_same}
use Rattle.lists.specs.Tests.{any, twice}
use Rattle.lists.specs.declared.Entry.{Entry}
use Rattle.model.specs.Counters.{named_twice}
use Rattle.rules.proofs.named_twice.Goals as goal

-- two entries have one number
abbrev one_number : Entry → Entry → Bool
one_number e f = nat_eq e.number f.number

-- by whether the first number stands again behind it
stands_again : (e : Entry) (l : List Entry) → any (one_number e) l ≡ true → true ≡ named_twice (e ∷ l)
unfolding named_twice twice
stands_again e l h = rw h

stands_once : (e : Entry) (l : List Entry) → any (one_number e) l ≡ false → named_twice l ≡ named_twice (e ∷ l)
unfolding named_twice twice
stands_once e l h = rw h

none_left : (l : List Entry) → length l ≡ 0 → false ≡ named_twice l
unfolding named_twice twice
none_left [] h = refl
none_left (e ∷ l) h = absurd (omega arith)

pub returns-then-any : goal.returns-then-any
returns-then-any c =
    let e = c.in-Some.e.now in
    let l = c.in-Some.behind.now in
    let looked = any_from_yields_List (one_number e) _ _ _ c.any.ensures.ran (YieldsList-from_slice l cc) (λ x b q k. search (rules, tests)) ∙ any_same (one_number e) l in
    stands_again e l (sym looked ∙ c.if-any.true) ∙ rw c.in-Some.ensures.cases.0 at c.loop-e.invariant

pub loop-e-preserved : goal.loop-e-preserved
loop-e-preserved c =
    let e = c.in-Some.e.now in
    let l = c.in-Some.behind.now in
    let looked = any_from_yields_List (one_number e) _ _ _ c.any.ensures.ran (YieldsList-from_slice l cc) (λ x b q k. search (rules, tests)) ∙ any_same (one_number e) l in
    stands_once e l (sym looked ∙ c.if-any.false) ∙ rw c.in-Some.ensures.cases.0 at c.loop-e.invariant

pub returns : goal.returns
returns c = none_left c.loop-e.rest.now c.in_default.ensures.cases ∙ c.loop-e.invariant

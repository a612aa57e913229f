-- What each accepted change does to the inputs keeps the invariant, whichever port it came from. Assumes nothing.
use Prim.Native.Nat.{ℕ, suc, ◌+◌, ◌-◌, ◌*◌, ◌/◌, ◌%◌, ◌≤◌, ◌<◌}
use native.Mathlib.Nat.{add-zero}
use native.Mathlib.Omega.{arith}
use mathlib.Core.Path.{◌≡◌, refl, sym, ap, ◌∙◌}
use mathlib.Core.List.{List, [], ◌∷◌, ◌++◌, foldl, map}
use mathlib.Core.Bool.{Bool, true, false, cond, ◌&&◌}
use lib.ListN.{length, get_or, set, drop, length-set, get_or-replicate, length-map, get_or-map}
use lib.Seq.{get_or-set_same, get_or-set_other, get_or-drop, drop-drop}
use lib.Dec.{leb, eqb}
use borrow.Author.Tests.{leb-true, eqb-true, eqb-false, ne_eqb}
use Rattle.lists.specs.Tests.{all}
use Rattle.lists.specs.Walk.{all_pass}
use Rattle.lists.specs.Numbers.{bytes}
use Rattle.lists.specs.declared.Entry.{Entry}
use Rattle.lists.proofs.Choices.{and_left, and_right, within_low, all_first, all_rest, either}
use Rattle.model.specs.declared.Line.{Line}
use Rattle.model.specs.State.{line, fresh_line}
use Rattle.model.specs.Counters.{is_number, zeroes, number_in, read_one, values_read, deductible, deduct_one, named_twice, cleared_counters, mode_settable, set_mode, runs_ended}
use Rattle.model.specs.Registers.{clear_one}
use Rattle.model.specs.Tally.{Account, with_run, with_mode, collect, clear, two_at, four_at, value_at, taken_by, taken_from}
use Rattle.model.proofs.OneInput.{collected_by, mode_after, named}
use Rattle.model.specs.Cycles.{Counting}
use Rattle.model.proofs.Invariant.{At}
use Rattle.model.proofs.Deductions.{judged_alike}

-- a number of an input is at least 1
positive : (n : ℕ) → is_number n ≡ true → 1 ≤ n
positive n h = within_low 1 16 n h

-- setting place n - 1 moves input i exactly where n is i + 1
set_value : (i n v : ℕ) (xs : List ℕ) → i < length xs → 1 ≤ n → get_or (set xs (n - 1) v) i 0 ≡ cond (eqb n (suc i)) v (get_or xs i 0)
set_value i n v xs h l = go (eqb n (suc i)) refl
  where
    go : (b : Bool) → eqb n (suc i) ≡ b → get_or (set xs (n - 1) v) i 0 ≡ cond b v (get_or xs i 0)
    go true e =
        let same : n - 1 ≡ i = omega (arith, eqb-true n (suc i) e) in
        rw same (get_or-set_same xs i v 0 h)
    go false e = get_or-set_other xs (n - 1) i v 0 (λ q. eqb-false n (suc i) e (omega arith))

zeros : (i : ℕ) → i < 16 → ◌≡◌ {A = ℕ} (get_or cleared_counters i 0) 0
zeros i h = get_or-replicate {A = ℕ} 16 i 0 0 h

-- a step that keeps the length keeps it over a list
length_fold : {E : Type 0} (step : List ℕ → E → List ℕ) → ((l : List ℕ) (e : E) → length (step l e) ≡ length l) → (es : List E) (l : List ℕ) → length (foldl step l es) ≡ length l
length_fold step h [] l = refl
length_fold step h (e ∷ es) l = length_fold step h es (step l e) ∙ h l e

-- 60H -------------------------------------------------------------------------

-- what one counter's value splits into
record Split (value taken left : ℕ) : Type 0 where
  times : ℕ
  sum : value ≡ taken + left + 4294967296 * times

-- the value read at p, as the tally has it of its four bytes
abbrev shown : List ℕ → ℕ → ℕ
shown cs p =
    let c = get_or cs (number_in p - 1) 0 in
    (c / 256 / 256 / 256 % 256 * 256 + c / 256 / 256 % 256) * 65536 + (c / 256 % 256 * 256 + c % 256)

read_one_lem : (i p : ℕ) (cs : List ℕ) → i < length cs → 1 ≤ number_in p → Split (get_or cs i 0) (cond (zeroes p && eqb (number_in p) (suc i)) (shown cs p) 0) (get_or (read_one cs p) i 0)
unfolding read_one
read_one_lem i p cs h l = go (zeroes p) (eqb (number_in p) (suc i)) refl
  where
    go : (a b : Bool) → eqb (number_in p) (suc i) ≡ b → Split (get_or cs i 0) (cond (a && b) (shown cs p) 0) (get_or (cond a (set cs (number_in p - 1) 0) cs) i 0)
    go true true e =
        let same : number_in p - 1 ≡ i = omega (arith, eqb-true (number_in p) (suc i) e) in
        record { times = get_or cs i 0 / 4294967296; sum = rw (set_value i (number_in p) 0 cs h l, e, same) (omega arith) }
    go true false e = record { times = 0; sum = rw (set_value i (number_in p) 0 cs h l, e) (omega arith) }
    go false b e = record { times = 0; sum = omega arith }

length-read_one : (cs : List ℕ) (p : ℕ) → length (read_one cs p) ≡ length cs
unfolding read_one
length-read_one cs p = go (zeroes p)
  where
    go : (a : Bool) → length (cond a (set cs (number_in p - 1) 0) cs) ≡ length cs
    go true = length-set cs (number_in p - 1) 0
    go false = refl

-- two bytes at place m of the reply, and four
two_drop : (m h l : ℕ) (r bs : List ℕ) → drop m r ≡ h ∷ l ∷ bs → two_at r m ≡ h * 256 + l
two_drop m h l r bs e =
    let first : get_or r m 0 ≡ h = rw (← add-zero m, ← get_or-drop m r 0 0, e) in
    let second : get_or r (m + 1) 0 ≡ l = rw (← get_or-drop m r 1 0, e) in
    rw (first, second)

drop_two : (m h l : ℕ) (r bs : List ℕ) → drop m r ≡ h ∷ l ∷ bs → drop (m + 2) r ≡ bs
drop_two m h l r bs e = rw (← drop-drop 2 m r, e)

four_drop : (m a b c d : ℕ) (r bs : List ℕ) → drop m r ≡ a ∷ b ∷ c ∷ d ∷ bs → four_at r m ≡ (a * 256 + b) * 65536 + (c * 256 + d)
four_drop m a b c d r bs e = rw (two_drop m a b r _ e, two_drop (m + 2) c d r bs (drop_two m a b r _ e))

drop_four : (m a b c d : ℕ) (r bs : List ℕ) → drop m r ≡ a ∷ b ∷ c ∷ d ∷ bs → drop (m + 4) r ≡ bs
drop_four m a b c d r bs e = rw (← drop-drop 4 m r, e)

-- a parameter of one input, in its place
taken_one : (i p j w : ℕ) (r : List ℕ) → 1 ≤ number_in p → value_at r j ≡ w → taken_by (suc i) p j r ≡ cond (zeroes p && eqb (number_in p) (suc i)) w 0
unfolding taken_by
taken_one i p j w r h e = rw (e, ne_eqb (number_in p) 0 (λ q. omega arith)) (go (leb 128 p) (eqb (p % 64) (suc i)))
  where
    go : (a b : Bool) → cond a (cond b w 0) 0 ≡ cond (a && b) w 0
    go true b = refl
    go false b = refl

abbrev readable : ℕ → Bool
readable p = is_number (number_in p)

read_splits : (i : ℕ) (ps cs r tail : List ℕ) (j : ℕ) → i < length cs → all readable ps ≡ true → drop (8 + 4 * j) r ≡ values_read ps cs ++ tail
    → Split (get_or cs i 0) (taken_from (suc i) ps j r) (get_or (foldl read_one cs ps) i 0)
unfolding values_read bytes taken_from
read_splits i [] cs r tail j h k e = record { times = 0; sum = omega arith }
read_splits i (p ∷ ps) cs r tail j h k e =
    let l : 1 ≤ number_in p = positive (number_in p) (all_first readable p ps k) in
    let first : Split (get_or cs i 0) (cond (zeroes p && eqb (number_in p) (suc i)) (shown cs p) 0) (get_or (read_one cs p) i 0) = read_one_lem i p cs h l in
    let next : 8 + 4 * suc j ≡ 8 + 4 * j + 4 = omega arith in
    let others = read_splits i ps (read_one cs p) r tail (suc j) (rw length-read_one h) (all_rest readable p ps k) (rw next (drop_four (8 + 4 * j) _ _ _ _ r _ e)) in
    record {
      times = first.times + others.times;
      sum = rw (taken_one i p j (shown cs p) r l (four_drop (8 + 4 * j) _ _ _ _ r _ e)) (omega (arith, first.sum, others.sum));
    }

-- entries ---------------------------------------------------------------------

length-deduct_one : (cs : List ℕ) (e : Entry) → length (deduct_one cs e) ≡ length cs
unfolding deduct_one
length-deduct_one cs e = length-set cs _ _

deduct_one_lem : (i : ℕ) (e : Entry) (cs : List ℕ) → i < length cs → deductible cs e ≡ true
    → get_or cs i 0 ≡ cond (eqb e.number (suc i)) e.value 0 + get_or (deduct_one cs e) i 0
unfolding deductible deduct_one
deduct_one_lem i e cs h k = go (eqb e.number (suc i)) refl
  where
    l : 1 ≤ e.number
    l = positive e.number (and_left (is_number e.number) _ k)

    m : e.value ≤ get_or cs (e.number - 1) 0
    m = leb-true _ _ (and_right (is_number e.number) _ k)

    go : (b : Bool) → eqb e.number (suc i) ≡ b → get_or cs i 0 ≡ cond b e.value 0 + get_or (set cs (e.number - 1) (get_or cs (e.number - 1) 0 - e.value)) i 0
    go true q =
        let same : e.number - 1 ≡ i = omega (arith, eqb-true e.number (suc i) q) in
        rw (set_value i e.number (get_or cs (e.number - 1) 0 - e.value) cs h l, q) (rw same (omega (arith, rw same at m)))
    go false q = rw (set_value i e.number (get_or cs (e.number - 1) 0 - e.value) cs h l, q) (omega arith)

pass_first : (cs : List ℕ) (e : Entry) (es : List Entry) → all_pass deductible deduct_one cs (e ∷ es) ≡ true → (deductible cs e ≡ true) × (all_pass deductible deduct_one (deduct_one cs e) es ≡ true)
unfolding all_pass
pass_first cs e es h = go (deductible cs e) refl h
  where
    go : (b : Bool) → deductible cs e ≡ b → cond b (all_pass deductible deduct_one (deduct_one cs e) es) false ≡ true
        → (deductible cs e ≡ true) × (all_pass deductible deduct_one (deduct_one cs e) es ≡ true)
    go true q k = (q, k)
    go false q k = (cc, cc)

deduct_splits : (i : ℕ) (es : List Entry) (cs : List ℕ) → i < length cs → all_pass deductible deduct_one cs es ≡ true
    → get_or cs i 0 ≡ collected_by i es + get_or (foldl deduct_one cs es) i 0
unfolding collected_by
deduct_splits i [] cs h k = omega arith
deduct_splits i (e ∷ es) cs h k =
    let both = pass_first cs e es k in
    let first = deduct_one_lem i e cs h both.0 in
    let others = deduct_splits i es (deduct_one cs e) (rw length-deduct_one h) both.1 in
    omega arith

length-set_mode : (ms : List ℕ) (e : Entry) → length (set_mode ms e) ≡ length ms
unfolding set_mode
length-set_mode ms e = length-set ms _ _

modes_agree : (i : ℕ) (es : List Entry) (ms : List ℕ) → i < length ms → all mode_settable es ≡ true → get_or (foldl set_mode ms es) i 0 ≡ mode_after i es (get_or ms i 0)
unfolding mode_after mode_settable set_mode
modes_agree i [] ms h k = refl
modes_agree i (e ∷ es) ms h k =
    let l : 1 ≤ e.number = positive e.number (and_left (is_number e.number) _ (all_first mode_settable e es k)) in
    modes_agree i es (set ms (e.number - 1) e.value) (rw length-set h) (all_rest mode_settable e es k)
    ∙ ap (mode_after i es) (set_value i e.number e.value ms h l)

length-clear_one : (cs : List ℕ) (e : Entry) → length (clear_one cs e) ≡ length cs
unfolding clear_one
length-clear_one cs e = length-set cs _ _

-- every number is at least 1
abbrev Numbered : List Entry → Type 0
Numbered es = all (λ e. leb 1 e.number) es ≡ true

zeros_agree : (i : ℕ) (es : List Entry) (cs : List ℕ) → i < length cs → Numbered es → get_or (foldl clear_one cs es) i 0 ≡ cond (named i es) 0 (get_or cs i 0)
unfolding clear_one named
zeros_agree i [] cs h k = refl
zeros_agree i (e ∷ es) cs h k =
    let l : 1 ≤ e.number = leb-true 1 e.number (all_first (λ e. leb 1 e.number) e es k) in
    zeros_agree i es (set cs (e.number - 1) 0) (rw length-set h) (all_rest (λ e. leb 1 e.number) e es k)
    ∙ ap (cond (named i es) 0) (set_value i e.number 0 cs h l)
    ∙ either (eqb e.number (suc i)) (named i es) 0 (get_or cs i 0)

-- the changes -----------------------------------------------------------------

-- one part of the counting put in place

abbrev pub counted : Counting → List ℕ → Counting
counted x cs = record { lines = x.lines; modes = x.modes; counters = cs; sampling = x.sampling }

abbrev pub moded : Counting → List ℕ → Counting
moded x ms = record { lines = x.lines; modes = ms; counters = x.counters; sampling = x.sampling }

abbrev pub numbered_by : Counting → ℕ → Counting
numbered_by x k = record { lines = x.lines; modes = x.modes; counters = x.counters; sampling = k }

module _ (i : ℕ) (small : i < 16) (x : Counting) (n : ℕ) (u : Account) (v : At i x n u) where
  below : i < length x.counters
  below = omega (arith, v.counters)

  -- other counters, the account's edges and collected as given
  counts : (cs : List ℕ) (edges collected times : ℕ) → length cs ≡ length x.counters → edges ≡ collected + get_or cs i 0 + 4294967296 * times
      → At i (counted x cs) n (record { stable = u.stable; run = u.run; mode = u.mode; edges = edges; collected = collected })
  counts cs e c k l s = record {
    sampling = v.sampling;
    stable = v.stable;
    run = v.run;
    mode = v.mode;
    lines = v.lines;
    modes = v.modes;
    counters = l ∙ v.counters;
    times = k;
    sum = s;
  }

  pub reads : (ps r tail : List ℕ) → all readable ps ≡ true → drop 8 r ≡ values_read ps x.counters ++ tail
      → At i (counted x (foldl read_one x.counters ps)) n (collect (taken_from (suc i) ps 0 r) u)
  reads ps r tail ok e =
      let s = read_splits i ps x.counters r tail 0 below ok e in
      counts _ _ _ (v.times + s.times) (length_fold read_one length-read_one ps x.counters) (omega (arith, v.sum, s.sum))

  pub deducts : (es : List Entry) → named_twice es ≡ false → all (deductible x.counters) es ≡ true
      → At i (counted x (foldl deduct_one x.counters es)) n (collect (collected_by i es) u)
  deducts es once ok =
      counts _ _ _ v.times (length_fold deduct_one length-deduct_one es x.counters)
      (omega (arith, v.sum, deduct_splits i es x.counters below (judged_alike es x.counters once ∙ ok)))

  pub clears_all : At i (counted x cleared_counters) n (clear u)
  clears_all = counts cleared_counters 0 0 0 (sym v.counters) (omega (arith, zeros i small))

  pub zeroes_some : (es : List Entry) → Numbered es → At i (counted x (foldl clear_one x.counters es)) n (cond (named i es) (clear u) u)
  zeroes_some es ok = go (named i es) (zeros_agree i es x.counters below ok)
    where
      go : (b : Bool) → get_or (foldl clear_one x.counters es) i 0 ≡ cond b 0 (get_or x.counters i 0)
          → At i (counted x (foldl clear_one x.counters es)) n (cond b (clear u) u)
      go true e = counts _ 0 0 0 (length_fold clear_one length-clear_one es x.counters) (omega arith)
      go false e = counts _ _ _ v.times (length_fold clear_one length-clear_one es x.counters) (omega (arith, v.sum))

  pub modes : (es : List Entry) → all mode_settable es ≡ true → At i (moded x (foldl set_mode x.modes es)) n (with_mode (mode_after i es u.mode) u)
  modes es ok = record {
    sampling = v.sampling;
    stable = v.stable;
    run = v.run;
    mode = modes_agree i es x.modes (omega (arith, v.modes)) ok ∙ ap (mode_after i es) v.mode;
    lines = v.lines;
    modes = length_fold set_mode length-set_mode es x.modes ∙ v.modes;
    counters = v.counters;
    times = v.times;
    sum = v.sum;
  }

  pub samplings : (k : ℕ) → At i (numbered_by x k) k u
  samplings k = record {
    sampling = refl;
    stable = v.stable;
    run = v.run;
    mode = v.mode;
    lines = v.lines;
    modes = v.modes;
    counters = v.counters;
    times = v.times;
    sum = v.sum;
  }

  pub resets : At i (record { lines = runs_ended x.lines; modes = x.modes; counters = cleared_counters; sampling = x.sampling }) n (with_run 0 (clear u))
  unfolding runs_ended
  resets =
      let at : get_or (map (λ (y : Line). line y.stable 0) x.lines) i fresh_line ≡ line (get_or x.lines i fresh_line).stable 0 = get_or-map (λ (y : Line). line y.stable 0) x.lines i fresh_line in
      record {
        sampling = v.sampling;
        stable = rw at v.stable;
        run = rw at;
        mode = v.mode;
        lines = length-map x.lines (λ (y : Line). line y.stable 0) ∙ v.lines;
        modes = v.modes;
        counters = refl;
        times = 0;
        sum = omega (arith, zeros i small);
      }

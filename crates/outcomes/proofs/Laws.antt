-- From a part's answer to the module's, and to the frame's. Assumes nothing.
use Rattle.std.proofs.Common.{◌≡◌, refl, sym, ap, ◌∙◌, ℕ, zero, suc, Ok, Err, List, [], arith}
use mathlib.Core.Bool.{Bool, true, false, cond, or-true, or-false}
use Rattle.lists.specs.Data.{Data, data_of}
use Rattle.encoding.specs.Answers.{told_of}
use Rattle.model.specs.declared.Module.{Module}
use Rattle.model.specs.declared.Refusal.{Refusal}
use Rattle.model.specs.Numbers.{number_of}
use Rattle.model.specs.Refusals.{Request, refuse, reading, refused, refusal_of, judged, Out, silent, if_passes}
use Rattle.model.proofs.Judged.{judged_part}
use Rattle.model.proofs.Refusing.{some_number, stops, goes, passes}
use Rattle.outcomes.specs.Parts.{served_of, outcome, told_about, settled}

-- a request refused by this number; done, without data; and a check passed
abbrev pub Refused : Module → Request Module → ℕ → Type 0
Refused m q n = (r : Refusal) → number_of r ≡ n → outcome m (Err r) ≡ served_of (judged m q)

abbrev pub Done : Module → Request Module → Module → Type 0
Done m q after = outcome m (Ok (record { after = after; body = data_of [] })) ≡ served_of (judged m q)

abbrev pub Passes : Bool → ℕ → Type 0
Passes wrong n = ◌≡◌ {A = ℕ} 0 (cond wrong n 0)

-- settled by its number
module _ (m after : Module) (body : Data) where
  settled_refused : (n : ℕ) → (n ≡ 0 → ⊥) → record { refusal = n; after = m; body = data_of [] } ≡ settled n m after body
  settled_refused zero h = absurd (h refl)
  settled_refused (suc n) h = refl

-- Judged, then applied: the number that refuses it, the module after and the data, where nothing does
pub settled_law : (m : Module) (q : Request Module) (n : ℕ) (r : Module) (body : Data) → n ≡ refusal_of q → (n ≡ 0 → r ≡ q.after) → (n ≡ 0 → body ≡ data_of q.reply)
    → settled n m r body ≡ served_of (judged m q)
unfolding judged
settled_law m q zero r body e a d = rw (← e, a refl, d refl)
settled_law m q (suc n) r body e a d = rw (← e)

module _ (m : Module) (q : Request Module) where
  -- refused by the number that the definition gives
  pub refused_at : Refused m q (refusal_of q)
  refused_at r e =
      let some = some_number r in
      settled_refused m m (data_of []) (number_of r) some ∙ settled_law m q (number_of r) m (data_of []) e (λ z. absurd (some z)) (λ z. absurd (some z))

  -- done, where nothing refuses it
  pub done_at : (after : Module) (body : Data) → 0 ≡ refusal_of q → after ≡ q.after → body ≡ data_of q.reply
      → outcome m (Ok (record { after = after; body = body })) ≡ served_of (judged m q)
  done_at after body e a d = settled_law m q 0 after body e (λ _. a) (λ _. d)

  -- a first check, and what is looked at after it
  module _ (wrong : Bool) (n rest : ℕ) (first : refusal_of q ≡ cond wrong (suc n) rest) where
    pub refused_first : Refused m q (cond wrong (suc n) 0)
    refused_first r e = refused_at r (stops wrong (suc n) rest r e ∙ sym first)

    pub refused_later : (r : Refusal) → 0 ≡ cond wrong (suc n) 0 → number_of r ≡ rest → outcome m (Err r) ≡ served_of (judged m q)
    refused_later r g e = refused_at r (e ∙ goes wrong n rest g ∙ sym first)

    pub done_later : (after : Module) (body : Data) → 0 ≡ cond wrong (suc n) 0 → 0 ≡ rest → after ≡ q.after → body ≡ data_of q.reply
        → outcome m (Ok (record { after = after; body = body })) ≡ served_of (judged m q)
    done_later after body g e a d = done_at after body (e ∙ goes wrong n rest g ∙ sym first) a d

-- Decoded, judged, applied: what was decoded need be the whole list only where the request passes its first check
module _ {E : Type 0} (m : Module) (q : List E → Request Module) (n : ℕ) (rest : List E → ℕ) where
  first_holds : (wrong : Bool) (es whole : List E) → refusal_of (q whole) ≡ cond wrong (suc n) (rest whole) → (wrong ≡ false → es ≡ whole)
      → cond wrong (suc n) (rest es) ≡ refusal_of (q whole)
  first_holds true es whole first fits = sym first
  first_holds false es whole first fits = ap rest (fits refl) ∙ sym first

  effect_whole : (wrong : Bool) (es whole : List E) → (wrong ≡ false → es ≡ whole) → (r : Module) → (rest es ≡ 0 → r ≡ (q es).after)
      → cond wrong (suc n) (rest es) ≡ 0 → r ≡ (q whole).after
  effect_whole true es whole fits r a e = absurd (omega arith)
  effect_whole false es whole fits r a e = a e ∙ ap (λ (l : List E). (q l).after) (fits refl)

  pub decoded_law : (wrong : Bool) (es whole : List E) → refusal_of (q whole) ≡ cond wrong (suc n) (rest whole) → (wrong ≡ false → es ≡ whole)
      → (r : Module) → (rest es ≡ 0 → r ≡ (q es).after) → (q whole).reply ≡ []
      → settled (cond wrong (suc n) (rest es)) m r (data_of []) ≡ served_of (judged m (q whole))
  decoded_law wrong es whole first fits r a d =
      settled_law m (q whole) (cond wrong (suc n) (rest es)) r (data_of []) (first_holds wrong es whole first fits) (effect_whole wrong es whole fits r a) (λ _. ap data_of (sym d))

-- the same of one request, past its first check
module _ {E : Type 0} (m : Module) (q : Request Module) (wrong : Bool) (n : ℕ) (rest : List E → ℕ)
    (whole : List E) (first : refusal_of q ≡ cond wrong (suc n) (rest whole)) (es : List E) (fits : wrong ≡ false → es ≡ whole) where
  pub item_refused : Passes wrong (suc n) → Refused m q (rest es)
  item_refused g r e = refused_later m q wrong n (rest whole) first r g (e ∙ ap rest (fits (passes wrong n g)))

  pub list_done : (step : List E → Module) → (0 ≡ rest whole → step whole ≡ q.after) → q.reply ≡ [] → Passes wrong (suc n) → 0 ≡ rest es → Done m q (step es)
  list_done step a d g e =
      let right = passes wrong n g in
      let all = fits right in
      let none : cond wrong (suc n) (rest es) ≡ 0 = rw right (sym e) in
      ap (λ (k : ℕ). settled k m (step es) (data_of [])) (sym none)
      ∙ decoded_law m (λ _. q) n rest wrong es whole first fits (step es) (λ _. ap step all ∙ a (e ∙ ap rest all)) d

-- what only reads
pub told_law : (m : Module) (q : Request (Unit {0})) → told_about m (told_of q) ≡ served_of (judged m (reading m q))
told_law m q = sym (ap served_of (judged_part (λ _. m) tt q))

-- a frame that fails a check
pub refused_law : (n : ℕ) (m : Module) (o : Out) → (n ≡ 0 → ⊥) → silent n m ≡ if_passes n m o
refused_law zero m o h = absurd (h refl)
refused_law (suc n) m o h = refl

-- condition 8, first of those that a listed function may break
module _ {P : Type 0} (p : P) (q : Request P) (wrong : Bool) where
  pub length-refused : wrong ≡ true → q.holds 7 ≡ false → refused 8 p ≡ judged p (refuse 8 wrong q)
  unfolding judged
  length-refused e h = rw (e, h, or-true (q.holds 8))

  pub length_right : wrong ≡ false → judged p q ≡ judged p (refuse 8 wrong q)
  unfolding judged
  length_right e = rw (e, or-false (q.holds 8))

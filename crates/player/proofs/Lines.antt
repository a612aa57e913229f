-- The lines of a script, one by one, and their calls. Assumes nothing.
use Prim.Native.Nat.{ℕ, suc, ◌+◌, ◌≤◌}
use native.Mathlib.Omega.{arith}
use mathlib.Core.Path.{◌≡◌, refl, sym, ap, ◌∙◌}
use mathlib.Core.Bool.{Bool, true, false, cond, not}
use mathlib.Core.List.{List, [], ◌∷◌, ◌++◌, append_assoc, append-nil}
use lib.Dec.{eqb, ltb}
use lib.ListN.{length, take, drop}
use borrow.Author.Tests.{ltb-true, ltb-false}
use Rattle.std.specs.Prelude.{Option, Some, None}
use Rattle.std.specs.List.{slice_split, onto_first, position_or_len}
use Rattle.std.proofs.lemmas.Option.{cond_some}
use Rattle.std.proofs.lemmas.List.Splits.{slice_split_first}
use Rattle.model.specs.declared.Module.{Module}
use Rattle.model.specs.Call.{Call}
use Rattle.model.specs.Calls.{step, run}
use Rattle.script.specs.Words.{leading, split, behind, uncr, body}
use Rattle.script.specs.Parsed.{Parsed}
use Rattle.script.specs.Lines.{wrong, parsed_line, by_parts}
use Rattle.script.specs.Results.{number_of}
use Rattle.script.specs.declared.Reason.{Reason}
use Rattle.player.specs.Scripts.{lines, line_calls, lines_calls}

-- calls after calls
pub run_append : (cs ds : List Call) (m : Module) → run m (cs ++ ds) ≡ run (run m cs) ds
unfolding run
run_append [] ds m = refl
run_append (c ∷ cs) ds m = run_append cs ds (step m c).after

-- bytes before the first line
onto : List ℕ → List (List ℕ) → List (List ℕ)
onto w [] = w ∷ []
onto w (l ∷ ls) = (w ++ l) ∷ ls

onto_more : (w : List ℕ) (b : ℕ) (ls : List (List ℕ)) → onto (w ++ b ∷ []) ls ≡ onto w (onto_first b ls)
unfolding onto
onto_more w b [] = refl
onto_more w b (l ∷ ls) = rw append_assoc

onto_split : (l : List ℕ) → onto [] (slice_split (λ b. eqb b 10) l) ≡ slice_split (λ b. eqb b 10) l
unfolding onto
onto_split [] = refl
onto_split (b ∷ l) = go (eqb b 10) (slice_split (λ b. eqb b 10) l)
  where
    go : (t : Bool) (ls : List (List ℕ)) → onto [] (cond t ([] ∷ ls) (onto_first b ls)) ≡ cond t ([] ∷ ls) (onto_first b ls)
    go true ls = refl
    go false [] = refl
    go false (x ∷ ls) = refl

-- the lines as `split` cuts them
lines_onto : (w l : List ℕ) → lines w l ≡ onto w (slice_split (λ b. eqb b 10) l)
unfolding lines onto
lines_onto w [] = rw append-nil
lines_onto w (b ∷ l) = go (eqb b 10) (lines_onto [] l) (lines_onto (w ++ b ∷ []) l)
  where
    parts : List (List ℕ)
    parts = slice_split (λ b. eqb b 10) l

    go : (t : Bool) → lines [] l ≡ onto [] parts → lines (w ++ b ∷ []) l ≡ onto (w ++ b ∷ []) parts → cond t (w ∷ lines [] l) (lines (w ++ b ∷ []) l) ≡ onto w (cond t ([] ∷ parts) (onto_first b parts))
    go true e f = rw (append-nil w, e, onto_split l)
    go false e f = f ∙ onto_more w b parts

pub lines_split : (l : List ℕ) → lines [] l ≡ slice_split (λ b. eqb b 10) l
lines_split l = lines_onto [] l ∙ onto_split l

-- a script without a line feed is one line
split_none : (l : List ℕ) → length l ≤ position_or_len (λ b. eqb b 10) l → slice_split (λ b. eqb b 10) l ≡ l ∷ []
split_none [] h = refl
split_none (b ∷ l) h = go (eqb b 10) h (split_none l)
  where
    go : (t : Bool)
        → suc (length l) ≤ cond (not t) (1 + position_or_len (λ b. eqb b 10) l) 0
        → (length l ≤ position_or_len (λ b. eqb b 10) l → slice_split (λ b. eqb b 10) l ≡ l ∷ [])
        → cond t ([] ∷ slice_split (λ b. eqb b 10) l) (onto_first b (slice_split (λ b. eqb b 10) l)) ≡ (b ∷ l) ∷ []
    go true h f = absurd (let z : ⊥ = omega arith in z)
    go false h f = rw (f (omega arith))

-- an empty line has no calls
no_calls : lines_calls (lines [] []) ≡ []
unfolding lines lines_calls line_calls parsed_line by_parts body uncr leading split behind
no_calls = refl

none_past : (l n : ℕ) → cond (ltb l n) (Some l) None ≡ None → n ≤ l
none_past l n = go (ltb l n) refl
  where
    go : (t : Bool) → ltb l n ≡ t → ◌≡◌ {A = Option ℕ} (cond t (Some l) None) None → n ≤ l
    go true h e = absurd (let z : ⊥ = cc in z)
    go false h e = ltb-false l n h

-- the calls of a script, by the place of its first line feed
module _ (s : List ℕ) (r : Option ℕ) (e : r ≡ cond (ltb (position_or_len (λ b. eqb b 10) s) (length s)) (Some (position_or_len (λ b. eqb b 10) s)) None) where
  pub first_found : {n : ℕ} → r ≡ Some n → lines_calls (lines [] s) ≡ line_calls (parsed_line (take n s)) ++ lines_calls (lines [] (drop (n + 1) s))
  unfolding lines_calls
  first_found {n} f =
      let found = cond_some _ _ _ (sym e ∙ f) in
      let here : slice_split (λ b. eqb b 10) s ≡ take n s ∷ slice_split (λ b. eqb b 10) (drop (n + 1) s) = rw found.1 at (slice_split_first (λ b. eqb b 10) s 0 (ltb-true _ _ found.0)) in
      rw (lines_split s, here, lines_split (drop (n + 1) s))

  pub first_none : r ≡ None → lines_calls (lines [] s) ≡ line_calls (parsed_line s) ++ lines_calls (lines [] [])
  unfolding lines_calls
  first_none f = rw (lines_split s, split_none s (none_past _ _ (sym e ∙ f))) (ap (λ cs. line_calls (parsed_line s) ++ cs) (sym no_calls))

-- one turn of the loop over a script's lines
pub line_goes : (m : Module) (s l rest : List ℕ) {after : Module} → lines_calls (lines [] s) ≡ line_calls (parsed_line l) ++ lines_calls (lines [] rest) → after ≡ run m (line_calls (parsed_line l)) → run after (lines_calls (lines [] rest)) ≡ run m (lines_calls (lines [] s))
line_goes m s l rest e q = rw (q, e) (sym (run_append _ _ m))

pub lines_over : (m : Module) (s : List ℕ) → length s ≡ 0 → m ≡ run m (lines_calls (lines [] s))
unfolding run
lines_over m [] h = rw no_calls
lines_over m (b ∷ s) h = absurd (let z : ⊥ = omega arith in z)

-- a wrong line has no calls
pub wrong_calls : (m : Module) (r : Reason) {p : Parsed} → wrong (number_of r) ≡ p → m ≡ run m (line_calls p)
unfolding line_calls run
wrong_calls m r e = rw (sym e)

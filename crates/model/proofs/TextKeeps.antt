-- Each text frame keeps the invariant: AS and SS reset, no other moves what counting goes by; and the tally, which reads the frame by its
-- bytes, takes the same ones for resets. Assumes nothing.
use Prim.Native.Nat.{ℕ, zero, suc, ◌-◌, ◌≤◌, ◌<◌}
use native.Mathlib.Omega.{arith}
use mathlib.Core.Path.{◌≡◌, refl, sym, ap, ◌∙◌}
use mathlib.Core.Bool.{Bool, true, false, ◌&&◌, ◌||◌, and-true, true≢false}
use mathlib.Core.List.{List, [], ◌∷◌}
use Rattle.std.specs.Prelude.{Option, Some, None}
use lib.ListN.{length, get_or, take, drop}
use lib.Seq.{get_or-take, get_or-drop}
use lib.Dec.{eqb}
use borrow.Author.Tests.{eqb-true, not-false}
use Rattle.lists.proofs.Choices.{cond_case, passed, within_low}
use Rattle.model.specs.declared.Module.{Module}
use Rattle.model.specs.declared.TextCode.{TextCode}
use Rattle.model.specs.declared.TextCode.TheVariants.{ReadInput, ReadOutput, SetOutput, PulseOutput, ReadTemperature, SetNotice, ReadNotice, GivePermission, SetAddress, SetSpeed}
use Rattle.model.specs.Refusals.{Request}
use Rattle.model.specs.Wire.{frame_refusal}
use Rattle.model.specs.Counters.{reset}
use Rattle.model.specs.Text.{characters, text_shape_wrong, begins, Typed, typed_by, typed, TextRequest, configure, asked_by, asked_if, text_wire}
use Rattle.model.specs.Demand1.{resets_by}
use Rattle.model.specs.Tally.{Tally, Account, text_resets, text_tallied, changed}
use Rattle.model.specs.Cycles.{counting_of}
use Rattle.model.proofs.Bridge.{kept}
use Rattle.model.proofs.Invariant.{Inv}
use Rattle.model.proofs.Judged.{order}
use Rattle.model.proofs.Accepted.{Good}
use Rattle.model.proofs.Effects as effects

-- The tally's reading ------------------------------------------------------------------------

-- AS or SS by two characters
abbrev by_two : ℕ → ℕ → Bool
by_two a b = (eqb a 0x41 || eqb a 0x53) && eqb b 0x53

-- what is typed begins by neither
abbrev Neither : Typed → Type 0
Neither x = resets_by x.code ≡ false

-- by its first character, A, S or another
module _ (l : List ℕ) where
  first_a : (b : Bool) → b ≡ begins (0x53 ∷ []) l → resets_by (typed (0x41 ∷ l)).code ≡ b
  unfolding typed_by begins resets_by
  first_a true e = rw (← e)
  first_a false e = rw (← e)

  first_s : (b : Bool) → b ≡ begins (0x53 ∷ []) l → resets_by (typed (0x53 ∷ l)).code ≡ b
  unfolding typed_by begins resets_by
  first_s true e = rw (← e)
  first_s false e = rw (← e)

  first_other : (c : ℕ) → eqb c 0x41 ≡ false → eqb c 0x53 ≡ false → resets_by (typed (c ∷ l)).code ≡ false
  unfolding typed_by begins resets_by
  first_other c a s =
      rw (a, s)
      (cond_case Neither (eqb c 0x4F && _) _ _ (λ _. refl) λ _.
      cond_case Neither (eqb c 0x49 && _) _ _ (λ _. refl) λ _.
      cond_case Neither (eqb c 0x4F && _) _ _ (λ _. refl) λ _.
      cond_case Neither (eqb c 0x4F && _) _ _ (λ _. refl) λ _.
      cond_case Neither (eqb c 0x4F && _) _ _ (λ _. refl) λ _.
      cond_case Neither (eqb c 0x52 && _) _ _ (λ _. refl) λ _.
      cond_case Neither (eqb c 0x49 && _) _ _ (λ _. refl) λ _.
      cond_case Neither (eqb c 0x49 && _) _ _ (λ _. refl) λ _.
      cond_case Neither (eqb c 0x45 && true) _ _ (λ _. refl) λ _. refl)

begins_s : (l : List ℕ) → eqb (get_or l 0 0) 0x53 ≡ begins (0x53 ∷ []) l
unfolding begins
begins_s [] = refl
begins_s (c ∷ l) = sym (and-true (eqb c 0x53))

typed_resets : (t : List ℕ) → by_two (get_or t 0 0) (get_or t 1 0) ≡ resets_by (typed t).code
unfolding typed_by begins resets_by
typed_resets [] = refl
typed_resets (c ∷ l) = go (eqb c 0x41) (eqb c 0x53) refl refl
  where
    go : (a s : Bool) → eqb c 0x41 ≡ a → eqb c 0x53 ≡ s → ((a || s) && eqb (get_or l 0 0) 0x53) ≡ resets_by (typed (c ∷ l)).code
    go true s e f = rw (eqb-true c 0x41 e) (sym (first_a l (eqb (get_or l 0 0) 0x53) (begins_s l)))
    go false true e f = rw (eqb-true c 0x53 f) (sym (first_s l (eqb (get_or l 0 0) 0x53) (begins_s l)))
    go false false e f = sym (first_other l c e f)

-- the characters are the frame's bytes from byte 3 on, and behind the last stands the carriage return, which is no S
module _ (f : List ℕ) (long : 5 ≤ length f) (ended : get_or f (length f - 1) 0 ≡ 0x0D) where
  first_byte : get_or (characters f) 0 0 ≡ get_or f 3 0
  first_byte = get_or-take (length f - 4) (drop 3 f) 0 0 (omega arith) ∙ get_or-drop 3 f 0 0

  second_byte : eqb (get_or (characters f) 1 0) 0x53 ≡ eqb (get_or f 4 0) 0x53
  second_byte = go (length f - 5) refl
    where
      go : (n : ℕ) → length f - 5 ≡ n → eqb (get_or (characters f) 1 0) 0x53 ≡ eqb (get_or f 4 0) 0x53
      go zero e =
          let five : length f - 1 ≡ 4 = omega arith in
          let one : length f - 4 ≡ 1 = omega arith in
          rw (rw five at ended) (rw one (cut (drop 3 f)))
        where
          cut : (l : List ℕ) → eqb (get_or (take 1 l) 1 0) 0x53 ≡ false
          cut [] = refl
          cut (c ∷ l) = refl
      go (suc n) e = ap (λ (c : ℕ). eqb c 0x53) (get_or-take (length f - 4) (drop 3 f) 1 0 (omega arith) ∙ get_or-drop 3 f 1 0)

  pub resets_read : text_resets f ≡ resets_by (typed (characters f)).code
  unfolding text_resets
  resets_read = sym (rw (← first_byte, ← second_byte) (sym (typed_resets (characters f))))

-- a frame that passes 2 to 6 has five bytes and ends by a carriage return
pub text_read : (tested : Bool) (own : ℕ) (f : List ℕ) → frame_refusal text_wire tested own f ≡ 0 → text_resets f ≡ resets_by (typed (characters f)).code
unfolding frame_refusal text_shape_wrong
text_read tested own f h =
    let a = passed _ 1 _ h in
    let b = passed _ 2 _ a.1 in
    resets_read f (within_low 5 32 (length f) (not-false _ a.0)) (eqb-true (get_or f (length f - 1) 0) 0x0D (not-false _ b.0))

-- What an accepted frame comes to ------------------------------------------------------------

module _ (i : ℕ) (small : i < 16) (m : Module) (t : Tally) (v : Inv i (counting_of m) t) (f : List ℕ) where
  abbrev u : Account
  u = t.input (suc i)

  -- a code that resets nothing leaves the tally, and one that leaves the inputs as they are keeps the invariant
  still : (q : Request Module) → text_resets f ≡ false → counting_of q.after ≡ counting_of m → Good i (λ _. text_tallied f t) q
  unfolding changed
  still q e h = record { keeps = λ p. rw (h, e, kept u) v }

  -- one that resets
  over_again : (q : Request Module) → text_resets f ≡ true → counting_of q.after ≡ counting_of (reset m) → Good i (λ _. text_tallied f t) q
  unfolding changed reset
  over_again q e h = record { keeps = λ p. rw (h, e) (effects.resets i small (counting_of m) t.sampling u v) }

  by_code : (c : TextCode) (q : TextRequest) → text_resets f ≡ resets_by (Some c) → Good i (λ _. text_tallied f t) (asked_by c q m)
  unfolding asked_by resets_by configure reset
  by_code ReadInput q e = still _ e refl
  by_code ReadOutput q e = still _ e refl
  by_code SetOutput q e = still _ e refl
  by_code PulseOutput q e = still _ e refl
  by_code ReadTemperature q e = still _ e refl
  by_code SetNotice q e = still _ e refl
  by_code ReadNotice q e = still _ e refl
  by_code GivePermission q e = still _ e refl
  by_code SetAddress q e = over_again _ e refl
  by_code SetSpeed q e = over_again _ e refl

  pub text_good : (c : Option TextCode) (q : TextRequest) → text_resets f ≡ resets_by c → Good i (λ _. text_tallied f t) (asked_if c q m)
  unfolding asked_if order
  text_good (Some c) q e = by_code c q e
  text_good None q e = record { keeps = λ p. absurd (true≢false (p.at 7 refl)) }

-- Condition 8, the first that a listed function may break. Assumes nothing.
use Rattle.std.proofs.Common.{◌≡◌, sym, ap, ◌∙◌, ℕ, Bool, true, false, Err}
use mathlib.Core.Bool.{cond, or-true, or-false}
use Rattle.model.specs.declared.Module.{Module}
use Rattle.model.specs.declared.Refusal.{Refusal}
use Rattle.model.specs.Numbers.{number_of}
use Rattle.model.specs.Refusals.{Request, refuse, refusal_of, judged}
use Rattle.model.proofs.Refusing.{stops, passes}
use Rattle.lists.specs.Data.{data_of}
use Rattle.encoding.specs.Answers.{told, told_of}
use Rattle.encoding.proofs.Telling.{told_refused}
use Rattle.outcomes.specs.Parts.{outcome, served_of}
use Rattle.outcomes.proofs.Laws.{length_right, refused_at}

eight_first : {P : Type 0} (q : Request P) (wrong : Bool) → q.holds 7 ≡ false → refusal_of (refuse 8 wrong q) ≡ cond wrong 8 (refusal_of q)
unfolding refusal_of
eight_first q true h = rw (h, or-true (q.holds 8))
eight_first q false h = rw (or-false (q.holds 8))

-- of a function that reads
module _ (q : Request (Unit {0})) (wrong : Bool) where
  pub read_refused : (r : Refusal) → q.holds 7 ≡ false → number_of r ≡ cond wrong 8 0 → told (Err r) ≡ told_of (refuse 8 wrong q)
  read_refused r h e = told_refused (refuse 8 wrong q) r (stops wrong 8 _ r e ∙ sym (eight_first q wrong h))

  pub read_passed : ◌≡◌ {A = ℕ} 0 (cond wrong 8 0) → told_of q ≡ told_of (refuse 8 wrong q)
  read_passed g = ap (λ o. record { refusal = o.refusal; reply = data_of o.reply }) (length_right tt q wrong (passes wrong 7 g))

-- and of one that writes
module _ (m : Module) (q : Request Module) (wrong : Bool) where
  pub write_refused : (r : Refusal) → q.holds 7 ≡ false → number_of r ≡ cond wrong 8 0 → outcome m (Err r) ≡ served_of (judged m (refuse 8 wrong q))
  write_refused r h e = refused_at m (refuse 8 wrong q) r (stops wrong 8 _ r e ∙ sym (eight_first q wrong h))

  pub write_passed : ◌≡◌ {A = ℕ} 0 (cond wrong 8 0) → served_of (judged m q) ≡ served_of (judged m (refuse 8 wrong q))
  write_passed g = ap served_of (length_right m q wrong (passes wrong 7 g))

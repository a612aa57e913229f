-- A request that only reads, refused and answered. Assumes nothing.
use Rattle.std.proofs.Common.{◌≡◌, refl, ◌∙◌, ap, ℕ, zero, suc, Ok, Err, []}
use Rattle.lists.specs.Data.{Data}
use Rattle.lists.specs.Data.{data_of}
use Rattle.model.specs.declared.Refusal.{Refusal}
use Rattle.model.specs.Numbers.{number_of}
use Rattle.model.specs.Refusals.{Request, refusal_of, judged, decided}
use Rattle.model.proofs.Refusing.{some_number}
use Rattle.encoding.specs.Answers.{Told, told, told_of}

abbrev by_number : ℕ → Request (Unit {0}) → Told
by_number n q = record { refusal = (decided n tt q.after q.reply).refusal; reply = data_of (decided n tt q.after q.reply).reply }

refused_so : (q : Request (Unit {0})) (n : ℕ) → (n ≡ 0 → ⊥) → record { refusal = n; reply = data_of [] } ≡ by_number n q
refused_so q zero h = absurd (h refl)
refused_so q (suc n) h = refl

pub told_refused : (q : Request (Unit {0})) (r : Refusal) → number_of r ≡ refusal_of q → told (Err r) ≡ told_of q
unfolding judged
told_refused q r e = refused_so q (number_of r) (some_number r) ∙ ap (λ n. by_number n q) e

pub told_answered : (q : Request (Unit {0})) (d : Data) → 0 ≡ refusal_of q → d ≡ data_of q.reply → told (Ok d) ≡ told_of q
unfolding judged
told_answered q d e a = rw a (ap (λ n. by_number n q) e)

-- How a request is judged, by induction over the checking order, and a frame by its own checks. Assumes nothing.
use Prim.Native.Nat.{ℕ, zero, suc, ◌≤◌}
use native.Mathlib.Omega.{arith}
use mathlib.Core.Path.{◌≡◌, refl}
use mathlib.Core.Bool.{Bool, true, false, cond}
use mathlib.Core.List.{List, [], ◌∷◌}
use lib.Dec.{eqb, leb}
use borrow.Author.Tests.{eqb-true, leb-true}
use Rattle.lists.specs.Tests.{all, any}
use Rattle.lists.proofs.Choices.{cond_case, or_left, all_first, all_rest}
use Rattle.model.specs.declared.Module.{Module}
use Rattle.model.specs.Refusals.{checking_order, Request, or_also, refuse, on_part, Done, refused, first_holding, decided, judged, done_at, Out, silent, if_passes, buffer_short}
use Rattle.model.specs.Wire.{Wire, frame_refusal, used_up, request_of, frame_answered, frame_acted, frame_handled, frame_call}

-- none of some conditions holds
pub record NoneOf {P : Type 0} (ns : List ℕ) (q : Request P) : Type 0 where
  pub at : (n : ℕ) → any (eqb n) ns ≡ true → q.holds n ≡ false

-- none at all; under `unfolding order`, `p.at 9 refl` says that condition 9 does not hold
abbrev pub Passes : {P : Type 0} → Request P → Type 0
Passes q = NoneOf checking_order q

-- the order has no number below 7; naming this on an `unfolding` line opens the order
unfoldable pub order : all (leb 7) checking_order ≡ true
unfolding checking_order all any
order = refl

-- where nothing stands against a request
abbrev pub granted : {P : Type 0} → Request P → Done P
granted q = record { refusal = 0; part = q.after; reply = q.reply }

also_none : {P : Type 0} (q : Request P) (n : ℕ) (ns : List ℕ) → q.holds n ≡ false → NoneOf ns q → NoneOf (n ∷ ns) q
unfolding any
also_none q n ns e h = record {
  at = λ k. cond_case (λ (b : Bool). b ≡ true → q.holds k ≡ false) (eqb k n) true (any (eqb k) ns) (λ s _. rw (eqb-true k n s) e) (λ _. h.at k);
}

-- Two requests under the same conditions: what holds of every two refusals and, where no condition holds, of what is granted, holds of the answers
module _ {P Q : Type 0} (R : Done P → Done Q → Type 0) (p : P) (s : Q) (q : Request P) (r : Request Q) (same : (n : ℕ) → r.holds n ≡ q.holds n)
    (denied : (n : ℕ) → 7 ≤ n → R (refused n p) (refused n s)) where
  refused_both : (n : ℕ) → 7 ≤ n → R (decided n p q.after q.reply) (decided n s r.after r.reply)
  refused_both zero l = absurd (omega arith)
  refused_both (suc n) l = denied (suc n) l

  cond_both : (t : Bool) (n a b : ℕ) → R (decided n p q.after q.reply) (decided n s r.after r.reply) → (t ≡ false → R (decided a p q.after q.reply) (decided b s r.after r.reply))
      → R (decided (cond t n a) p q.after q.reply) (decided (cond t n b) s r.after r.reply)
  cond_both true n a b f g = f
  cond_both false n a b f g = g refl

  by_both : (ns : List ℕ) → all (leb 7) ns ≡ true → (NoneOf ns q → R (granted q) (granted r))
      → R (decided (first_holding ns q.holds) p q.after q.reply) (decided (first_holding ns r.holds) s r.after r.reply)
  unfolding first_holding any
  by_both [] l g = g (record { at = λ n e. cc })
  by_both (n ∷ ns) l g =
      rw (same n)
      (cond_both (q.holds n) n _ _
      (refused_both n (leb-true 7 n (all_first (leb 7) n ns l)))
      (λ e. by_both ns (all_rest (leb 7) n ns l) (λ h. g (also_none q n ns e h))))

  pub judged_both : (Passes q → R (granted q) (granted r)) → R (judged p q) (judged s r)
  unfolding judged
  judged_both = by_both checking_order order

-- the same of one request: refused, the part as it was, or accepted
pub judged_either : {P : Type 0} (R : Done P → Type 0) (p : P) (q : Request P) → ((n : ℕ) → 7 ≤ n → R (refused n p)) → (Passes q → R (granted q)) → R (judged p q)
judged_either R p q = judged_both (λ o _. R o) p p q q (λ _. refl)

-- a request on a part is judged as one on the whole, where `put p` is the whole as it stands
pub judged_part : {P Q : Type 0} (put : P → Q) (p : P) (q : Request P) → judged (put p) (on_part put q) ≡ done_at put (judged p q)
judged_part put p q = judged_both (λ o w. w ≡ done_at put o) p (put p) q (on_part put q) (λ _. refl) (λ _ _. refl) (λ _. refl)

-- a request that passes one condition more passes without it
passed_also : (t b h : Bool) → or_also t b h ≡ false → h ≡ false
passed_also true b h e = or_left h b e
passed_also false b h e = e

pub passes_without : {P : Type 0} (n : ℕ) (b : Bool) (q : Request P) → Passes (refuse n b q) → Passes q
passes_without n b q p = record { at = λ k m. passed_also (eqb k n) b (q.holds k) (p.at k m) }

-- a frame: refused without a reply, or acted on
pub passes_either : (R : Out → Type 0) (n : ℕ) (m : Module) (o : Out) → ((k : ℕ) → R (silent (suc k) m)) → (n ≡ 0 → R o) → R (if_passes n m o)
passes_either R zero m o denied acted = acted refl
passes_either R (suc k) m o denied acted = denied k

-- a call with a frame on either wire: refused without a reply, refused by 7 to 13, or accepted
pub frame_either : (R : Out → Type 0) (w : Wire) (f : List ℕ) (m : Module) → ((n : ℕ) → R (silent (suc n) m))
    → ((n : ℕ) → 7 ≤ n → R (frame_answered w (w.port m).address f (refused n (used_up w m))))
    → (frame_refusal w (w.check_tested m) (w.port m).address f ≡ 0 → Passes (request_of w f m) → R (frame_answered w (w.port m).address f (granted (request_of w f m))))
    → (room : ℕ) → R (frame_call w room f m)
unfolding frame_call frame_handled frame_acted
frame_either R w f m early denied accepted room =
    cond_case R (buffer_short room) _ _ (λ _. early 0) λ _.
    passes_either R (frame_refusal w (w.check_tested m) (w.port m).address f) m (frame_acted w f m) early λ h.
    judged_either (λ o. R (frame_answered w (w.port m).address f o)) (used_up w m) (request_of w f m) denied (accepted h)

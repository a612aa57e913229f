-- Demand 1: every call is refused by the first of its conditions that holds, and what a refusal leaves. Assumes nothing.
use Prim.Native.Nat.{ℕ, zero, suc, ◌≤◌}
use native.Mathlib.Omega.{arith}
use native.Mathlib.Nat.{le_trans}
use mathlib.Core.Path.{◌≡◌, refl, sym, ap, ◌∙◌}
use mathlib.Core.Bool.{Bool, true, false, cond}
use mathlib.Core.List.{List, [], ◌∷◌, ◌++◌, map}
use lib.Dec.{eqb}
use borrow.Author.Tests.{ne_eqb}
use lib.ListN.{length}
use Rattle.lists.proofs.Choices.{cond_case}
use Rattle.lists.proofs.DataLaws.{over_beyond, over_length}
use Rattle.model.specs.declared.Module.{Module}
use Rattle.model.specs.Frames.{spinel_to, signature_of, spinel_broadcast, spinel_reply, function_of, exception_reply}
use Rattle.model.specs.Refusals.{Request, Done, refused, first_holding, decided, judged, Out, silent, buffer_short, if_passes, ack_of, exception_of}
use Rattle.model.specs.Wire.{Wire, used_up, request_of, frame_refusal, frame_answered, frame_acted, frame_handled, frame_call}
use Rattle.model.specs.Spinel.{spinel_wire}
use Rattle.model.specs.Text.{is_text, text_to, text_broadcast, text_reply, last_digit, text_wire}
use Rattle.model.specs.Modbus.{modbus_wire}
use Rattle.model.specs.Call.{Act, sample, temperature, spinel, modbus}
use Rattle.model.specs.Calls.{sampled, sample_call, temperature_call, acted, step}
use Rattle.model.specs.Demand1.{Check, check, greatest, claimed_order, request_checks, frame_checks, wire_checks, checks, RefusedBy, here, later, NoneHolds, none, also, permission_ended, is_broadcast, refusal_reply, RefusalsHold}
use Rattle.model.proofs.Judged.{judged_either}
use Rattle.model.proofs.Short.{spinel_short, spinel_fits, text_short, text_fits, modbus_short, modbus_fits, notice_fits}

-- The first condition that holds ---------------------------------------------------------

-- its number, or 0
unfoldable pub first_of : List Check → ℕ
first_of [] = 0
first_of (c ∷ cs) = cond c.holds c.number (first_of cs)

-- all numbers stand from low to high
abbrev Numbered : ℕ → ℕ → List Check → Type 0
Numbered low high [] = Unit {0}
Numbered low high (c ∷ cs) = (low ≤ c.number) × (c.number ≤ high) × Numbered low high cs

-- first_of is n exactly when condition n holds and no earlier one

refused_by : (n : ℕ) (cs : List Check) → 1 ≤ n → first_of cs ≡ n → RefusedBy n cs
unfolding first_of
refused_by n [] l e = absurd (omega arith)
refused_by n (c ∷ cs) l e =
    cond_case (λ (k : ℕ). k ≡ n → RefusedBy n (c ∷ cs)) c.holds c.number (first_of cs)
    (λ h k. here c cs k h)
    (λ h k. later c cs h (refused_by n cs l k)) e

first_of_lem : (n : ℕ) (cs : List Check) → RefusedBy n cs → first_of cs ≡ n
unfolding first_of
first_of_lem n cs (here c ds e h) = rw h e
first_of_lem n cs (later c ds h r) = rw h (first_of_lem n ds r)

-- first_of is 0 exactly when none holds

none_holds : (high : ℕ) (cs : List Check) → Numbered 1 high cs → first_of cs ≡ 0 → NoneHolds cs
unfolding first_of
none_holds high [] b e = none
none_holds high (c ∷ cs) b e =
    cond_case (λ (k : ℕ). k ≡ 0 → NoneHolds (c ∷ cs)) c.holds c.number (first_of cs)
    (λ h k. absurd (omega arith))
    (λ h k. also c cs h (none_holds high cs b.2 k)) e

first_none : (cs : List Check) → NoneHolds cs → first_of cs ≡ 0
unfolding first_of
first_none cs none = refl
first_none cs (also c ds h r) = rw h (first_none ds r)

-- first_of stands from low to high, or is 0
module _ (low high : ℕ) where
  first_most : (cs : List Check) → Numbered low high cs → first_of cs ≤ high
  unfolding first_of
  first_most [] b = omega arith
  first_most (c ∷ cs) b = cond_case (λ (k : ℕ). k ≤ high) c.holds c.number (first_of cs) (λ _. b.1) (λ _. first_most cs b.2)

  first_least : (cs : List Check) → Numbered low high cs → 1 ≤ first_of cs → low ≤ first_of cs
  unfolding first_of
  first_least [] b = λ l. absurd (omega arith)
  first_least (c ∷ cs) b = cond_case (λ (k : ℕ). 1 ≤ k → low ≤ k) c.holds c.number (first_of cs) (λ _ _. b.0) (λ _. first_least cs b.2)

-- Requests -------------------------------------------------------------------------------

-- an answer on the part p to a request with the conditions cs: refused by the first that holds; a refusal leaves p, and has no data
pub record Follows {P : Type 0} (p : P) (cs : List Check) (o : Done P) : Type 0 where
  pub refusal : o.refusal ≡ first_of cs
  pub kept : 1 ≤ o.refusal → o.part ≡ p
  pub empty : 1 ≤ o.refusal → o.reply ≡ []

module _ {P : Type 0} (p : P) where
  -- a number decides
  decided_follows : (cs : List Check) (n : ℕ) (q : Request P) → n ≡ first_of cs → Follows p cs (decided n p q.after q.reply)
  decided_follows cs zero q e = record { refusal = e; kept = λ l. absurd (omega arith); empty = λ l. absurd (omega arith) }
  decided_follows cs (suc n) q e = record { refusal = e; kept = λ _. refl; empty = λ _. refl }

  first_by : (ns : List ℕ) (q : Request P) → first_holding ns q.holds ≡ first_of (map (λ n. check n (q.holds n)) ns)
  unfolding first_holding first_of
  first_by [] q = refl
  first_by (n ∷ ns) q = ap (cond (q.holds n) n) (first_by ns q)

  -- the claim's own list is the checking order
  pub judged_follows : (q : Request P) → Follows p (request_checks q) (judged p q)
  unfolding judged request_checks
  judged_follows q = decided_follows _ _ q (first_by claimed_order q)

request_numbered : {P : Type 0} (q : Request P) → Numbered 7 greatest (request_checks q)
unfolding request_checks
request_numbered q = omega arith

-- Calls ----------------------------------------------------------------------------------

-- an answer in the state m to a call with the conditions cs; a refusal of 7 to 14 leaves `used` and is answered by `refusing`
record Answers (m used : Module) (broadcast : Bool) (refusing : ℕ → List ℕ) (cs : List Check) (o : Out) : Type 0 where
  refusal : o.refusal ≡ first_of cs
  early : 1 ≤ o.refusal → o.refusal ≤ 6 → (o.after ≡ m) × (o.reply ≡ [])
  late : 7 ≤ o.refusal → o.after ≡ used
  told : 7 ≤ o.refusal → o.reply ≡ refusing o.refusal
  quiet : broadcast ≡ true → o.reply ≡ []
  fits : length o.reply ≤ 256

module _ (m used : Module) (broadcast : Bool) (refusing : ℕ → List ℕ) where
  -- one condition of 1 to 6 in front
  call_check : (n : ℕ) (t : Bool) → n ≤ 6 → {cs : List Check} {o : Out} → Answers m used broadcast refusing cs o → Answers m used broadcast refusing (check n t ∷ cs) (cond t (silent n m) o)
  unfolding first_of
  call_check n true l a = record { refusal = refl; early = λ _ _. (refl, refl); late = λ k. absurd (omega arith); told = λ k. absurd (omega arith); quiet = λ _. refl; fits = omega arith }
  call_check n false l a = record { refusal = a.refusal; early = a.early; late = a.late; told = a.told; quiet = a.quiet; fits = a.fits }

  -- a frame's refusal chosen by a test
  passes_cond : (t : Bool) (n r : ℕ) (o : Out) → 1 ≤ n → if_passes (cond t n r) m o ≡ cond t (silent n m) (if_passes r m o)
  passes_cond true zero r o l = absurd (omega arith)
  passes_cond true (suc n) r o l = refl
  passes_cond false n r o l = refl

  -- the frame's conditions in front of the request's
  framed : (fs cs : List Check) (o : Out) → Numbered 1 6 fs → Answers m used broadcast refusing cs o → Answers m used broadcast refusing (fs ++ cs) (if_passes (first_of fs) m o)
  unfolding first_of
  framed [] cs o b a = a
  framed (f ∷ fs) cs o b a = rw (passes_cond f.holds f.number (first_of fs) o b.0) (call_check f.number f.holds b.1 (framed fs cs o b.2 a))

-- A frame on either wire ------------------------------------------------------------------

-- what is used of a wire: its replies fit the least buffer, and a refused request is answered by `refusing`
record Replies (w : Wire) (f : List ℕ) (m : Module) (refusing : ℕ → List ℕ) : Type 0 where
  short : length (w.replied (w.port m).address f (judged (used_up w m) (request_of w f m))) ≤ 256
  tells : (n : ℕ) → 7 ≤ n → w.replied (w.port m).address f (refused n (used_up w m)) ≡ refusing n

-- nothing, or the wire's reply
unanswered : (t : Bool) (bs : List ℕ) → t ≡ true → cond t [] bs ≡ []
unanswered t bs e = rw e

module _ (w : Wire) (f : List ℕ) (m : Module) (refusing : ℕ → List ℕ) (r : Replies w f m refusing) where
  abbrev to_all : Bool
  to_all = eqb (w.addressee f) w.broadcast

  abbrev told : ℕ → List ℕ
  told n = cond to_all [] (refusing n)

  -- the request refused, or accepted
  acted_answers : Answers m (used_up w m) to_all told (request_checks (request_of w f m)) (frame_acted w f m)
  unfolding frame_acted frame_answered
  acted_answers =
      let q = request_of w f m in
      let g = judged_follows (used_up w m) q in
      let late : 1 ≤ (judged (used_up w m) q).refusal → 7 ≤ (judged (used_up w m) q).refusal = λ k. omega (arith, g.refusal, first_least 7 greatest (request_checks q) (request_numbered q) (omega (arith, g.refusal))) in
      record {
        refusal = g.refusal;
        early = λ k s. absurd (omega (arith, late k));
        late = λ k. g.kept (omega arith);
        told = λ k. ap (cond to_all []) (judged_either (λ o. 7 ≤ o.refusal → w.replied (w.port m).address f o ≡ refusing o.refusal) (used_up w m) q (λ n l _. r.tells n l) (λ _ l. absurd (omega arith)) k);
        quiet = unanswered to_all _;
        fits = cond_case (λ (l : List ℕ). length l ≤ 256) to_all [] _ (λ _. omega arith) (λ _. r.short);
      }

  -- behind the frame's own conditions
  handled_answers : Answers m (used_up w m) to_all told (frame_checks w (w.check_tested m) (w.port m).address f ++ request_checks (request_of w f m)) (frame_handled w f m)
  unfolding frame_handled frame_refusal frame_checks first_of
  handled_answers = framed m (used_up w m) to_all told (frame_checks w (w.check_tested m) (w.port m).address f) _ (frame_acted w f m) (omega arith) acted_answers

  -- behind the buffer's
  frame_answers : (room : ℕ) → Answers m (used_up w m) to_all told (wire_checks w (w.check_tested m) m room f) (frame_call w room f m)
  unfolding frame_call
  frame_answers room = call_check m (used_up w m) to_all told 1 (buffer_short room) (omega arith) handled_answers

spinel_replies : (f : List ℕ) (m : Module) → Replies spinel_wire f m (λ n. spinel_reply m.spinel.address (signature_of f) (ack_of n) [])
spinel_replies f m =
    let fits = spinel_fits m.spinel.address (signature_of f) (judged (used_up spinel_wire m) (request_of spinel_wire f m)) (spinel_short _ _ _) in
    record { short = omega arith; tells = λ _ _. refl }

text_replies : (f : List ℕ) (m : Module) → Replies text_wire f m (λ n. text_reply m.spinel.address (last_digit (ack_of n) ∷ []))
text_replies f m =
    let fits = text_fits m.spinel.address (judged (used_up text_wire m) (request_of text_wire f m)) (text_short _ _ _) in
    record { short = omega arith; tells = λ n l. rw (ne_eqb n 0 (λ z. omega arith)) }

modbus_replies : (f : List ℕ) (m : Module) → Replies modbus_wire f m (λ n. exception_reply m.modbus.address (function_of f) (exception_of n))
modbus_replies f m =
    let fits = modbus_fits m.modbus.address (function_of f) (judged (used_up modbus_wire m) (request_of modbus_wire f m)) (modbus_short _ _ _ _ _) in
    record { short = fits; tells = λ n l. rw (ne_eqb n 0 (λ z. omega arith)) }

-- a frame on the Spinel port, where t tells whether it is text
abbrev spinel_told : Bool → List ℕ → Module → ℕ → List ℕ
spinel_told t f m n =
    cond t
    (cond (eqb (text_to f) text_broadcast) [] (text_reply m.spinel.address (last_digit (ack_of n) ∷ [])))
    (cond (eqb (spinel_to f) spinel_broadcast) [] (spinel_reply m.spinel.address (signature_of f) (ack_of n) []))

spinel_answers : (t : Bool) (f : List ℕ) (m : Module) (room : ℕ)
    → Answers m (used_up spinel_wire m) (cond t (eqb (text_to f) text_broadcast) (eqb (spinel_to f) spinel_broadcast)) (spinel_told t f m)
    (cond t (wire_checks text_wire false m room f) (wire_checks spinel_wire m.settings.sum_tested m room f)) (frame_call (cond t text_wire spinel_wire) room f m)
spinel_answers true f m room = frame_answers text_wire f m _ (text_replies f m) room
spinel_answers false f m room = frame_answers spinel_wire f m _ (spinel_replies f m) room

-- a call without conditions
plain : (m : Module) (refusing : ℕ → List ℕ) (o : Out) → o.refusal ≡ 0 → length o.reply ≤ 256 → Answers m m false refusing [] o
unfolding first_of
plain m refusing o e l = record { refusal = e; early = λ k. absurd (omega arith); late = λ k. absurd (omega arith); told = λ k. absurd (omega arith); quiet = λ k. cc; fits = l }

call_answers : (m : Module) (room : ℕ) (a : Act) → Answers m (permission_ended a m) (is_broadcast a) (λ n. refusal_reply n a m) (checks m room a) (acted room a m)
unfolding permission_ended is_broadcast refusal_reply checks sample_call sampled temperature_call
call_answers m room (sample bits) = call_check m m false _ 1 (buffer_short room) (omega arith) (plain m _ (sampled bits m) refl (le_trans (notice_fits _ _ _ _) (omega arith)))
call_answers m room (temperature good tenths) = plain m _ _ refl (omega arith)
call_answers m room (spinel f) = spinel_answers (is_text f) f m room
call_answers m room (modbus f) = frame_answers modbus_wire f m _ (modbus_replies f m) room

checks_numbered : (m : Module) (room : ℕ) (a : Act) → Numbered 1 greatest (checks m room a)
unfolding checks frame_checks request_checks
checks_numbered m room (sample bits) = omega arith
checks_numbered m room (temperature good tenths) = omega arith
checks_numbered m room (spinel f) = cond_case (Numbered 1 greatest) (is_text f) _ _ (λ _. omega arith) (λ _. omega arith)
checks_numbered m room (modbus f) = omega arith

pub refusals_hold : RefusalsHold
unfolding step
refusals_hold m c =
    let a = call_answers m c.room c.act in
    let b = checks_numbered m c.room c.act in
    record {
      exactly = λ n l. (λ e. refused_by n _ l (sym a.refusal ∙ e), λ r. a.refusal ∙ first_of_lem n _ r);
      accepted = (λ e. none_holds greatest _ b (sym a.refusal ∙ e), λ r. a.refusal ∙ first_none _ r);
      most = rw a.refusal (first_most 1 greatest _ b);
      early = a.early;
      late = a.late;
      told = a.told;
      broadcast = a.quiet;
      untouched = λ old e. rw e;
      beyond = over_beyond (step m c).reply;
      fits = a.fits;
      size = λ old h. over_length (step m c).reply old (le_trans a.fits h);
    }

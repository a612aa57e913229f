-- Demand 3: over every list of calls from a fresh module, or from any that agrees with its tally, edges are collected plus counter plus a
-- multiple of 4,294,967,296. Assumes nothing.
use Prim.Native.Nat.{ℕ, zero, suc, ◌+◌, ◌-◌, ◌≤◌, ◌<◌}
use native.Mathlib.Omega.{arith}
use mathlib.Core.Path.{◌≡◌, refl, sym, ◌∙◌}
use mathlib.Core.List.{List, [], ◌∷◌, ◌++◌}
use mathlib.Core.Bool.{Bool, true, false, cond, ◌&&◌, ◌||◌, and-true}
use lib.ListN.{length, get_or, drop}
use lib.Dec.{eqb, leb}
use lib.IntN.{ℤ}
use borrow.Author.Tests.{leb-true}
use Rattle.lists.specs.Numbers.{bytes}
use Rattle.lists.proofs.Choices.{cond_case, and_right, passed}
use Rattle.model.specs.declared.Module.{Module}
use Rattle.model.specs.State.{fresh_module}
use Rattle.model.specs.Samples.{counter_bits, inputs_sampled}
use Rattle.model.specs.Frames.{spinel_to, signature_of, instruction_of, spinel_data, spinel_broadcast, spinel_reply, sum_of}
use Rattle.model.specs.Refusals.{Done, Out, ack_of, silent, spinel_broadcast_wrong, buffer_short}
use Rattle.model.specs.Wire.{Wire, frame_refusal, used_up, request_of, frame_answered, frame_call}
use Rattle.model.specs.Spinel.{spinel_request, spinel_wire}
use Rattle.model.specs.Text.{is_text, characters, typed, text_request, text_wire}
use Rattle.model.specs.Modbus.{modbus_wire}
use Rattle.model.specs.Temperature.{reading_of, taken}
use Rattle.model.specs.declared.Reading.{Reading}
use Rattle.model.specs.declared.Reading.TheVariants.{Valid, Fault}
use Rattle.model.specs.Call.{Act, Call, sample, temperature, spinel, modbus}
use Rattle.model.specs.Calls.{sampled, sample_call, temperature_call, spinel_call, modbus_call, acted, step, run}
use Rattle.model.specs.Tally.{Tally, Event, as_text, tallied, spinel_tallied, text_tallied, modbus_tallied, if_accepted, feed, tally, fresh_tally, uncollected, clears, stayed}
use Rattle.model.specs.Cycles.{events, Conserved, CyclesConserved, counting_of, Agree, CyclesConservedFrom}
use Rattle.model.proofs.Judged.{frame_either}
use Rattle.model.proofs.Invariant.{Inv, exact_at, agreed, fresh_agrees, sample_keeps}
use Rattle.model.proofs.Accepted.{Good, if_refused}
use Rattle.model.proofs.SpinelKeeps.{spinel_good}
use Rattle.model.proofs.TextKeeps.{text_read, text_good}
use Rattle.model.proofs.ModbusKeeps.{modbus_good}

-- the answer o to a call keeps the invariant
record Kept (i : ℕ) (t : Tally) (a : Act) (o : Out) : Type 0 where
  keeps : Inv i (counting_of o.after) (if_accepted o.refusal t (tallied a o.reply t))

-- a frame that passes 2 to 6 is no forbidden broadcast
no_broadcast : (w : Wire) (tested : Bool) (own : ℕ) (f : List ℕ) → frame_refusal w tested own f ≡ 0 → w.broadcast_wrong f ≡ false
unfolding frame_refusal
no_broadcast w tested own f h =
    let a = passed _ 1 _ h in
    let b = passed _ 2 _ a.1 in
    let c = passed _ 3 _ b.1 in
    let d = passed _ 4 _ c.1 in
    (passed (w.broadcast_wrong f) 5 0 d.1).0

-- so a 60H that passes came to one address
to_one : (to i : ℕ) → spinel_broadcast_wrong to i ≡ false → i ≡ 0x60 → eqb to spinel_broadcast ≡ false
unfolding spinel_broadcast_wrong
to_one to i h e = sym (and-true (eqb to spinel_broadcast)) ∙ (rw e at h)

module _ (i : ℕ) (small : i < 16) (m : Module) (t : Tally) (v : Inv i (counting_of m) t) where
  -- a test that refuses without a reply
  tested : (a : Act) (b : Bool) (n : ℕ) (o : Out) → Kept i t a o → Kept i t a (cond b (silent (suc n) m) o)
  tested a true n o k = record { keeps = v }
  tested a false n o k = k

  -- a frame on either wire, where its request keeps the invariant; `after` is the tally by the refusal and the reply's data
  frame_keeps : (w : Wire) (f : List ℕ) (a : Act) (after : ℕ → List ℕ → Tally)
      → ((o : Done Module) → tallied a (frame_answered w (w.port m).address f o).reply t ≡ after o.refusal o.reply)
      → Inv i (counting_of (used_up w m)) t
      → (frame_refusal w (w.check_tested m) (w.port m).address f ≡ 0 → Good i (after 0) (request_of w f m))
      → (room : ℕ) → Kept i t a (frame_call w room f m)
  unfolding frame_answered
  frame_keeps w f a after e u good =
      frame_either (Kept i t a) w f m (λ _. record { keeps = v }) (λ n l. record { keeps = rw (if_refused n t _ l) u })
      (λ h p. record { keeps = rw e ((good h).keeps p) })

  module _ (f : List ℕ) where
    -- the reply's bytes by the refusal and the data
    abbrev replied : ℕ → List ℕ → List ℕ
    replied n d = cond (eqb (spinel_to f) spinel_broadcast) [] (spinel_reply m.spinel.address (signature_of f) (ack_of n) d)

    -- SUM and 0D of a reply to 60H
    abbrev closing : List ℕ → List ℕ
    closing bs = sum_of (0x2A ∷ 0x61 ∷ bytes 2 (length (counter_bits ∷ bs) + 5) ++ m.spinel.address ∷ signature_of f ∷ ack_of 0 ∷ counter_bits ∷ bs) ∷ 0x0D ∷ []

    -- its values stand behind its first eight bytes
    tail_of : eqb (spinel_to f) spinel_broadcast ≡ false → (bs : List ℕ) → drop 8 (replied 0 (counter_bits ∷ bs)) ≡ bs ++ closing bs
    unfolding spinel_reply bytes
    tail_of e bs = rw e

    -- a binary frame, and one of text; the tally tells them apart by the same two bytes
    binary_keeps : is_text f ≡ false → (room : ℕ) → Kept i t (spinel f) (frame_call spinel_wire room f m)
    unfolding spinel_request tallied frame_answered is_text as_text
    binary_keeps b =
        frame_keeps spinel_wire f (spinel f) (λ n d. spinel_tallied (instruction_of f) (spinel_data f) (replied n d) t) (λ _. rw b) v λ h.
        spinel_good i small (used_up spinel_wire m) t v (spinel_data f) (replied 0) (spinel_request m.spinel.permitted f) (instruction_of f) closing refl refl
        (λ e. tail_of (to_one (spinel_to f) (instruction_of f) (no_broadcast spinel_wire m.settings.sum_tested m.spinel.address f h) e))

    text_keeps : is_text f ≡ true → (room : ℕ) → Kept i t (spinel f) (frame_call text_wire room f m)
    unfolding text_request tallied is_text as_text
    text_keeps b =
        frame_keeps text_wire f (spinel f) (λ n d. text_tallied f t) (λ _. rw b) v λ h.
        text_good i small (used_up text_wire m) t v f (typed (characters f)).code (text_request m.spinel.permitted f) (text_read false m.spinel.address f h)

    spinel_keeps : (room : ℕ) → Kept i t (spinel f) (spinel_call room f m)
    spinel_keeps room = cond_case (λ (w : Wire). Kept i t (spinel f) (frame_call w room f m)) (is_text f) text_wire spinel_wire (λ b. text_keeps b room) (λ b. binary_keeps b room)

    modbus_keeps : (room : ℕ) → Kept i t (modbus f) (modbus_call room f m)
    unfolding tallied
    modbus_keeps = frame_keeps modbus_wire f (modbus f) (λ n d. modbus_tallied f t) (λ _. refl) v λ _. modbus_good i small (used_up modbus_wire m) t v f m.modbus.permitted

  temperature_keeps : (good : Bool) (tenths : ℤ) (room : ℕ) → Kept i t (temperature good tenths) (temperature_call room good tenths m)
  unfolding temperature_call taken tallied
  temperature_keeps good tenths room = go (reading_of good tenths)
    where
      go : (r : Reading) → Kept i t (temperature good tenths) (silent 0 (taken r m))
      go (Valid z y) = record { keeps = v }
      go Fault = record { keeps = v }

  call_keeps : (room : ℕ) (a : Act) → Kept i t a (acted room a m)
  unfolding sample_call sampled inputs_sampled tallied
  call_keeps room (sample bits) = tested (sample bits) (buffer_short room) 0 (sampled bits m) (record { keeps = sample_keeps i small (counting_of m) t.sampling (t.input (suc i)) bits v })
  call_keeps room (temperature good tenths) = temperature_keeps good tenths room
  call_keeps room (spinel f) = spinel_keeps f room
  call_keeps room (modbus f) = modbus_keeps f room

calls_keep : (i : ℕ) → i < 16 → (cs : List Call) (m : Module) (t : Tally) → Inv i (counting_of m) t → Inv i (counting_of (run m cs)) (tally t (events m cs))
unfolding run step tally events feed
calls_keep i h [] m t v = v
calls_keep i h (c ∷ cs) m t v = calls_keep i h cs (step m c).after _ (call_keeps i h m t v c.room c.act).keeps

-- never more than 4,294,967,295 uncollected since the last clearing: not after the last of some calls either
stayed_end : (k : ℕ) (b : Bool) (c : Event) (es : List Event) (t : Tally) → stayed k b t (c ∷ es) ≡ true → uncollected (tally t (c ∷ es)) k ≤ 4294967295
unfolding stayed tally
stayed_end k b c [] t e = leb-true (uncollected (feed t c) k) 4294967295 (and_right (b || eqb c.refusal 0 && clears k c.act) _ e)
stayed_end k b c (d ∷ es) t e = stayed_end k ((b || eqb c.refusal 0 && clears k c.act) && leb (uncollected (feed t c) k) 4294967295) d es (feed t c) e

module _ (m : Module) (t : Tally) (i : ℕ) (small : i < 16) (a : Agree (suc i) m t) where
  -- the module and the tally after some calls, for the input in place i
  after : (calls : List Call) → Inv i (counting_of (run m calls)) (tally t (events m calls))
  after calls = calls_keep i small calls m t (agreed i m t a)

  -- without a call the sum is what they agreed in
  since : (calls : List Call) → stayed (suc i) true t (events m calls) ≡ true
      → ((tally t (events m calls)).input (suc i)).edges ≡ ((tally t (events m calls)).input (suc i)).collected + get_or (run m calls).inputs.counters i 0
  unfolding run events tally
  since [] s = exact_at i m t a
  since (c ∷ cs) s = omega (arith, (after (c ∷ cs)).sum, stayed_end (suc i) true _ (events (step m c).after cs) t s)

  at_place : (calls : List Call) → Conserved (suc i) (get_or (run m calls).inputs.counters i 0) t (events m calls)
  at_place calls =
      let v = after calls in
      record { times = v.times; sum = v.sum; exact = λ u. omega (arith, v.sum); since = since calls }

-- Demand 3 from any module and tally that agree in the input
pub conserved_from : CyclesConservedFrom
conserved_from m t zero l h a calls = absurd (omega arith)
conserved_from m t (suc i) l h a calls =
    let place : suc i - 1 ≡ i = omega arith in
    rw place (at_place m t i (omega arith) a calls)

-- and so from fresh ones
pub conserved : CyclesConserved
conserved calls k l h = conserved_from fresh_module fresh_tally k l h (fresh_agrees k l h) calls

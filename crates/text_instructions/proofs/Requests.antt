-- What the codes come to, refused and done. Assumes nothing.
use Rattle.std.proofs.Common.{◌≡◌, refl, ap, ◌∙◌, ℕ, zero, suc, Ok, Err, List, [], ◌∷◌, get_or, ◌<◌, arith}
use mathlib.Core.Bool.{Bool, true, false, cond, not, ◌&&◌, ◌||◌, or-true}
use mathlib.Core.List.{foldl}
use lib.Dec.{eqb}
use borrow.Author.Tests.{eqb-true, eqb-false}
use Rattle.lists.specs.Data.{Data, data_of}
use Rattle.lists.specs.Tests.{within, all}
use Rattle.lists.specs.declared.Entry.{Entry}
use Rattle.model.specs.declared.HalfSeconds.{HalfSeconds}
use Rattle.model.specs.declared.Module.{Module}
use Rattle.model.specs.declared.Port.{Port}
use Rattle.model.specs.declared.Reading.{Reading}
use Rattle.model.specs.declared.Refusal.{Refusal}
use Rattle.model.specs.declared.Refusal.TheVariants.{DataLength, Value}
use Rattle.model.specs.State.{half_seconds, notice, turned_off, is_on, with_outputs, with_notice, with_spinel}
use Rattle.model.specs.Numbers.{number_of}
use Rattle.model.specs.Refusals.{Request, refuse, on_part, reading, refusal_of, judged, decided}
use Rattle.model.specs.Counters.{reset, give_permission}
use Rattle.model.specs.Outputs.{number_fits, set_output, start_pulse, act_on, pulse_outputs}
use Rattle.model.specs.Text.{typed_number, number_alone, state_alone, state_and_time, time_typed, state_entry, acknowledged, set_one, pulse_one, temperature_told, read_thermometer, one_character, switch_notice, configure}
use Rattle.model.proofs.Refusing.{some_number, passes}
use Rattle.lists.proofs.Choices.{is_within, not_within}
use Rattle.encoding.specs.Answers.{told, told_of}
use Rattle.encoding.proofs.Telling.{told_refused, told_answered}
use Rattle.outcomes.specs.declared.Served.{Served}
use Rattle.outcomes.specs.Parts.{served_of, outcome, told_about, Outcome}
use Rattle.outcomes.proofs.Laws.{Refused, Passes, refused_at, done_at, refused_first, refused_later, done_later, told_law, length-refused, length_right}

-- done, and told by ACK 0 alone
abbrev pub Acked : Module → Request Module → Module → Type 0
Acked m q after = outcome m (Ok (record { after = after; body = data_of (0x30 ∷ []) })) ≡ served_of (judged m q)

-- 8, before all that a listed code may be refused by
module _ (m : Module) (q : Request Module) (wrong : Bool) where
  pub wrong_first : q.holds 7 ≡ false → Refused m (refuse 8 wrong q) (cond wrong 8 0)
  wrong_first h = go wrong
    where
      go : (b : Bool) → Refused m (refuse 8 b q) (cond b 8 0)
      go true r e = rw e (ap served_of (length-refused m q true refl h))
      go false r e = absurd (some_number r e)

  pub wrong_passed : (x : Outcome) → wrong ≡ false → x ≡ served_of (judged m q) → x ≡ served_of (judged m (refuse 8 wrong q))
  wrong_passed x e h = h ∙ ap served_of (length_right m q wrong e)

-- what only reads
pub acked_told : (m : Module) (q : Request (Unit {0})) → told_about m (told_of (acknowledged q)) ≡ served_of (judged m (acknowledged (reading m q)))
acked_told m q = told_law m (acknowledged q)

-- RT: the thermometer has the number 1
the_one : (n : ℕ) → within 1 1 n ≡ eqb n 1
the_one n = go (eqb n 1) refl
  where
    go : (t : Bool) → eqb n 1 ≡ t → within 1 1 n ≡ t
    go true e = is_within 1 1 n (omega (arith, eqb-true n 1 e)) (omega (arith, eqb-true n 1 e))
    go false e = not_within 1 1 n (λ low high. eqb-false n 1 e (omega (arith, low, high)))

module _ (t : List ℕ) (r : Reading) where
  abbrev thermometer_number : ℕ
  thermometer_number = cond (not (number_alone t)) 8 (cond (not (within 1 1 (typed_number t))) 11 0)

  thermometer_first : thermometer_number ≡ refusal_of (read_thermometer t r)
  unfolding read_thermometer refusal_of
  thermometer_first = rw (the_one (typed_number t)) refl

  pub thermometer_refused : (x : Refusal) → number_of x ≡ thermometer_number → told (Err x) ≡ told_of (read_thermometer t r)
  thermometer_refused x e = told_refused (read_thermometer t r) x (e ∙ thermometer_first)

  pub thermometer_told : (d : Data) → 0 ≡ thermometer_number → d ≡ data_of (temperature_told r) → told (Ok d) ≡ told_of (read_thermometer t r)
  unfolding read_thermometer
  thermometer_told d e h = told_answered (read_thermometer t r) d (e ∙ thermometer_first) h

-- OS and OT, of one output
module _ (m : Module) (e : Entry) where
  abbrev set : Request Module
  set = acknowledged (on_part (with_outputs m) (act_on set_output m.reading m.settings.thermostats (e ∷ []) m.outputs))

  abbrev set_number : ℕ
  set_number = refusal_of (act_on set_output m.reading m.settings.thermostats (e ∷ []) m.outputs)

  pub set_refused : Refused m set set_number
  unfolding refusal_of
  set_refused = refused_at m set

  pub set_done : 0 ≡ set_number → Acked m set (with_outputs m (foldl set_output m.outputs (e ∷ [])))
  unfolding act_on refusal_of
  set_done k = done_at m set _ (data_of (0x30 ∷ [])) k refl refl

module _ (m : Module) (time : HalfSeconds) (e : Entry) where
  abbrev pulse : Request Module
  pulse = acknowledged (on_part (with_outputs m) (pulse_outputs time m.reading m.settings.thermostats (e ∷ []) m.outputs))

  abbrev pulse_number : ℕ
  pulse_number = refusal_of (pulse_outputs time m.reading m.settings.thermostats (e ∷ []) m.outputs)

  pub pulse_refused : Refused m pulse pulse_number
  unfolding refusal_of
  pulse_refused = refused_at m pulse

  pub pulse_done : 0 ≡ pulse_number → Acked m pulse (with_outputs m (foldl (start_pulse time) m.outputs (e ∷ [])))
  unfolding pulse_outputs act_on refusal_of
  pulse_done k = done_at m pulse _ (data_of (0x30 ∷ [])) k refl refl

-- OS and OT, by what is typed
module _ (m : Module) (t : List ℕ) where
  abbrev set_typed : Request Module
  set_typed = acknowledged (on_part (with_outputs m) (set_one m.reading m.settings.thermostats t m.outputs))

  pub set_wrong : state_alone t ≡ false → outcome m (Err DataLength) ≡ served_of (judged m set_typed)
  unfolding set_one act_on
  set_wrong h = wrong_first m (set m (state_entry t)) (not (state_alone t)) refl DataLength (rw h refl)

  pub set_passed : state_alone t ≡ true → (e : Entry) → e ≡ state_entry t → (x : Outcome) → x ≡ served_of (judged m (set m e)) → x ≡ served_of (judged m set_typed)
  unfolding set_one
  set_passed h e k x j = wrong_passed m (set m (state_entry t)) (not (state_alone t)) x (rw h refl) (rw k at j)

  abbrev pulse_typed : Request Module
  pulse_typed = acknowledged (on_part (with_outputs m) (pulse_one m.reading m.settings.thermostats t m.outputs))

  pub pulse_wrong : state_and_time t ≡ false → outcome m (Err DataLength) ≡ served_of (judged m pulse_typed)
  unfolding pulse_one pulse_outputs act_on
  pulse_wrong h = wrong_first m (pulse m (half_seconds (time_typed t)) (state_entry t)) (not (state_and_time t)) refl DataLength (rw h refl)

  pub pulse_passed : state_and_time t ≡ true → (e : Entry) → e ≡ state_entry t → (n : ℕ) → n ≡ time_typed t → (x : Outcome)
      → x ≡ served_of (judged m (pulse m (half_seconds n) e)) → x ≡ served_of (judged m pulse_typed)
  unfolding pulse_one
  pulse_passed h e k n l x j = wrong_passed m (pulse m (half_seconds (time_typed t)) (state_entry t)) (not (state_and_time t)) x (rw h refl) (rw (k, l) at j)

-- a time over 255
pub pulse_over : (m : Module) (n : ℕ) (e : Entry) → (n < 256 → ⊥) → outcome m (Err Value) ≡ served_of (judged m (pulse m (half_seconds n) e))
unfolding pulse_outputs act_on refusal_of
pulse_over m n e h =
    let over : within 1 255 n ≡ false = not_within 1 255 n (λ low high. h (omega (arith, high))) in
    refused_at m (pulse m (half_seconds n) e) Value (rw (over, or-true (not (all number_fits (e ∷ [])))) refl)

-- IS
module _ (m : Module) (t : List ℕ) where
  abbrev switch : Request Module
  switch = acknowledged (on_part (with_notice m) (switch_notice t m.settings.notice))

  abbrev no_switch : Bool
  no_switch = not (one_character (within 0x30 0x31) t)

  abbrev on : Bool
  on = eqb (get_or t 0 0) 0x31

  switch_first : refusal_of switch ≡ cond no_switch 8 (cond (on && is_on m.settings.notice) 11 0)
  unfolding switch_notice refusal_of
  switch_first = refl

  pub notice_wrong : Refused m switch (cond no_switch 8 0)
  notice_wrong = refused_first m switch no_switch 7 _ switch_first

  pub notice_refused : Passes no_switch 8 → Refused m switch (cond (on && is_on m.settings.notice) 11 0)
  notice_refused g r e = refused_later m switch no_switch 7 _ switch_first r g e

  pub notice_done : Passes no_switch 8 → Passes (on && is_on m.settings.notice) 11
      → Acked m switch (with_notice m (cond on (notice 0x42 0xFFFF m.settings.notice.signature) (turned_off m.settings.notice)))
  unfolding switch_notice
  notice_done g f = done_later m switch no_switch 7 _ switch_first _ (data_of (0x30 ∷ [])) g f refl refl

-- AS and SS, from the permission on
module _ (m : Module) (permitted universal : Bool) (p : Port) where
  abbrev configuring : Request Module
  configuring = acknowledged (configure permitted universal p m)

  abbrev closed : Bool
  closed = universal || not permitted

  configure_first : refusal_of configuring ≡ cond closed 10 0
  unfolding configure refusal_of
  configure_first = refl

  pub configure_closed : Refused m configuring (cond closed 10 0)
  configure_closed = refused_first m configuring closed 9 _ configure_first

  pub configured : Passes closed 10 → Acked m configuring (reset (with_spinel m p))
  unfolding configure
  configured g = done_later m configuring closed 9 _ configure_first _ (data_of (0x30 ∷ [])) g refl refl refl

  -- behind a check of their parameters
  module _ (wrong : Bool) where
    abbrev checked : Request Module
    checked = acknowledged (refuse 8 wrong (configure permitted universal p m))

    pub configure_wrong : Refused m checked (cond wrong 8 0)
    unfolding configure
    configure_wrong = wrong_first m configuring wrong refl

    pub configure_passed : Passes wrong 8 → (x : Outcome) → x ≡ served_of (judged m configuring) → x ≡ served_of (judged m checked)
    configure_passed g x e = wrong_passed m configuring wrong x (passes wrong 7 g) e

-- E, by E4H
module _ (m : Module) (q : Request Module) where
  told_number : (n : ℕ) → (decided n m q.after q.reply).refusal ≡ n
  told_number zero = refl
  told_number (suc n) = refl

  after_all : (n : ℕ) → 0 ≡ n → (decided n m q.after q.reply).part ≡ q.after
  after_all zero e = refl
  after_all (suc n) e = absurd (omega (arith, e))

  acked_refused : (r : Refusal) → outcome m (Err r) ≡ served_of (judged m q) → outcome m (Err r) ≡ served_of (judged m (acknowledged q))
  unfolding judged
  acked_refused r e = refused_at m (acknowledged q) r (ap (λ (x : Outcome). x.refusal) e ∙ told_number (refusal_of q))

  acked_done : (s : Served) → q.reply ≡ [] → outcome m (Ok s) ≡ served_of (judged m q) → Acked m (acknowledged q) s.after
  unfolding judged
  acked_done s d e =
      let none : 0 ≡ refusal_of q = ap (λ (x : Outcome). x.refusal) e ∙ told_number (refusal_of q) in
      done_at m (acknowledged q) s.after (data_of (0x30 ∷ [])) none (ap (λ (x : Outcome). x.after) e ∙ after_all (refusal_of q) none) (rw d refl)

module _ (m : Module) (universal : Bool) (t : List ℕ) where
  abbrev permission : Request Module
  permission = on_part (with_spinel m) (give_permission universal t m.spinel)

  pub permission_refused : (r : Refusal) → outcome m (Err r) ≡ served_of (judged m permission) → outcome m (Err r) ≡ served_of (judged m (acknowledged permission))
  permission_refused = acked_refused m permission

  pub permission_given : (s : Served) → outcome m (Ok s) ≡ served_of (judged m permission) → Acked m (acknowledged permission) s.after
  unfolding give_permission
  permission_given s e = acked_done m permission s refl e

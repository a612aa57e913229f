-- From what was served to what was handled, on any wire. Assumes nothing.
use Rattle.std.proofs.Common.{◌≡◌, refl, sym, ap, ◌∙◌, ℕ, ◌≤◌, List, [], length}
use mathlib.Core.Bool.{cond}
use lib.Dec.{eqb}
use lib.ListN.{take}
use lib.Seq.{take_all}
use Rattle.lists.specs.Data.{Data, data_of, bytes_in}
use Rattle.lists.proofs.DataLaws.{bytes_in_lem, both}
use Rattle.encoding.specs.Answers.{Told}
use Rattle.model.specs.declared.Module.{Module}
use Rattle.model.specs.Refusals.{Done, judged}
use Rattle.model.specs.Wire.{Wire, used_up, request_of, frame_answered, frame_acted}
use Rattle.outcomes.specs.Parts.{Outcome, served_of, handled_of}
use Rattle.wires.specs.Answers.{done_of, unless_all}

-- data that there is room for come back whole
whole : (room : ℕ) (l : List ℕ) → length l ≤ room → take room (bytes_in (data_of l)) ≡ l
whole room l h = ap (take room) (bytes_in_lem l) ∙ take_all room l h

-- what an outcome tells
abbrev pub told_in : Outcome → Told
told_in x = record { refusal = x.refusal; reply = x.body }

served_whole : (room : ℕ) (x : Outcome) (o : Done Module) → x ≡ served_of o → length o.reply ≤ room → done_of room x.after (told_in x) ≡ o
served_whole room x o e h =
    ap (λ (y : Outcome). done_of room y.after (told_in y)) e ∙ ap (λ (l : List ℕ). record { refusal = o.refusal; part = o.part; reply = l }) (whole room o.reply h)

-- on any wire, from the reply's bytes by value
pub wire_answered : (w : Wire) (own : ℕ) (f : List ℕ) (o : Done Module) (reply : Data) → reply ≡ data_of (w.replied own f o)
    → unless_all (eqb (w.addressee f) w.broadcast) (served_of o) reply ≡ handled_of (frame_answered w own f o)
unfolding frame_answered
wire_answered w own f o reply e =
    ap (unless_all (eqb (w.addressee f) w.broadcast) (served_of o)) e
    ∙ ap (λ (x : Data). record { refusal = o.refusal; after = o.part; reply = x }) (both (eqb (w.addressee f) w.broadcast) [] (w.replied own f o))

-- the number, the state and the reply of a frame that was served
pub acted_law : (w : Wire) (room : ℕ) (f : List ℕ) (m : Module) (x : Outcome) (reply : Data)
    → length (judged (used_up w m) (request_of w f m)).reply ≤ room
    → x ≡ served_of (judged (used_up w m) (request_of w f m))
    → reply ≡ data_of (frame_answered w (w.port m).address f (done_of room x.after (told_in x))).reply
    → record { refusal = x.refusal; after = x.after; reply = reply } ≡ handled_of (frame_acted w f m)
unfolding frame_acted frame_answered
acted_law w room f m x reply h e r =
    let o = judged (used_up w m) (request_of w f m) in
    let own = (w.port m).address in
    let all = eqb (w.addressee f) w.broadcast in
    let told : reply ≡ data_of (frame_answered w own f o).reply = rw (served_whole room x o e h) at r in
    let by_value : reply ≡ cond all (data_of []) (data_of (w.replied own f o)) = told ∙ sym (both all [] (w.replied own f o)) in
    rw (by_value, e) (wire_answered w own f o (data_of (w.replied own f o)) refl)

-- the same, whatever the state after is called
pub acted_as : (w : Wire) (room : ℕ) (f : List ℕ) (m : Module) (x : Outcome) (reply : Data)
    → length (judged (used_up w m) (request_of w f m)).reply ≤ room
    → x ≡ served_of (judged (used_up w m) (request_of w f m))
    → reply ≡ data_of (frame_answered w (w.port m).address f (done_of room x.after (told_in x))).reply
    → (after : Module) → after ≡ x.after
    → record { refusal = x.refusal; after = after; reply = reply } ≡ handled_of (frame_acted w f m)
acted_as w room f m x reply h e r after same =
    ap (λ (a : Module). record { refusal = x.refusal; after = a; reply = reply }) same ∙ acted_law w room f m x reply h e r

-- From a frame that was handled to the call's answer. Assumes nothing.
use Rattle.std.proofs.Common.{◌≡◌, true, false, ap, ◌∙◌, ℕ, ◌≤◌, List, length}
use Rattle.lists.specs.Data.{bytes_in, over}
use Rattle.lists.proofs.DataLaws.{bytes_in_lem}
use Rattle.model.specs.declared.Module.{Module}
use Rattle.model.specs.declared.Answer.{Answer}
use Rattle.model.specs.Numbers.{refusal_in}
use Rattle.model.specs.Refusals.{Out}
use Rattle.model.specs.Wire.{frame_handled, frame_call}
use Rattle.model.specs.Spinel.{spinel_wire}
use Rattle.model.specs.Text.{is_text, text_wire}
use Rattle.model.specs.Modbus.{modbus_wire}
use Rattle.model.specs.Call.{call, spinel, modbus}
use Rattle.model.specs.Calls.{step, Answered}
use Rattle.outcomes.specs.Parts.{Handling, handling, handled_of}
use Rattle.outcomes.specs.declared.Handled.{Handled}
use Rattle.model.proofs.Refused.{refusals_hold}

-- every reply fits the lent buffer, by demand 1
pub spinel_room : (f : List ℕ) (m : Module) → is_text f ≡ false → length (frame_handled spinel_wire f m).reply ≤ 256
unfolding step frame_call
spinel_room f m e = rw e at (refusals_hold m (call 256 (spinel f))).fits

pub text_room : (f : List ℕ) (m : Module) → is_text f ≡ true → length (frame_handled text_wire f m).reply ≤ 256
unfolding step frame_call
text_room f m e = rw e at (refusals_hold m (call 256 (spinel f))).fits

pub modbus_room : (f : List ℕ) (m : Module) → length (frame_handled modbus_wire f m).reply ≤ 256
unfolding step frame_call
modbus_room f m = (refusals_hold m (call 256 (modbus f))).fits

module _ (o : Out) (h : Handled) (e : handling h ≡ handled_of o) where
  -- the answer and the buffer
  pub handled_answered : (r : Answer) (old new : List ℕ) → r ≡ record { refusal = refusal_in h.refusal; len = h.reply.len; after = h.after } → new ≡ over (bytes_in h.reply) old → Answered o r old new
  handled_answered r old new a n = record {
    answer = a ∙ ap (λ (x : Handling). record { refusal = x.refusal; len = x.reply.len; after = x.after }) e;
    buffer = n ∙ ap (λ (x : Handling). over (bytes_in x.reply) old) e ∙ ap (λ (l : List ℕ). over l old) (bytes_in_lem o.reply);
  }

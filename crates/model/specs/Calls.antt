-- The calls: state, refusal number and reply bytes of each, and the lent buffer after it.
use Rattle.std.specs.Prelude.{ℕ, Bool, cond, List, [], ◌∷◌, map, ◌≡◌, ℤ, length}
use Rattle.lists.specs.Data.{over}
use Rattle.model.specs.declared.Module.{Module}
use Rattle.model.specs.declared.Answer.{Answer}
use Rattle.model.specs.State.{with_inputs, with_outputs}
use Rattle.model.specs.Samples.{inputs_sampled, edges}
use Rattle.model.specs.Outputs.{pulsed}
use Rattle.model.specs.Links.{outputs_linked}
use Rattle.model.specs.Notice.{notice_written}
use Rattle.model.specs.Temperature.{reading_of, taken}
use Rattle.model.specs.Refusals.{Out, silent, buffer_short}
use Rattle.model.specs.Wire.{Wire, frame_call}
use Rattle.model.specs.Spinel.{spinel_wire}
use Rattle.model.specs.Text.{is_text, text_wire}
use Rattle.model.specs.Modbus.{modbus_wire}
use Rattle.model.specs.Call.{Act, Call, sample, temperature, spinel, modbus}

-- one sample (01, Samples and edges): debounce, then counting, then one step of every pulse, then links (E8); the notice comes last and sees
-- the new inputs
unfoldable pub sampled : ℕ → Module → Out
sampled bits m =
    let x = inputs_sampled bits m.settings m.inputs in
    record {
      refusal = 0;
      after = with_outputs (with_inputs m x) (outputs_linked m.settings.links m.inputs.lines x.lines (map pulsed m.outputs));
      reply = notice_written m.spinel.address m.settings.notice (edges m.inputs.lines x.lines) x;
    }

-- too short a buffer (1): the sample is lost, and neither a run nor a counter nor a pulse moves
unfoldable pub sample_call : ℕ → ℕ → Module → Out
sample_call room bits m = cond (buffer_short room) (silent 1 m) (sampled bits m)

-- no buffer and no refusal in the base: the room is not looked at
unfoldable pub temperature_call : ℕ → Bool → ℤ → Module → Out
temperature_call room good tenths m = silent 0 (taken (reading_of good tenths) m)

-- a frame on either port; the Spinel port takes two formats, told by a frame's first two bytes (E2)
abbrev pub spinel_wire_of : List ℕ → Wire
spinel_wire_of f = cond (is_text f) text_wire spinel_wire

abbrev pub spinel_call : ℕ → List ℕ → Module → Out
spinel_call room f m = frame_call (spinel_wire_of f) room f m

abbrev pub modbus_call : ℕ → List ℕ → Module → Out
modbus_call room f m = frame_call modbus_wire room f m

-- any of the four calls
abbrev pub acted : ℕ → Act → Module → Out
acted room (sample bits) m = sample_call room bits m
acted room (temperature good tenths) m = temperature_call room good tenths m
acted room (spinel f) m = spinel_call room f m
acted room (modbus f) m = modbus_call room f m

unfoldable pub step : Module → Call → Out
step m c = acted c.room c.act m

-- a list of calls
unfoldable pub run : Module → List Call → Module
run m [] = m
run m (c ∷ cs) = run (step m c).after cs

-- what each of them answers
pub record Reply : Type 0 where
  pub refusal : ℕ
  pub bytes : List ℕ

unfoldable pub replies : Module → List Call → List Reply
replies m [] = []
replies m (c ∷ cs) = record { refusal = (step m c).refusal; bytes = (step m c).reply } ∷ replies (step m c).after cs

-- the answer as the code gives it: which refusal (0: none), how many bytes were written, the state after
abbrev pub answer_of : Out → Answer
answer_of o = record { refusal = o.refusal; len = length o.reply; after = o.after }

-- what a call promises: the answer, and the lent buffer after it, which begins with the reply and from there on is as it came
pub record Answered (o : Out) (r : Answer) (old new : List ℕ) : Type 0 where
  pub answer : r ≡ answer_of o
  pub buffer : new ≡ over o.reply old

-- A frame closed by the definition's own CRC passes check 4, whatever that CRC is, so that rows about other things need not compute it.
-- Assumes nothing.
use Prim.Native.Nat.{ℕ}
use mathlib.Core.Path.{◌≡◌, refl, ◌∙◌}
use mathlib.Core.Bool.{Bool, true, false, ◌||◌}
use mathlib.Core.List.{List, [], ◌∷◌}
use lib.Dec.{eqb}
use borrow.Author.Tests.{eq-eqb}
use Rattle.lists.proofs.Choices.{or_left, or_right}
use Rattle.model.specs.declared.Module.{Module}
use Rattle.model.specs.Refusals.{Out, crc_wrong}
use Rattle.model.specs.Wire.{Wire, frame_refusal, frame_answered, frame_acted, frame_handled, frame_call}
use Rattle.model.specs.Modbus.{modbus_wire}
use Rattle.model.specs.Call.{Act, Call, sample, temperature, spinel, modbus}
use Rattle.model.specs.Calls.{acted, step, Reply, replies}

-- a number's equality with itself, where it does not compute
pub eqb_same : (n : ℕ) → eqb n n ≡ true
eqb_same n = eq-eqb n n refl

-- the wire without check 4
abbrev unchecked_wire : Wire
unchecked_wire = record {
  port = modbus_wire.port;
  with_port = modbus_wire.with_port;
  least = modbus_wire.least;
  most = modbus_wire.most;
  shape_wrong = modbus_wire.shape_wrong;
  check_wrong = λ f. false;
  check_tested = modbus_wire.check_tested;
  addressee = modbus_wire.addressee;
  address_wrong = modbus_wire.address_wrong;
  broadcast_wrong = modbus_wire.broadcast_wrong;
  broadcast = modbus_wire.broadcast;
  asked = modbus_wire.asked;
  replied = modbus_wire.replied;
}

abbrev unchecked_act : ℕ → Act → Module → Out
unchecked_act room (sample bits) m = acted room (sample bits) m
unchecked_act room (temperature good tenths) m = acted room (temperature good tenths) m
unchecked_act room (spinel f) m = acted room (spinel f) m
unchecked_act room (modbus f) m = frame_call unchecked_wire room f m

unfoldable pub unchecked_step : Module → Call → Out
unchecked_step m c = unchecked_act c.room c.act m

unfoldable pub unchecked_replies : Module → List Call → List Reply
unchecked_replies m [] = []
unchecked_replies m (c ∷ cs) = record { refusal = (unchecked_step m c).refusal; bytes = (unchecked_step m c).reply } ∷ unchecked_replies (unchecked_step m c).after cs

-- does check 4 refuse a call, or one of some calls
abbrev wrong : Act → Bool
wrong (sample bits) = false
wrong (temperature good tenths) = false
wrong (spinel f) = false
wrong (modbus f) = crc_wrong f

abbrev pub any_wrong : List Call → Bool
any_wrong [] = false
any_wrong (c ∷ cs) = wrong c.act || any_wrong cs

act_passed : (room : ℕ) (a : Act) (m : Module) → wrong a ≡ false → acted room a m ≡ unchecked_act room a m
unfolding frame_refusal frame_answered frame_acted frame_handled frame_call
act_passed room (sample bits) m e = refl
act_passed room (temperature good tenths) m e = refl
act_passed room (spinel f) m e = refl
act_passed room (modbus f) m e = rw e

step_passed : (c : Call) (m : Module) → wrong c.act ≡ false → step m c ≡ unchecked_step m c
unfolding step unchecked_step
step_passed c m e = act_passed c.room c.act m e

replies_passed : (m : Module) (cs : List Call) → any_wrong cs ≡ false → replies m cs ≡ unchecked_replies m cs
unfolding replies unchecked_replies
replies_passed m [] e = refl
replies_passed m (c ∷ cs) e =
    rw (step_passed c m (or_left (wrong c.act) (any_wrong cs) e), replies_passed (unchecked_step m c).after cs (or_right (wrong c.act) (any_wrong cs) e))

-- rows hold where they hold without check 4, and no frame of theirs fails it
pub passed : (m : Module) (cs : List Call) (rs : List Reply) → any_wrong cs ≡ false → unchecked_replies m cs ≡ rs → replies m cs ≡ rs
passed m cs rs e h = replies_passed m cs e ∙ h

-- Demand 1: the conditions of every call in checking order, and what is claimed of every state and call.
use Rattle.std.specs.Prelude.{ℕ, ◌+◌, ◌≤◌, Bool, true, false, cond, ◌&&◌, ◌||◌, List, [], ◌∷◌, ◌++◌, map, ◌≡◌, ◌↔◌, eqb, length, get_or, Option, Some, None}
use Rattle.lists.specs.Tests.{within}
use Rattle.lists.specs.Data.{over}
use Rattle.model.specs.declared.Module.{Module}
use Rattle.model.specs.declared.TextCode.{TextCode}
use Rattle.model.specs.declared.TextCode.TheVariants.{ReadInput, ReadOutput, SetOutput, PulseOutput, ReadTemperature, SetNotice, ReadNotice, GivePermission, SetAddress, SetSpeed}
use Rattle.model.specs.Frames.{spinel_to, signature_of, instruction_of, spinel_broadcast, spinel_reply, modbus_to, function_of, modbus_body, modbus_broadcast, exception_reply}
use Rattle.model.specs.Refusals.{buffer_short, frame_length_wrong, Request, ack_of, exception_of}
use Rattle.model.specs.Wire.{Wire, request_of}
use Rattle.model.specs.Spinel.{spinel_wire}
use Rattle.model.specs.Modbus.{start_of, modbus_wire}
use Rattle.model.specs.Text.{is_text, text_to, text_broadcast, text_reply, last_digit, characters, typed, text_wire}
use Rattle.model.specs.Call.{Act, Call, sample, temperature, spinel, modbus}
use Rattle.model.specs.Calls.{step}

-- a refusal's number, and whether its condition holds
pub record Check : Type 0 where
  pub number : ℕ
  pub holds : Bool

abbrev pub check : ℕ → Bool → Check
check n b = record { number = n; holds = b }

-- the greatest number
abbrev pub greatest : ℕ
greatest = 14

-- 7 to 14: their order is said here once more, so that the claim fixes it
abbrev pub claimed_order : List ℕ
claimed_order = 7 ∷ 8 ∷ 9 ∷ 10 ∷ 13 ∷ 11 ∷ 14 ∷ 12 ∷ []

unfoldable pub request_checks : {P : Type 0} → Request P → List Check
request_checks q = map (λ n. check n (q.holds n)) claimed_order

-- 2 to 6; 3 holds of no Modbus frame, and 4 of nothing where it is not tested (E5)
unfoldable pub frame_checks : Wire → Bool → ℕ → List ℕ → List Check
frame_checks w tested own f =
    check 2 (frame_length_wrong w.least w.most f)
    ∷ check 3 (w.shape_wrong f)
    ∷ check 4 (tested && w.check_wrong f)
    ∷ check 5 (w.address_wrong own (w.addressee f))
    ∷ check 6 (w.broadcast_wrong f)
    ∷ []

-- of a frame that comes by a wire
abbrev pub wire_checks : Wire → Bool → Module → ℕ → List ℕ → List Check
wire_checks w tested m room f = check 1 (buffer_short room) ∷ frame_checks w tested (w.port m).address f ++ request_checks (request_of w f m)

-- all conditions of a call in the state m, in checking order; that the Spinel port's setting tells whether SUM is tested, that a CRC always
-- is, and that text has no check (E2), is said here once more
unfoldable pub checks : Module → ℕ → Act → List Check
checks m room (sample bits) = check 1 (buffer_short room) ∷ []
checks m room (temperature good tenths) = []
checks m room (spinel f) = cond (is_text f) (wire_checks text_wire false m room f) (wire_checks spinel_wire m.settings.sum_tested m room f)
checks m room (modbus f) = wire_checks modbus_wire true m room f

-- condition n holds, and no earlier one
pub data RefusedBy (n : ℕ) : List Check → Type 0 where
  here : (c : Check) (cs : List Check) → c.number ≡ n → c.holds ≡ true → RefusedBy n (c ∷ cs)
  later : (c : Check) (cs : List Check) → c.holds ≡ false → RefusedBy n cs → RefusedBy n (c ∷ cs)

-- no condition holds
pub data NoneHolds : List Check → Type 0 where
  none : NoneHolds []
  also : (c : Check) (cs : List Check) → c.holds ≡ false → NoneHolds cs → NoneHolds (c ∷ cs)

-- the state with the permission of the call's port ended, and every other field as it was
unfoldable pub permission_ended : Act → Module → Module
permission_ended (sample bits) m = m
permission_ended (temperature good tenths) m = m
permission_ended (spinel f) m = record {
  inputs = m.inputs;
  outputs = m.outputs;
  settings = m.settings;
  reading = m.reading;
  last = m.last;
  spinel = record { address = m.spinel.address; speed = m.spinel.speed; permitted = false };
  modbus = m.modbus;
}
permission_ended (modbus f) m = record {
  inputs = m.inputs;
  outputs = m.outputs;
  settings = m.settings;
  reading = m.reading;
  last = m.last;
  spinel = m.spinel;
  modbus = record { address = m.modbus.address; speed = m.modbus.speed; permitted = false };
}

unfoldable pub is_broadcast : Act → Bool
is_broadcast (sample bits) = false
is_broadcast (temperature good tenths) = false
is_broadcast (spinel f) = cond (is_text f) (eqb (text_to f) text_broadcast) (eqb (spinel_to f) spinel_broadcast)
is_broadcast (modbus f) = eqb (modbus_to f) modbus_broadcast

-- what a call refused by n, 7 to 14, is answered
unfoldable pub refusal_reply : ℕ → Act → Module → List ℕ
refusal_reply n (sample bits) m = []
refusal_reply n (temperature good tenths) m = []
refusal_reply n (spinel f) m =
    cond (is_text f)
    (cond (eqb (text_to f) text_broadcast) [] (text_reply m.spinel.address (last_digit (ack_of n) ∷ [])))
    (cond (eqb (spinel_to f) spinel_broadcast) [] (spinel_reply m.spinel.address (signature_of f) (ack_of n) []))
refusal_reply n (modbus f) m = cond (eqb (modbus_to f) modbus_broadcast) [] (exception_reply m.modbus.address (function_of f) (exception_of n))

-- what holds of a call c in a state m, whatever the state, the frame, the sample and the buffer
pub record Refusals (m : Module) (c : Call) : Type 0 where
  -- refused by n exactly when condition n holds and no earlier one; accepted exactly when none holds
  pub exactly : (n : ℕ) → 1 ≤ n → ((step m c).refusal ≡ n) ↔ RefusedBy n (checks m c.room c.act)
  pub accepted : ((step m c).refusal ≡ 0) ↔ NoneHolds (checks m c.room c.act)
  pub most : (step m c).refusal ≤ greatest
  -- 1 to 6: the state is the state before, the reply's length 0
  pub early : 1 ≤ (step m c).refusal → (step m c).refusal ≤ 6 → ((step m c).after ≡ m) × ((step m c).reply ≡ [])
  -- 7 to 14: it differs at most in that port's permission, which has ended
  pub late : 7 ≤ (step m c).refusal → (step m c).after ≡ permission_ended c.act m
  -- and the reply is that number's ACK or exception, without data
  pub told : 7 ≤ (step m c).refusal → (step m c).reply ≡ refusal_reply (step m c).refusal c.act m
  -- what goes to all modules is not answered, refused or accepted
  pub broadcast : is_broadcast c.act ≡ true → (step m c).reply ≡ []
  -- a reply of length 0 leaves a lent buffer as it was
  pub untouched : (old : List ℕ) → (step m c).reply ≡ [] → over (step m c).reply old ≡ old
  -- what stands behind the reply in the buffer is as it was
  pub beyond : (old : List ℕ) (i : ℕ) → get_or (over (step m c).reply old) (length (step m c).reply + i) 0 ≡ get_or old (length (step m c).reply + i) 0
  -- a reply fits the least buffer that is not refused, which keeps its length
  pub fits : length (step m c).reply ≤ 256
  pub size : (old : List ℕ) → 256 ≤ length old → length (over (step m c).reply old) ≡ length old

abbrev pub RefusalsHold : Type 0
RefusalsHold = (m : Module) (c : Call) → Refusals m c

-- The permission of an accepted request --------------------------------------------------

-- the same of a text frame, by its code

unfoldable pub gives_by : Option TextCode → Bool
gives_by (Some GivePermission) = true
gives_by (Some ReadInput) = false
gives_by (Some ReadOutput) = false
gives_by (Some SetOutput) = false
gives_by (Some PulseOutput) = false
gives_by (Some ReadTemperature) = false
gives_by (Some SetNotice) = false
gives_by (Some ReadNotice) = false
gives_by (Some SetAddress) = false
gives_by (Some SetSpeed) = false
gives_by None = false

unfoldable pub resets_by : Option TextCode → Bool
resets_by (Some SetAddress) = true
resets_by (Some SetSpeed) = true
resets_by (Some ReadInput) = false
resets_by (Some ReadOutput) = false
resets_by (Some SetOutput) = false
resets_by (Some PulseOutput) = false
resets_by (Some ReadTemperature) = false
resets_by (Some SetNotice) = false
resets_by (Some ReadNotice) = false
resets_by (Some GivePermission) = false
resets_by None = false

-- a request that gives its port the permission: E4H, E typed (E2), or 06 of register 0
unfoldable pub gives_permission : Act → Bool
gives_permission (sample bits) = false
gives_permission (temperature good tenths) = false
gives_permission (spinel f) = cond (is_text f) (gives_by (typed (characters f)).code) (eqb (instruction_of f) 0xE4)
gives_permission (modbus f) = eqb (function_of f) 0x06 && eqb (start_of (modbus_body f)) 0

-- one that resets: E0H, E3H, AS or SS typed (E2), or a write of registers from 1 or 2 on
unfoldable pub resets_module : Act → Bool
resets_module (sample bits) = false
resets_module (temperature good tenths) = false
resets_module (spinel f) = cond (is_text f) (resets_by (typed (characters f)).code) (eqb (instruction_of f) 0xE0 || eqb (instruction_of f) 0xE3)
resets_module (modbus f) = (eqb (function_of f) 0x06 || eqb (function_of f) 0x10) && within 1 2 (start_of (modbus_body f))

-- has the port that a request came by the permission? A sample comes by none
unfoldable pub port_permitted : Act → Module → Bool
port_permitted (sample bits) m = false
port_permitted (temperature good tenths) m = false
port_permitted (spinel f) m = m.spinel.permitted
port_permitted (modbus f) m = m.modbus.permitted

-- what holds of an accepted call c in a state m
pub record Permissions (m : Module) (c : Call) : Type 0 where
  -- its port is permitted after it exactly where it gives the permission: any other request uses it up
  pub used : (step m c).refusal ≡ 0 → port_permitted c.act (step m c).after ≡ gives_permission c.act
  -- a reset ends both ports' permissions
  pub ended : (step m c).refusal ≡ 0 → resets_module c.act ≡ true → ((step m c).after.spinel.permitted ≡ false) × ((step m c).after.modbus.permitted ≡ false)

abbrev pub PermissionsHold : Type 0
PermissionsHold = (m : Module) (c : Call) → Permissions m c

-- 02, E2: format 66, which a fitter types to the Spinel port: *B, an address, a code, its parameters, Enter. OS, OT and E change the
-- module by the definitions that 20H, 23H and E4H change it by, AS and SS reset it as E0H does. Characters are their ASCII codes.
use Rattle.std.specs.Prelude.{ℕ, suc, ◌+◌, ◌-◌, ◌*◌, ◌/◌, ◌%◌, Bool, true, false, cond, not, ◌&&◌, ◌||◌, length, get_or, take, drop, eqb, ℤ, pos, negsuc, Option, Some, None}
use mathlib.Core.List.{List, [], ◌∷◌, ◌++◌, map, foldl, flat_map}
use Rattle.lists.specs.Tests.{within}
use Rattle.lists.specs.Chunks.{chunks_of}
use Rattle.lists.specs.declared.Entry.{Entry}
use Rattle.lists.specs.Entries.{entry}
use Rattle.model.specs.declared.Module.{Module}
use Rattle.model.specs.declared.Notice.{Notice}
use Rattle.model.specs.declared.Output.{Output}
use Rattle.model.specs.declared.Port.{Port}
use Rattle.model.specs.declared.Reading.{Reading}
use Rattle.model.specs.declared.Reading.TheVariants.{Valid, Fault}
use Rattle.model.specs.declared.TextCode.{TextCode}
use Rattle.model.specs.declared.TextCode.TheVariants.{ReadInput, ReadOutput, SetOutput, PulseOutput, ReadTemperature, SetNotice, ReadNotice, GivePermission, SetAddress, SetSpeed}
use Rattle.model.specs.declared.Thermostat.{Thermostat}
use Rattle.model.specs.State.{half_seconds, port, notice, is_on, turned_off, with_outputs, with_notice, with_spinel}
use Rattle.model.specs.Samples.{input_states}
use Rattle.model.specs.Refusals.{Request, accepting, refuse, not_listed, on_part, reading, telling, ack_of}
use Rattle.model.specs.Wire.{Wire}
use Rattle.model.specs.Counters.{is_number, every_number, some_data, reset, give_permission}
use Rattle.model.specs.Outputs.{set_output, act_on, pulse_outputs, output_states}

-- Characters -------------------------------------------------------------------------------

abbrev pub is_digit : ℕ → Bool
is_digit c = within 0x30 0x39 c

-- a capital letter or a small one
abbrev pub is_letter : ℕ → Bool
is_letter c = within 0x41 0x5A c || within 0x61 0x7A c

-- the digit for the lowest decimal place of n
abbrev pub last_digit : ℕ → ℕ
last_digit n = 0x30 + n % 10

-- a state is told by H, on, or L, off
abbrev pub state_letter : Bool → ℕ
state_letter on = cond on 0x48 0x4C

abbrev pub is_state : ℕ → Bool
is_state c = eqb c 0x48 || eqb c 0x4C

-- The frame, by places: 0 `*`, 1 `B`, 2 the address, 3 on the code and its parameters; the last is the carriage return ------------

-- by these two bytes a frame on the Spinel port is text
unfoldable pub is_text : List ℕ → Bool
is_text f = eqb (get_or f 0 0) 0x2A && eqb (get_or f 1 0) 0x42

abbrev pub text_to : List ℕ → ℕ
text_to f = get_or f 2 0

-- all between the address and the carriage return
abbrev pub characters : List ℕ → List ℕ
characters f = take (length f - 4) (drop 3 f)

-- `$` and `%` stand for FE and FF, whatever the own address
abbrev pub text_universal : ℕ
text_universal = 0x24

abbrev pub text_broadcast : ℕ
text_broadcast = 0x25

-- 3: the frame does not end in a carriage return
unfoldable pub text_shape_wrong : List ℕ → Bool
text_shape_wrong f = not (eqb (get_or f (length f - 1) 0) 0x0D)

-- 5
unfoldable pub text_address_wrong : ℕ → ℕ → Bool
text_address_wrong own to = not (eqb to own || (eqb to text_universal || eqb to text_broadcast))

-- from this address: an ACK's digit and what is told behind it, or a notice
unfoldable pub text_reply : ℕ → List ℕ → List ℕ
text_reply address told = 0x2A ∷ 0x42 ∷ address ∷ told ++ 0x0D ∷ []

-- The code ---------------------------------------------------------------------------------

pub record Spelling : Type 0 where
  pub letters : List ℕ
  pub code : TextCode

abbrev spells : List ℕ → TextCode → Spelling
spells letters code = record { letters = letters; code = code }

-- the eleven spellings, the longer before the shorter, so that the first that fits is the longest
abbrev pub spellings : List Spelling
spellings =
    spells (0x4F ∷ 0x53 ∷ 0x54 ∷ []) PulseOutput  -- OST
    ∷ spells (0x49 ∷ 0x52 ∷ []) ReadInput  -- IR
    ∷ spells (0x4F ∷ 0x52 ∷ []) ReadOutput  -- OR
    ∷ spells (0x4F ∷ 0x53 ∷ []) SetOutput  -- OS
    ∷ spells (0x4F ∷ 0x54 ∷ []) PulseOutput  -- OT
    ∷ spells (0x52 ∷ 0x54 ∷ []) ReadTemperature  -- RT
    ∷ spells (0x49 ∷ 0x53 ∷ []) SetNotice  -- IS
    ∷ spells (0x49 ∷ 0x58 ∷ []) ReadNotice  -- IX
    ∷ spells (0x41 ∷ 0x53 ∷ []) SetAddress  -- AS
    ∷ spells (0x53 ∷ 0x53 ∷ []) SetSpeed  -- SS
    ∷ spells (0x45 ∷ []) GivePermission  -- E
    ∷ []

-- does a text begin by these letters
unfoldable pub begins : List ℕ → List ℕ → Bool
begins [] t = true
begins (a ∷ l) [] = false
begins (a ∷ l) (c ∷ t) = eqb c a && begins l t

-- what a text asks for: its code, if it begins by one, and the characters behind it; without a code, all characters
pub record Typed : Type 0 where
  pub code : Option TextCode
  pub parameters : List ℕ

unfoldable pub typed_by : List Spelling → List ℕ → Typed
typed_by [] t = record { code = None; parameters = t }
typed_by (s ∷ ss) t = cond (begins s.letters t) (record { code = Some s.code; parameters = drop (length s.letters) t }) (typed_by ss t)

abbrev pub typed : List ℕ → Typed
typed t = typed_by spellings t

-- 6: OS, OT and OST are the codes that may go to all modules
unfoldable pub commands_outputs : Option TextCode → Bool
commands_outputs (Some SetOutput) = true
commands_outputs (Some PulseOutput) = true
commands_outputs (Some ReadInput) = false
commands_outputs (Some ReadOutput) = false
commands_outputs (Some ReadTemperature) = false
commands_outputs (Some SetNotice) = false
commands_outputs (Some ReadNotice) = false
commands_outputs (Some GivePermission) = false
commands_outputs (Some SetAddress) = false
commands_outputs (Some SetSpeed) = false
commands_outputs None = false

abbrev pub text_broadcast_wrong : List ℕ → Bool
text_broadcast_wrong f = eqb (text_to f) text_broadcast && not (commands_outputs (typed (characters f)).code)

-- Numbers ----------------------------------------------------------------------------------

-- how many digits a text begins with
unfoldable pub digits_in : List ℕ → ℕ
digits_in [] = 0
digits_in (c ∷ t) = cond (is_digit c) (suc (digits_in t)) 0

-- the number that they make, whose first digits may be zeros
unfoldable pub typed_number : List ℕ → ℕ
typed_number t = foldl (λ n c. 10 * n + (c - 0x30)) 0 (take (digits_in t) t)

-- what is behind them
abbrev pub behind : List ℕ → List ℕ
behind t = drop (digits_in t) t

-- a number has one to three digits; another character follows it, or nothing does
abbrev pub number_first : List ℕ → Bool
number_first t = within 1 3 (digits_in t)

abbrev pub number_alone : List ℕ → Bool
number_alone t = number_first t && eqb (length (behind t)) 0

-- What each code asks for, by its parameters ---------------------------------------------------

-- accepted, it is answered by ACK 0 and what it tells
abbrev pub acknowledged : {P : Type 0} → Request P → Request P
acknowledged q = record { holds = q.holds; after = q.after; reply = 0x30 ∷ q.reply }

-- IR, OR: a number; the state of that input or output
unfoldable pub read_state : List ℕ → List Bool → Request (Unit {0})
read_state t bs =
    refuse 8 (not (number_alone t))
    (refuse 11 (not (is_number (typed_number t)))
    (telling (state_letter (get_or bs (typed_number t - 1) false) ∷ [])))

-- a number and a state behind it; nothing behind the state, or a time
abbrev pub state_first : List ℕ → Bool
state_first t = number_first t && is_state (get_or (behind t) 0 0)

abbrev pub state_alone : List ℕ → Bool
state_alone t = state_first t && eqb (length (behind t)) 1

abbrev pub time_left : List ℕ → List ℕ
time_left t = drop 1 (behind t)

abbrev pub state_and_time : List ℕ → Bool
state_and_time t = state_first t && number_alone (time_left t)

abbrev pub time_typed : List ℕ → ℕ
time_typed t = typed_number (time_left t)

-- the entry of a number and the state behind it
abbrev pub state_entry : List ℕ → Entry
state_entry t = entry (typed_number t) (cond (eqb (get_or (behind t) 0 0) 0x48) 1 0)

-- OS: a number and a state; then as 20H
unfoldable pub set_one : Reading → List Thermostat → List ℕ → List Output → Request (List Output)
set_one r hs t os =
    refuse 8 (not (state_alone t)) (act_on set_output r hs (state_entry t ∷ []) os)

-- OT, OST: a number, a state and a time; then as 23H
unfoldable pub pulse_one : Reading → List Thermostat → List ℕ → List Output → Request (List Output)
pulse_one r hs t os =
    refuse 8 (not (state_and_time t)) (pulse_outputs (half_seconds (time_typed t)) r hs (state_entry t ∷ []) os)

-- a temperature's sign, that of 0 being a plus, and its tenths without it
abbrev pub sign : ℤ → ℕ
sign (pos n) = 0x2B
sign (negsuc k) = 0x2D

abbrev pub size : ℤ → ℕ
size (pos n) = n
size (negsuc k) = suc k

-- always seven characters: sign, three digits, point, tenths, C; a fault has no value, which ACK 5 tells
unfoldable pub temperature_told : Reading → List ℕ
temperature_told (Valid t x) = 0x30 ∷ sign t ∷ last_digit (size t / 1000) ∷ last_digit (size t / 100) ∷ last_digit (size t / 10) ∷ 0x2E ∷ last_digit (size t) ∷ 0x43 ∷ []
temperature_told Fault = 0x35 ∷ []

-- RT: the number of the one thermometer, in Celsius whatever else is shown
unfoldable pub read_thermometer : List ℕ → Reading → Request (Unit {0})
read_thermometer t r = refuse 8 (not (number_alone t)) (refuse 11 (not (eqb (typed_number t) 1)) (telling (temperature_told r)))

-- the one character, where a text has no more
abbrev pub one_character : (ℕ → Bool) → List ℕ → Bool
one_character fits t = eqb (length t) 1 && fits (get_or t 0 0)

-- IS: 1 turns the notice on, as text and for all inputs, where it is off; 0 turns it off
unfoldable pub switch_notice : List ℕ → Notice → Request Notice
switch_notice t n =
    let on = eqb (get_or t 0 0) 0x31 in
    refuse 8 (not (one_character (within 0x30 0x31) t))
    (refuse 11 (on && is_on n)
    (accepting (cond on (notice 0x42 0xFFFF n.signature) (turned_off n)) []))

-- IX: 0 where it is off, else the letter that its format byte is, B or a
unfoldable pub tell_notice : List ℕ → Notice → Request (Unit {0})
tell_notice t n = refuse 8 (some_data t) (telling (cond (is_on n) n.format 0x30 ∷ []))

-- AS, SS: with a permission only, not to `$`, and then a reset, as E0H
unfoldable pub configure : Bool → Bool → Port → Module → Request Module
configure permitted to_universal p m = refuse 10 (to_universal || not permitted) (accepting (reset (with_spinel m p)) [])

-- AS: a digit or a letter is the new address
abbrev pub is_address : ℕ → Bool
is_address c = is_digit c || is_letter c

-- SS: the speed code in one character, A for 10 and B for 11
abbrev pub is_speed : ℕ → Bool
is_speed c = is_digit c || within 0x41 0x42 c

abbrev pub speed_of : ℕ → ℕ
speed_of c = cond (is_digit c) (c - 0x30) (c - 0x37)

-- what decides a text request: was the port permitted, did it come to `$`, and what is typed
pub record TextRequest : Type 0 where
  pub permitted : Bool
  pub to_universal : Bool
  pub typed : Typed

-- each code on the part that it may change
unfoldable pub asked_by : TextCode → TextRequest → Module → Request Module
asked_by ReadInput q m = acknowledged (reading m (read_state q.typed.parameters (input_states m.inputs)))
asked_by ReadOutput q m = acknowledged (reading m (read_state q.typed.parameters (output_states m.outputs)))
asked_by SetOutput q m = acknowledged (on_part (with_outputs m) (set_one m.reading m.settings.thermostats q.typed.parameters m.outputs))
asked_by PulseOutput q m = acknowledged (on_part (with_outputs m) (pulse_one m.reading m.settings.thermostats q.typed.parameters m.outputs))
asked_by ReadTemperature q m = reading m (read_thermometer q.typed.parameters m.reading)
asked_by SetNotice q m = acknowledged (on_part (with_notice m) (switch_notice q.typed.parameters m.settings.notice))
asked_by ReadNotice q m = acknowledged (reading m (tell_notice q.typed.parameters m.settings.notice))
asked_by GivePermission q m = acknowledged (on_part (with_spinel m) (give_permission q.to_universal q.typed.parameters m.spinel))
asked_by SetAddress q m =
    let t = q.typed.parameters in
    acknowledged (refuse 8 (not (one_character is_address t)) (configure q.permitted q.to_universal (port (get_or t 0 0) m.spinel.speed false) m))
asked_by SetSpeed q m =
    let t = q.typed.parameters in
    acknowledged (refuse 8 (not (one_character is_speed t)) (configure q.permitted q.to_universal (port m.spinel.address (speed_of (get_or t 0 0)) false) m))

unfoldable pub asked_if : Option TextCode → TextRequest → Module → Request Module
asked_if (Some c) q m = asked_by c q m
asked_if None q m = not_listed m

abbrev pub text_asked : TextRequest → Module → Request Module
text_asked q m = asked_if q.typed.code q m

unfoldable pub text_request : Bool → List ℕ → TextRequest
text_request permitted f = record { permitted = permitted; to_universal = eqb (text_to f) text_universal; typed = typed (characters f) }

-- no check: 4 holds of nothing. A refusal is told by the digit of its ACK alone.
abbrev pub text_wire : Wire
text_wire = record {
  port = λ m. m.spinel;
  with_port = with_spinel;
  least = 5;
  most = 32;
  shape_wrong = text_shape_wrong;
  check_wrong = λ f. false;
  check_tested = λ m. false;
  addressee = λ f. text_to f;
  address_wrong = text_address_wrong;
  broadcast_wrong = text_broadcast_wrong;
  broadcast = text_broadcast;
  asked = λ permitted f m. text_asked (text_request permitted f) m;
  replied = λ own f o. text_reply own (cond (eqb o.refusal 0) o.reply (last_digit (ack_of o.refusal) ∷ []));
}

-- The notice -------------------------------------------------------------------------------

-- D, then a letter for each input, input 1 first, in fives with a blank before each; the last, input 16, stands by itself
unfoldable pub text_notice : ℕ → List Bool → List ℕ
text_notice address states =
    text_reply address (0x44 ∷ flat_map (λ five. 0x20 ∷ five) (chunks_of 5 4 (map (λ n. state_letter (get_or states (n - 1) false)) every_number)))

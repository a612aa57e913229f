-- How the tables say a call and its answer. The layout of frames is their own; the checksums are those of the definitions, which
-- `FrameTable` and `RackTable` hold to literal bytes. Assumes nothing.
use Prim.Native.Nat.{ℕ, ◌+◌, ◌*◌, ◌/◌, ◌%◌}
use mathlib.Core.Bool.{Bool}
use mathlib.Core.Path.{◌≡◌}
use mathlib.Core.List.{List, [], ◌∷◌, ◌++◌, map, flat_map}
use lib.ListN.{length, replicate}
use lib.IntN.{ℤ}
use Rattle.model.specs.declared.Module.{Module}
use Rattle.model.specs.Frames.{closed, with_crc}
use Rattle.model.specs.Call.{Call, call, sample, temperature, spinel, modbus}
use Rattle.model.specs.Calls.{Reply, replies}

-- Calls, with a buffer of 256 bytes -----------------------------------------------------

abbrev pub sample_of : ℕ → Call
sample_of bits = call 256 (sample bits)

abbrev pub temperature_of : Bool → ℤ → Call
temperature_of good tenths = call 256 (temperature good tenths)

-- frames byte by byte

abbrev pub spinel_frame : List ℕ → Call
spinel_frame f = call 256 (spinel f)

abbrev pub modbus_frame : List ℕ → Call
modbus_frame f = call 256 (modbus f)

-- a call with a buffer of another length
abbrev pub lending : ℕ → Call → Call
lending room c = call room c.act

-- a number in two bytes
abbrev pub two : ℕ → List ℕ
two n = n / 256 ∷ n % 256 ∷ []

-- Spinel: to or from an address, with a signature, an instruction or ACK, and data
abbrev spinel_bytes : ℕ → ℕ → ℕ → List ℕ → List ℕ
spinel_bytes a s c d = closed (0x2A ∷ 0x61 ∷ two (length d + 5) ++ a ∷ s ∷ c ∷ d)

-- an instruction to 31H with signature 02, to another address, with another signature

abbrev pub asked : ℕ → List ℕ → Call
asked c d = spinel_frame (spinel_bytes 0x31 0x02 c d)

abbrev pub asked_at : ℕ → ℕ → List ℕ → Call
asked_at a c d = spinel_frame (spinel_bytes a 0x02 c d)

abbrev pub asked_by : ℕ → ℕ → List ℕ → Call
asked_by s c d = spinel_frame (spinel_bytes 0x31 s c d)

-- Modbus: to or from an address, with a function and a body
abbrev modbus_bytes : ℕ → ℕ → List ℕ → List ℕ
modbus_bytes a fn b = with_crc (a ∷ fn ∷ b)

-- a function with any body, to 31H or to another address

abbrev pub sent : ℕ → List ℕ → Call
sent fn b = modbus_frame (modbus_bytes 0x31 fn b)

abbrev pub sent_to : ℕ → ℕ → List ℕ → Call
sent_to a fn b = modbus_frame (modbus_bytes a fn b)

-- 01 to 06: a start, and a quantity or a value
abbrev pub requested : ℕ → ℕ → ℕ → Call
requested fn r v = sent fn (two r ++ two v)

-- 10H: the values of the registers from r on
abbrev pub written : ℕ → List ℕ → Call
written r vs = sent 0x10 (two r ++ two (length vs) ++ 2 * length vs ∷ flat_map two vs)

-- 0F: n coils from r on, by their bits
abbrev pub switched : ℕ → ℕ → List ℕ → Call
switched r n bs = sent 0x0F (two r ++ two n ++ length bs ∷ bs)

-- Answers -------------------------------------------------------------------------------

abbrev pub reply : ℕ → List ℕ → Reply
reply n bs = record { refusal = n; bytes = bs }

-- no bytes: accepted with 0, or refused
abbrev pub silently : ℕ → Reply
silently n = reply n []

-- accepted, with these data: from 31H with signature 02, from another address, with another signature

abbrev pub answers : List ℕ → Reply
answers d = reply 0 (spinel_bytes 0x31 0x02 0x00 d)

abbrev pub answers_from : ℕ → List ℕ → Reply
answers_from a d = reply 0 (spinel_bytes a 0x02 0x00 d)

abbrev pub answers_to : ℕ → List ℕ → Reply
answers_to s d = reply 0 (spinel_bytes 0x31 s 0x00 d)

-- refused by n, with that ACK

abbrev pub refuses : ℕ → ℕ → Reply
refuses n ack = reply n (spinel_bytes 0x31 0x02 ack [])

abbrev pub refuses_from : ℕ → ℕ → ℕ → Reply
refuses_from a n ack = reply n (spinel_bytes a 0x02 ack [])

abbrev pub refuses_to : ℕ → ℕ → ℕ → Reply
refuses_to s n ack = reply n (spinel_bytes 0x31 s ack [])

-- a notice, from an address with a signature
abbrev pub announces : ℕ → ℕ → List ℕ → Reply
announces a s d = reply 0 (spinel_bytes a s 0x0D d)

-- accepted, with this body: from 31H, or from another address

abbrev pub gives : ℕ → List ℕ → Reply
gives fn b = reply 0 (modbus_bytes 0x31 fn b)

abbrev pub gives_from : ℕ → ℕ → List ℕ → Reply
gives_from a fn b = reply 0 (modbus_bytes a fn b)

-- a byte count and these words
abbrev pub shows : ℕ → List ℕ → Reply
shows fn vs = gives fn (2 * length vs ∷ flat_map two vs)

-- start, and quantity or value
abbrev pub echoes : ℕ → ℕ → ℕ → Reply
echoes fn r v = gives fn (two r ++ two v)

-- refused by n, with that function byte and exception code

abbrev pub excepts : ℕ → ℕ → ℕ → Reply
excepts n fn code = reply n (modbus_bytes 0x31 fn (code ∷ []))

abbrev pub excepts_from : ℕ → ℕ → ℕ → ℕ → Reply
excepts_from a n fn code = reply n (modbus_bytes a fn (code ∷ []))

-- Rows ----------------------------------------------------------------------------------

-- a call and its answer
pub record Exchange : Type 0 where
  pub call : Call
  pub answer : Reply

infix 30 ◌⇒◌
abbrev pub ◌⇒◌ : Call → Reply → Exchange
c ⇒ r = record { call = c; answer = r }

-- so many samples of the same bits, or of some in turn, none of which draws a notice

abbrev pub quiet : ℕ → ℕ → List Exchange
quiet n bits = replicate n (sample_of bits ⇒ silently 0)

unfoldable pub samples_in_turn : ℕ → List ℕ → List Call
samples_in_turn n bits = flat_map (λ (b : List ℕ). map sample_of b) (replicate n bits)

abbrev pub in_turn : ℕ → List ℕ → List Exchange
in_turn n bits = map (λ c. c ⇒ silently 0) (samples_in_turn n bits)

-- from the state m, these calls in order give these answers
abbrev pub Plays : Module → List Exchange → Type 0
Plays m xs = replies m (map (λ (x : Exchange). x.call) xs) ≡ map (λ (x : Exchange). x.answer) xs

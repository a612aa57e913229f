-- 01, Tally of cycles. It never looks at the module's state, and it shares no definition with the module but the type of a call:
-- its debounce, edge selection, frame positions, lists and register ranges are its own. Inputs go by their numbers, 1 to 16.
use Rattle.std.specs.Prelude.{ℕ, zero, suc, ◌+◌, ◌-◌, ◌*◌, ◌/◌, ◌%◌, ◌^◌, Bool, false, cond, ◌&&◌, ◌||◌, List, [], ◌∷◌, length, get_or, take, drop, ltb, leb, eqb}
use Rattle.model.specs.Call.{Act, sample, temperature, spinel, modbus}

-- what is held for one input; edges and collected are natural numbers, which no width limits
pub record Account : Type 0 where
  pub stable : ℕ
  pub run : ℕ
  pub mode : ℕ
  pub edges : ℕ
  pub collected : ℕ

pub record Tally : Type 0 where
  pub sampling : ℕ
  pub input : ℕ → Account

-- before any call: the sampling number of a fresh module, and nothing seen
abbrev pub fresh_tally : Tally
fresh_tally = record { sampling = 20; input = λ k. record { stable = 0; run = 0; mode = 0; edges = 0; collected = 0 } }

-- what it is fed of a call
pub record Event : Type 0 where
  pub act : Act
  pub refusal : ℕ
  pub reply : List ℕ

-- one input's account changed

abbrev pub with_run : ℕ → Account → Account
with_run r a = record { stable = a.stable; run = r; mode = a.mode; edges = a.edges; collected = a.collected }

abbrev pub with_mode : ℕ → Account → Account
with_mode m a = record { stable = a.stable; run = a.run; mode = m; edges = a.edges; collected = a.collected }

-- collected (01): so much more
abbrev pub collect : ℕ → Account → Account
collect v a = record { stable = a.stable; run = a.run; mode = a.mode; edges = a.edges; collected = a.collected + v }

-- cleared (01): edges and collected start over
abbrev pub clear : Account → Account
clear a = record { stable = a.stable; run = a.run; mode = a.mode; edges = 0; collected = 0 }

-- Samples: debounced as 01 has it under Samples and edges; each selected edge is counted --------------------------

-- input k's bit; bit 0 is for input 1
abbrev pub sampled_bit : ℕ → ℕ → ℕ
sampled_bit bits k = bits / 2 ^ (k - 1) % 2

-- 1 where the edge to the state b is selected: by 3 any, by 1 to 1, by 2 to 0
unfoldable pub selected_by : ℕ → ℕ → ℕ
selected_by mode b = cond (eqb mode 3 || (eqb mode 1 && eqb b 1 || eqb mode 2 && eqb b 0)) 1 0

-- the state is now b
abbrev pub flip : ℕ → Account → Account
flip b a = record { stable = b; run = 0; mode = a.mode; edges = a.edges + selected_by a.mode b; collected = a.collected }

-- by the sampling number and the sampled bit
unfoldable pub sampled_account : ℕ → ℕ → Account → Account
sampled_account number b a =
    cond (eqb b a.stable) (with_run 0 a)
    (cond (ltb (a.run + 1) number) (with_run (a.run + 1) a) (flip b a))

-- Spinel, binary: byte 6 is the instruction; its data stands between that and the last two bytes -------------------------------

-- two bytes from place k, high byte first
abbrev pub two_at : List ℕ → ℕ → ℕ
two_at f k = get_or f k 0 * 256 + get_or f (k + 1) 0

-- four bytes (E4)
abbrev pub four_at : List ℕ → ℕ → ℕ
four_at f k = two_at f k * 65536 + two_at f (k + 2)

abbrev pub code_of : List ℕ → ℕ
code_of f = get_or f 6 0

abbrev pub payload : List ℕ → List ℕ
payload f = take (length f - 9) (drop 7 f)

-- 61H, five bytes for each deduction, the input and an amount of four (E4): what they take from input k
unfoldable pub amounts : ℕ → List ℕ → ℕ
amounts k [] = 0
amounts k (n ∷ []) = 0
amounts k (n ∷ a ∷ []) = 0
amounts k (n ∷ a ∷ b ∷ []) = 0
amounts k (n ∷ a ∷ b ∷ c ∷ []) = 0
amounts k (n ∷ a ∷ b ∷ c ∷ e ∷ d) = cond (eqb n k) (four_at (a ∷ b ∷ c ∷ e ∷ []) 0) 0 + amounts k d

-- 6AH, two bytes for each input, which one and its mode: input k's mode after them, m before
unfoldable pub mode_given : ℕ → List ℕ → ℕ → ℕ
mode_given k [] m = m
mode_given k (n ∷ []) m = m
mode_given k (n ∷ v ∷ d) m = mode_given k d (cond (eqb n k) v m)

-- 60H: the value for the parameter in place j; the reply's byte 6 is its ACK, byte 7 is 20H, and the values begin at byte 8, four bytes
-- each (E4)
abbrev pub value_at : List ℕ → ℕ → ℕ
value_at r j = four_at r (8 + 4 * j)

-- what the parameter p in place j collects from input k: nothing without bit 7; with the number k its value, with 0 (all) the k-th value
unfoldable pub taken_by : ℕ → ℕ → ℕ → List ℕ → ℕ
taken_by k p j r =
    cond (leb 128 p)
    (cond (eqb (p % 64) k) (value_at r j) (cond (eqb (p % 64) 0) (value_at r (k - 1)) 0)) 0

-- the same of all parameters from place j on
unfoldable pub taken_from : ℕ → List ℕ → ℕ → List ℕ → ℕ
taken_from k [] j r = 0
taken_from k (p ∷ ps) j r = taken_by k p j r + taken_from k ps (suc j) r

-- an accepted frame with instruction c, data d and reply r (read for 60H only)

unfoldable pub spinel_collects : ℕ → ℕ → List ℕ → List ℕ → ℕ
spinel_collects k c d r =
    cond (eqb c 0x60) (taken_from k d 0 r)
    (cond (eqb c 0x61) (amounts k d) 0)

-- 61H with the one byte 00
unfoldable pub spinel_clears : ℕ → List ℕ → Bool
spinel_clears c d = eqb c 0x61 && (eqb (length d) 1 && eqb (get_or d 0 0) 0)

unfoldable pub spinel_resets : ℕ → Bool
spinel_resets c = eqb c 0xE3 || eqb c 0xE0

unfoldable pub spinel_mode : ℕ → ℕ → List ℕ → ℕ → ℕ
spinel_mode k c d m = cond (eqb c 0x6A) (mode_given k d m) m

unfoldable pub spinel_sampling : ℕ → List ℕ → ℕ → ℕ
spinel_sampling c d n = cond (eqb c 0x62) (get_or d 0 0) n

-- Text on the Spinel port (E2): byte 0 2A, byte 1 42, byte 2 the address, the code from byte 3 on --------------------------

unfoldable pub as_text : List ℕ → Bool
as_text f = eqb (get_or f 0 0) 0x2A && eqb (get_or f 1 0) 0x42

-- AS or SS
unfoldable pub text_resets : List ℕ → Bool
text_resets f = (eqb (get_or f 3 0) 0x41 || eqb (get_or f 3 0) 0x53) && eqb (get_or f 4 0) 0x53

-- Modbus: address 06 register value CRC, or address 10 register quantity count values CRC ------------------------------

abbrev pub quantity : List ℕ → ℕ
quantity f = cond (eqb (get_or f 1 0) 0x06) 1 (two_at f 4)

-- does the frame write register x
unfoldable pub writes : List ℕ → ℕ → Bool
writes f x = (eqb (get_or f 1 0) 0x06 || eqb (get_or f 1 0) 0x10) && (leb (two_at f 2) x && ltb x (two_at f 2 + quantity f))

-- the value that it writes there
unfoldable pub written : List ℕ → ℕ → ℕ
written f x = two_at f (cond (eqb (get_or f 1 0) 0x06) 4 7 + 2 * (x - two_at f 2))

-- an accepted frame: input k's registers are 99 + k (counter), 199 + k (deduction) and 299 + k (mode)

unfoldable pub modbus_collects : ℕ → List ℕ → ℕ
modbus_collects k f = cond (writes f (199 + k)) (written f (199 + k)) 0

unfoldable pub modbus_clears : ℕ → List ℕ → Bool
modbus_clears k f = writes f (99 + k)

unfoldable pub modbus_resets : List ℕ → Bool
modbus_resets f = writes f 1 || writes f 2

unfoldable pub modbus_mode : ℕ → List ℕ → ℕ → ℕ
modbus_mode k f m = cond (writes f (299 + k)) (written f (299 + k)) m

-- Steps ---------------------------------------------------------------------------------------------------------------

-- what an accepted frame comes to for one input: a reset, a clearing, or a mode and an amount collected
unfoldable pub changed : Bool → Bool → ℕ → ℕ → Account → Account
changed resets clears mode amount a =
    cond resets (with_run 0 (clear a))
    (cond clears (clear a)
    (collect amount (with_mode mode a)))

abbrev pub spinel_tallied : ℕ → List ℕ → List ℕ → Tally → Tally
spinel_tallied c d r t = record {
  sampling = spinel_sampling c d t.sampling;
  input = λ k. changed (spinel_resets c) (spinel_clears c d) (spinel_mode k c d (t.input k).mode) (spinel_collects k c d r) (t.input k);
}

-- nothing of text is counted, collected or set; AS and SS are resets
abbrev pub text_tallied : List ℕ → Tally → Tally
text_tallied f t = record {
  sampling = t.sampling;
  input = λ k. changed (text_resets f) false (t.input k).mode 0 (t.input k);
}

abbrev pub modbus_tallied : List ℕ → Tally → Tally
modbus_tallied f t = record {
  sampling = t.sampling;
  input = λ k. changed (modbus_resets f) (modbus_clears k f) (modbus_mode k f (t.input k).mode) (modbus_collects k f) (t.input k);
}

-- an accepted call
unfoldable pub tallied : Act → List ℕ → Tally → Tally
tallied (sample bits) r t = record { sampling = t.sampling; input = λ k. sampled_account t.sampling (sampled_bit bits k) (t.input k) }
tallied (temperature good tenths) r t = t
tallied (spinel f) r t = cond (as_text f) (text_tallied f t) (spinel_tallied (code_of f) (payload f) r t)
tallied (modbus f) r t = modbus_tallied f t

-- a refused call leaves the tally as it was
abbrev pub if_accepted : ℕ → Tally → Tally → Tally
if_accepted zero t u = u
if_accepted (suc n) t u = t

unfoldable pub feed : Tally → Event → Tally
feed t e = if_accepted e.refusal t (tallied e.act e.reply t)

unfoldable pub tally : Tally → List Event → Tally
tally t [] = t
tally t (e ∷ es) = tally (feed t e) es

-- What an event shows of itself -----------------------------------------------------------------------------------------

-- cleared (01): by an accepted call, a reset on either port, 61H with the one byte 00, or a write to the input's counter register
unfoldable pub clears : ℕ → Act → Bool
clears k (sample bits) = false
clears k (temperature good tenths) = false
clears k (spinel f) = cond (as_text f) (text_resets f) (spinel_resets (code_of f) || spinel_clears (code_of f) (payload f))
clears k (modbus f) = modbus_resets f || modbus_clears k f

-- uncollected (01): the edges not yet collected
abbrev pub uncollected : Tally → ℕ → ℕ
uncollected t k = (t.input k).edges - (t.input k).collected

-- since input k was last cleared, has no call left more than 4,294,967,295 (E4) uncollected? b says so of the time before the list
unfoldable pub stayed : ℕ → Bool → Tally → List Event → Bool
stayed k b t [] = b
stayed k b t (e ∷ es) = stayed k ((b || eqb e.refusal 0 && clears k e.act) && leb (uncollected (feed t e) k) 4294967295) (feed t e) es

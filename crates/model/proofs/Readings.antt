-- What a reader takes from the claims of demand 3 and of E3 by themselves, and rows for what that of demand 3 is said with. Assumes nothing.
use Prim.Native.Nat.{ℕ, ◌+◌, ◌-◌, ◌%◌, ◌≤◌}
use native.Mathlib.Omega.{arith}
use mathlib.Core.Path.{◌≡◌, refl}
use mathlib.Core.Bool.{true, false, cond}
use mathlib.Core.List.{List, [], ◌∷◌, map}
use lib.IntN.{pos}
use lib.ListN.{length, get_or}
use Rattle.model.specs.declared.Module.{Module}
use Rattle.model.specs.State.{fresh_line, fresh_module}
use Rattle.model.specs.Call.{Call}
use Rattle.model.specs.Calls.{run}
use Rattle.model.specs.Refusals.{telling, refuse, refusal_of, ack_of, exception_of}
use Rattle.model.specs.Spinel.{spinel_wire}
use Rattle.model.specs.Demand1.{Check, greatest, request_checks, frame_checks, is_broadcast}
use Rattle.model.specs.Tally.{Tally, Event, feed, fresh_tally, amounts, taken_from, uncollected, clears, stayed}
use Rattle.model.specs.Cycles.{events, tally_after, final_tally, counter_of, counter_now, CyclesConserved, Counting, counting_of, Alike, Agree, CyclesConservedFrom}
use Rattle.model.specs.Alone.{Sample, sample_calls, accepted_bits, line_of, mode_of, OneInputAlone}
use Rattle.model.proofs.Computing.{computing}
use Rattle.model.proofs.Exchanges.{sample_of, temperature_of, spinel_frame, asked, asked_at, sent_to, requested, written}

-- The claim ------------------------------------------------------------------------------

-- the edges of input k are what was collected and the counter
abbrev Exact : List Call → ℕ → Type 0
Exact calls k = ((final_tally calls).input k).edges ≡ ((final_tally calls).input k).collected + counter_now calls k

-- each of the sixteen inputs is covered: the first, the last
module _ (claim : CyclesConserved) (calls : List Call) where
  -- always modulo 4,294,967,296, no less
  pub modulo_1 : ((final_tally calls).input 1).edges % 4294967296 ≡ (((final_tally calls).input 1).collected + counter_now calls 1) % 4294967296
  modulo_1 = omega (arith, (claim calls 1 (omega arith) (omega arith)).sum)

  pub modulo_16 : ((final_tally calls).input 16).edges % 4294967296 ≡ (((final_tally calls).input 16).collected + counter_now calls 16) % 4294967296
  modulo_16 = omega (arith, (claim calls 16 (omega arith) (omega arith)).sum)

  -- exactly, with 4,294,967,295 uncollected at the end
  pub exact_1 : uncollected (final_tally calls) 1 ≡ 4294967295 → Exact calls 1
  exact_1 e = (claim calls 1 (omega arith) (omega arith)).exact (omega arith)

  pub exact_16 : uncollected (final_tally calls) 16 ≡ 4294967295 → Exact calls 16
  exact_16 e = (claim calls 16 (omega arith) (omega arith)).exact (omega arith)

  -- exactly, where never more stood uncollected since the last clearing
  pub since_1 : stayed 1 true fresh_tally (events fresh_module calls) ≡ true → Exact calls 1
  since_1 e = (claim calls 1 (omega arith) (omega arith)).since e

  pub since_16 : stayed 16 true fresh_tally (events fresh_module calls) ≡ true → Exact calls 16
  since_16 e = (claim calls 16 (omega arith) (omega arith)).since e

-- The claim from where they agree -----------------------------------------------------------

-- a tally of a module as it stands, where so much was collected of every input, and so much lost
abbrev pub standing : Counting → ℕ → ℕ → Tally
standing x collected lost = record {
  sampling = x.sampling;
  input = λ k. record {
    stable = cond (get_or x.lines (k - 1) fresh_line).stable 1 0;
    run = (get_or x.lines (k - 1) fresh_line).run;
    mode = get_or x.modes (k - 1) 0;
    edges = collected + get_or x.counters (k - 1) 0 + lost;
    collected = collected;
  };
}

-- sixteen lines, modes and counters
abbrev pub Sixteen : Counting → Type 0
Sixteen x = (length x.lines ≡ 16) × (length x.modes ≡ 16) × (length x.counters ≡ 16)

-- every module has a tally that is alike, and agrees where nothing is lost: what the claim starts from is no rare thing
pub alike_standing : (k : ℕ) (x : Counting) (collected lost : ℕ) → Sixteen x → Alike k x (standing x collected lost)
alike_standing k x c n h = record { sampling = refl; stable = refl; run = refl; mode = refl; lines = h.0; modes = h.1; counters = h.2 }

pub agrees_standing : (k : ℕ) (m : Module) (collected : ℕ) → Sixteen (counting_of m) → Agree k m (standing (counting_of m) collected 0)
agrees_standing k m c h = record { alike = alike_standing k (counting_of m) c 0 h; sum = omega arith }

-- so from any of them on each edge of each input is collected, in the counter, or lost to a whole turn of it
pub standing_modulo : CyclesConservedFrom → (m : Module) (collected : ℕ) → Sixteen (counting_of m) → (calls : List Call) (k : ℕ) → 1 ≤ k → k ≤ 16
    → ((tally_after m (standing (counting_of m) collected 0) calls).input k).edges % 4294967296
    ≡ (((tally_after m (standing (counting_of m) collected 0) calls).input k).collected + counter_of (run m calls) k) % 4294967296
standing_modulo claim m c s calls k l h = omega (arith, (claim m (standing (counting_of m) c 0) k l h (agrees_standing k m c s) calls).sum)

-- One input alone ---------------------------------------------------------------------------

-- of modules with sixteen inputs each of the sixteen is covered, and the four that agree before do afterwards
pub alone_of_sixteen : OneInputAlone → (m n : Module) → Sixteen (counting_of m) → Sixteen (counting_of n) → (k : ℕ) → 1 ≤ k → k ≤ 16 → m.settings.sampling ≡ n.settings.sampling
    → (line_of m k).stable ≡ (line_of n k).stable → (line_of m k).run ≡ (line_of n k).run → mode_of m k ≡ mode_of n k → counter_of m k ≡ counter_of n k
    → (ss ts : List Sample) → accepted_bits k m ss ≡ accepted_bits k n ts
    → let after = run m (sample_calls ss) in let others = run n (sample_calls ts) in
    ((line_of after k).stable ≡ (line_of others k).stable) × ((line_of after k).run ≡ (line_of others k).run) × (mode_of after k ≡ mode_of others k) × (counter_of after k ≡ counter_of others k)
alone_of_sixteen claim m n x y k l h e s r o c ss ts b =
    let has = claim k l m n (record { line = omega (arith, x.0, h); counter = omega (arith, x.2, h) }) (record { line = omega (arith, y.0, h); counter = omega (arith, y.2, h) }) e (record { stable = s; run = r; mode = o; counter = c }) ss ts b in
    (has.stable, has.run, has.mode, has.counter)

-- Rows ------------------------------------------------------------------------------------

-- number 1, every input in mode 3 with so many edges and so much collected
abbrev holding : ℕ → ℕ → Tally
holding e c = record { sampling = 1; input = λ k. record { stable = 0; run = 0; mode = 3; edges = e; collected = c } }

-- a call that was accepted without a reply, or refused by n; and an accepted 60H with its reply's bytes

abbrev accepted : Call → Event
accepted c = record { act = c.act; refusal = 0; reply = [] }

abbrev refused_by : ℕ → Call → Event
refused_by n c = record { act = c.act; refusal = n; reply = [] }

abbrev reading : List ℕ → List ℕ → Event
reading ps r = record { act = (asked 0x60 ps).act; refusal = 0; reply = r }

-- 4,294,967,295 of input 1 collected
abbrev collecting : Event
collecting = reading (0x81 ∷ []) (0 ∷ 0 ∷ 0 ∷ 0 ∷ 0 ∷ 0 ∷ 0 ∷ 32 ∷ 255 ∷ 255 ∷ 255 ∷ 255 ∷ [])

-- a reply to 60H with two values
abbrev two_values : List ℕ
two_values = 0x2A ∷ 0x61 ∷ 0x00 ∷ 0x0E ∷ 0x31 ∷ 0x02 ∷ 0x00 ∷ 0x20 ∷ 0x01 ∷ 0x02 ∷ 0x03 ∷ 0x04 ∷ 0xA0 ∷ 0xB0 ∷ 0xC0 ∷ 0xD0 ∷ 0x00 ∷ 0x0D ∷ []

-- input 1 alone changes, and nothing does
abbrev edge : Event
edge = accepted (sample_of 1)

abbrev none : Event
none = accepted (sample_of 0)

pub record Rows : Type 0 where
  -- what goes to all modules, the greatest number, and what tells it
  pub to_all_spinel : is_broadcast (asked_at 0xFF 0x20 (0x81 ∷ [])).act ≡ true
  pub to_universal : is_broadcast (asked_at 0xFE 0x20 (0x81 ∷ [])).act ≡ false
  pub to_all_text : is_broadcast (spinel_frame (0x2A ∷ 0x42 ∷ 0x25 ∷ 0x4F ∷ 0x53 ∷ 0x31 ∷ 0x48 ∷ 0x0D ∷ [])).act ≡ true
  pub text_to_universal : is_broadcast (spinel_frame (0x2A ∷ 0x42 ∷ 0x24 ∷ 0x4F ∷ 0x53 ∷ 0x31 ∷ 0x48 ∷ 0x0D ∷ [])).act ≡ false
  pub text_with_ff : is_broadcast (spinel_frame (0x2A ∷ 0x42 ∷ 0x31 ∷ 0x49 ∷ 0xFF ∷ 0x31 ∷ 0x0D ∷ [])).act ≡ false
  pub binary_to_25 : is_broadcast (asked_at 0x25 0x20 (0x81 ∷ [])).act ≡ false
  pub to_all_modbus : is_broadcast (sent_to 0x00 0x05 (0x00 ∷ 0x00 ∷ 0xFF ∷ 0x00 ∷ [])).act ≡ true
  pub not_to_ff : is_broadcast (sent_to 0xFF 0x05 (0x00 ∷ 0x00 ∷ 0xFF ∷ 0x00 ∷ [])).act ≡ false
  pub fourteen : greatest ≡ 14
  pub ack13 : ack_of 13 ≡ 0x03
  pub exception13 : exception_of 13 ≡ 0x03
  pub ack14 : ack_of 14 ≡ 0x03
  pub exception14 : exception_of 14 ≡ 0x04
  -- a refusal is added under its own number alone, and checks stand in their order
  pub refuses_one : map (refuse 9 true (telling [])).holds (8 ∷ 9 ∷ 10 ∷ []) ≡ (false ∷ true ∷ false ∷ [])
  pub ten_first : refusal_of (refuse 13 true (refuse 10 true (telling []))) ≡ 10
  pub then_thirteen : refusal_of (refuse 11 true (refuse 13 true (telling []))) ≡ 13
  pub then_eleven : refusal_of (refuse 14 true (refuse 11 true (telling []))) ≡ 11
  pub then_fourteen : refusal_of (refuse 12 true (refuse 14 true (telling []))) ≡ 14
  pub request_order : map (λ (c : Check). c.number) (request_checks (telling [])) ≡ (7 ∷ 8 ∷ 9 ∷ 10 ∷ 13 ∷ 11 ∷ 14 ∷ 12 ∷ [])
  pub frame_order : map (λ (c : Check). c.number) (frame_checks spinel_wire true 0x31 []) ≡ (2 ∷ 3 ∷ 4 ∷ 5 ∷ 6 ∷ [])
  -- the tally adds what all deductions of an input name, and does not rest on 13; an amount has four bytes, the high one first
  pub amounts_add : amounts 1 (1 ∷ 0 ∷ 0 ∷ 0 ∷ 2 ∷ 2 ∷ 0 ∷ 0 ∷ 0 ∷ 9 ∷ 1 ∷ 0 ∷ 0 ∷ 1 ∷ 3 ∷ []) ≡ 261
  pub amounts_whole : amounts 2 (2 ∷ 0x12 ∷ 0x34 ∷ 0x56 ∷ 0x78 ∷ []) ≡ 0x1234_5678
  pub amounts_cut : map (amounts 2) ((2 ∷ []) ∷ (2 ∷ 1 ∷ []) ∷ (2 ∷ 1 ∷ 1 ∷ []) ∷ (2 ∷ 1 ∷ 1 ∷ 1 ∷ []) ∷ []) ≡ (0 ∷ 0 ∷ 0 ∷ 0 ∷ [])
  -- the values of a reply to 60H: four bytes each from its byte 8 on, by the parameter's place or, of all, by the input
  pub value_first : taken_from 1 (0x81 ∷ 0x82 ∷ []) 0 two_values ≡ 0x0102_0304
  pub value_second : taken_from 2 (0x81 ∷ 0x82 ∷ []) 0 two_values ≡ 0xA0B0_C0D0
  pub value_of_all : taken_from 2 (0x80 ∷ []) 0 two_values ≡ 0xA0B0_C0D0
  pub value_kept : taken_from 2 (0x81 ∷ 0x02 ∷ []) 0 two_values ≡ 0
  -- in a text frame no byte is an instruction, whatever it holds: here 62H, then 5, which would set the sampling number
  pub text_sets_no_number :
      (feed fresh_tally (accepted (spinel_frame (0x2A ∷ 0x42 ∷ 0x31 ∷ 0x4F ∷ 0x53 ∷ 0x31 ∷ 0x62 ∷ 0x05 ∷ 0x01 ∷ 0x0D ∷ [])))).sampling ≡ 20
  -- uncollected is edges less collected
  pub uncollected5 : uncollected (holding 8 3) 1 ≡ 5
  -- what clears input 1, and what does not
  pub by61 : clears 1 (asked 0x61 (0x00 ∷ [])).act ≡ true
  pub not_by_61_byte : clears 1 (asked 0x61 (0x01 ∷ [])).act ≡ false
  pub not_by_61_item : clears 1 (asked 0x61 (0x00 ∷ 0x00 ∷ 0x00 ∷ 0x00 ∷ 0x00 ∷ [])).act ≡ false
  pub not_by_60 : clears 1 (asked 0x60 (0x80 ∷ [])).act ≡ false
  pub by_e_3 : clears 1 (asked 0xE3 []).act ≡ true
  pub by_e_0 : clears 1 (asked 0xE0 (0x31 ∷ 0x06 ∷ [])).act ≡ true
  pub not_by_e_4 : clears 1 (asked 0xE4 []).act ≡ false
  pub by_a_s : clears 1 (spinel_frame (0x2A ∷ 0x42 ∷ 0x31 ∷ 0x41 ∷ 0x53 ∷ 0x35 ∷ 0x0D ∷ [])).act ≡ true
  pub by_s_s : clears 16 (spinel_frame (0x2A ∷ 0x42 ∷ 0x31 ∷ 0x53 ∷ 0x53 ∷ 0x37 ∷ 0x0D ∷ [])).act ≡ true
  pub not_by_o_s : clears 1 (spinel_frame (0x2A ∷ 0x42 ∷ 0x31 ∷ 0x4F ∷ 0x53 ∷ 0x35 ∷ 0x48 ∷ 0x0D ∷ [])).act ≡ false
  pub by100 : clears 1 (requested 0x06 100 0).act ≡ true
  pub not_by_101 : clears 1 (requested 0x06 101 0).act ≡ false
  pub by115 : clears 16 (written 114 (0 ∷ 0 ∷ [])).act ≡ true
  pub not_by_116 : clears 16 (written 116 (0 ∷ [])).act ≡ false
  pub not_by_200 : clears 1 (requested 0x06 200 0).act ≡ false
  pub not_by_03 : clears 1 (requested 0x03 100 1).act ≡ false
  pub by_address : clears 1 (requested 0x06 1 5).act ≡ true
  pub by_speed : clears 1 (written 2 (6 ∷ [])).act ≡ true
  pub not_by_permission : clears 1 (requested 0x06 0 255).act ≡ false
  pub not_by_sample : clears 1 (sample_of 0).act ≡ false
  pub not_by_temperature : clears 1 (temperature_of true (pos 0)).act ≡ false
  -- at 4,294,967,295 it has stayed, at 4,294,967,296 not; another input's edge is none of this one's
  pub stays : stayed 1 true (holding 4294967294 0) (edge ∷ []) ≡ true
  pub stays_beyond_16 : stayed 1 true (holding 65535 0) (edge ∷ edge ∷ []) ≡ true
  pub passes : stayed 1 true (holding 4294967295 0) (edge ∷ []) ≡ false
  pub other : stayed 2 true (holding 4294967295 0) (edge ∷ []) ≡ true
  pub collected_before : stayed 1 true (holding 4294967296 1) (none ∷ edge ∷ []) ≡ false
  pub nothing : stayed 1 true (holding 4295000000 0) [] ≡ true
  pub not_before : stayed 1 false (holding 0 0) (none ∷ []) ≡ false
  -- once passed, only a clearing mends it: neither a collection nor a refused clearing does
  pub not_by_collecting : stayed 1 true (holding 4294967295 0) (edge ∷ collecting ∷ []) ≡ false
  pub not_refused : stayed 1 true (holding 4294967295 0) (edge ∷ refused_by 11 (asked 0x61 (0x00 ∷ [])) ∷ []) ≡ false
  pub not_refused_later : stayed 1 true (holding 4294967295 0) (edge ∷ collecting ∷ refused_by 11 (asked 0x61 (0x00 ∷ [])) ∷ []) ≡ false
  pub cleared : stayed 1 true (holding 4294967295 0) (edge ∷ accepted (asked 0x61 (0x00 ∷ [])) ∷ none ∷ []) ≡ true
  pub reset_by : stayed 1 true (holding 4294967295 0) (edge ∷ accepted (asked 0xE3 []) ∷ []) ≡ true
  pub other_cleared : stayed 1 true (holding 4294967295 0) (edge ∷ accepted (requested 0x06 101 0) ∷ []) ≡ false
  pub own_cleared : stayed 1 true (holding 4294967295 0) (edge ∷ accepted (requested 0x06 100 0) ∷ []) ≡ true

pub rows : Rows
unfolding computing
rows = record {
  to_all_spinel = refl;
  to_universal = refl;
  to_all_text = refl;
  text_to_universal = refl;
  text_with_ff = refl;
  binary_to_25 = refl;
  to_all_modbus = refl;
  not_to_ff = refl;
  fourteen = refl;
  ack13 = refl;
  exception13 = refl;
  ack14 = refl;
  exception14 = refl;
  refuses_one = refl;
  ten_first = refl;
  then_thirteen = refl;
  then_eleven = refl;
  then_fourteen = refl;
  request_order = refl;
  frame_order = refl;
  amounts_add = refl;
  amounts_whole = refl;
  amounts_cut = refl;
  value_first = refl;
  value_second = refl;
  value_of_all = refl;
  value_kept = refl;
  text_sets_no_number = refl;
  uncollected5 = refl;
  by61 = refl;
  not_by_61_byte = refl;
  not_by_61_item = refl;
  not_by_60 = refl;
  by_e_3 = refl;
  by_e_0 = refl;
  not_by_e_4 = refl;
  by_a_s = refl;
  by_s_s = refl;
  not_by_o_s = refl;
  by100 = refl;
  not_by_101 = refl;
  by115 = refl;
  not_by_116 = refl;
  not_by_200 = refl;
  not_by_03 = refl;
  by_address = refl;
  by_speed = refl;
  not_by_permission = refl;
  not_by_sample = refl;
  not_by_temperature = refl;
  stays = refl;
  stays_beyond_16 = refl;
  passes = refl;
  other = refl;
  collected_before = refl;
  nothing = refl;
  not_before = refl;
  not_by_collecting = refl;
  not_refused = refl;
  not_refused_later = refl;
  cleared = refl;
  reset_by = refl;
  other_cleared = refl;
  own_cleared = refl;
}

-- Demand 3: the module and the tally over a list of calls, and the claim; from a fresh module, and from any that agrees with a tally.
use Rattle.std.specs.Prelude.{ℕ, ◌+◌, ◌-◌, ◌*◌, ◌≤◌, true, cond, ◌≡◌, List, [], ◌∷◌, length, get_or}
use Rattle.model.specs.declared.Line.{Line}
use Rattle.model.specs.declared.Module.{Module}
use Rattle.model.specs.State.{fresh_line, fresh_module}
use Rattle.model.specs.Call.{Call}
use Rattle.model.specs.Calls.{step, run}
use Rattle.model.specs.Tally.{Tally, Event, tally, fresh_tally, uncollected, stayed}

-- what the tally is fed of a list of calls
unfoldable pub events : Module → List Call → List Event
events m [] = []
events m (c ∷ cs) = record { act = c.act; refusal = (step m c).refusal; reply = (step m c).reply } ∷ events (step m c).after cs

-- the tally after a list of calls, from the tally t that stood with the module m
abbrev pub tally_after : Module → Tally → List Call → Tally
tally_after m t calls = tally t (events m calls)

-- input k's counter as a module holds it
abbrev pub counter_of : Module → ℕ → ℕ
counter_of m k = get_or m.inputs.counters (k - 1) 0

-- from a fresh module
abbrev pub final_tally : List Call → Tally
final_tally calls = tally_after fresh_module fresh_tally calls

-- and the counter once the whole list has run (01, Tally of cycles)
abbrev pub counter_now : List Call → ℕ → ℕ
counter_now calls k = counter_of (run fresh_module calls) k

-- the claim about input k with its counter, from the tally `start` over some events: `sum` always; `exact` where at most 4,294,967,295 (E4)
-- stand uncollected at the list's end; `since` where since the input was last cleared never more than that stood uncollected
pub record Conserved (k counter : ℕ) (start : Tally) (es : List Event) : Type 0 where
  pub times : ℕ
  pub sum : ((tally start es).input k).edges ≡ ((tally start es).input k).collected + counter + 4294967296 * times
  pub exact : uncollected (tally start es) k ≤ 4294967295 → ((tally start es).input k).edges ≡ ((tally start es).input k).collected + counter
  pub since : stayed k true start es ≡ true → ((tally start es).input k).edges ≡ ((tally start es).input k).collected + counter

-- Demand 3, over every list of calls from a fresh module, for each of the sixteen inputs
abbrev pub CyclesConserved : Type 0
CyclesConserved =
    (calls : List Call) (k : ℕ) → 1 ≤ k → k ≤ 16 → Conserved k (counter_now calls k) fresh_tally (events fresh_module calls)

-- The claim from wherever a module and a tally agree ------------------------------------

-- what a module holds that counting goes by
pub record Counting : Type 0 where
  pub lines : List Line
  pub modes : List ℕ
  pub counters : List ℕ
  pub sampling : ℕ

abbrev pub counting_of : Module → Counting
counting_of m = record { lines = m.inputs.lines; modes = m.settings.modes; counters = m.inputs.counters; sampling = m.settings.sampling }

-- a tally holds the same of input k: sampling number, stable state, run and mode; of lines, modes and counters there are sixteen
pub record Alike (k : ℕ) (x : Counting) (t : Tally) : Type 0 where
  pub sampling : x.sampling ≡ t.sampling
  pub stable : cond (get_or x.lines (k - 1) fresh_line).stable 1 0 ≡ (t.input k).stable
  pub run : (get_or x.lines (k - 1) fresh_line).run ≡ (t.input k).run
  pub mode : get_or x.modes (k - 1) 0 ≡ (t.input k).mode
  pub lines : length x.lines ≡ 16
  pub modes : length x.modes ≡ 16
  pub counters : length x.counters ≡ 16

-- a module and a tally agree in input k: so much is alike, and each edge is collected or in the counter. Fresh ones agree in all
pub record Agree (k : ℕ) (m : Module) (t : Tally) : Type 0 where
  pub alike : Alike k (counting_of m) t
  pub sum : (t.input k).edges ≡ (t.input k).collected + counter_of m k

-- then the claim holds of that input over every list of calls, whatever else module and tally hold
abbrev pub CyclesConservedFrom : Type 0
CyclesConservedFrom =
    (m : Module) (t : Tally) (k : ℕ) → 1 ≤ k → k ≤ 16 → Agree k m t → (calls : List Call) → Conserved k (counter_of (run m calls) k) t (events m calls)

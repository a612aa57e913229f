-- Demand 3 across the take-over: cycles counted before it are conserved after it.
use Rattle.std.specs.Prelude.{ℕ, ◌+◌, ◌-◌, ◌*◌, ◌≤◌, ◌≡◌, List, get_or}
use Rattle.model.specs.Call.{Call}
use Rattle.model.specs.Calls.{run}
use Rattle.model.specs.Tally.{Tally, uncollected}
use Rattle.model.specs.Cycles.{Counting, Alike, counter_of, events, Conserved}
use Rattle.takeover.specs.declared.ModuleBefore.{ModuleBefore}
use Rattle.takeover.specs.TakenOver.{taken_over}

-- what counting went by
abbrev pub counting_before : ModuleBefore → Counting
counting_before b = record { lines = b.inputs.lines; modes = b.settings.modes; counters = b.inputs.counters; sampling = b.settings.sampling }

-- a module of before and the tally of its calls agreed in input k while counters had 16 bits: what both hold was alike, and the edges were
-- those collected, those in the counter, and 65,536 for each turn of it
pub record Agreed (k : ℕ) (b : ModuleBefore) (t : Tally) : Type 0 where
  pub alike : Alike k (counting_before b) t
  pub turns : ℕ
  pub sum : (t.input k).edges ≡ (t.input k).collected + get_or b.inputs.counters (k - 1) 0 + 65536 * turns

-- where no more than 65,535 stood uncollected, that sum was exact: then the tally goes on with the module that took over, and the claim of now
-- holds of that input over every list of calls
abbrev pub CyclesConservedAcross : Type 0
CyclesConservedAcross =
    (b : ModuleBefore) (t : Tally) (k : ℕ) → 1 ≤ k → k ≤ 16 → Agreed k b t → uncollected t k ≤ 65535 → (calls : List Call)
    → Conserved k (counter_of (run (taken_over b) calls) k) t (events (taken_over b) calls)

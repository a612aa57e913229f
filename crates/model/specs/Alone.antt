-- E3, one input alone: what samples make of an input goes by the sampling number, by what the module holds of that input, and by its own bits.
use Rattle.std.specs.Prelude.{ℕ, ◌-◌, ◌≤◌, ◌≡◌, Bool, cond, List, [], ◌∷◌, map, eqb, length, get_or}
use Rattle.lists.specs.Numbers.{bit_at}
use Rattle.model.specs.declared.Line.{Line}
use Rattle.model.specs.declared.Module.{Module}
use Rattle.model.specs.State.{fresh_line}
use Rattle.model.specs.Call.{Call, sample}
use Rattle.model.specs.Calls.{step, run}
use Rattle.model.specs.Cycles.{counter_of}

-- a sample call: how many bytes are lent, and the sixteen bits
pub record Sample : Type 0 where
  pub room : ℕ
  pub bits : ℕ

abbrev pub call_of : Sample → Call
call_of s = record { room = s.room; act = sample s.bits }

abbrev pub sample_calls : List Sample → List Call
sample_calls ss = map call_of ss

-- the bits of input k, one for each call of the list that is not refused; the others leave none
unfoldable pub accepted_bits : ℕ → Module → List Sample → List Bool
accepted_bits k m [] = []
accepted_bits k m (s ∷ ss) =
    let o = step m (call_of s) in
    let later = accepted_bits k o.after ss in
    cond (eqb o.refusal 0) (bit_at s.bits (k - 1) ∷ later) later

-- input k's line and mode as a module holds them
abbrev pub line_of : Module → ℕ → Line
line_of m k = get_or m.inputs.lines (k - 1) fresh_line

abbrev pub mode_of : Module → ℕ → ℕ
mode_of m k = get_or m.settings.modes (k - 1) 0

-- the module has an input k; those of the code have sixteen
pub record Has (k : ℕ) (m : Module) : Type 0 where
  pub line : k ≤ length m.inputs.lines
  pub counter : k ≤ length m.inputs.counters

-- the four that two modules agree in (E3)
pub record AgreeIn (k : ℕ) (m n : Module) : Type 0 where
  pub stable : (line_of m k).stable ≡ (line_of n k).stable
  pub run : (line_of m k).run ≡ (line_of n k).run
  pub mode : mode_of m k ≡ mode_of n k
  pub counter : counter_of m k ≡ counter_of n k

-- E3: modules of one sampling number that agree in input k still do after two lists of sample calls which bring input k the same accepted
-- bits. All else of the modules, of the samples and of their buffers may differ.
abbrev pub OneInputAlone : Type 0
OneInputAlone =
    (k : ℕ) → 1 ≤ k → (m n : Module) → Has k m → Has k n → m.settings.sampling ≡ n.settings.sampling → AgreeIn k m n
    → (ss ts : List Sample) → accepted_bits k m ss ≡ accepted_bits k n ts → AgreeIn k (run m (sample_calls ss)) (run n (sample_calls ts))

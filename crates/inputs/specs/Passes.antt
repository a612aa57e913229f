-- What the passes over the lines give.
use Rattle.std.specs.Prelude.{ℕ, Bool, cond, not, ◌&&◌, ◌||◌, List, map, eqb, get_or, Option, Some, None}
use Rattle.std.specs.Bool.{beq}
use Rattle.lists.specs.Tests.{any}
use Rattle.lists.specs.Mapi.{mapi}
use Rattle.lists.specs.Numbers.{bit_at, bits_number}
use Rattle.model.specs.declared.Inputs.{Inputs}
use Rattle.model.specs.declared.Line.{Line}
use Rattle.model.specs.State.{fresh_line}
use Rattle.model.specs.Samples.{lines_sampled, edges, selected_edge, counters_sampled}
use Rattle.inputs.specs.declared.Edged.{Edged}
use Rattle.inputs.specs.declared.Sampled.{Sampled}

-- some line that the mask picks has an edge
unfoldable pub any_masked : ℕ → List Bool → Bool
any_masked mask edged = any (λ b. b) (mapi (λ i b. b && bit_at mask i) edged)

-- a sample with this bit can change the line: the bit is not its stable state, or it has a run
abbrev pub is_moving : Bool → Line → Bool
is_moving bit x = not (beq bit x.stable) || not (eqb x.run 0)

-- it can change some line
unfoldable pub any_moving : ℕ → List Line → Bool
any_moving bits xs = any (λ b. b) (mapi (λ i x. is_moving (bit_at bits i) x) xs)

-- the stable states as a number
unfoldable pub stable_bits : List Line → ℕ
stable_bits xs = bits_number (map (λ (y : Line). y.stable) xs)

-- the lines with an edge that their mode selects
unfoldable pub selected_lines : List ℕ → List Line → List Line → List Bool
selected_lines modes was now = mapi (λ i x. selected_edge (get_or modes i 0) x (get_or now i fresh_line)) was

-- the edges, where a line has one, with the states after them
abbrev pub edged_of : List Bool → List Line → Option Edged
edged_of es now = cond (any (λ b. b) es) (Some (record { found = bits_number es; states = stable_bits now })) None

-- the inputs after a sample, by the sampling number and the modes, and its edges
unfoldable pub sampled_of : ℕ → ℕ → List ℕ → Inputs → Sampled
sampled_of bits number modes x =
    let now = lines_sampled number bits x.lines in
    record { inputs = record { lines = now; counters = counters_sampled modes x.lines now x.counters }; edges = edged_of (edges x.lines now) now }

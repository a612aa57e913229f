-- 01, Samples and edges.
use Rattle.std.specs.Prelude.{ℕ, ◌+◌, ◌*◌, ◌%◌, ◌^◌, Bool, cond, not, ◌&&◌, List, map, eqb, leb, get_or}
use Rattle.std.specs.Bool.{beq}
use Rattle.lists.specs.Mapi.{mapi}
use Rattle.lists.specs.Numbers.{bit_at}
use Rattle.model.specs.declared.Line.{Line}
use Rattle.model.specs.declared.Inputs.{Inputs}
use Rattle.model.specs.declared.Settings.{Settings}
use Rattle.model.specs.State.{line, fresh_line}

-- the number of inputs, and of outputs
abbrev pub places : ℕ
places = 16

-- a counter's width in bytes (E4), from which all else about it follows: its bits, and the value it goes to 0 at, which is one above its limit
abbrev pub counter_bytes : ℕ
counter_bytes = 4

abbrev pub counter_bits : ℕ
counter_bits = 8 * counter_bytes

abbrev pub counter_modulus : ℕ
counter_modulus = 256 ^ counter_bytes

-- debounce of one input, by the sampling number and the sampled bit: an equal sample ends the run, a differing one lengthens it; at the
-- sampling number the state flips and no run is left. In states that no run of calls reaches: with the number 0, or after a run of 255,
-- a differing sample flips.
unfoldable pub line_sampled : ℕ → Bool → Line → Line
line_sampled number bit x =
    cond (beq bit x.stable) (line x.stable 0)
    (cond (leb number (x.run + 1)) (line bit 0) (line x.stable (x.run + 1)))

-- the sixteen, the sample's lowest bit for input 1
unfoldable pub lines_sampled : ℕ → ℕ → List Line → List Line
lines_sampled number bits xs = mapi (λ i x. line_sampled number (bit_at bits i) x) xs

-- edge (01): the stable state flipped
abbrev pub is_edge : Line → Line → Bool
is_edge was now = not (beq was.stable now.stable)

-- a mode's low bit selects the edges that rise, its next bit those that fall; a mode above 3 would select none
unfoldable pub selects : ℕ → Bool → Bool
selects mode rising =
    cond (eqb mode 1) rising
    (cond (eqb mode 2) (not rising)
    (eqb mode 3))

-- selected edge (01): one that the mode, as it stands at the sample, selects; it rises where the input is on after it
unfoldable pub selected_edge : ℕ → Line → Line → Bool
selected_edge mode was now = is_edge was now && selects mode now.stable

-- which inputs have an edge
unfoldable pub edges : List Line → List Line → List Bool
edges was now = mapi (λ i x. is_edge x (get_or now i fresh_line)) was

-- one up for a selected edge; the largest value is followed by 0, and that is wanted
unfoldable pub counted : Bool → ℕ → ℕ
counted selected c = cond selected ((c + 1) % counter_modulus) c

unfoldable pub counters_sampled : List ℕ → List Line → List Line → List ℕ → List ℕ
counters_sampled modes was now cs =
    mapi (λ i c. counted (selected_edge (get_or modes i 0) (get_or was i fresh_line) (get_or now i fresh_line)) c) cs

-- inputs, then counters; the modes and the sampling number are settings, and stay
unfoldable pub inputs_sampled : ℕ → Settings → Inputs → Inputs
inputs_sampled bits s x =
    let now = lines_sampled s.sampling bits x.lines in
    record { lines = now; counters = counters_sampled s.modes x.lines now x.counters }

-- what every read of an input shows: its stable state, never the bit last sampled
abbrev pub input_states : Inputs → List Bool
input_states x = map (λ (y : Line). y.stable) x.lines

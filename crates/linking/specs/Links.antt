-- What links set, by the edges and the states after them as numbers.
use Rattle.std.specs.Prelude.{ℕ, ◌-◌, Bool, cond, not, ◌&&◌, ◌||◌, List, [], ◌∷◌, ◌++◌, map, eqb, get_or, Option, Some, None}
use Rattle.std.specs.Int.{to_le_bytes}
use mir.Syntax.{w64}
use Rattle.lists.specs.Mapi.{mapi}
use Rattle.lists.specs.Numbers.{bit_at, bits_number}
use Rattle.model.specs.declared.Link.{Link}
use Rattle.model.specs.declared.Output.{Output}
use Rattle.model.specs.State.{link, output, fresh_link}
use Rattle.inputs.specs.declared.Edged.{Edged}
use Rattle.linking.specs.declared.Sets.{Sets}

-- a link sets its output: at an edge of its input, by action 3 and 4 where that rises
unfoldable pub sets : ℕ → ℕ → Link → Bool
sets found states l =
    bit_at found (l.input - 1)
    && ((eqb l.action 1 || eqb l.action 2)
    || ((eqb l.action 3 || eqb l.action 4) && bit_at states (l.input - 1)))

-- to on
unfoldable pub sets_on : ℕ → Link → Bool
sets_on states l =
    eqb l.action 3
    || ((eqb l.action 1 && bit_at states (l.input - 1)) || (eqb l.action 2 && not (bit_at states (l.input - 1))))

-- what some links set
abbrev pub sets_by : List Link → ℕ → ℕ → Sets
sets_by ls found states = record { set = bits_number (map (sets found states) ls); on = bits_number (map (sets_on states) ls) }

-- the outputs after that
unfoldable pub outputs_set : Sets → List Output → List Output
outputs_set s os = mapi (λ i o. cond (bit_at s.set i) (output (bit_at s.on i) 0) o) os

-- the same by each output's own link
unfoldable pub outputs_by : ℕ → ℕ → List Link → List Output → List Output
outputs_by found states ls os =
    mapi (λ i o. cond (sets found states (get_or ls i fresh_link)) (output (sets_on states (get_or ls i fresh_link)) 0) o) os

-- and by what a sample found: without an edge they stay
abbrev pub linked_by : Option Edged → List Link → List Output → List Output
linked_by (Some e) ls os = outputs_by e.found e.states ls os
linked_by None ls os = os

-- four links of eight bytes, input and action in turn
abbrev pub links_at : List ℕ → List Link
links_at b = link (get_or b 0 0) (get_or b 1 0) ∷ link (get_or b 2 0) (get_or b 3 0) ∷ link (get_or b 4 0) (get_or b 5 0) ∷ link (get_or b 6 0) (get_or b 7 0) ∷ []

-- of a number's bytes, the lowest first
unfoldable pub links_in : ℕ → List Link
links_in w = links_at (to_le_bytes w64 w)

abbrev pub links_by : ℕ → ℕ → ℕ → ℕ → List Link
links_by w0 w1 w2 w3 = links_in w0 ++ links_in w1 ++ links_in w2 ++ links_in w3

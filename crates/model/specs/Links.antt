-- 02, E8: links, by which the edges of an input drive an output. Each output has one link, or none.
use Rattle.std.specs.Prelude.{ℕ, ◌-◌, Bool, true, false, cond, not, ◌&&◌, get_or, set, leb, eqb}
use mathlib.Core.List.{List, [], ◌∷◌, foldl}
use Rattle.lists.specs.Tests.{all, any}
use Rattle.lists.specs.Mapi.{mapi}
use Rattle.lists.specs.Chunks.{chunks}
use Rattle.model.specs.declared.Line.{Line}
use Rattle.model.specs.declared.Output.{Output}
use Rattle.model.specs.declared.Link.{Link}
use Rattle.model.specs.declared.Thermostat.{Thermostat}
use Rattle.model.specs.State.{output, link, fresh_line, fresh_link, fresh_thermostat}
use Rattle.model.specs.Samples.{is_edge}
use Rattle.model.specs.Refusals.{Request, accepting, refuse}
use Rattle.model.specs.Counters.{is_number, items_of}
use Rattle.model.specs.Temperature.{clash}

-- 40H, 41H ---------------------------------------------------------------------------------

-- a group's three bytes: an input and an output that there are, and an action up to 4
unfoldable pub link_settable : List ℕ → Bool
link_settable c = is_number (get_or c 0 0) && (is_number (get_or c 1 0) && leb (get_or c 2 0) 4)

-- what the output gets: by action 0 no link, and its input is not kept
unfoldable pub group_link : List ℕ → Link
group_link c = cond (eqb (get_or c 2 0) 0) fresh_link (link (get_or c 0 0) (get_or c 2 0))

-- 14, by the thermostat that the output has
unfoldable pub link_clashes : List Thermostat → List ℕ → Bool
link_clashes hs c = clash (group_link c) (get_or hs (get_or c 1 0 - 1) fresh_thermostat)

unfoldable pub set_link : List Link → List ℕ → List Link
set_link ls c = set ls (get_or c 1 0 - 1) (group_link c)

-- 40H: three bytes for each link
unfoldable pub set_links : List Thermostat → List ℕ → List Link → Request (List Link)
set_links hs d ls =
    refuse 8 (not (items_of 3 d))
    (refuse 11 (not (all link_settable (chunks 3 d)))
    (refuse 14 (any (link_clashes hs) (chunks 3 d))
    (accepting (foldl set_link ls (chunks 3 d)) [])))

-- 41H: the link of an output as it is stored
unfoldable pub link_shown : List Link → ℕ → List ℕ
link_shown ls n =
    let l = get_or ls (n - 1) fresh_link in
    l.input ∷ l.action ∷ []

-- A sample ---------------------------------------------------------------------------------

-- what an edge of its input does to an output, by the input's new state: 1 gives it that state, 2 the other; where the edge rises, 3 turns it
-- on and 4 off. A set ends its pulse; what does not set leaves it. An action above 4, which no setting gives, does nothing.
unfoldable pub driven : ℕ → Bool → Output → Output
driven action risen o =
    cond (eqb action 1) (output risen 0)
    (cond (eqb action 2) (output (not risen) 0)
    (cond (eqb action 3) (cond risen (output true 0) o)
    (cond (eqb action 4) (cond risen (output false 0) o) o)))

-- an output after its link, by the lines before and after the sample; modes have no part in it. No setting stores action 1 to 4 with an
-- input that there is not: one above 16 would have no edge, and 0 would be taken for 1.
unfoldable pub linked : List Line → List Line → Link → Output → Output
linked was now l o =
    let before = get_or was (l.input - 1) fresh_line in
    let after = get_or now (l.input - 1) fresh_line in
    cond (is_edge before after) (driven l.action after.stable o) o

-- every output by its own link
unfoldable pub outputs_linked : List Link → List Line → List Line → List Output → List Output
outputs_linked ls was now os = mapi (λ i o. linked was now (get_or ls i fresh_link) o) os

-- A script as calls.
use Rattle.std.specs.Prelude.{ℕ, zero, suc, true, false, cond, List, [], ◌∷◌, ◌++◌, eqb, pos, take, replicate}
use Rattle.model.specs.Call.{Call, call, sample, temperature, spinel, modbus}
use Rattle.model.specs.declared.Module.{Module}
use Rattle.model.specs.Refusals.{Out}
use Rattle.model.specs.Calls.{spinel_call, modbus_call}
use Rattle.script.specs.Parsed.{Parsed}
use Rattle.script.specs.Lines.{parsed_line}
use Rattle.player.specs.declared.Port.{Port}
use Rattle.player.specs.declared.Port.TheVariants.{Spinel, Modbus}

-- a frame on the port that it came to
abbrev pub frame_call : Port → ℕ → List ℕ → Module → Out
frame_call Spinel room f m = spinel_call room f m
frame_call Modbus room f m = modbus_call room f m

-- the lines of a script, where w is the start of one; behind a last line feed stands an empty line
unfoldable pub lines : List ℕ → List ℕ → List (List ℕ)
lines w [] = w ∷ []
lines w (b ∷ l) = cond (eqb b 10) (w ∷ lines [] l) (lines (w ++ b ∷ []) l)

-- two samples in turn, n times
unfoldable pub in_turn : ℕ → ℕ → ℕ → List Call
in_turn a b zero = []
in_turn a b (suc n) = call 256 (sample a) ∷ call 256 (sample b) ∷ in_turn a b n

-- the calls of a line, with a reply buffer of 256 bytes: as many samples as it says, or as many turns of two, one temperature, one frame, or none
unfoldable pub line_calls : Parsed → List Call
line_calls x =
    cond (eqb x.kind 1) (replicate x.times (call 256 (sample x.bits)))
    (cond (eqb x.kind 7) (in_turn x.bits x.second x.times)
    (cond (eqb x.kind 2) (call 256 (temperature true x.tenths) ∷ [])
    (cond (eqb x.kind 3) (call 256 (temperature false (pos 0)) ∷ [])
    (cond (eqb x.kind 4) (call 256 (spinel (take x.len x.frame)) ∷ [])
    (cond (eqb x.kind 5) (call 256 (modbus (take x.len x.frame)) ∷ [])
    (cond (eqb x.kind 8) (call 256 (spinel (take x.len x.frame)) ∷ []) []))))))

-- the calls of some lines
unfoldable pub lines_calls : List (List ℕ) → List Call
lines_calls [] = []
lines_calls (l ∷ ls) = line_calls (parsed_line l) ++ lines_calls ls

-- the calls of a script
abbrev pub script_calls : List ℕ → List Call
script_calls s = lines_calls (lines [] s)

-- Calls with buffers of several lengths.
use Rattle.std.specs.Prelude.{ℕ, ◌+◌, cond, List, [], ◌∷◌, eqb}
use Rattle.model.specs.Call.{Act, Call as CallOf, call, sample, spinel, modbus}
use Rattle.short_buffers.specs.declared.Call.{Call}
use Rattle.short_buffers.specs.declared.Call.TheVariants.{Sample, Spinel, Modbus}

-- how many bytes are still EE
unfoldable pub kept_of : List ℕ → ℕ
kept_of [] = 0
kept_of (b ∷ bs) = cond (eqb b 0xEE) 1 0 + kept_of bs

-- the same call as it is defined
unfoldable pub act_of : Call → Act
act_of (Sample bits) = sample bits
act_of (Spinel f) = spinel f.now
act_of (Modbus f) = modbus f.now

-- the same call with 0, 1, 255 and 256 bytes, and a read before and after the last
abbrev pub tried : Act → Act → List CallOf
tried a read = call 0 a ∷ call 1 a ∷ call 255 a ∷ call 256 read ∷ call 256 a ∷ call 256 read ∷ []

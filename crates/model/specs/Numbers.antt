-- The numbers of the refusals, and the one that a result tells.
use Rattle.std.specs.Prelude.{ℕ, Result, Ok, Err, Option, Some, None}
use Rattle.model.specs.declared.Refusal.{Refusal}
use Rattle.model.specs.declared.Refusal.TheVariants.{ShortBuffer, FrameLength, Shape, Checksum, Address, Broadcast, Unlisted, DataLength, Range, Permission, Value, Held, Repeated, Clash}

abbrev pub number_of : Refusal → ℕ
number_of ShortBuffer = 1
number_of FrameLength = 2
number_of Shape = 3
number_of Checksum = 4
number_of Address = 5
number_of Broadcast = 6
number_of Unlisted = 7
number_of DataLength = 8
number_of Range = 9
number_of Permission = 10
number_of Value = 11
number_of Held = 12
number_of Repeated = 13
number_of Clash = 14

-- what refuses, or 0: in a result, and where nothing else is told
abbrev pub refused_by : {A : Type 0} → Result A Refusal → ℕ
refused_by (Ok x) = 0
refused_by (Err r) = number_of r

abbrev pub refusal_in : Option Refusal → ℕ
refusal_in None = 0
refusal_in (Some r) = number_of r

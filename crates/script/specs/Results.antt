-- What the code returns of a line, as a record.
use Rattle.std.specs.Prelude.{ℕ, pos, Result, Ok, Err}
use Rattle.script.specs.Parsed.{Parsed}
use Rattle.script.specs.Lines.{of_kind, wrong, good_samples, good_tenths}
use Rattle.lists.specs.declared.Bounded.{Bounded}
use Rattle.script.specs.declared.Line.{Line}
use Rattle.script.specs.declared.Line.TheVariants.{Empty, Samples, Toggles, Temperature, Fault, Spinel, Modbus, Text}
use Rattle.script.specs.declared.Reason.{Reason}
use Rattle.script.specs.declared.Reason.TheVariants.{UnknownWord, BadHex, BadNumber, TooManyWords, FrameTooLong, MissingWord}

abbrev pub Frame : Type 0
Frame = Bounded ℕ 300

abbrev pub number_of : Reason → ℕ
number_of UnknownWord = 1
number_of BadHex = 2
number_of BadNumber = 3
number_of TooManyWords = 4
number_of FrameTooLong = 5
number_of MissingWord = 6

-- a line of a kind with the bytes of a frame
abbrev pub with_frame : ℕ → Frame → Parsed
with_frame k f = record { kind = k; reason = 0; bits = 0; second = 0; times = 0; tenths = pos 0; frame = f.items; len = f.len }

abbrev pub line_parsed : Line → Parsed
line_parsed Empty = of_kind 0
line_parsed (Samples bits times) = good_samples 1 bits 0 times
line_parsed (Toggles first second times) = good_samples 7 first second times
line_parsed (Temperature t) = good_tenths t
line_parsed Fault = of_kind 3
line_parsed (Spinel f) = with_frame 4 f
line_parsed (Modbus f) = with_frame 5 f
line_parsed (Text f) = with_frame 8 f

abbrev pub parsed_of : Result Line Reason → Parsed
parsed_of (Ok l) = line_parsed l
parsed_of (Err r) = wrong (number_of r)

abbrev pub frame_parsed : ℕ → Result Frame Reason → Parsed
frame_parsed k (Ok f) = with_frame k f
frame_parsed k (Err r) = wrong (number_of r)

-- A sample's outcome as the definitions have it.
use Rattle.std.specs.Prelude.{ℕ, List, [], Option, Some, None}
use Rattle.model.specs.Refusals.{Out}
use Rattle.sampling.specs.declared.AfterSample.{AfterSample}
use Rattle.sampling.specs.declared.NoticeFrame.{NoticeFrame}
use Rattle.sampling.specs.declared.NoticeFrame.TheVariants.{Binary, Text}

-- the bytes of a notice's frame
abbrev pub frame_bytes : NoticeFrame → List ℕ
frame_bytes (Binary frame) = frame
frame_bytes (Text frame) = frame

-- none where there is no notice
abbrev pub bytes_of : Option NoticeFrame → List ℕ
bytes_of (Some frame) = frame_bytes frame
bytes_of None = []

-- a sample with room for a notice is not refused
abbrev pub out_of : AfterSample → Out
out_of s = record { refusal = 0; after = s.after; reply = bytes_of s.notice }

-- The framing of any reply data: its first bytes, as many as a reply has room for.
use Rattle.std.specs.Prelude.{ℕ, take}
use Rattle.lists.specs.Data.{Data, data_of, bytes_in}
use Rattle.model.specs.Frames.{spinel_reply, modbus_reply}

-- 256 bytes less the 9 that frame them
unfoldable pub spinel_replied : ℕ → ℕ → ℕ → Data → Data
spinel_replied address signature ack d = data_of (spinel_reply address signature ack (take 247 (bytes_in d)))

-- 256 bytes less 4
unfoldable pub modbus_replied : ℕ → ℕ → Data → Data
modbus_replied address function body = data_of (modbus_reply address function (take 252 (bytes_in body)))

-- Modes as bytes.
use Rattle.std.specs.Prelude.{ℕ, ◌%◌, List}
use Rattle.lists.specs.declared.Entry.{Entry}
use Rattle.lists.specs.Entries.{entry}
use Rattle.model.specs.Counters.{set_mode}

-- a mode set by the low byte of the value: a mode is a byte
unfoldable pub set_mode_byte : List ℕ → Entry → List ℕ
set_mode_byte ms e = set_mode ms (entry e.number (e.value % 256))

-- What the module is called with.
use Rattle.std.specs.Prelude.{ℕ, Bool, List, ℤ}

pub data Act : Type 0 where
  -- the sixteen inputs once each millisecond, as a number: its bit 0 is input 1
  sample : ℕ → Act
  -- the thermometer: whether the value can be trusted, and the value in tenths of a degree
  temperature : Bool → ℤ → Act
  -- a frame's bytes; on the Spinel port, of either format
  spinel : List ℕ → Act
  modbus : List ℕ → Act

-- what is done, and the length of the lent reply buffer
pub record Call : Type 0 where
  pub room : ℕ
  pub act : Act

abbrev pub call : ℕ → Act → Call
call room act = record { room = room; act = act }

-- What a line comes to, in one record: its kind, why it is wrong, and what its words say.
use Rattle.std.specs.Prelude.{ℕ, ℤ, List}

pub record Parsed : Type 0 where
  pub kind : ℕ
  pub reason : ℕ
  pub bits : ℕ
  pub second : ℕ
  pub times : ℕ
  pub tenths : ℤ
  pub frame : List ℕ
  pub len : ℕ

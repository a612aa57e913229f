-- The answer to a request that only reads: the number that refuses it or 0, and the reply's data.
use Rattle.std.specs.Prelude.{ℕ, [], Result, Ok, Err}
use Rattle.lists.specs.Data.{Data}
use Rattle.lists.specs.Data.{data_of}
use Rattle.model.specs.declared.Refusal.{Refusal}
use Rattle.model.specs.Numbers.{number_of}
use Rattle.model.specs.Refusals.{Request, judged}

pub record Told : Type 0 where
  pub refusal : ℕ
  pub reply : Data

abbrev pub told_of : Request (Unit {0}) → Told
told_of q = record { refusal = (judged tt q).refusal; reply = data_of (judged tt q).reply }

-- what the code's result tells
abbrev pub told : Result Data Refusal → Told
told (Ok d) = record { refusal = 0; reply = d }
told (Err r) = record { refusal = number_of r; reply = data_of [] }

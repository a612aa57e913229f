-- Answers about the whole state, as the code gives them, in the definitions' words: the number, the state after, the data.
use Rattle.std.specs.Prelude.{ℕ, zero, suc, [], Result, Ok, Err}
use Rattle.lists.specs.Data.{data_of}
use Rattle.lists.specs.Data.{Data}
use Rattle.encoding.specs.Answers.{Told}
use Rattle.model.specs.declared.Module.{Module}
use Rattle.model.specs.declared.Refusal.{Refusal}
use Rattle.model.specs.Numbers.{number_of, refusal_in}
use Rattle.model.specs.Refusals.{Done, Out}
use Rattle.outcomes.specs.declared.Served.{Served}
use Rattle.outcomes.specs.declared.Handled.{Handled}

-- what a request comes to: the number that refuses it or 0
pub record Outcome : Type 0 where
  pub refusal : ℕ
  pub after : Module
  pub body : Data

abbrev pub served_of : Done Module → Outcome
served_of o = record { refusal = o.refusal; after = o.part; body = data_of o.reply }

-- the code's result for a request on this module: refused, it stays as it was, and there are no data
abbrev pub outcome : Module → Result Served Refusal → Outcome
outcome m (Ok s) = record { refusal = 0; after = s.after; body = s.body }
outcome m (Err r) = record { refusal = number_of r; after = m; body = data_of [] }

-- an answer by the number that refuses a request: then the module stays; 0, this is the module after, with these data
abbrev pub settled : ℕ → Module → Module → Data → Outcome
settled zero m after body = record { refusal = 0; after = after; body = body }
settled (suc n) m after body = record { refusal = suc n; after = m; body = data_of [] }

-- an answer that only reads
abbrev pub told_about : Module → Told → Outcome
told_about m t = record { refusal = t.refusal; after = m; body = t.reply }

-- what a frame or a sample comes to
pub record Handling : Type 0 where
  pub refusal : ℕ
  pub after : Module
  pub reply : Data

abbrev pub handled_of : Out → Handling
handled_of o = record { refusal = o.refusal; after = o.after; reply = data_of o.reply }

abbrev pub handling : Handled → Handling
handling h = record { refusal = refusal_in h.refusal; after = h.after; reply = h.reply }

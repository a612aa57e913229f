-- What a request is answered by, as the definitions have it: of its data, as many bytes as a reply has room for; and an answer
-- that goes to nobody.
use Rattle.std.specs.Prelude.{ℕ, Bool, cond, take, []}
use Rattle.lists.specs.Data.{Data, data_of, bytes_in}
use Rattle.encoding.specs.Answers.{Told}
use Rattle.model.specs.declared.Module.{Module}
use Rattle.model.specs.Refusals.{Done}
use Rattle.outcomes.specs.Parts.{Outcome, Handling}

abbrev pub done_of : ℕ → Module → Told → Done Module
done_of room m t = record { refusal = t.refusal; part = m; reply = take room (bytes_in t.reply) }

-- this reply, or nothing where the request went to all modules
abbrev pub unless_all : Bool → Outcome → Data → Handling
unless_all all x reply = record { refusal = x.refusal; after = x.after; reply = cond all (data_of []) reply }

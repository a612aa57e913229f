-- The answer of 30H and 31H, as the code gives it.
use Rattle.std.specs.Prelude.{ℕ, List}
use Rattle.lists.specs.Numbers.{bytes}
use Rattle.model.specs.Refusals.{refuse, telling}
use Rattle.model.specs.Counters.{some_data}
use Rattle.encoding.specs.Answers.{Told, told_of}

-- of states that are already a number: `read_states` of any states of that number
unfoldable pub states_told : List ℕ → ℕ → Told
states_told d bits = told_of (refuse 8 (some_data d) (telling (bytes 2 bits)))

-- An output switched, with or without a pulse.
use Rattle.std.specs.Prelude.{ℕ, ◌-◌, List, set}
use Rattle.lists.specs.declared.Entry.{Entry}
use Rattle.model.specs.declared.Output.{Output}
use Rattle.model.specs.State.{output}
use Rattle.model.specs.Outputs.{turns_on}

-- on or off by the entry's value, with so many samples of a pulse to go: a set has none
unfoldable pub switch_one : ℕ → List Output → Entry → List Output
switch_one samples os e = set os (e.number - 1) (output (turns_on e) samples)

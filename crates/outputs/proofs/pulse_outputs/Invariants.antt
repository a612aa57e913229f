-- `outputs::pulse_outputs` meets its contract. The loop's invariant: the outputs so far have pulsed. Assumes nothing.
use mathlib.Core.Path.{◌≡◌}
use Rattle.lists.specs.Mapi.{done}
use Rattle.model.specs.Outputs.{pulsed}
use Rattle.outputs.proofs.pulse_outputs.Given as goal

abbrev pub invariant-loop-o : goal.invariant-loop-o
invariant-loop-o l = l.o-items ≡ done (λ k o. pulsed o) l.o-index l.fn.a

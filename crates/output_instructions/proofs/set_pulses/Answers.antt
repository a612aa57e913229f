-- `output_instructions::set_pulses` meets its contract: without a time there are no set bytes, and after it stand all the rest. Assumes nothing.
use Rattle.std.proofs.Common.{◌≡◌, refl, ℕ, List, [], ◌∷◌, length, arith}
use Rattle.lists.specs.Tests.{within}
use Rattle.model.specs.Refusals.{judged}
use Rattle.model.specs.Counters.{items_of}
use Rattle.model.specs.Outputs.{set_pulses, pulse_outputs, act_on}
use Rattle.output_instructions.proofs.set_pulses.Goals as goal

empty : (d : List ℕ) → length d ≡ 0 → d ≡ []
empty [] h = refl
empty (b ∷ d) h = absurd (omega arith)

pub returns-in_default : goal.returns-in_default
unfolding judged set_pulses pulse_outputs act_on items_of within
returns-in_default c = rw (empty c.args.d.now c.in_default.ensures.cases)

pub returns : goal.returns
unfolding set_pulses
returns c = rw (c.pulse_listed.ensures, c.in-Some.ensures.cases.0)

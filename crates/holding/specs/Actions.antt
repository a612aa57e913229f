-- SS of a thermostat's flags, as the code names its four values.
use Rattle.std.specs.Prelude.{ℕ}
use Rattle.holding.specs.declared.Action.{Action}
use Rattle.holding.specs.declared.Action.TheVariants.{On, Off, OnPulse, OffPulse}

-- the two bits that stand for an action
abbrev pub bits_of : Action → ℕ
bits_of On = 0
bits_of Off = 1
bits_of OnPulse = 2
bits_of OffPulse = 3

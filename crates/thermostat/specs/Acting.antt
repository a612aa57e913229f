-- What a thermostat does with any reading.
use Rattle.model.specs.declared.Output.{Output}
use Rattle.model.specs.declared.Thermostat.{Thermostat}
use Rattle.model.specs.declared.Reading.{Reading}
use Rattle.model.specs.declared.Reading.TheVariants.{Valid, Fault}
use Rattle.model.specs.Temperature.{heated, failed}

-- a valid reading heats, a fault applies ERR
abbrev pub acting : Reading → Reading → Thermostat → Output → Output
acting last (Valid t x) = heated last t
acting last Fault = failed

-- What a temperature sample changes, of the parts that it reads.
use Rattle.std.specs.Prelude.{List}
use Rattle.model.specs.declared.Output.{Output}
use Rattle.model.specs.declared.Thermostat.{Thermostat}
use Rattle.model.specs.declared.Reading.{Reading}
use Rattle.model.specs.declared.Reading.TheVariants.{Valid, Fault}
use Rattle.model.specs.Temperature.{heated, failed, by_thermostat}
use Rattle.heating.specs.declared.Taken.{Taken}

-- the outputs, the reading and the last valid reading after it
unfoldable pub taken_parts : List Output → List Thermostat → Reading → Reading → Taken
taken_parts os hs last (Valid t x) = record { outputs = by_thermostat (heated last t) hs os; reading = Valid t x; last = Valid t x }
taken_parts os hs last Fault = record { outputs = by_thermostat failed hs os; reading = Fault; last = last }

-- The parts, put into the module, are the module after the reading. Assumes nothing.
use mathlib.Core.Path.{◌≡◌, refl}
use Rattle.model.specs.declared.Module.{Module}
use Rattle.model.specs.declared.Reading.{Reading}
use Rattle.model.specs.declared.Reading.TheVariants.{Valid, Fault}
use Rattle.model.specs.State.{with_reading}
use Rattle.model.specs.Temperature.{taken}
use Rattle.heating.specs.Parts.{taken_parts}

pub taken_parts_lem : (r : Reading) (m : Module) →
    let t = taken_parts m.outputs m.settings.thermostats m.last r in with_reading m t.outputs t.reading t.last ≡ taken r m
unfolding taken_parts taken
taken_parts_lem (Valid t x) m = refl
taken_parts_lem Fault m = refl

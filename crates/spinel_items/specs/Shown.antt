-- What is shown of a thermostat.
use Rattle.std.specs.Prelude.{ℕ, List, [], ◌∷◌, ◌++◌}
use Rattle.lists.specs.Numbers.{bytes}
use Rattle.model.specs.declared.Thermostat.{Thermostat}
use Rattle.model.specs.Temperature.{pattern_of}

-- a thermostat as a group shows it
abbrev pub settings_shown : ℕ → Thermostat → List ℕ
settings_shown n h = n ∷ h.flags ∷ bytes 2 (pattern_of h.tempx) ++ bytes 2 (pattern_of h.tempy) ++ h.time.0 ∷ h.err ∷ []

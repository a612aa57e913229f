-- Each `with..` puts its part in place and leaves every other one, by computation. Assumes nothing.
use Prim.Native.Nat.{ℕ}
use mathlib.Core.Path.{◌≡◌, refl}
use mathlib.Core.Bool.{Bool}
use mathlib.Core.List.{List}
use Rattle.model.specs.declared.Line.{Line}
use Rattle.model.specs.declared.Inputs.{Inputs}
use Rattle.model.specs.declared.Settings.{Settings}
use Rattle.model.specs.declared.Output.{Output}
use Rattle.model.specs.declared.Preset.{Preset}
use Rattle.model.specs.declared.Link.{Link}
use Rattle.model.specs.declared.Thermostat.{Thermostat}
use Rattle.model.specs.declared.Reading.{Reading}
use Rattle.model.specs.declared.Notice.{Notice}
use Rattle.model.specs.declared.Port.{Port}
use Rattle.model.specs.declared.Module.{Module}
use Rattle.model.specs.State.{with_inputs, with_outputs, with_settings, with_reading, with_spinel, with_modbus, with_counters, with_modes, with_sampling, with_presets, with_links, with_thermostats, with_notice, with_sum_tested, permit}

-- the parts in their order

abbrev inputs_of : List Line → List ℕ → Inputs
inputs_of l c = record { lines = l; counters = c }

abbrev settings_of : List ℕ → ℕ → List Preset → List Link → List Thermostat → Notice → Bool → Settings
settings_of a k p j h n e = record { modes = a; sampling = k; presets = p; links = j; thermostats = h; notice = n; sum_tested = e }

abbrev whole : Inputs → List Output → Settings → Reading → Reading → Port → Port → Module
whole i o t r l s b = record { inputs = i; outputs = o; settings = t; reading = r; last = l; spinel = s; modbus = b }

abbrev port_of : ℕ → ℕ → Bool → Port
port_of a s g = record { address = a; speed = s; permitted = g }

-- of the module with these parts
pub record OfModule (i : Inputs) (o : List Output) (t : Settings) (r l : Reading) (s b : Port) : Type 0 where
  pub inputs : (x : Inputs) → with_inputs (whole i o t r l s b) x ≡ whole x o t r l s b
  pub outputs : (x : List Output) → with_outputs (whole i o t r l s b) x ≡ whole i x t r l s b
  pub settings : (x : Settings) → with_settings (whole i o t r l s b) x ≡ whole i o x r l s b
  pub reading : (x : List Output) (y z : Reading) → with_reading (whole i o t r l s b) x y z ≡ whole i x t y z s b
  pub spinel : (x : Port) → with_spinel (whole i o t r l s b) x ≡ whole i o t r l x b
  pub modbus : (x : Port) → with_modbus (whole i o t r l s b) x ≡ whole i o t r l s x

-- of the inputs and settings with these parts, whatever else the module has
pub record OfParts (v : List Line) (c : List ℕ) (a : List ℕ) (k : ℕ) (p : List Preset) (j : List Link) (h : List Thermostat) (n : Notice) (e : Bool) (o : List Output) (r l : Reading) (s b : Port) : Type 0 where
  pub counters : (x : List ℕ) → with_counters (whole (inputs_of v c) o (settings_of a k p j h n e) r l s b) x ≡ whole (inputs_of v x) o (settings_of a k p j h n e) r l s b
  pub modes : (x : List ℕ) → with_modes (whole (inputs_of v c) o (settings_of a k p j h n e) r l s b) x ≡ whole (inputs_of v c) o (settings_of x k p j h n e) r l s b
  pub sampling : (x : ℕ) → with_sampling (whole (inputs_of v c) o (settings_of a k p j h n e) r l s b) x ≡ whole (inputs_of v c) o (settings_of a x p j h n e) r l s b
  pub presets : (x : List Preset) → with_presets (whole (inputs_of v c) o (settings_of a k p j h n e) r l s b) x ≡ whole (inputs_of v c) o (settings_of a k x j h n e) r l s b
  pub links : (x : List Link) → with_links (whole (inputs_of v c) o (settings_of a k p j h n e) r l s b) x ≡ whole (inputs_of v c) o (settings_of a k p x h n e) r l s b
  pub thermostats : (x : List Thermostat) → with_thermostats (whole (inputs_of v c) o (settings_of a k p j h n e) r l s b) x ≡ whole (inputs_of v c) o (settings_of a k p j x n e) r l s b
  pub notice : (x : Notice) → with_notice (whole (inputs_of v c) o (settings_of a k p j h n e) r l s b) x ≡ whole (inputs_of v c) o (settings_of a k p j h x e) r l s b
  pub sum_tested : (x : Bool) → with_sum_tested (whole (inputs_of v c) o (settings_of a k p j h n e) r l s b) x ≡ whole (inputs_of v c) o (settings_of a k p j h n x) r l s b

pub puts_module : (i : Inputs) (o : List Output) (t : Settings) (r l : Reading) (s b : Port) → OfModule i o t r l s b
puts_module i o t r l s b = record { inputs = λ _. refl; outputs = λ _. refl; settings = λ _. refl; reading = λ _ _ _. refl; spinel = λ _. refl; modbus = λ _. refl }

pub puts_parts : (v : List Line) (c a : List ℕ) (k : ℕ) (p : List Preset) (j : List Link) (h : List Thermostat) (n : Notice) (e : Bool) (o : List Output) (r l : Reading) (s b : Port) → OfParts v c a k p j h n e o r l s b
puts_parts v c a k p j h n e o r l s b = record { counters = λ _. refl; modes = λ _. refl; sampling = λ _. refl; presets = λ _. refl; links = λ _. refl; thermostats = λ _. refl; notice = λ _. refl; sum_tested = λ _. refl }

pub puts_permission : (a s : ℕ) (g x : Bool) → permit x (port_of a s g) ≡ port_of a s x
puts_permission a s g x = refl

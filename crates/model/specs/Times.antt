-- 01, Outputs and notice: a pulse's time and a thermostat's TIME have each a unit of its own, so that neither is taken for the other.
use Rattle.std.specs.Prelude.{ℕ, ◌*◌}
use Rattle.model.specs.declared.HalfSeconds.{HalfSeconds}
use Rattle.model.specs.declared.Seconds.{Seconds}

-- the samples that such a time lasts, one each millisecond
abbrev pub half_second_samples : HalfSeconds → ℕ
half_second_samples t = t.0 * 500

abbrev pub second_samples : Seconds → ℕ
second_samples t = t.0 * 1000

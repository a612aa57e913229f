-- 02, E8: what is claimed of links.
use Rattle.std.specs.Prelude.{ℕ, ◌-◌, ◌≡◌, Bool, true, false, not, ◌&&◌, ◌||◌, List, eqb, leb, get_or}
use Rattle.model.specs.declared.Line.{Line}
use Rattle.model.specs.declared.Output.{Output}
use Rattle.model.specs.declared.Link.{Link}
use Rattle.model.specs.declared.Thermostat.{Thermostat}
use Rattle.model.specs.declared.Module.{Module}
use Rattle.model.specs.State.{fresh_line, fresh_output, fresh_link, fresh_thermostat, fresh_module, with_outputs, with_links}
use Rattle.model.specs.Samples.{is_edge, lines_sampled}
use Rattle.model.specs.Outputs.{pulsed}
use Rattle.model.specs.Refusals.{Out}
use Rattle.model.specs.Call.{Call, call, sample}
use Rattle.model.specs.Calls.{sampled, step, run}
use Rattle.model.specs.Parts.{without_outputs, without_links}

-- Outputs alone go by links ------------------------------------------------------------------

-- two calls of which only outputs and links may come out different
pub record SameBesides (o p : Out) : Type 0 where
  pub refusal : o.refusal ≡ p.refusal
  pub reply : o.reply ≡ p.reply
  pub after : without_outputs (without_links o.after) ≡ without_outputs (without_links p.after)

-- whatever links and outputs a module has, a sample makes the same of its lines and counters, leaves it the same modes and other settings,
-- readings and permissions, and gives the same notice
abbrev pub LinksAside : Type 0
LinksAside =
    (m : Module) (ls : List Link) (os : List Output) (room bits : ℕ)
    → SameBesides (step (with_outputs (with_links m ls) os) (call room (sample bits))) (step m (call room (sample bits)))

-- A link or an active thermostat -------------------------------------------------------------

-- output n's parts as a module holds them; 0 is taken for 1, and behind the last stand fresh ones
abbrev pub output_of : Module → ℕ → Output
output_of m n = get_or m.outputs (n - 1) fresh_output

abbrev pub link_of : Module → ℕ → Link
link_of m n = get_or m.settings.links (n - 1) fresh_link

abbrev pub thermostat_of : Module → ℕ → Thermostat
thermostat_of m n = get_or m.settings.thermostats (n - 1) fresh_thermostat

-- no output has both: an action other than 0, and flags whose top bit is 1
pub record NeverBoth (m : Module) : Type 0 where
  pub never : (n : ℕ) → (not (eqb (link_of m n).action 0) && leb 128 (thermostat_of m n).flags) ≡ false

-- so it is in a fresh module, and in whatever calls make of a module in which it is so
pub record LinksApart : Type 0 where
  pub fresh : NeverBoth fresh_module
  pub kept : (m : Module) → NeverBoth m → (calls : List Call) → NeverBoth (run m calls)

-- When a link acts ------------------------------------------------------------------------

-- by 1 and 2 at any edge, by 3 and 4 at one that rises
unfoldable pub acts : ℕ → Line → Line → Bool
acts action was now = is_edge was now && ((eqb action 1 || eqb action 2) || ((eqb action 3 || eqb action 4) && now.stable))

-- the link of output n, in a sample of these bits
abbrev pub link_acts : ℕ → Module → ℕ → Bool
link_acts bits m n =
    let l = link_of m n in
    acts l.action (get_or m.inputs.lines (l.input - 1) fresh_line) (get_or (lines_sampled m.settings.sampling bits m.inputs.lines) (l.input - 1) fresh_line)

-- one that does not act leaves the output to its pulse; after one that acts no pulse is left
pub record OutputSampled (bits : ℕ) (m : Module) (n : ℕ) : Type 0 where
  pub idle : link_acts bits m n ≡ false → output_of (sampled bits m).after n ≡ pulsed (output_of m n)
  pub ended : link_acts bits m n ≡ true → (output_of (sampled bits m).after n).left ≡ 0

abbrev pub PulsesEndByLinks : Type 0
PulsesEndByLinks = (bits : ℕ) (m : Module) (n : ℕ) → OutputSampled bits m n

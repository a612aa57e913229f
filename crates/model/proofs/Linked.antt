-- E8: outputs alone go by links, no output has a link and an active thermostat, and what a link does to a pulse. Assumes nothing.
use Prim.Native.Nat.{ℕ, suc, ◌-◌}
use native.Mathlib.Omega.{arith}
use mathlib.Core.Path.{◌≡◌, refl, sym, ◌∙◌}
use mathlib.Core.Bool.{Bool, true, false, cond, not, ◌&&◌, ◌||◌, true≢false}
use mathlib.Core.List.{List, [], ◌∷◌, map}
use Rattle.std.specs.Prelude.{Option, Some, None}
use lib.Dec.{eqb}
use lib.ListN.{get_or, get_or-map}
use Rattle.lists.specs.Tests.{within}
use Rattle.lists.specs.Chunks.{chunks}
use Rattle.lists.proofs.Choices.{cond_case, cond_eq}
use Rattle.lists.proofs.Stores.{NonePasses, put_one, put_all, get_or-replicate_same, get_or-mapi_either, get_or-mapi_idle, map-mapi_swap}
use Rattle.model.specs.declared.Line.{Line}
use Rattle.model.specs.declared.Output.{Output}
use Rattle.model.specs.declared.Link.{Link}
use Rattle.model.specs.declared.Thermostat.{Thermostat}
use Rattle.model.specs.declared.Reading.{Reading}
use Rattle.model.specs.declared.Reading.TheVariants.{Valid, Fault}
use Rattle.model.specs.declared.Module.{Module}
use Rattle.model.specs.declared.TextCode.{TextCode}
use Rattle.model.specs.declared.TextCode.TheVariants.{ReadInput, ReadOutput, SetOutput, PulseOutput, ReadTemperature, SetNotice, ReadNotice, GivePermission, SetAddress, SetSpeed}
use Rattle.model.specs.State.{output, fresh_line, fresh_output, fresh_link, fresh_thermostat, fresh_module, with_outputs, with_links}
use Rattle.model.specs.Samples.{is_edge, lines_sampled, inputs_sampled}
use Rattle.model.specs.Frames.{function_of, modbus_body}
use Rattle.model.specs.Refusals.{Request, Out, silent, buffer_short}
use Rattle.model.specs.Wire.{Wire, used_up, frame_answered, frame_call}
use Rattle.model.specs.Counters.{list_read, set_sampling, read_sampling, reset, set_port, read_port, reset_module, give_permission}
use Rattle.model.specs.Temperature.{clash, reading_of, taken, group_thermostat, group_clashes, set_group, set_thermostats, read_temperature, read_thermostats}
use Rattle.model.specs.Outputs.{pulsed, read_states}
use Rattle.model.specs.Links.{group_link, link_clashes, set_link, set_links, driven, linked, outputs_linked}
use Rattle.model.specs.Notice.{read_notice}
use Rattle.model.specs.Registers.{place_of, words_thermostat, read_words, read_bits, write_permission, write_port, write_thermostat}
use Rattle.model.specs.SumTest.{read_sum_test}
use Rattle.model.specs.Spinel.{SpinelRequest, spinel_asked, spinel_request, spinel_wire}
use Rattle.model.specs.Text.{is_text, characters, typed, read_state, read_thermometer, tell_notice, configure, TextRequest, asked_by, asked_if, text_request, text_wire}
use Rattle.model.specs.Modbus.{start_of, registers_written, coil_written, register_written, coils_written, several_written, modbus_asked, modbus_wire}
use Rattle.model.specs.Call.{Act, Call, sample, temperature, spinel, modbus}
use Rattle.model.specs.Calls.{sampled, sample_call, temperature_call, modbus_call, acted, step, run}
use Rattle.model.specs.Linked.{SameBesides, LinksAside, NeverBoth, LinksApart, output_of, link_of, acts, link_acts, PulsesEndByLinks}
use Rattle.model.proofs.Judged.{Passes, order, passes_without, frame_either}

-- Outputs alone go by links ------------------------------------------------------------------

pub links_aside : LinksAside
unfolding step sample_call sampled inputs_sampled
links_aside m ls os room bits = go (buffer_short room)
  where
    n : Module
    n = with_outputs (with_links m ls) os

    go : (b : Bool) → SameBesides (cond b (silent 1 n) (sampled bits n)) (cond b (silent 1 m) (sampled bits m))
    go true = record { refusal = refl; reply = refl; after = refl }
    go false = record { refusal = refl; reply = refl; after = refl }

-- A link or an active thermostat -------------------------------------------------------------

-- the same by places, of the two lists
abbrev Apart : List Link → List Thermostat → Type 0
Apart ls hs = NonePasses (λ i l. clash l (get_or hs i fresh_thermostat)) fresh_link ls

by_thermostats : (ls : List Link) (hs : List Thermostat) → Apart ls hs → NonePasses (λ i h. clash (get_or ls i fresh_link) h) fresh_thermostat hs
by_thermostats ls hs h = record { at = h.at }

by_links : (ls : List Link) (hs : List Thermostat) → NonePasses (λ i h. clash (get_or ls i fresh_link) h) fresh_thermostat hs → Apart ls hs
by_links ls hs h = record { at = h.at }

-- links that clash with no thermostat, and thermostats that clash with no link
links_put : (ls : List Link) (hs : List Thermostat) (d : List ℕ) → Apart ls hs → Passes (set_links hs d ls) → Apart (set_links hs d ls).after hs
unfolding order set_links set_link link_clashes
links_put ls hs d h p = put_all _ fresh_link (λ c. get_or c 1 0 - 1) group_link (chunks 3 d) ls h (p.at 14 refl)

thermostats_put : (ls : List Link) (hs : List Thermostat) (d : List ℕ) → Apart ls hs → Passes (set_thermostats ls d hs) → Apart ls (set_thermostats ls d hs).after
unfolding order set_thermostats set_group group_clashes
thermostats_put ls hs d h p =
    by_links ls _ (put_all _ fresh_thermostat (λ c. get_or c 0 0 - 1) group_thermostat (chunks 8 d) hs (by_thermostats ls hs h) (p.at 14 refl))

-- registers 600 up
written_put : (ls : List Link) (hs : List Thermostat) (r : ℕ) (vs : List ℕ) → Apart ls hs → Passes (write_thermostat ls r vs hs) → Apart ls (write_thermostat ls r vs hs).after
unfolding order write_thermostat
written_put ls hs r vs h p =
    by_links ls _ (put_one _ fresh_thermostat place_of (λ _. words_thermostat vs) hs r (by_thermostats ls hs h) (p.at 14 refl))

-- of a state
abbrev ApartIn : Module → Type 0
ApartIn m = Apart m.settings.links m.settings.thermostats

-- an accepted request leaves them apart
record Parting (q : Request Module) : Type 0 where
  kept : Passes q → ApartIn q.after

module _ (m : Module) (h : ApartIn m) where
  -- Spinel
  by_instruction : (q : SpinelRequest) → Parting (spinel_asked q (used_up spinel_wire m))
  unfolding spinel_asked read_notice read_thermostats read_states list_read read_temperature read_sampling read_port read_sum_test set_port reset_module reset set_sampling give_permission
  by_instruction q =
      cond_eq Parting i 0x10 _ _ (λ _. record { kept = λ _. h })
      (cond_eq Parting i 0x11 _ _ (λ _. record { kept = λ _. h })
      (cond_eq Parting i 0x1A _ _ (λ _. record { kept = λ p. thermostats_put m.settings.links m.settings.thermostats q.content h (record { at = p.at }) })
      (cond_eq Parting i 0x1B _ _ (λ _. record { kept = λ _. h })
      (cond_eq Parting i 0x20 _ _ (λ _. record { kept = λ _. h })
      (cond_eq Parting i 0x23 _ _ (λ _. record { kept = λ _. h })
      (cond_eq Parting i 0x25 _ _ (λ _. record { kept = λ _. h })
      (cond_eq Parting i 0x26 _ _ (λ _. record { kept = λ _. h })
      (cond_eq Parting i 0x30 _ _ (λ _. record { kept = λ _. h })
      (cond_eq Parting i 0x31 _ _ (λ _. record { kept = λ _. h })
      (cond_eq Parting i 0x33 _ _ (λ _. record { kept = λ _. h })
      (cond_eq Parting i 0x36 _ _ (λ _. record { kept = λ _. h })
      (cond_eq Parting i 0x38 _ _ (λ _. record { kept = λ _. h })
      (cond_eq Parting i 0x40 _ _ (λ _. record { kept = λ p. links_put m.settings.links m.settings.thermostats q.content h (record { at = p.at }) })
      (cond_eq Parting i 0x41 _ _ (λ _. record { kept = λ _. h })
      (cond_eq Parting i 0x51 _ _ (λ _. record { kept = λ _. h })
      (cond_eq Parting i 0x60 _ _ (λ _. record { kept = λ _. h })
      (cond_eq Parting i 0x61 _ _ (λ _. record { kept = λ _. h })
      (cond_eq Parting i 0x62 _ _ (λ _. record { kept = λ _. h })
      (cond_eq Parting i 0x63 _ _ (λ _. record { kept = λ _. h })
      (cond_eq Parting i 0x6A _ _ (λ _. record { kept = λ _. h })
      (cond_eq Parting i 0x6B _ _ (λ _. record { kept = λ _. h })
      (cond_eq Parting i 0xE0 _ _ (λ _. record { kept = λ _. h })
      (cond_eq Parting i 0xE3 _ _ (λ _. record { kept = λ _. h })
      (cond_eq Parting i 0xE4 _ _ (λ _. record { kept = λ _. h })
      (cond_eq Parting i 0xEE _ _ (λ _. record { kept = λ _. h })
      (cond_eq Parting i 0xF0 _ _ (λ _. record { kept = λ _. h })
      (cond_eq Parting i 0xFE _ _ (λ _. record { kept = λ _. h })
      (record { kept = λ _. h }))))))))))))))))))))))))))))
    where
      i : ℕ
      i = q.instruction

  -- text
  by_code : (c : Option TextCode) (q : TextRequest) → ApartIn (asked_if c q (used_up text_wire m)).after
  unfolding asked_if asked_by read_state read_thermometer tell_notice give_permission configure reset
  by_code (Some ReadInput) q = h
  by_code (Some ReadOutput) q = h
  by_code (Some SetOutput) q = h
  by_code (Some PulseOutput) q = h
  by_code (Some ReadTemperature) q = h
  by_code (Some SetNotice) q = h
  by_code (Some ReadNotice) q = h
  by_code (Some GivePermission) q = h
  by_code (Some SetAddress) q = h
  by_code (Some SetSpeed) q = h
  by_code None q = h

  -- Modbus, a write of registers from r on
  by_register : (permitted single : Bool) (r : ℕ) (vs : List ℕ) → Parting (registers_written permitted single r vs (used_up modbus_wire m))
  unfolding registers_written write_permission write_port reset
  by_register permitted single r vs =
      cond_case Parting (within 0 0 r) _ _ (λ _. record { kept = λ _. h }) λ _.
      cond_case Parting (within 1 2 r) _ _ (λ _. record { kept = λ _. h }) λ _.
      cond_case Parting (within 100 115 r) _ _ (λ _. record { kept = λ _. h }) λ _.
      cond_case Parting (within 200 215 r) _ _ (λ _. record { kept = λ _. h }) λ _.
      cond_case Parting (within 300 315 r) _ _ (λ _. record { kept = λ _. h }) λ _.
      cond_case Parting (within 500 515 r) _ _ (λ _. record { kept = λ _. h }) λ _.
      cond_case Parting (within 600 663 r) _ _ (λ _. record { kept = λ p. written_put m.settings.links m.settings.thermostats r vs h (record { at = p.at }) }) λ _.
      record { kept = λ _. h }

  by_function : (permitted : Bool) (b : List ℕ) (fn : ℕ) → Parting (modbus_asked permitted fn b (used_up modbus_wire m))
  unfolding modbus_asked read_bits read_words coil_written register_written coils_written several_written
  by_function permitted b fn =
      cond_eq Parting fn 0x01 _ _ (λ _. record { kept = λ _. h })
      (cond_eq Parting fn 0x02 _ _ (λ _. record { kept = λ _. h })
      (cond_eq Parting fn 0x03 _ _ (λ _. record { kept = λ _. h })
      (cond_eq Parting fn 0x04 _ _ (λ _. record { kept = λ _. h })
      (cond_eq Parting fn 0x05 _ _ (λ _. record { kept = λ _. h })
      (cond_eq Parting fn 0x06 _ _ (λ _. record { kept = λ p. (by_register permitted true (start_of b) _).kept (passes_without 8 _ _ (record { at = p.at })) })
      (cond_eq Parting fn 0x0F _ _ (λ _. record { kept = λ _. h })
      (cond_eq Parting fn 0x10 _ _ (λ _. record { kept = λ p. (by_register permitted false (start_of b) _).kept (passes_without 8 _ _ (record { at = p.at })) })
      (record { kept = λ _. h }))))))))

  -- calls
  abbrev Kept : Out → Type 0
  Kept o = ApartIn o.after

  by_spinel : (f : List ℕ) (room : ℕ) → Kept (frame_call spinel_wire room f m)
  unfolding frame_answered
  by_spinel f = frame_either Kept spinel_wire f m (λ _. h) (λ _ _. h) (λ _. (by_instruction (spinel_request m.spinel.permitted f)).kept)

  by_text : (f : List ℕ) (room : ℕ) → Kept (frame_call text_wire room f m)
  unfolding frame_answered text_request
  by_text f = frame_either Kept text_wire f m (λ _. h) (λ _ _. h) (λ _ _. by_code (typed (characters f)).code (text_request m.spinel.permitted f))

  by_modbus : (f : List ℕ) (room : ℕ) → Kept (modbus_call room f m)
  unfolding frame_answered
  by_modbus f = frame_either Kept modbus_wire f m (λ _. h) (λ _ _. h) (λ _. (by_function m.modbus.permitted (modbus_body f) (function_of f)).kept)

  by_reading : (r : Reading) → ApartIn (taken r m)
  unfolding taken
  by_reading (Valid t x) = h
  by_reading Fault = h

  by_act : (room : ℕ) (a : Act) → Kept (acted room a m)
  unfolding sample_call sampled temperature_call
  by_act room (sample bits) = cond_case Kept (buffer_short room) (silent 1 m) (sampled bits m) (λ _. h) (λ _. h)
  by_act room (temperature good tenths) = by_reading (reading_of good tenths)
  by_act room (spinel f) = cond_case (λ (w : Wire). Kept (frame_call w room f m)) (is_text f) text_wire spinel_wire (λ _. by_text f room) (λ _. by_spinel f room)
  by_act room (modbus f) = by_modbus f room

-- after a list of calls
after_calls : (calls : List Call) (m : Module) → ApartIn m → ApartIn (run m calls)
unfolding run step
after_calls [] m h = h
after_calls (c ∷ cs) m h = after_calls cs (step m c).after (by_act m h c.room c.act)

places : (m : Module) → NeverBoth m → ApartIn m
places m h = record { at = λ i. let place : suc i - 1 ≡ i = omega arith in rw place at (h.never (suc i)) }

numbers : (m : Module) → ApartIn m → NeverBoth m
numbers m h = record { never = λ n. h.at (n - 1) }

pub links_apart : LinksApart
unfolding fresh_module
links_apart = record {
  fresh = record { never = λ n. rw (get_or-replicate_same 16 (n - 1) fresh_link) };
  kept = λ m h calls. numbers (run m calls) (after_calls calls m (places m h));
}

-- When a link acts ------------------------------------------------------------------------

-- by the tests of the action and the input's new state: what does not act leaves the output, what acts gives it no pulse
module _ (o : Output) (s : Bool) where
  abbrev chosen : Bool → Bool → Bool → Bool → Output
  chosen a b c d = cond a (output s 0) (cond b (output (not s) 0) (cond c (cond s (output true 0) o) (cond d (cond s (output false 0) o) o)))

  abbrev acting : Bool → Bool → Bool → Bool → Bool
  acting a b c d = (a || b) || ((c || d) && s)

record Driven (o : Output) (acting : Bool) (after : Output) : Type 0 where
  idle : acting ≡ false → after ≡ o
  ended : acting ≡ true → after.left ≡ 0

by_tests : (o : Output) (s a b c d : Bool) → Driven o (acting o s a b c d) (chosen o s a b c d)
by_tests o s true b c d = record { idle = λ e. absurd (true≢false e); ended = λ _. refl }
by_tests o s false true c d = record { idle = λ e. absurd (true≢false e); ended = λ _. refl }
by_tests o true false false true d = record { idle = λ e. absurd (true≢false e); ended = λ _. refl }
by_tests o false false false true d = record { idle = λ _. refl; ended = λ e. absurd (true≢false (sym e)) }
by_tests o true false false false true = record { idle = λ e. absurd (true≢false e); ended = λ _. refl }
by_tests o false false false false true = record { idle = λ _. refl; ended = λ e. absurd (true≢false (sym e)) }
by_tests o s false false false false = record { idle = λ _. refl; ended = λ e. absurd (true≢false (sym e)) }

-- a link, by the lines before and after
by_link : (was now : List Line) (l : Link) (o : Output)
    → Driven o (acts l.action (get_or was (l.input - 1) fresh_line) (get_or now (l.input - 1) fresh_line)) (linked was now l o)
unfolding linked driven acts
by_link was now l o = go (is_edge (get_or was (l.input - 1) fresh_line) (get_or now (l.input - 1) fresh_line))
  where
    s : Bool
    s = (get_or now (l.input - 1) fresh_line).stable

    a : ℕ → Bool
    a k = eqb l.action k

    go : (b : Bool) → Driven o (b && acting o s (a 1) (a 2) (a 3) (a 4)) (cond b (chosen o s (a 1) (a 2) (a 3) (a 4)) o)
    go true = by_tests o s (a 1) (a 2) (a 3) (a 4)
    go false = record { idle = λ _. refl; ended = λ e. absurd (true≢false (sym e)) }

pub pulses_end_by_links : PulsesEndByLinks
unfolding sampled inputs_sampled outputs_linked pulsed
pulses_end_by_links bits m n = record { idle = idle; ended = ended }
  where
    now : List Line
    now = lines_sampled m.settings.sampling bits m.inputs.lines

    f : ℕ → Output → Output
    f i o = linked m.inputs.lines now (get_or m.settings.links i fresh_link) o

    idle : link_acts bits m n ≡ false → output_of (sampled bits m).after n ≡ pulsed (output_of m n)
    idle e =
        get_or-mapi_idle f (map pulsed m.outputs) (n - 1) fresh_output (λ o. (by_link m.inputs.lines now (link_of m n) o).idle e)
        ∙ get_or-map pulsed m.outputs (n - 1) fresh_output

    -- an output that there is, and a fresh one behind the last
    ended : link_acts bits m n ≡ true → (output_of (sampled bits m).after n).left ≡ 0
    ended e =
        get_or-mapi_either (λ (o : Output). o.left ≡ 0) f (map pulsed m.outputs) (n - 1) fresh_output refl
        (λ o. (by_link m.inputs.lines now (link_of m n) o).ended e)

-- links before pulses would come to the same, since one that acts leaves no pulse to step
pub either_order : (ls : List Link) (was now : List Line) (os : List Output) → map pulsed (outputs_linked ls was now os) ≡ outputs_linked ls was now (map pulsed os)
unfolding outputs_linked linked driven pulsed
either_order ls was now os = map-mapi_swap pulsed (λ i o. linked was now (get_or ls i fresh_link) o) os (λ i o. one (get_or ls i fresh_link) o)
  where
    edge : Link → Bool
    edge l = is_edge (get_or was (l.input - 1) fresh_line) (get_or now (l.input - 1) fresh_line)

    tests : (o : Output) (b s a1 a2 a3 a4 : Bool) → pulsed (cond b (chosen o s a1 a2 a3 a4) o) ≡ cond b (chosen (pulsed o) s a1 a2 a3 a4) (pulsed o)
    tests o false s a b c d = refl
    tests o true s true b c d = refl
    tests o true s false true c d = refl
    tests o true true false false true d = refl
    tests o true false false false true d = refl
    tests o true true false false false true = refl
    tests o true false false false false true = refl
    tests o true s false false false false = refl

    one : (l : Link) (o : Output) → pulsed (linked was now l o) ≡ linked was now l (pulsed o)
    one l o = tests o (edge l) (get_or now (l.input - 1) fresh_line).stable (eqb l.action 1) (eqb l.action 2) (eqb l.action 3) (eqb l.action 4)

-- A binary Spinel frame: what its instruction asks for, and its wire.
use Rattle.std.specs.Prelude.{ℕ, Bool, cond, List, eqb}
use Rattle.model.specs.declared.Module.{Module}
use Rattle.model.specs.State.{with_outputs, with_spinel, with_counters, with_modes, with_sampling, with_presets, with_links, with_thermostats, with_notice, with_sum_tested}
use Rattle.model.specs.Samples.{input_states}
use Rattle.model.specs.Frames.{spinel_to, signature_of, instruction_of, spinel_data, universal, spinel_broadcast, spinel_reply}
use Rattle.model.specs.Refusals.{Request, not_listed, on_part, reading, ack_of, shape_wrong, sum_wrong, spinel_address_wrong, spinel_broadcast_wrong}
use Rattle.model.specs.Wire.{Wire}
use Rattle.model.specs.Counters.{list_read, read_counters, deduct_counters, set_modes_list, mode_shown, set_sampling, read_sampling, give_permission, set_port, read_port, reset_module}
use Rattle.model.specs.Outputs.{set_outputs, set_pulses, set_presets, start_presets, pulse_shown, preset_shown, mode_byte, output_states, read_states}
use Rattle.model.specs.Links.{set_links, link_shown}
use Rattle.model.specs.Notice.{set_notice, read_notice}
use Rattle.model.specs.SumTest.{set_sum_test, read_sum_test}
use Rattle.model.specs.Temperature.{read_temperature, set_thermostats, read_thermostats}

-- a request's words: was the port permitted, did it come to FE, its signature, instruction and data
pub record SpinelRequest : Type 0 where
  pub permitted : Bool
  pub to_universal : Bool
  pub signature : ℕ
  pub instruction : ℕ
  pub content : List ℕ

-- each instruction on the part that it may change
unfoldable pub spinel_asked : SpinelRequest → Module → Request Module
spinel_asked q m =
    let i = q.instruction in
    let d = q.content in
    let s = m.settings in
    cond (eqb i 0x10) (on_part (with_notice m) (set_notice q.signature d s.notice))
    (cond (eqb i 0x11) (reading m (read_notice d s.notice))
    (cond (eqb i 0x1A) (on_part (with_thermostats m) (set_thermostats s.links d s.thermostats))
    (cond (eqb i 0x1B) (reading m (read_thermostats d s.thermostats))
    (cond (eqb i 0x20) (on_part (with_outputs m) (set_outputs m.reading s.thermostats d m.outputs))
    (cond (eqb i 0x23) (on_part (with_outputs m) (set_pulses m.reading s.thermostats d m.outputs))
    (cond (eqb i 0x25) (on_part (with_outputs m) (start_presets s.presets m.reading s.thermostats d m.outputs))
    (cond (eqb i 0x26) (on_part (with_presets m) (set_presets d s.presets))
    (cond (eqb i 0x30) (reading m (read_states d (output_states m.outputs)))
    (cond (eqb i 0x31) (reading m (read_states d (input_states m.inputs)))
    (cond (eqb i 0x33) (reading m (list_read (pulse_shown m.outputs) d))
    (cond (eqb i 0x36) (reading m (list_read (preset_shown s.presets) d))
    (cond (eqb i 0x38) (reading m (list_read (mode_byte s.thermostats s.presets) d))
    (cond (eqb i 0x40) (on_part (with_links m) (set_links s.thermostats d s.links))
    (cond (eqb i 0x41) (reading m (list_read (link_shown s.links) d))
    (cond (eqb i 0x51) (reading m (read_temperature d m.reading))
    (cond (eqb i 0x60) (on_part (with_counters m) (read_counters d m.inputs.counters))
    (cond (eqb i 0x61) (on_part (with_counters m) (deduct_counters d m.inputs.counters))
    (cond (eqb i 0x62) (on_part (with_sampling m) (set_sampling d))
    (cond (eqb i 0x63) (reading m (read_sampling d s.sampling))
    (cond (eqb i 0x6A) (on_part (with_modes m) (set_modes_list d s.modes))
    (cond (eqb i 0x6B) (reading m (list_read (mode_shown s.modes) d))
    (cond (eqb i 0xE0) (set_port q.permitted q.to_universal d m)
    (cond (eqb i 0xE3) (reset_module d m)
    (cond (eqb i 0xE4) (on_part (with_spinel m) (give_permission q.to_universal d m.spinel))
    (cond (eqb i 0xEE) (on_part (with_sum_tested m) (set_sum_test q.permitted d))
    (cond (eqb i 0xF0) (reading m (read_port d m.spinel))
    (cond (eqb i 0xFE) (reading m (read_sum_test d s.sum_tested))
    (not_listed m))))))))))))))))))))))))))))

unfoldable pub spinel_request : Bool → List ℕ → SpinelRequest
spinel_request permitted f = record { permitted = permitted; to_universal = eqb (spinel_to f) universal; signature = signature_of f; instruction = instruction_of f; content = spinel_data f }

-- an ACK tells whether the request was refused
abbrev pub spinel_wire : Wire
spinel_wire = record {
  port = λ m. m.spinel;
  with_port = with_spinel;
  least = 9;
  most = 256;
  shape_wrong = shape_wrong;
  check_wrong = sum_wrong;
  check_tested = λ m. m.settings.sum_tested;
  addressee = λ f. spinel_to f;
  address_wrong = spinel_address_wrong;
  broadcast_wrong = λ f. spinel_broadcast_wrong (spinel_to f) (instruction_of f);
  broadcast = spinel_broadcast;
  asked = λ permitted f m. spinel_asked (spinel_request permitted f) m;
  replied = λ own f o. spinel_reply own (signature_of f) (ack_of o.refusal) o.reply;
}

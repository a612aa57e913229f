-- A Modbus frame: what its function asks for, the groups of registers, and its wire.
use Rattle.std.specs.Prelude.{ℕ, zero, suc, ◌+◌, ◌*◌, ◌/◌, ◌%◌, ◌^◌, Bool, true, false, cond, not, ◌&&◌, ◌||◌, List, [], ◌∷◌, map, length, get_or, take, drop, eqb}
use Rattle.lists.specs.Tests.{within}
use Rattle.lists.specs.Numbers.{number, word_at}
use Rattle.lists.specs.Chunks.{chunks}
use Rattle.model.specs.declared.Module.{Module}
use Rattle.model.specs.State.{with_outputs, with_modbus, with_counters, with_modes, with_thermostats}
use Rattle.model.specs.Samples.{input_states}
use Rattle.model.specs.Frames.{modbus_to, function_of, modbus_body, modbus_broadcast, modbus_reply, exception_reply}
use Rattle.model.specs.Refusals.{Request, accepting, refuse, not_listed, on_part, reading, exception_of, crc_wrong, modbus_address_wrong, modbus_broadcast_wrong}
use Rattle.model.specs.Wire.{Wire}
use Rattle.model.specs.Outputs.{output_states}
use Rattle.model.specs.Temperature.{reading_words}
use Rattle.model.specs.Registers.{permission_group, port_group, counter_group, deduction_group, mode_group, output_group, thermostat_group, reading_group, in_group, read_words, read_bits, port_words, counter_word, output_word, read_thermostat, write_permission, write_port, write_counters, write_deductions, write_modes, write_pulse, write_thermostat, write_coils}

-- Bodies --------------------------------------------------------------------------------

-- a body begins with the first register or coil; then comes the quantity, for 05 and 06 the value
abbrev pub start_of : List ℕ → ℕ
start_of b = word_at b 0

abbrev pub second_of : List ℕ → ℕ
second_of b = word_at b 2

-- 8: other than these two, or a quantity that is not 1 to `most`
unfoldable pub quantity_wrong : ℕ → List ℕ → Bool
quantity_wrong most b = not (eqb (length b) 4 && within 1 most (second_of b))

-- 8: other than these two, the byte count `size` and so many bytes, or a quantity that is not 1 to `most`
unfoldable pub count_wrong : ℕ → ℕ → List ℕ → Bool
count_wrong most size b = not (within 1 most (second_of b) && (eqb (get_or b 4 0) size && eqb (length b) (5 + size)))

-- two bytes each
unfoldable pub words : List ℕ → List ℕ
words d = map number (chunks 2 d)

-- n bits of some bytes from bit j on, each byte's lowest first
unfoldable pub bits_from : ℕ → ℕ → List ℕ → List ℕ
bits_from j zero d = []
bits_from j (suc n) d = get_or d (j / 8) 0 / 2 ^ (j % 8) % 2 ∷ bits_from (suc j) n d

-- Groups of registers -----------------------------------------------------------------------

-- 9: no group there that the function serves
abbrev pub no_group : {P : Type 0} → P → Request P
no_group p = refuse 9 true (accepting p [])

-- 03: n registers from r on
unfoldable pub registers_read : ℕ → ℕ → Module → Request (Unit {0})
registers_read r n m =
    cond (in_group port_group r) (read_words port_group (port_words m.modbus) r n)
    (cond (in_group counter_group r) (read_words counter_group (map counter_word m.inputs.counters) r n)
    (cond (in_group mode_group r) (read_words mode_group m.settings.modes r n)
    (cond (in_group output_group r) (read_words output_group (map output_word m.outputs) r n)
    (cond (in_group thermostat_group r) (read_thermostat m.settings.thermostats r n)
    (no_group tt)))))

-- 06 (a single value) and 10H: the values vs for the registers from r on
unfoldable pub registers_written : Bool → Bool → ℕ → List ℕ → Module → Request Module
registers_written permitted single r vs m =
    cond (in_group permission_group r) (on_part (with_modbus m) (write_permission single r vs m.modbus))
    (cond (in_group port_group r) (write_port permitted r vs m)
    (cond (in_group counter_group r) (on_part (with_counters m) (write_counters r vs m.inputs.counters))
    (cond (in_group deduction_group r) (on_part (with_counters m) (write_deductions r vs m.inputs.counters))
    (cond (in_group mode_group r) (on_part (with_modes m) (write_modes r vs m.settings.modes))
    (cond (in_group output_group r) (on_part (with_outputs m) (write_pulse m.reading m.settings.thermostats r vs m.outputs))
    (cond (in_group thermostat_group r) (on_part (with_thermostats m) (write_thermostat m.settings.links r vs m.settings.thermostats))
    (no_group m)))))))

-- Functions ---------------------------------------------------------------------------------

-- the request answered with the given body, as the public documents echo a write
abbrev pub answering : List ℕ → Request Module → Request Module
answering b q = record { holds = q.holds; after = q.after; reply = b }

-- 05: one coil, on by FF00, off by 0000; any other value is refused 11
unfoldable pub coil_written : List ℕ → Module → Request Module
coil_written b m =
    refuse 8 (not (eqb (length b) 4))
    (refuse 11 (not (eqb (second_of b) 0xFF00 || eqb (second_of b) 0x0000))
    (answering b (on_part (with_outputs m) (write_coils m.reading m.settings.thermostats (start_of b) (second_of b / 0xFF00 ∷ []) m.outputs))))

unfoldable pub register_written : Bool → List ℕ → Module → Request Module
register_written permitted b m =
    refuse 8 (not (eqb (length b) 4)) (answering b (registers_written permitted true (start_of b) (second_of b ∷ []) m))

-- 0F: a bit for each coil; what the last byte holds beyond them has no effect
unfoldable pub coils_written : List ℕ → Module → Request Module
coils_written b m =
    refuse 8 (count_wrong 1968 ((second_of b + 7) / 8) b)
    (answering (take 4 b) (on_part (with_outputs m) (write_coils m.reading m.settings.thermostats (start_of b) (bits_from 0 (second_of b) (drop 5 b)) m.outputs)))

unfoldable pub several_written : Bool → List ℕ → Module → Request Module
several_written permitted b m =
    refuse 8 (count_wrong 123 (2 * second_of b) b)
    (answering (take 4 b) (registers_written permitted false (start_of b) (words (drop 5 b)) m))

-- 01, Registers: what each function reads or writes, and how many at most; the coils are the outputs, the input registers the reading
unfoldable pub modbus_asked : Bool → ℕ → List ℕ → Module → Request Module
modbus_asked permitted fn b m =
    cond (eqb fn 0x01) (reading m (refuse 8 (quantity_wrong 2000 b) (read_bits (output_states m.outputs) (start_of b) (second_of b))))
    (cond (eqb fn 0x02) (reading m (refuse 8 (quantity_wrong 2000 b) (read_bits (input_states m.inputs) (start_of b) (second_of b))))
    (cond (eqb fn 0x03) (reading m (refuse 8 (quantity_wrong 125 b) (registers_read (start_of b) (second_of b) m)))
    (cond (eqb fn 0x04) (reading m (refuse 8 (quantity_wrong 125 b) (read_words reading_group (reading_words m.reading) (start_of b) (second_of b))))
    (cond (eqb fn 0x05) (coil_written b m)
    (cond (eqb fn 0x06) (register_written permitted b m)
    (cond (eqb fn 0x0F) (coils_written b m)
    (cond (eqb fn 0x10) (several_written permitted b m)
    (not_listed m))))))))

-- no byte of its shape is fixed, and no setting leaves 4 out; an exception tells that a request was refused
abbrev pub modbus_wire : Wire
modbus_wire = record {
  port = λ m. m.modbus;
  with_port = with_modbus;
  least = 4;
  most = 256;
  shape_wrong = λ f. false;
  check_wrong = crc_wrong;
  check_tested = λ m. true;
  addressee = λ f. modbus_to f;
  address_wrong = modbus_address_wrong;
  broadcast_wrong = λ f. modbus_broadcast_wrong (modbus_to f) (function_of f);
  broadcast = modbus_broadcast;
  asked = λ permitted f m. modbus_asked permitted (function_of f) (modbus_body f) m;
  replied = λ own f o. cond (eqb o.refusal 0) (modbus_reply own (function_of f) o.reply) (exception_reply own (function_of f) (exception_of o.refusal));
}

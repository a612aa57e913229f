-- The definitions opened for computing on closed calls. Written by reference/tables.py. Assumes nothing.
use mathlib.Core.List.{flat_map}
use lib.Ieee.{div, of_int, of_bits, to_bits, is_nan}
use Rattle.lists.specs.Tests.{within, all, any, twice}
use Rattle.lists.specs.Mapi.{mapi}
use Rattle.lists.specs.Numbers.{bytes, bits_number}
use Rattle.lists.specs.Chunks.{chunks_of, chunks}
use Rattle.lists.specs.Entries.{entry_of, entries, numbered}
use Rattle.model.specs.State.{fresh_module}
use Rattle.model.specs.Samples.{line_sampled, lines_sampled, selects, selected_edge, edges, counted, counters_sampled, inputs_sampled}
use Rattle.model.specs.Frames.{total, spinel_reply, crc_bit, crc_bits, crc_byte, crc_of, with_crc}
use Rattle.model.specs.Refusals.{shape_wrong, sum_wrong, crc_wrong, spinel_address_wrong, modbus_address_wrong, spinel_broadcast_wrong}
use Rattle.model.specs.Refusals.{modbus_broadcast_wrong, checking_order, first_holding, refusal_of, judged, ack_of, exception_of}
use Rattle.model.specs.Wire.{frame_refusal, frame_answered, frame_acted, frame_handled, frame_call}
use Rattle.model.specs.Counters.{items_of, listed, list_read, parameters, read_one, values_read, read_counters, deductible, deduct_one, deduct}
use Rattle.model.specs.Counters.{named_twice, clear_all, deduct_counters, mode_settable, set_mode, set_modes, set_modes_list, mode_shown}
use Rattle.model.specs.Counters.{set_sampling, read_sampling, runs_ended, reset, give_permission, set_port, read_port, reset_module}
use Rattle.model.specs.SumTest.{set_sum_test, read_sum_test}
use Rattle.model.specs.Temperature.{signed_of, pattern_of, degrees, reading_of, reading_shown, read_temperature, float_bits, reading_words}
use Rattle.model.specs.Temperature.{thermostat_fits, group_thermostat, group_fits, set_group, group_clashes, set_thermostats, group_shown}
use Rattle.model.specs.Temperature.{read_thermostats, free, free_at, levelled, banded, crossed, crossing, heated, failed, taken, fits_before}
use Rattle.model.specs.Temperature.{free_before, heated_before, taken_before, is_new_mode}
use Rattle.model.specs.Links.{link_settable, group_link, link_clashes, set_link, set_links, link_shown, driven, linked, outputs_linked}
use Rattle.model.specs.Outputs.{pulsed, remaining, set_byte, set_output, start_pulse, act_on, set_outputs, pulse_outputs, set_pulses}
use Rattle.model.specs.Outputs.{preset_settable, set_preset, set_presets, start_preset, preset_ready, start_presets, pulse_shown, preset_shown}
use Rattle.model.specs.Outputs.{mode_byte, read_states}
use Rattle.model.specs.Text.{is_text, text_shape_wrong, text_address_wrong, text_reply, begins, typed_by, commands_outputs, digits_in, typed_number}
use Rattle.model.specs.Text.{read_state, set_one, pulse_one, temperature_told, read_thermometer, switch_notice, tell_notice, configure, asked_by}
use Rattle.model.specs.Text.{asked_if, text_request, text_notice}
use Rattle.model.specs.Notice.{set_notice, read_notice, noticed, notice_frame, notice_written}
use Rattle.model.specs.Registers.{read_words, packed, read_bits, counter_word, output_word, thermostat_words, read_thermostat, write_permission}
use Rattle.model.specs.Registers.{port_settable, set_port_field, write_port, is_zero, clear_one, write_counters, write_deductions, write_modes}
use Rattle.model.specs.Registers.{write_pulse, words_thermostat, write_thermostat, write_coils}
use Rattle.model.specs.Spinel.{spinel_asked, spinel_request}
use Rattle.model.specs.Modbus.{quantity_wrong, count_wrong, words, bits_from, registers_read, registers_written, coil_written, register_written}
use Rattle.model.specs.Modbus.{coils_written, several_written, modbus_asked}
use Rattle.model.specs.Calls.{sampled, sample_call, temperature_call, step, run, replies}
use Rattle.model.specs.Demand1.{request_checks, frame_checks, checks, permission_ended, is_broadcast, refusal_reply, gives_by, resets_by}
use Rattle.model.specs.Demand1.{gives_permission, resets_module, port_permitted}
use Rattle.model.specs.Tally.{selected_by, sampled_account, amounts, mode_given, taken_by, taken_from, spinel_collects, spinel_clears, spinel_resets}
use Rattle.model.specs.Tally.{spinel_mode, spinel_sampling, as_text, text_resets, writes, written, modbus_collects, modbus_clears, modbus_resets}
use Rattle.model.specs.Tally.{modbus_mode, changed, tallied, feed, tally, clears, stayed}
use Rattle.model.specs.Cycles.{events}
use Rattle.model.specs.Parts.{spinel_leaves, text_leaves, registers_leave, modbus_leaves, leaves}
use Rattle.model.specs.Alone.{accepted_bits}
use Rattle.model.proofs.Exchanges.{samples_in_turn}
use Rattle.model.proofs.Checksums.{unchecked_step, unchecked_replies}

-- naming this on an `unfolding` line opens all that its own line names: every definition but the CRC, for rows that go by `passed`
unfoldable pub unchecked : Unit {0}
unfolding within all any twice mapi bytes bits_number chunks_of chunks entry_of entries numbered fresh_module line_sampled lines_sampled selects
    selected_edge edges counted counters_sampled inputs_sampled total spinel_reply with_crc shape_wrong sum_wrong crc_wrong spinel_address_wrong
    modbus_address_wrong spinel_broadcast_wrong modbus_broadcast_wrong checking_order first_holding refusal_of judged ack_of exception_of
    frame_refusal frame_answered frame_acted frame_handled frame_call items_of listed list_read parameters read_one values_read read_counters
    deductible deduct_one deduct named_twice clear_all deduct_counters mode_settable set_mode set_modes set_modes_list mode_shown set_sampling
    read_sampling runs_ended reset give_permission set_port read_port reset_module set_sum_test read_sum_test signed_of pattern_of degrees
    reading_of reading_shown read_temperature float_bits reading_words thermostat_fits group_thermostat group_fits set_group group_clashes
    set_thermostats group_shown read_thermostats free free_at levelled banded crossed crossing heated failed taken fits_before free_before
    heated_before taken_before is_new_mode link_settable group_link link_clashes set_link set_links link_shown driven linked outputs_linked
    pulsed remaining set_byte set_output start_pulse act_on set_outputs pulse_outputs set_pulses preset_settable set_preset set_presets
    start_preset preset_ready start_presets pulse_shown preset_shown mode_byte read_states is_text text_shape_wrong text_address_wrong
    text_reply begins typed_by commands_outputs digits_in typed_number read_state set_one pulse_one temperature_told read_thermometer
    switch_notice tell_notice configure asked_by asked_if text_request text_notice set_notice read_notice noticed notice_frame notice_written
    read_words packed read_bits counter_word output_word thermostat_words read_thermostat write_permission port_settable set_port_field
    write_port is_zero clear_one write_counters write_deductions write_modes write_pulse words_thermostat write_thermostat write_coils
    spinel_asked spinel_request quantity_wrong count_wrong words bits_from registers_read registers_written coil_written register_written
    coils_written several_written modbus_asked sampled sample_call temperature_call step run request_checks frame_checks checks permission_ended
    is_broadcast refusal_reply gives_by resets_by gives_permission resets_module port_permitted selected_by sampled_account amounts mode_given
    taken_by taken_from spinel_collects spinel_clears spinel_resets spinel_mode spinel_sampling as_text text_resets writes written
    modbus_collects modbus_clears modbus_resets modbus_mode changed tallied feed tally clears stayed events spinel_leaves text_leaves
    registers_leave modbus_leaves leaves accepted_bits flat_map div of_int of_bits to_bits is_nan samples_in_turn unchecked_step
    unchecked_replies
unchecked = tt

-- and this the CRC too, for rows as they stand
unfoldable pub computing : Unit {0}
unfolding unchecked crc_bit crc_bits crc_byte crc_of replies
computing = tt

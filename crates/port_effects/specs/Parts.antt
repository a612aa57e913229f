-- A port's field as a byte.
use Rattle.std.specs.Prelude.{◌%◌}
use Rattle.lists.specs.declared.Entry.{Entry}
use Rattle.lists.specs.Entries.{entry}
use Rattle.model.specs.declared.Port.{Port}
use Rattle.model.specs.Registers.{set_port_field}

-- set by the low byte of the value: an address and a speed are bytes
unfoldable pub set_port_byte : Port → Entry → Port
set_port_byte p e = set_port_field p (entry e.number (e.value % 256))

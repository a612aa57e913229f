-- Addresses and speeds are bytes: where each value is one, its low byte is the value. Assumes nothing.
use Prim.Native.Nat.{◌<◌}
use native.Mathlib.Omega.{arith}
use native.Mathlib.Nat.{mod-eq_of_lt}
use lib.Dec.{eqb}
use mathlib.Core.Path.{◌≡◌}
use mathlib.Core.Bool.{Bool, true, false, cond}
use mathlib.Core.List.{List, foldl}
use Rattle.lists.specs.Tests.{within, all}
use Rattle.lists.specs.declared.Entry.{Entry}
use Rattle.lists.proofs.Choices.{within_high}
use Rattle.lists.proofs.Loops.{same_steps}
use Rattle.model.specs.declared.Port.{Port}
use Rattle.model.specs.Registers.{port_settable, set_port_field}
use Rattle.port_effects.specs.Parts.{set_port_byte}

field_byte : (e : Entry) → port_settable e ≡ true → e.value < 256
unfolding port_settable
field_byte e = go (eqb e.number 1)
  where
    go : (b : Bool) → cond b (within 1 247 e.value) (within 3 10 e.value) ≡ true → e.value < 256
    go true h = omega (arith, within_high 1 247 e.value h)
    go false h = omega (arith, within_high 3 10 e.value h)

one_field : (p : Port) (e : Entry) → port_settable e ≡ true → set_port_byte p e ≡ set_port_field p e
unfolding set_port_byte
one_field p e h = rw (mod-eq_of_lt (field_byte e h))

pub fields_whole : (es : List Entry) (p : Port) → all port_settable es ≡ true → foldl set_port_byte p es ≡ foldl set_port_field p es
fields_whole es p h = same_steps port_settable set_port_byte set_port_field one_field es p h

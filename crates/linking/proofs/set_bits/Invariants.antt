-- `linking::set_bits` meets its contract. Assumes nothing.
use Prim.Native.Nat.{◌-◌, ◌≤◌}
use mathlib.Core.Path.{◌≡◌}
use mathlib.Core.List.{map}
use lib.ListN.{take}
use Rattle.lists.specs.Numbers.{bits_number}
use Rattle.linking.specs.Links.{sets}
use Rattle.linking.proofs.set_bits.Given as goal

abbrev pub invariant-loop-i : goal.invariant-loop-i
invariant-loop-i l = (l.i ≤ 16) × (l.bits ≡ bits_number (take l.i (map (sets l.found l.states) l.links)))

abbrev pub decreases-loop-i : goal.decreases-loop-i
decreases-loop-i l = 16 - l.i

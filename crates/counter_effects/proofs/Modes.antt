-- Modes are bytes: where each setting fits, its low byte is the value. Assumes nothing.
use Prim.Native.Nat.{ℕ, ◌<◌}
use native.Mathlib.Omega.{arith}
use native.Mathlib.Nat.{mod-eq_of_lt}
use mathlib.Core.Path.{◌≡◌}
use mathlib.Core.Bool.{true}
use mathlib.Core.List.{List, foldl}
use borrow.Author.Tests.{leb-true}
use Rattle.lists.specs.Tests.{within, all}
use Rattle.lists.specs.declared.Entry.{Entry}
use Rattle.lists.proofs.Choices.{and_right}
use Rattle.lists.proofs.Loops.{same_steps}
use Rattle.model.specs.Counters.{mode_settable, set_mode}
use Rattle.counter_effects.specs.Answers.{set_mode_byte}

one_mode : (ms : List ℕ) (e : Entry) → mode_settable e ≡ true → set_mode_byte ms e ≡ set_mode ms e
unfolding set_mode_byte set_mode mode_settable
one_mode ms e h =
    let small : e.value < 256 = omega (arith, leb-true e.value 3 (and_right (within 1 16 e.number) _ h)) in
    rw (mod-eq_of_lt small)

pub modes_whole : (es : List Entry) (ms : List ℕ) → all mode_settable es ≡ true → foldl set_mode_byte ms es ≡ foldl set_mode ms es
modes_whole es ms h = same_steps mode_settable set_mode_byte set_mode one_mode es ms h

-- What a list of entries does to one input: between the module's reading of a frame and the tally's. Assumes nothing.
use Prim.Native.Nat.{ℕ, suc, ◌+◌}
use native.Mathlib.Omega.{arith}
use mathlib.Core.Path.{◌≡◌, refl}
use mathlib.Core.List.{List, [], ◌∷◌}
use mathlib.Core.Bool.{Bool, true, false, cond, ◌||◌}
use lib.Dec.{eqb}
use Rattle.lists.specs.declared.Entry.{Entry}
use Rattle.lists.proofs.Choices.{or_left, or_right}

-- the amounts of input i (counted from 0)
unfoldable pub collected_by : ℕ → List Entry → ℕ
collected_by i [] = 0
collected_by i (e ∷ es) = cond (eqb e.number (suc i)) e.value 0 + collected_by i es

-- its mode after the entries, from m
unfoldable pub mode_after : ℕ → List Entry → ℕ → ℕ
mode_after i [] m = m
mode_after i (e ∷ es) m = mode_after i es (cond (eqb e.number (suc i)) e.value m)

-- is it among the entries
unfoldable pub named : ℕ → List Entry → Bool
named i [] = false
named i (e ∷ es) = eqb e.number (suc i) || named i es

-- it is among them once, with value v
pub data Once (i : ℕ) : List Entry → ℕ → Type 0 where
  here : (e : Entry) (es : List Entry) → eqb e.number (suc i) ≡ true → named i es ≡ false → Once i (e ∷ es) e.value
  there : (e : Entry) (es : List Entry) (v : ℕ) → eqb e.number (suc i) ≡ false → Once i es v → Once i (e ∷ es) v

pub none_collected : (i : ℕ) (es : List Entry) → named i es ≡ false → collected_by i es ≡ 0
unfolding named collected_by
none_collected i [] h = refl
none_collected i (e ∷ es) h =
    rw (or_left (eqb e.number (suc i)) (named i es) h) (omega (arith, none_collected i es (or_right (eqb e.number (suc i)) (named i es) h)))

pub none_mode : (i : ℕ) (es : List Entry) (m : ℕ) → named i es ≡ false → mode_after i es m ≡ m
unfolding named mode_after
none_mode i [] m h = refl
none_mode i (e ∷ es) m h =
    rw (or_left (eqb e.number (suc i)) (named i es) h) (none_mode i es m (or_right (eqb e.number (suc i)) (named i es) h))

pub once_collected : {i : ℕ} {es : List Entry} {v : ℕ} → Once i es v → collected_by i es ≡ v
unfolding collected_by
once_collected {i} (here e es h n) = rw h (omega (arith, none_collected i es n))
once_collected (there e es v h o) = rw h (omega (arith, once_collected o))

pub once_mode : {i : ℕ} {es : List Entry} {v : ℕ} → Once i es v → (m : ℕ) → mode_after i es m ≡ v
unfolding mode_after
once_mode {i} (here e es h n) m = rw h (none_mode i es e.value n)
once_mode (there e es v h o) m = rw h (once_mode o m)

pub once_named : {i : ℕ} {es : List Entry} {v : ℕ} → Once i es v → named i es ≡ true
unfolding named
once_named (here e es h n) = rw h
once_named (there e es v h o) = rw h (once_named o)

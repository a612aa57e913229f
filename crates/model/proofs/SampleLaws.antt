-- Of samples that all differ from the stable state, one after another, the one that fills the sampling number flips it, and none before.
-- Assumes nothing.
use Prim.Native.Nat.{ℕ, zero, suc, ◌+◌, ◌<◌}
use native.Mathlib.Omega.{arith}
use mathlib.Core.Path.{◌≡◌, refl, ap, ◌∙◌}
use mathlib.Core.Bool.{Bool, true, false, cond, not, beq}
use lib.Dec.{leb}
use borrow.Author.Tests.{le-leb, lt-leb}
use Rattle.model.specs.declared.Line.{Line}
use Rattle.model.specs.State.{line}
use Rattle.model.specs.Samples.{line_sampled}

-- k samples with the same bit
pub repeated : ℕ → ℕ → Bool → Line → Line
repeated zero number bit x = x
repeated (suc k) number bit x = line_sampled number bit (repeated k number bit x)

differs : (s : Bool) → beq (not s) s ≡ false
differs true = refl
differs false = refl

-- fewer than the number: the run grows, the state stays
pub holds_before : (number : ℕ) (s : Bool) (k : ℕ) → k < number → repeated k number (not s) (line s 0) ≡ line s k
unfolding repeated line_sampled
holds_before number s zero h = refl
holds_before number s (suc k) h =
    let one : k + 1 ≡ suc k = omega arith in
    ap (line_sampled number (not s)) (holds_before number s k (omega arith))
    ∙ rw (differs s, lt-leb number (k + 1) (omega arith), one)

-- the number reached: it flips, and the run is 0
pub flips_on_the_last : (number : ℕ) (s : Bool) → repeated (suc number) (suc number) (not s) (line s 0) ≡ line (not s) 0
unfolding repeated line_sampled
flips_on_the_last number s =
    ap (line_sampled (suc number) (not s)) (holds_before (suc number) s number (omega arith))
    ∙ rw (differs s, le-leb (suc number) (number + 1) (omega arith))

-- an equal one: the run starts over
pub equal_begins_anew : (number : ℕ) (x : Line) → line_sampled number x.stable x ≡ line x.stable 0
unfolding line_sampled
equal_begins_anew number x = go x.stable
  where
    go : (s : Bool) → cond (beq s s) (line s 0) (cond (leb number (x.run + 1)) (line s 0) (line s (x.run + 1))) ≡ line s 0
    go true = refl
    go false = refl

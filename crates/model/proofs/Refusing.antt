-- Conditions that are looked at in turn: the first that holds refuses, and where it does not, the next are looked at. Assumes nothing.
use Rattle.std.proofs.Common.{◌≡◌, refl, ℕ, suc, Bool, true, false, arith}
use mathlib.Core.Bool.{cond}
use Rattle.model.specs.declared.Refusal.{Refusal}
use Rattle.model.specs.declared.Refusal.TheVariants.{ShortBuffer, FrameLength, Shape, Checksum, Address, Broadcast, Unlisted, DataLength, Range, Permission, Value, Held, Repeated, Clash}
use Rattle.model.specs.Numbers.{number_of}

-- no refusal has the number 0
pub some_number : (r : Refusal) → number_of r ≡ 0 → ⊥
some_number ShortBuffer e = omega arith
some_number FrameLength e = omega arith
some_number Shape e = omega arith
some_number Checksum e = omega arith
some_number Address e = omega arith
some_number Broadcast e = omega arith
some_number Unlisted e = omega arith
some_number DataLength e = omega arith
some_number Range e = omega arith
some_number Permission e = omega arith
some_number Value e = omega arith
some_number Held e = omega arith
some_number Repeated e = omega arith
some_number Clash e = omega arith

-- a first condition that refuses by r decides, whatever comes after it
pub stops : (b : Bool) (n rest : ℕ) (r : Refusal) → number_of r ≡ cond b n 0 → number_of r ≡ cond b n rest
stops true n rest r e = e
stops false n rest r e = absurd (some_number r e)

-- one that lets pass leaves it to those after it
pub goes : (b : Bool) (n rest : ℕ) → 0 ≡ cond b (suc n) 0 → rest ≡ cond b (suc n) rest
goes true n rest e = absurd (omega arith)
goes false n rest e = refl

-- it did not hold
pub passes : (b : Bool) (n : ℕ) → 0 ≡ cond b (suc n) 0 → b ≡ false
passes true n e = absurd (omega arith)
passes false n e = refl

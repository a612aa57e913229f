-- A mask as one number, and as a test of each line. Assumes nothing.
use Prim.Native.Nat.{ℕ, zero, suc, ◌+◌, ◌*◌, ◌/◌, ◌%◌, ◌^◌, ◌<◌, min}
use native.Mathlib.Nat.{div-one, div-div-eq-div-mul, pow-succ', mod-lt}
use native.Mathlib.Omega.{arith}
use mathlib.Core.Path.{◌≡◌, refl}
use mathlib.Core.Bool.{Bool, true, false, cond, not, ◌&&◌}
use mathlib.Core.List.{List, [], ◌∷◌}
use lib.Dec.{eqb}
use borrow.Author.Tests.{ne_eqb}
use Rattle.std.specs.Int.Bits.{bit_and, and_step}
use Rattle.lists.specs.Tests.{any}
use Rattle.lists.specs.Mapi.{mapi}
use Rattle.lists.specs.Numbers.{bit_at, bits_number}
use Rattle.lists.proofs.Bits.{bit_most}
use Rattle.lists.proofs.Somes.{mapi-alike}
use Rattle.inputs.specs.Passes.{any_masked}

-- a bit of half a number is the next of the whole
next_bit : (m i : ℕ) → bit_at m (suc i) ≡ bit_at (m / 2) i
next_bit m i = rw (pow-succ' 2 i, ← div-div-eq-div-mul m 2 (2 ^ i))

-- a number by its lowest bit and the rest
by_lowest : (x r : ℕ) (b : Bool) → r < 2 → not (eqb (x * 2 + min (cond b 1 0) r) 0) ≡ cond (b && eqb r 1) true (not (eqb x 0))
by_lowest zero zero true h = refl
by_lowest zero (suc zero) true h = refl
by_lowest zero (suc (suc r)) b h = absurd (omega arith)
by_lowest zero r false h = refl
by_lowest (suc x) zero true h = rw (ne_eqb (suc x * 2 + min 1 0) 0 (λ q. omega arith), ne_eqb (suc x) 0 (λ q. omega arith))
by_lowest (suc x) (suc zero) true h = rw (ne_eqb (suc x * 2 + min 1 1) 0 (λ q. omega arith))
by_lowest (suc x) (suc (suc r)) b h = absurd (omega arith)
by_lowest (suc x) r false h = rw (ne_eqb (suc x * 2 + min 0 r) 0 (λ q. omega arith), ne_eqb (suc x) 0 (λ q. omega arith))

-- some line that the mask picks has an edge, where the two numbers share a bit
pub masked_bits : (es : List Bool) (m : ℕ) → not (eqb (bit_and (bits_number es) m) 0) ≡ any_masked m es
unfolding bits_number any_masked any mapi
masked_bits [] m = refl
masked_bits (b ∷ es) m =
    let half : (cond b 1 0 + 2 * bits_number es) / 2 ≡ bits_number es = omega (arith, bit_most b) in
    let low : (cond b 1 0 + 2 * bits_number es) % 2 ≡ cond b 1 0 = omega (arith, bit_most b) in
    let later : mapi (λ i c. c && bit_at (m / 2) i) es ≡ mapi (λ i c. c && bit_at m (suc i)) es =
    mapi-alike _ _ es false (λ i l. rw (next_bit m i)) in
    rw (and_step (cond b 1 0 + 2 * bits_number es) m, half, low, by_lowest (bit_and (bits_number es) (m / 2)) (m % 2) b (mod-lt m (omega arith)), masked_bits es (m / 2), later, div-one m)

-- Many door cycles by a law about n of them: input 1 counts both edges, each sample is one. With it rack case F. Assumes nothing.
use Prim.Native.Nat.{ℕ, zero, suc, ◌+◌, ◌*◌, ◌%◌}
use native.Mathlib.Omega.{arith}
use mathlib.Core.Path.{◌≡◌, refl, ap, ◌∙◌}
use mathlib.Core.List.{List, [], ◌∷◌}
use lib.ListN.{replicate}
use Rattle.model.specs.declared.Module.{Module}
use Rattle.model.specs.State.{fresh_module, with_counters}
use Rattle.model.specs.Call.{Call}
use Rattle.model.specs.Calls.{run}
use Rattle.model.proofs.Computing.{computing}
use Rattle.model.proofs.Exchanges.{Plays, ◌⇒◌, sample_of, asked, silently, answers, samples_in_turn}

-- mode 3 for input 1, sampling number 1; then so many times open and closed
abbrev pub cycles : ℕ → List Call
cycles n = asked 0x6A (0x01 ∷ 0x03 ∷ []) ∷ asked 0x62 (0x01 ∷ []) ∷ samples_in_turn n (1 ∷ 0 ∷ [])

-- a fresh module after the two settings
abbrev ready : Module
ready = run fresh_module (asked 0x6A (0x01 ∷ 0x03 ∷ []) ∷ asked 0x62 (0x01 ∷ []) ∷ [])

-- the same, the counter of input 1 at c
abbrev counted : ℕ → Module
counted c = with_counters ready (c ∷ replicate 15 0)

-- one cycle more
turn : (c : ℕ) (xs : List Call) → run (counted c) (sample_of 1 ∷ sample_of 0 ∷ xs) ≡ run (counted (((c + 1) % 4294967296 + 1) % 4294967296)) xs
unfolding computing
turn c xs = refl

turns : (n c : ℕ) → run (counted (c % 4294967296)) (samples_in_turn n (1 ∷ 0 ∷ [])) ≡ counted ((c + 2 * n) % 4294967296)
unfolding samples_in_turn run computing
turns zero c =
    let same : c % 4294967296 ≡ (c + 2 * 0) % 4294967296 = omega arith in
    ap counted same
turns (suc n) c =
    let one : ((c % 4294967296 + 1) % 4294967296 + 1) % 4294967296 ≡ (c + 2) % 4294967296 = omega arith in
    let all : (c + 2 + 2 * n) % 4294967296 ≡ (c + 2 * suc n) % 4294967296 = omega arith in
    turn (c % 4294967296) (samples_in_turn n (1 ∷ 0 ∷ []))
    ∙ ap (λ k. run (counted k) (samples_in_turn n (1 ∷ 0 ∷ []))) one
    ∙ turns n (c + 2)
    ∙ ap counted all

settled : (xs : List Call) → run fresh_module (asked 0x6A (0x01 ∷ 0x03 ∷ []) ∷ asked 0x62 (0x01 ∷ []) ∷ xs) ≡ run (counted 0) xs
unfolding computing
settled xs = refl

-- 2 n edges leave the counter at 2 n, modulo 4,294,967,296
pub after_cycles : (n : ℕ) → run fresh_module (cycles n) ≡ counted ((2 * n) % 4294967296)
after_cycles n =
    let none : 0 + 2 * n ≡ 2 * n = omega arith in
    settled (samples_in_turn n (1 ∷ 0 ∷ [])) ∙ turns n 0 ∙ ap (λ k. counted (k % 4294967296)) none

-- one edge short of 4,294,967,295; that edge; one more
full : Plays (counted 4294967294) (
    (sample_of 1 ⇒ silently 0) ∷
    (asked 0x60 (0x01 ∷ []) ⇒ answers (0x20 ∷ 0xFF ∷ 0xFF ∷ 0xFF ∷ 0xFF ∷ [])) ∷
    (sample_of 0 ⇒ silently 0) ∷
    (asked 0x60 (0x01 ∷ []) ⇒ answers (0x20 ∷ 0x00 ∷ 0x00 ∷ 0x00 ∷ 0x00 ∷ [])) ∷
    [])
unfolding computing
full = refl

-- rack case F, through whole calls from a fresh module: 4,294,967,294 edges before it
pub wraps : Plays (run fresh_module (cycles 2147483647)) (
    (sample_of 1 ⇒ silently 0) ∷
    (asked 0x60 (0x01 ∷ []) ⇒ answers (0x20 ∷ 0xFF ∷ 0xFF ∷ 0xFF ∷ 0xFF ∷ [])) ∷
    (sample_of 0 ⇒ silently 0) ∷
    (asked 0x60 (0x01 ∷ []) ⇒ answers (0x20 ∷ 0x00 ∷ 0x00 ∷ 0x00 ∷ 0x00 ∷ [])) ∷
    [])
wraps = rw (after_cycles 2147483647) full

-- The echo of a write. Assumes nothing.
use Prim.Native.Nat.{ℕ, ◌≤◌}
use native.Mathlib.Omega.{arith}
use mathlib.Core.Path.{◌≡◌, refl, ap, ◌∙◌}
use mathlib.Core.Bool.{Bool, cond}
use mathlib.Core.List.{List}
use lib.ListN.{length, take}
use borrow.Author.Tests.{ne_eqb}
use Rattle.lists.proofs.ChunkLaws.{piece}
use Rattle.model.specs.declared.Module.{Module}
use Rattle.model.specs.Refusals.{Request, refuse, judged}
use Rattle.model.specs.Modbus.{answering}
use Rattle.model.proofs.Judged.{judged_both}
use Rattle.outcomes.specs.Parts.{Outcome, served_of}
use Rattle.modbus_bodies.specs.Parts.{head_of, echoed}
use Rattle.modbus_bodies.proofs.Laws.{write_passed}

-- only an accepted request's data changes
pub echo_law : (m : Module) (q : Request Module) (b : List ℕ) → echoed b (served_of (judged m q)) ≡ served_of (judged m (answering b q))
echo_law m q b =
    judged_both (λ o w. echoed b (served_of o) ≡ served_of w) m m q (answering b q) (λ _. refl) (λ n l. rw (ne_eqb n 0 (λ z. omega arith))) (λ _. refl)

-- a write whose body passes: l is what comes back of it
pub written_law : (m : Module) (q : Request Module) (l b : List ℕ) (wrong : Bool) (x : Outcome)
    → l ≡ b → x ≡ served_of (judged m q) → ◌≡◌ {A = ℕ} 0 (cond wrong 8 0) → echoed l x ≡ served_of (judged m (refuse 8 wrong (answering b q)))
written_law m q l b wrong x f e g =
    ap (λ (y : List ℕ). echoed y x) f ∙ ap (echoed b) e ∙ echo_law m q b ∙ write_passed m (answering b q) wrong g

-- the same, whatever the answer to the write is called, and for the echo's own answer
pub echoed_as : (m : Module) (q : Request Module) (l b : List ℕ) (wrong : Bool) (x : Outcome)
    → l ≡ b → x ≡ served_of (judged m q) → ◌≡◌ {A = ℕ} 0 (cond wrong 8 0)
    → (written : Outcome) → written ≡ x → (answer : Outcome) → answer ≡ echoed l written → answer ≡ served_of (judged m (refuse 8 wrong (answering b q)))
echoed_as m q l b wrong x f e g written same answer h = h ∙ written_law m q l b wrong written f (same ∙ e) g

-- a body that has them
pub head_law : (b : List ℕ) → 4 ≤ length b → head_of b ≡ take 4 b
head_law b h = rw (piece 3 0 b 0 (omega arith), piece 2 1 b 0 (omega arith), piece 1 2 b 0 (omega arith), piece 0 3 b 0 (omega arith))

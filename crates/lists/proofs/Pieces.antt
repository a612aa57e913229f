-- `chunks_exact` gives the chunks of a slice, of any width. Assumes nothing.
use Rattle.std.proofs.Common.{◌≡◌, refl, sym, ap, ◌∙◌, arith, ℕ, zero, suc, ◌+◌, ◌-◌, ◌/◌, ◌<◌, length, take, drop, List, Bor}
use Rattle.std.proofs.lemmas.List.{take_at, drop_at, length-append}
use Rattle.std.specs.Iterator.{AlwaysYields}
use Rattle.std.specs.declared.slice.ChunksExact.{ChunksExact}
use Rattle.std.specs.Slice.Iter.{chunks_exact_rest, chunks_exact_size, chunks_exact_steps}
use Rattle.std.proofs.lemmas.Iterator.{YieldsList}
use native.Mathlib.Nat.{div-eq-sub-div, div-eq_of_lt}
use Rattle.lists.specs.Chunks.{chunks, chunks_of}

module _ {A : Type 0} (w : ℕ) (wide : 0 < w) where
  abbrev now : Bor (List A) → List A
  now t = t.now

  each : (n : ℕ) (s : ChunksExact A) → chunks_exact_size s ≡ w → length (chunks_exact_rest s) / w ≡ n → AlwaysYields chunks_exact_steps now s (chunks_of w n (chunks_exact_rest s))
  unfolding chunks_of
  each zero s size none = λ t u h.
      let long : length (chunks_exact_rest s) ≡ w + length (chunks_exact_rest u) = omega (arith, size, h.1.1, ap length h.1.0, length-append t.now (chunks_exact_rest u)) in
      let more : length (chunks_exact_rest s) / w ≡ (length (chunks_exact_rest s) - w) / w + 1 = div-eq-sub-div wide (omega (arith, long)) in
      omega (arith, none, more)
  each (suc n) s size some = (
    (λ u h.
        let few : length (chunks_exact_rest s) / w ≡ 0 = div-eq_of_lt (omega (arith, size, h.1.0)) in
        omega (arith, some, few)),
    λ t u h.
        let one : length t.now ≡ w = h.1.1 ∙ size in
        let front : take w (chunks_exact_rest s) ≡ t.now = ap (take w) h.1.0 ∙ take_at t.now (chunks_exact_rest u) w one in
        let behind : drop w (chunks_exact_rest s) ≡ chunks_exact_rest u = ap (drop w) h.1.0 ∙ drop_at t.now (chunks_exact_rest u) w one in
        let long : length (chunks_exact_rest s) ≡ w + length (chunks_exact_rest u) = omega (arith, one, ap length h.1.0, length-append t.now (chunks_exact_rest u)) in
        let left : length (chunks_exact_rest s) - w ≡ length (chunks_exact_rest u) = omega (arith, long) in
        let more : length (chunks_exact_rest s) / w ≡ length (chunks_exact_rest u) / w + 1 = rw left at (div-eq-sub-div {n = length (chunks_exact_rest s)} wide (omega (arith, long))) in
        (sym front, rw behind (each n u (h.0 ∙ size) (omega (arith, some, more)))),
  )

  pub yields_chunks : (s : ChunksExact A) (l : List A) → chunks_exact_size s ≡ w → chunks_exact_rest s ≡ l → YieldsList chunks_exact_steps now s (chunks w l)
  unfolding chunks
  yields_chunks s l size e = record { runs = rw (← e) (each (length (chunks_exact_rest s) / w) s size refl) }

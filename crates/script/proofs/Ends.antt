-- A line without the blanks at its end, and the frame of a `text` line. Assumes nothing.
use Prim.Native.Nat.{ℕ, suc, ◌+◌, ◌-◌, ◌<◌, ◌≤◌, min}
use native.Mathlib.Omega.{arith}
use mathlib.Core.Path.{◌≡◌, refl, sym, ap, ◌∙◌}
use mathlib.Core.Bool.{Bool, true, false, cond}
use mathlib.Core.List.{List, [], ◌∷◌, ◌++◌, foldl}
use lib.ListN.{length, get_or, take, drop, replicate, length-append}
use lib.Seq.{take-suc}
use borrow.Author.Tests.{lt-ltb, le-ltb}
use Rattle.lists.proofs.ChunkLaws.{rest_whole}
use Rattle.lists.specs.Bounded.{added}
use Rattle.digits.specs.Writing.{padded}
use Rattle.digits.proofs.Characters.{held, push_held, append_held}
use Rattle.script.specs.Words.{blank, kept, trimmed}
use Rattle.script.specs.Lines.{wrong, text_frame, texted}
use Rattle.script.specs.Results.{Frame, with_frame}

-- a last byte is left out where it is a blank
trimmed_last : (l : List ℕ) (b : ℕ) → trimmed (l ++ b ∷ []) ≡ cond (blank b) (trimmed l) (l ++ b ∷ [])
unfolding kept trimmed
trimmed_last [] b = refl
trimmed_last (a ∷ l) b = rw (trimmed_last l b) (go l (blank b))
  where
    go : (l : List ℕ) (t : Bool) → kept a (cond t (trimmed l) (l ++ b ∷ [])) ≡ cond t (kept a (trimmed l)) (a ∷ l ++ b ∷ [])
    go l true = refl
    go [] false = refl
    go (c ∷ l) false = refl

-- a loop that steps back over blanks: n bytes are left
module _ (s : List ℕ) (n : ℕ) where
  pub no_bytes : n ≤ 0 → take n s ≡ trimmed (take n s)
  unfolding trimmed
  no_bytes h = let none : n ≡ 0 = omega arith in rw none

  module _ (h : n ≤ length s) (p : 0 < n) where
    last_here : trimmed (take n s) ≡ cond (blank (get_or s (n - 1) 0)) (trimmed (take (n - 1) s)) (take n s)
    last_here =
        let more : n ≡ suc (n - 1) = omega arith in
        let whole : take n s ≡ take (n - 1) s ++ get_or s (n - 1) 0 ∷ [] = ap (λ i. take i s) more ∙ take-suc s (n - 1) 0 (omega arith) in
        rw whole (trimmed_last (take (n - 1) s) (get_or s (n - 1) 0))

    pub blank_last : blank (get_or s (n - 1) 0) ≡ true → trimmed (take (n - 1) s) ≡ trimmed (take n s)
    blank_last e = sym (rw e at last_here)

    pub solid_last : blank (get_or s (n - 1) 0) ≡ false → take n s ≡ trimmed (take n s)
    solid_last e = sym (rw e at last_here)

-- the part behind a first byte, where there is one
pub behind_one : (n : ℕ) (l : List ℕ) → n ≡ min (length l) 1 → take (length l - n) (drop n l) ≡ drop 1 l
behind_one n l e = rest_whole n l ∙ rw e (go l)
  where
    go : (l : List ℕ) → drop (min (length l) 1) l ≡ drop 1 l
    go [] = refl
    go (b ∷ l) = let one : min (suc (length l)) 1 ≡ 1 = omega arith in ap (λ i. drop i (b ∷ l)) one

-- the characters w and a CR, in room for 300
module _ (l : List ℕ) {w : List ℕ} (p : w ≡ trimmed (drop 1 l)) where
  pub text_long : 300 ≤ length w → wrong 5 ≡ texted (text_frame l)
  unfolding texted
  text_long h = rw (sym p, length-append, lt-ltb 300 (length w + 1) (omega arith))

  pub text_fits : length w < 300 → {e f g : Frame} → e ≡ record { items = replicate 300 0; len = 0 } → f ≡ foldl added e w → g ≡ added f 13 → with_frame 8 g ≡ texted (text_frame l)
  unfolding texted padded
  text_fits h {e} {f} {g} i j k =
      let start : e ≡ held 300 [] = i in
      let all : g ≡ held 300 (w ++ 13 ∷ []) = k ∙ push_held 300 w 13 (omega arith) (j ∙ append_held 300 [] w (omega arith) start) in
      rw (sym p, all, length-append, le-ltb 300 (length w + 1) (omega arith))

-- One turn of the loop that reads a frame's bytes. Assumes nothing.
use Prim.Native.Nat.{ℕ, ◌+◌, ◌<◌, ◌≤◌}
use mathlib.Core.Path.{◌≡◌, sym}
use mathlib.Core.List.{List, [], ◌∷◌}
use borrow.Author.Tests.{lt-ltb, le-ltb}
use lib.ListN.{set}
use Rattle.digits.specs.Reading.{hex}
use Rattle.script.specs.Lines.{wrong, framed}
use Rattle.script.specs.Results.{Frame, with_frame}
use Rattle.lists.specs.Bounded.{added}

module _ (f : Frame) (k : ℕ) {p : List (List ℕ)} where
  pub frame_ends : p ≡ [] → with_frame k f ≡ framed (with_frame k f) p
  unfolding framed
  frame_ends e = rw e

  module _ (w : List ℕ) (q : List (List ℕ)) (e : p ≡ w ∷ q) where
    pub frame_full : 300 ≤ f.len → wrong 5 ≡ framed (with_frame k f) p
    unfolding framed
    frame_full h = rw (e, le-ltb f.len 300 h)

    module _ (h : f.len < 300) where
      pub frame_bad : 256 ≤ hex 2 w → wrong 2 ≡ framed (with_frame k f) p
      unfolding framed
      frame_bad i = rw (e, lt-ltb f.len 300 h, le-ltb (hex 2 w) 256 i)

      -- the byte stored behind the others
      pub frame_goes : (b : ℕ) → b ≡ hex 2 w → b < 256 → framed (with_frame k (record { items = set f.items f.len b; len = f.len + 1 })) q ≡ framed (with_frame k f) p
      unfolding framed added
      frame_goes b i j = rw (e, lt-ltb f.len 300 h, sym i, lt-ltb b 256 j)

-- Edges of the sixteen lines as a loop finds them. Assumes nothing.
use Prim.Native.Nat.{ℕ}
use native.Mathlib.Omega.{arith}
use mathlib.Core.Path.{◌≡◌, refl, sym, ap, ◌∙◌}
use mathlib.Core.Bool.{Bool, true, false, not, ◌&&◌, beq}
use lib.Dec.{eqb}
use borrow.Author.Tests.{not-false, eqb-true}
use Rattle.lists.proofs.Choices.{or_left, or_right}
use Rattle.std.specs.Prelude.{Some, None}
use mathlib.Core.List.{List, [], ◌∷◌}
use lib.ListN.{length, get_or}
use Rattle.std.specs.List.{list_any}
use Rattle.lists.specs.Tests.{any}
use Rattle.lists.specs.Mapi.{mapi}
use Rattle.lists.specs.Numbers.{bit_at, bits_number}
use Rattle.lists.proofs.Done.{get_or-mapi, length-mapi}
use Rattle.lists.proofs.Somes.{some_any, some_false, some_of, none_below, mapi-alike, mapi-same}
use Rattle.model.specs.declared.Inputs.{Inputs}
use Rattle.model.specs.declared.Line.{Line}
use Rattle.model.specs.State.{line, fresh_line}
use Rattle.model.specs.Samples.{is_edge, edges, selected_edge, counted, line_sampled, lines_sampled, counters_sampled}
use Rattle.inputs.specs.Passes.{any_masked, selected_lines, is_moving, any_moving, stable_bits, sampled_of}

-- a list has a `true` where one of its tests passed
pub has_true : (l : List Bool) → list_any (λ y. beq y true) l ≡ any (λ b. b) l
unfolding any
has_true [] = refl
has_true (true ∷ l) = refl
has_true (false ∷ l) = has_true l

-- without an edge no counter moves
pub no_edge : (was now : List Line) (modes cs : List ℕ) → length was ≡ length cs → any (λ b. b) (edges was now) ≡ false → counters_sampled modes was now cs ≡ cs
unfolding edges counters_sampled counted selected_edge
no_edge was now modes cs e h =
    let none = sym (some_any (λ i x. is_edge x (get_or now i fresh_line)) was fresh_line) ∙ h in
    mapi-same _ cs 0 (λ i l. rw (some_false (λ k. is_edge (get_or was k fresh_line) (get_or now k fresh_line)) (length was) i none (omega arith)))

-- each counter by whether its line was found selected
pub by_found : (found : List Bool) (was now : List Line) (modes cs : List ℕ) → length was ≡ length cs → found ≡ selected_lines modes was now
    → mapi (λ i c. counted (get_or found i false) c) cs ≡ counters_sampled modes was now cs
unfolding selected_lines counters_sampled
by_found found was now modes cs e h =
    mapi-alike _ _ cs 0 (λ i l. rw (h, get_or-mapi (λ k x. selected_edge (get_or modes k 0) x (get_or now k fresh_line)) was i fresh_line false (omega arith)))

-- without an edge the mask picks none
pub no_mask : (mask : ℕ) (edged : List Bool) → any (λ b. b) edged ≡ false → any_masked mask edged ≡ false
unfolding any_masked
no_mask mask edged h =
    some_any (λ i b. b && bit_at mask i) edged false
    ∙ none_below _ (length edged) (λ i l. rw (some_false (λ k. get_or edged k false) (length edged) i (sym (some_of edged) ∙ h) l))

-- the inputs' part of a sample, by whether a line had an edge
module _ (bits number : ℕ) (modes : List ℕ) (x : Inputs) (now : List Line) (e : now ≡ lines_sampled number bits x.lines) (es : List Bool) (q : es ≡ edges x.lines now) where
  pub with_edge : (cs : List ℕ) (f s : ℕ) → cs ≡ counters_sampled modes x.lines now x.counters → f ≡ bits_number es → s ≡ stable_bits now → true ≡ any (λ b. b) es
      → record { inputs = record { lines = now; counters = cs }; edges = Some (record { found = f; states = s }) } ≡ sampled_of bits number modes x
  unfolding sampled_of
  with_edge cs f s c j k p = rw (c, j, k, q, e, ← (rw (q, e) at p))

  no_edges : (cs : List ℕ) → cs ≡ counters_sampled modes x.lines now x.counters → false ≡ any (λ b. b) es
      → record { inputs = record { lines = now; counters = cs }; edges = None } ≡ sampled_of bits number modes x
  unfolding sampled_of
  no_edges cs c p = rw (c, e, ← (rw (q, e) at p))

  pub without_edge : false ≡ any (λ b. b) es → length now ≡ length x.counters
      → record { inputs = record { lines = now; counters = x.counters }; edges = None } ≡ sampled_of bits number modes x
  unfolding lines_sampled
  without_edge p l =
      let long : length x.lines ≡ length x.counters = sym (length-mapi _ x.lines) ∙ ap length (sym e) ∙ l in
      let none : any (λ b. b) (edges x.lines now) ≡ false = ap (any (λ b. b)) (sym q) ∙ sym p in
      no_edges x.counters (sym (no_edge x.lines now modes x.counters long none)) p

-- a line that a sample cannot change is as it was after it
still_line : (number : ℕ) (bit : Bool) (x : Line) → is_moving bit x ≡ false → line_sampled number bit x ≡ x
unfolding line_sampled
still_line number bit x h =
    let same : beq bit x.stable ≡ true = not-false _ (or_left (not (beq bit x.stable)) (not (eqb x.run 0)) h) in
    let none : x.run ≡ 0 = eqb-true _ _ (not-false _ (or_right (not (beq bit x.stable)) (not (eqb x.run 0)) h)) in
    rw same (ap (line x.stable) (sym none))

-- and so are they all
pub still : (number bits : ℕ) (xs : List Line) → any_moving bits xs ≡ false → xs ≡ lines_sampled number bits xs
unfolding any_moving lines_sampled
still number bits xs h =
    let none = sym (some_any (λ i x. is_moving (bit_at bits i) x) xs fresh_line) ∙ h in
    sym (mapi-same _ xs fresh_line (λ i l. still_line number (bit_at bits i) (get_or xs i fresh_line) (some_false (λ k. is_moving (bit_at bits k) (get_or xs k fresh_line)) (length xs) i none l)))

-- lines that are as they were have no edge
pub no_own_edge : (xs : List Line) → false ≡ any (λ b. b) (edges xs xs)
unfolding edges
no_own_edge xs =
    sym (some_any (λ i x. is_edge x (get_or xs i fresh_line)) xs fresh_line ∙ none_below _ (length xs) (λ i l. rw (same_state (get_or xs i fresh_line).stable)))
  where
    same_state : (b : Bool) → beq b b ≡ true
    same_state true = refl
    same_state false = refl

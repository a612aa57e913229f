-- From links by the numbers of the edges and states to links by the lines. Assumes nothing.
use Rattle.std.proofs.Common.{arith, pow-add, ◌≡◌, refl, sym, ap, ◌∙◌, ℕ, zero, suc, ◌+◌, ◌-◌, ◌*◌, ◌/◌, ◌%◌, ◌^◌, ◌≤◌, ◌<◌, Bool, List, [], ◌∷◌, length}
use native.Mathlib.Nat.{div-div-eq-div-mul, zero-div}
use mathlib.Core.Bool.{true, false, cond, not, ◌&&◌, ◌||◌, and-false}
use mathlib.Core.List.{map}
use lib.Dec.{eqb, ltb}
use borrow.Author.Tests.{eqb-true, not-false, ltb-true, ltb-false}
use lib.Seq.{take-length, drop-cons}
use Rattle.std.specs.Prelude.{Some, None}
use lib.ListN.{get_or, take, drop, drop_of_length-le, get_or-map, length-map}
use mir.Val.{bool_byte}
use Rattle.std.specs.Int.Bits.{bit_or}
use Rattle.std.proofs.lemmas.List.{get_or-map as at_place}
use Rattle.encoding.proofs.BitTurns.{bit_above}
use Rattle.std.proofs.lemmas.List.{get_or_past}
use Rattle.lists.specs.Tests.{all, any}
use Rattle.lists.proofs.Choices.{all_first, all_rest}
use Rattle.lists.specs.Mapi.{mapi}
use Rattle.lists.specs.Numbers.{bit_at, bits_number}
use Rattle.lists.proofs.Bits.{bit_found}
use Rattle.lists.proofs.Done.{get_or-mapi, length-mapi}
use Rattle.lists.proofs.Somes.{mapi-alike, mapi-same}
use Rattle.lists.proofs.Stores.{none_at}
use Rattle.model.specs.declared.Line.{Line}
use Rattle.model.specs.declared.Link.{Link}
use Rattle.model.specs.declared.Output.{Output}
use Rattle.model.specs.State.{output, fresh_line, fresh_link, fresh_output, has_link}
use Rattle.model.specs.Samples.{is_edge, edges}
use Rattle.model.specs.Links.{driven, linked, outputs_linked}
use Rattle.inputs.specs.Passes.{stable_bits, edged_of}
use mir.Syntax.{w64}
use Rattle.std.specs.Int.{from_le_bytes}
use Rattle.std.proofs.lemmas.Nat.{le_bytes_8}
use Rattle.linking.specs.Links.{links_at, links_in, sets, sets_on, sets_by, outputs_set, outputs_by, linked_by}

-- a number of sixteen bits has no bit behind them
pub bit_past : (n k : ℕ) → n < 65536 → 16 ≤ k → bit_at n k ≡ false
bit_past n k l h =
    let more : k ≡ 16 + (k - 16) = omega arith in
    let none : n / 65536 ≡ 0 = omega arith in
    rw (more, pow-add 2 16 (k - 16), ← div-div-eq-div-mul n 65536 (2 ^ (k - 16)), none, zero-div (2 ^ (k - 16)))

-- a test of each element as an indexed one
pub any_as : {A : Type 0} (f : A → Bool) (l : List A) → any f l ≡ any (λ b. b) (mapi (λ i x. f x) l)
unfolding any mapi
any_as f [] = refl
any_as f (x ∷ l) = ap (cond (f x) true) (any_as f l)

-- what numbers set, each output by its own link
pub by_links : (found states : ℕ) (ls : List Link) (os : List Output) → outputs_set (sets_by ls found states) os ≡ outputs_by found states ls os
unfolding outputs_set outputs_by sets sets_on
by_links found states ls os =
    mapi-alike _ _ os fresh_output (λ i l. rw (
      bit_found (bits_number (map (sets found states) ls)) (map (sets found states) ls) i refl,
      bit_found (bits_number (map (sets_on states) ls)) (map (sets_on states) ls) i refl,
      of_sets i,
      of_on i,
    ))
  where
    none : sets found states fresh_link ≡ false
    none = and-false (bit_at found 0)

    of_sets : (i : ℕ) → get_or (map (sets found states) ls) i false ≡ sets found states (get_or ls i fresh_link)
    of_sets i = rw none at (get_or-map (sets found states) ls i fresh_link)

    of_on : (i : ℕ) → get_or (map (sets_on states) ls) i false ≡ sets_on states (get_or ls i fresh_link)
    of_on i = get_or-map (sets_on states) ls i fresh_link

-- one turn of a loop that puts together which of sixteen links pass
pub bits_turn : (f : Link → Bool) (ls : List Link) (i : ℕ) → length ls ≡ 16 → i < 16
    → bit_or (bits_number (take i (map f ls))) (bool_byte (f (get_or ls i fresh_link)) * 2 ^ i % 65536) ≡ bits_number (take (i + 1) (map f ls))
bits_turn f ls i l h = rw (← at_place f ls i fresh_link false (omega arith)) (bit_above (map f ls) i (rw length-map l) h)

-- and its end
pub bits_whole : (f : Link → Bool) (ls : List Link) → length ls ≡ 16 → bits_number (take 16 (map f ls)) ≡ bits_number (map f ls)
bits_whole f ls l = let long : length (map f ls) ≡ 16 = rw length-map l in ap bits_number (rw long at (take-length (map f ls)))

-- the two ways to say what an action does at an edge
abbrev Same : Bool → Bool → Output → ℕ → Type 0
Same e s o a =
    cond (e && ((eqb a 1 || eqb a 2) || ((eqb a 3 || eqb a 4) && s))) (output (eqb a 3 || ((eqb a 1 && s) || (eqb a 2 && not s))) 0) o
    ≡ cond e (cond (eqb a 1) (output s 0) (cond (eqb a 2) (output (not s) 0) (cond (eqb a 3) (cond s (output true 0) o) (cond (eqb a 4) (cond s (output false 0) o) o)))) o

by_action : (e s : Bool) (a : ℕ) (o : Output) → Same e s o a
by_action false s a o = refl
by_action true s a o = one (eqb a 1) refl
  where
    other : (s : Bool) → eqb a 1 ≡ false → eqb a 2 ≡ false → eqb a 3 ≡ false → eqb a 4 ≡ false → Same true s o a
    other s h i j k = rw (h, i, j, k)

    fourth : (s : Bool) → Same true s o 4
    fourth true = refl
    fourth false = refl

    third : (s : Bool) → Same true s o 3
    third true = refl
    third false = refl

    second : (s : Bool) → Same true s o 2
    second true = refl
    second false = refl

    first : (s : Bool) → Same true s o 1
    first true = refl
    first false = refl

    four : (b : Bool) → eqb a 1 ≡ false → eqb a 2 ≡ false → eqb a 3 ≡ false → eqb a 4 ≡ b → Same true s o a
    four true h i j k = rw (eqb-true a 4 k) (fourth s)
    four false h i j k = other s h i j k

    three : (b : Bool) → eqb a 1 ≡ false → eqb a 2 ≡ false → eqb a 3 ≡ b → Same true s o a
    three true h i j = rw (eqb-true a 3 j) (third s)
    three false h i j = four (eqb a 4) h i j refl

    two : (b : Bool) → eqb a 1 ≡ false → eqb a 2 ≡ b → Same true s o a
    two true h i = rw (eqb-true a 2 i) (second s)
    two false h i = three (eqb a 3) h i refl

    one : (b : Bool) → eqb a 1 ≡ b → Same true s o a
    one true h = rw (eqb-true a 1 h) (first s)
    one false h = two (eqb a 2) h refl

-- Lines ------------------------------------------------------------------------------------

module _ (was now : List Line) (w : length was ≡ 16) (n : length now ≡ 16) where
  -- the edge of any line, also behind the last
  edge_at : (k : ℕ) → get_or (edges was now) k false ≡ is_edge (get_or was k fresh_line) (get_or now k fresh_line)
  unfolding edges
  edge_at k = go (ltb k 16) refl
    where
      go : (b : Bool) → ltb k 16 ≡ b → get_or (edges was now) k false ≡ is_edge (get_or was k fresh_line) (get_or now k fresh_line)
      go true h = get_or-mapi (λ i x. is_edge x (get_or now i fresh_line)) was k fresh_line false (omega (arith, w, ltb-true k 16 h))
      go false h =
          let past : 16 ≤ k = ltb-false k 16 h in
          rw (get_or_past (mapi (λ i x. is_edge x (get_or now i fresh_line)) was) k false (rw length-mapi (omega (arith, w))), get_or_past was k fresh_line (omega (arith, w)), get_or_past now k fresh_line (omega (arith, n)))

  -- a link by the lines, as by the numbers
  one_linked : (l : Link) (o : Output)
      → cond (sets (bits_number (edges was now)) (stable_bits now) l) (output (sets_on (stable_bits now) l) 0) o ≡ linked was now l o
  unfolding sets sets_on linked driven stable_bits
  one_linked l o =
      rw (
        bit_found (bits_number (edges was now)) (edges was now) (l.input - 1) refl,
        bit_found (bits_number (map (λ (y : Line). y.stable) now)) (map (λ (y : Line). y.stable) now) (l.input - 1) refl,
        edge_at (l.input - 1),
        get_or-map (λ (y : Line). y.stable) now (l.input - 1) fresh_line,
      )
      (by_action (is_edge (get_or was (l.input - 1) fresh_line) (get_or now (l.input - 1) fresh_line)) (get_or now (l.input - 1) fresh_line).stable l.action o)

  -- all of them
  pub all_linked : (ls : List Link) (os : List Output) → outputs_by (bits_number (edges was now)) (stable_bits now) ls os ≡ outputs_linked ls was now os
  unfolding outputs_by outputs_linked
  all_linked ls os = mapi-alike _ _ os fresh_output (λ i l. one_linked (get_or ls i fresh_link) (get_or os i fresh_output))

  -- without an edge no output moves
  pub no_edge_linked : (ls : List Link) (os : List Output) → any (λ b. b) (edges was now) ≡ false → os ≡ outputs_linked ls was now os
  unfolding outputs_linked linked
  no_edge_linked ls os h = sym (mapi-same _ os fresh_output (λ i l. rw (idle (get_or ls i fresh_link).input)))
    where
      idle : (k : ℕ) → is_edge (get_or was (k - 1) fresh_line) (get_or now (k - 1) fresh_line) ≡ false
      idle k = sym (edge_at (k - 1)) ∙ none_at (λ b. b) (edges was now) (k - 1) false h refl

-- by what a sample found, as by its lines
pub linked_law : (was now : List Line) → length was ≡ 16 → length now ≡ 16 → (ls : List Link) (os : List Output) → linked_by (edged_of (edges was now) now) ls os ≡ outputs_linked ls was now os
linked_law was now w n ls os = go (any (λ b. b) (edges was now)) refl
  where
    go : (b : Bool) → any (λ b. b) (edges was now) ≡ b → linked_by (cond b (Some (record { found = bits_number (edges was now); states = stable_bits now })) None) ls os ≡ outputs_linked ls was now os
    go true h = all_linked was now w n ls os
    go false h = no_edge_linked was now w n ls os h

-- without a link nothing is set
pub no_link_sets : (found states : ℕ) (ls : List Link) (os : List Output) → any has_link ls ≡ false → os ≡ outputs_by found states ls os
unfolding outputs_by sets
no_link_sets found states ls os h = sym (mapi-same _ os fresh_output (λ i l. rw (none i, and-false (bit_at found ((get_or ls i fresh_link).input - 1)))))
  where
    none : (i : ℕ) → (get_or ls i fresh_link).action ≡ 0
    none i = eqb-true _ _ (not-false _ (none_at has_link ls i fresh_link h refl))

-- Four by four -------------------------------------------------------------------------------

-- n elements of a list from place k on
unfoldable pub from : {A : Type 0} → List A → A → ℕ → ℕ → List A
from l d k zero = []
from l d k (suc n) = get_or l k d ∷ from l d (suc k) n

drop_from : {A : Type 0} (l : List A) (d : A) (n k : ℕ) → k + n ≡ length l → drop k l ≡ from l d k n
unfolding from
drop_from l d zero k h = drop_of_length-le l (omega arith)
drop_from l d (suc n) k h = drop-cons l k d (omega arith) ∙ ap (get_or l k d ∷◌) (drop_from l d n (suc k) (omega arith))

-- sixteen links, one after another
pub all_sixteen : (l : List Link) → length l ≡ 16 → l ≡ from l fresh_link 0 16
all_sixteen l h = drop_from l fresh_link 16 0 (sym h)

-- four links of small fields and the number of their bytes
module _ (a b c d : Link) where
  abbrev pub bytes : List ℕ
  bytes = a.input ∷ a.action ∷ b.input ∷ b.action ∷ c.input ∷ c.action ∷ d.input ∷ d.action ∷ []

  module _ (small : all (λ x. ltb x 256) bytes ≡ true) where
    small_at : (l : List ℕ) → all (λ x. ltb x 256) l ≡ true → (i : ℕ) → get_or l i 0 < 256
    small_at [] h i = omega arith
    small_at (x ∷ l) h zero = ltb-true x 256 (all_first (λ x. ltb x 256) x l h)
    small_at (x ∷ l) h (suc i) = small_at l (all_rest (λ x. ltb x 256) x l h) i

    pub word_links : (n : ℕ) → n ≡ from_le_bytes w64 bytes → links_in n ≡ a ∷ b ∷ c ∷ d ∷ []
    unfolding links_in
    word_links n e = ap (λ (l : List ℕ). links_at l) (le_bytes_8 bytes n refl (small_at bytes small) e)

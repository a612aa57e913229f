-- Laws of reply data and of lent buffers. Assumes nothing.
use mathlib.Core.Path.{◌≡◌, sym, ap, ◌∙◌, refl}
use mathlib.Core.List.{List, [], ◌∷◌, ◌++◌, append_assoc, append-nil, map, flat_map, foldl}
use Prim.Native.Nat.{ℕ, suc, ◌+◌, ◌-◌, ◌<◌, ◌≤◌}
use native.Mathlib.Numerals.{add-one}
use native.Mathlib.Nat.{le_of_eq}
use native.Mathlib.Omega.{arith}
use borrow.Author.Tests.{lt-ltb}
use lib.ListN.{length, set, take, drop, get_or, length-append, length-drop, drop_of_length-le, length-map, replicate, length-replicate, replicate-append-replicate}
use lib.Seq.{set-append_seam, append_snoc, take-suc, set_at, drop-cons, length-take-le, take-append_seam, get_or-append-add, get_or-drop, take_all}
use Rattle.lists.specs.Data.{data_of, pushed, extended, bytes_in, filled, padded, over}
use Rattle.lists.specs.Data.{Data}
use Rattle.lists.specs.Bounded.{added}
use Rattle.lists.specs.Numbers.{bytes}
use mathlib.Core.Bool.{Bool, true, false, cond}
use Rattle.lists.proofs.ChunkLaws.{rest_first}

-- a store behind the last element that counts
pub filled_push : {A : Type 0} (n : ℕ) (d : A) (l : List A) (b : A) → length l < n → set (filled n d l) (length l) b ≡ filled n d (l ++ b ∷ [])
filled_push n d l b h =
    let more : n - length l ≡ suc (n - (length l + 1)) = omega arith in
    rw (more, set-append_seam, length-append, append_snoc)

pub filled_length : {A : Type 0} (n : ℕ) (d : A) (l : List A) → length l ≤ n → length (filled n d l) ≡ n
filled_length n d l h = simp (length-append, length-replicate) (omega arith)

-- the same elements in more room
pub filled_more : {A : Type 0} (v w : ℕ) (d : A) (l : List A) → length l ≤ v → v ≤ w → filled v d l ++ replicate (w - v) d ≡ filled w d l
filled_more v w d l h k =
    let all : v - length l + (w - v) ≡ w - length l = omega arith in
    append_assoc l _ _ ∙ rw (replicate-append-replicate (v - length l) (w - v) d, all)

pub padded_push : (l : List ℕ) (b : ℕ) → length l < 256 → set (padded l) (length l) b ≡ padded (l ++ b ∷ [])
unfolding padded
padded_push l b h = filled_push 256 0 l b h

pub push_law : (l : List ℕ) (b : ℕ) → length l < 256 → pushed (data_of l) b ≡ data_of (l ++ b ∷ [])
unfolding added
push_law l b h = rw (lt-ltb (length l) 256 h, padded_push l b h, length-append)

-- bytes after bytes
pub extend_law : (xs l : List ℕ) → length l + length xs ≤ 256 → extended (data_of l) xs ≡ data_of (l ++ xs)
unfolding extended
extend_law [] l h = rw append-nil
extend_law (x ∷ xs) l h =
    ap (λ (d : Data). extended d xs) (push_law l x (omega arith))
    ∙ extend_law xs (l ++ x ∷ []) (simp length-append (omega arith))
    ∙ ap data_of (append_assoc l (x ∷ []) xs)

-- bytes after bytes, by a fold
pub extended_same : (xs : List ℕ) (d : Data) → foldl added d xs ≡ extended d xs
unfolding extended
extended_same [] d = refl
extended_same (x ∷ xs) d = extended_same xs (added d x)

-- short data, byte by byte
pub two_pushed : (a b : ℕ) → pushed (pushed (data_of []) a) b ≡ data_of (a ∷ b ∷ [])
two_pushed a b = ap (λ (d : Data). pushed d b) (push_law [] a (omega arith)) ∙ push_law (a ∷ []) b (omega arith)

-- four bytes, one after another
pub four_pushed : (a b c d : ℕ) → pushed (pushed (pushed (pushed (data_of []) a) b) c) d ≡ data_of (a ∷ b ∷ c ∷ d ∷ [])
four_pushed a b c d =
    rw (push_law [] a (omega arith), push_law (a ∷ []) b (omega arith), push_law (a ∷ b ∷ []) c (omega arith), push_law (a ∷ b ∷ c ∷ []) d (omega arith))

pub byte_and_word : (a v : ℕ) → extended (pushed (data_of []) a) (bytes 2 v) ≡ data_of (a ∷ bytes 2 v)
unfolding bytes
byte_and_word a v = ap (λ (d : Data). extended d (bytes 2 v)) (push_law [] a (omega arith)) ∙ extend_law (bytes 2 v) (a ∷ []) (omega arith)

pub bytes_and_word : (a b v : ℕ) → extended (pushed (pushed (data_of []) a) b) (bytes 2 v) ≡ data_of (a ∷ b ∷ bytes 2 v)
unfolding bytes
bytes_and_word a b v = ap (λ (d : Data). extended d (bytes 2 v)) (two_pushed a b) ∙ extend_law (bytes 2 v) (a ∷ b ∷ []) (omega arith)

-- bytes after bytes, in two parts
pub extended_append : (xs ys : List ℕ) (b : Data) → extended b (xs ++ ys) ≡ extended (extended b xs) ys
unfolding extended
extended_append [] ys b = refl
extended_append (x ∷ xs) ys b = extended_append xs ys (pushed b x)

-- A loop that puts `show n` after the reply for each n of ns in turn: what is still to come is left.
module _ (show : ℕ → List ℕ) (ns : List ℕ) (i : ℕ) (b : Data) where
  -- one turn
  pub shown_turn : i < length ns → extended (extended b (show (get_or ns i 0))) (flat_map show (drop (i + 1) ns)) ≡ extended b (flat_map show (drop i ns))
  unfolding flat_map
  shown_turn h = rw (rest_first ns i h) (sym (extended_append (show (get_or ns i 0)) (flat_map show (drop (i + 1) ns)) b))

  -- its end
  pub shown_end : length ns ≤ i → extended b (flat_map show (drop i ns)) ≡ b
  unfolding flat_map extended
  shown_end h = rw (drop_of_length-le ns {i = i} h)

-- one of two replies
pub both : (b : Bool) (x y : List ℕ) → cond b (data_of x) (data_of y) ≡ data_of (cond b x y)
both true x y = refl
both false x y = refl

pub bytes_in_lem : (l : List ℕ) → bytes_in (data_of l) ≡ l
unfolding padded
bytes_in_lem l = take-append_seam l _

-- an array in a field of a struct parameter has its elements
pub field_length : (xs : List ℕ) {n : ℕ} → length (map (λ (v : ℕ). v) xs) ≡ n → length xs ≡ n
field_length xs e = sym (length-map xs (λ (v : ℕ). v)) ∙ e

-- a store at i of a buffer whose first i elements are those of xs
pub over_turn : {A : Type 0} (d : A) (xs old : List A) (i : ℕ) → i < length xs → i < length old → set (take i xs ++ drop i old) i (get_or xs i d) ≡ take (i + 1) xs ++ drop (i + 1) old
over_turn {A} d xs old i h k =
    ap (λ (l : List A). set (take i xs ++ l) i (get_or xs i d)) (drop-cons old i d k)
    ∙ set_at (take i xs) (get_or old i d) (drop (suc i) old) (get_or xs i d) i (length-take-le i xs (omega arith))
    ∙ rw (add-one, take-suc xs i d h, append_snoc)

-- a loop that makes a list of sixteen: those of xs before i stand, and d behind them
abbrev pub Made : {A : Type 0} → A → List A → List A → ℕ → Type 0
Made d xs now i = (i ≤ 16) × (now ≡ take i xs ++ drop i (replicate 16 d))

-- one turn of it, and its end
module _ {A : Type 0} (d : A) (xs now : List A) (i : ℕ) (l : length xs ≡ 16) (m : Made d xs now i) where
  pub made_turn : {v : A} → v ≡ get_or xs i d → i < 16 → Made d xs (set now i v) (i + 1)
  made_turn e h = (omega arith, rw (e, m.1) (over_turn d xs (replicate 16 d) i (rw l h) h))

  pub made_all : 16 ≤ i → now ≡ xs
  made_all h =
      let e : i ≡ 16 = omega (arith, m.0) in
      m.1 ∙ rw e (append-nil (take 16 xs) ∙ take_all 16 xs (le_of_eq l))

-- bytes beyond what was written are as they were
pub over_beyond : (bs old : List ℕ) (i : ℕ) → get_or (over bs old) (length bs + i) 0 ≡ get_or old (length bs + i) 0
over_beyond bs old i = get_or-append-add bs (drop (length bs) old) i 0 ∙ get_or-drop (length bs) old i 0

-- the buffer keeps its length
pub over_length : (bs old : List ℕ) → length bs ≤ length old → length (over bs old) ≡ length old
over_length bs old h = simp (length-append, length-drop) (omega arith)

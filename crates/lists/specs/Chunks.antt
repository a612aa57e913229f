-- A list in chunks of any width.
use Rattle.std.specs.Prelude.{ℕ, zero, suc, ◌/◌, List, [], ◌∷◌, length, take, drop}

-- the first n chunks of width w
unfoldable pub chunks_of : {A : Type 0} → ℕ → ℕ → List A → List (List A)
chunks_of w zero l = []
chunks_of w (suc n) l = take w l ∷ chunks_of w n (drop w l)

-- all whole chunks of width w; what is left over is passed by
unfoldable pub chunks : {A : Type 0} → ℕ → List A → List (List A)
chunks w l = chunks_of w (length l / w) l

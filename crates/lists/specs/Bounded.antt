-- Lists by value, with room for n elements.
use Rattle.std.specs.Prelude.{ℕ, ◌+◌, cond, ltb, set}
use Rattle.lists.specs.declared.Bounded.{Bounded}

-- one more, while there is room
unfoldable pub added : {A : Type 0} {n : ℕ} → Bounded A n → A → Bounded A n
added {A} {n} l x = cond (ltb l.len n) (record { items = set l.items l.len x; len = l.len + 1 }) l

-- Setpoints pushed in turn: the first twelve. Assumes nothing.
use Rattle.std.proofs.Common.{◌≡◌, arith, ℕ, ◌<◌, ◌≤◌, length, take, List, [], ◌∷◌, ◌++◌, append_assoc, length-append}
use Rattle.std.proofs.lemmas.List.{take_at}
use native.Mathlib.Decide.{ℕ_discrete}
use mathlib.Core.List.{append-nil, map, foldl}
use lib.Seq.{take_all}
use borrow.Author.Tests.{lt-ltb, le-ltb}
use Rattle.lists.specs.Bounded.{added}
use Rattle.lists.proofs.DataLaws.{filled_push}
use Rattle.setpoints.specs.declared.Setpoint.{Setpoint}
use Rattle.setpoints.specs.Setpoints.{Setpoints, no_setpoint, group_setpoint, setpoints_of}

-- one more, and none to a full list
one_more : (l : List Setpoint) (x : Setpoint) → length l < 12 → added (setpoints_of l) x ≡ setpoints_of (l ++ x ∷ [])
unfolding added setpoints_of
one_more l x h = rw (lt-ltb (length l) 12 h, filled_push 12 no_setpoint l x h, length-append)

no_more : (l : List Setpoint) (x : Setpoint) → length l ≡ 12 → added (setpoints_of l) x ≡ setpoints_of l
unfolding added setpoints_of
no_more l x h = rw (le-ltb (length l) 12 (omega arith))

-- a group pushed
abbrev pub with_group : Setpoints → List ℕ → Setpoints
with_group l c = added l (group_setpoint c)

after : (cs : List (List ℕ)) (a : List Setpoint) → length a ≤ 12 → foldl with_group (setpoints_of a) cs ≡ setpoints_of (take 12 (a ++ map group_setpoint cs))
after [] a h = rw (append-nil a, take_all 12 a h)
after (c ∷ cs) a h = go (ℕ_discrete (length a) 12) (after cs)
  where
    go : Dec (length a ≡ 12) → ((b : List Setpoint) → length b ≤ 12 → foldl with_group (setpoints_of b) cs ≡ setpoints_of (take 12 (b ++ map group_setpoint cs)))
        → foldl with_group (with_group (setpoints_of a) c) cs ≡ setpoints_of (take 12 (a ++ group_setpoint c ∷ map group_setpoint cs))
    go (yes q) more = rw (no_more a (group_setpoint c) q, more a h, take_at a (map group_setpoint cs) 12 q, take_at a (group_setpoint c ∷ map group_setpoint cs) 12 q)
    go (no q) more = rw (one_more a (group_setpoint c) (omega arith), more (a ++ group_setpoint c ∷ []) (simp length-append (omega arith)), append_assoc)

pub first_twelve : (cs : List (List ℕ)) → foldl with_group (setpoints_of []) cs ≡ setpoints_of (take 12 (map group_setpoint cs))
first_twelve cs = after cs [] (omega arith)

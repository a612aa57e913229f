-- One frame played again and again.
use Rattle.std.specs.Prelude.{ℕ, zero, suc, ◌+◌, ◌%◌, ◌^◌, Bool, cond, List, [], ◌∷◌, length}
use Rattle.lists.specs.Data.{over}
use Rattle.model.specs.State.{fresh_module, with_counters}
use Rattle.model.specs.Call.{Act, spinel, modbus}
use Rattle.model.specs.Calls.{acted}
use Rattle.frame_load.specs.declared.Played.{Played}
use Rattle.frame_load.specs.declared.Outcome.{Outcome}

-- the frame on the Modbus port or on the Spinel port
unfoldable pub act_of : Bool → List ℕ → Act
act_of to_modbus f = cond to_modbus (modbus f) (spinel f)

-- no call yet: the fresh module with counters that cover thousands of deductions, each another number, the first of them above 65,535
unfoldable pub ready_to_play : Played
ready_to_play = record {
  after = with_counters fresh_module
      (65540 ∷ 65539 ∷ 65538 ∷ 65537 ∷ 65536 ∷ 65535 ∷ 65534 ∷ 65533 ∷ 65532 ∷ 65531 ∷ 65530 ∷ 65529 ∷ 65528 ∷ 65527 ∷ 65526 ∷ 65525 ∷ []);
  written = 0;
  refusals = 0;
}

-- one call more: the state after it, the bytes of all replies and the sum of all refusal numbers, modulo 2 to the 64
unfoldable pub play_one : ℕ → Act → Played → Played
play_one room a p = record {
  after = (acted room a p.after).after;
  written = (p.written + length (acted room a p.after).reply) % 2 ^ 64;
  refusals = (p.refusals + (acted room a p.after).refusal) % 2 ^ 64;
}

-- the lent buffer after it: its reply over what stood there
unfoldable pub buffer_one : ℕ → Act → Played → List ℕ → List ℕ
buffer_one room a p old = over (acted room a p.after).reply old

-- n of them
unfoldable pub play_many : ℕ → Act → ℕ → Played → Played
play_many room a zero p = p
play_many room a (suc n) p = play_one room a (play_many room a n p)

-- the lent buffer after them: each reply over what the calls before it left
unfoldable pub buffer_many : ℕ → Act → ℕ → Played → List ℕ → List ℕ
buffer_many room a zero p old = old
buffer_many room a (suc n) p old = buffer_one room a (play_many room a n p) (buffer_many room a n p old)

-- what is told of them
abbrev pub outcome_of : Played → Outcome
outcome_of p = record { written = p.written; refusals = p.refusals; counters = p.after.inputs.counters }

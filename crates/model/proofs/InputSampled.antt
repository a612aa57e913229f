-- What a sample makes of one input, by the input's place. Assumes nothing.
use Prim.Native.Nat.{ℕ, ◌<◌}
use mathlib.Core.Path.{◌≡◌, ◌∙◌}
use lib.ListN.{length, get_or}
use Rattle.lists.specs.Numbers.{bit_at}
use Rattle.lists.proofs.Done.{get_or-mapi, length-mapi}
use Rattle.model.specs.declared.Line.{Line}
use Rattle.model.specs.State.{fresh_line}
use Rattle.model.specs.Samples.{line_sampled, lines_sampled, selected_edge, counted, counters_sampled}
use Rattle.model.specs.Cycles.{Counting}

-- the counting after a sample
abbrev pub counting_sampled : ℕ → Counting → Counting
counting_sampled bits x =
    let now = lines_sampled x.sampling bits x.lines in
    record { lines = now; modes = x.modes; counters = counters_sampled x.modes x.lines now x.counters; sampling = x.sampling }

module _ (i bits : ℕ) (x : Counting) where
  abbrev was : Line
  was = get_or x.lines i fresh_line

  -- input i's line by its own bit
  abbrev pub now : Line
  now = line_sampled x.sampling (bit_at bits i) was

  pub line_at : i < length x.lines → get_or (counting_sampled bits x).lines i fresh_line ≡ now
  unfolding lines_sampled
  line_at l = get_or-mapi (λ k y. line_sampled x.sampling (bit_at bits k) y) x.lines i fresh_line fresh_line l

  -- and its counter by its own edge and mode
  pub counter_at : i < length x.lines → i < length x.counters
      → get_or (counting_sampled bits x).counters i 0 ≡ counted (selected_edge (get_or x.modes i 0) was now) (get_or x.counters i 0)
  unfolding counters_sampled
  counter_at l c =
      get_or-mapi (λ k d. counted (selected_edge (get_or x.modes k 0) (get_or x.lines k fresh_line) (get_or (lines_sampled x.sampling bits x.lines) k fresh_line)) d) x.counters i 0 0 c
      ∙ rw (line_at l)

pub lines_kept : (bits : ℕ) (x : Counting) → length (counting_sampled bits x).lines ≡ length x.lines
unfolding lines_sampled
lines_kept bits x = length-mapi _ x.lines

pub counters_kept : (bits : ℕ) (x : Counting) → length (counting_sampled bits x).counters ≡ length x.counters
unfolding counters_sampled
counters_kept bits x = length-mapi _ x.counters

-- E3: what a list of samples makes of one input is a function of the sampling number, of that input and of its accepted bits. Assumes nothing.
use Prim.Native.Nat.{ℕ, ◌-◌, ◌<◌}
use native.Mathlib.Omega.{arith}
use mathlib.Core.Path.{◌≡◌, refl, sym, ap, ◌∙◌}
use mathlib.Core.Bool.{Bool, cond}
use mathlib.Core.List.{List, [], ◌∷◌, foldl}
use lib.Dec.{eqb}
use lib.ListN.{length, get_or}
use Rattle.lists.specs.Numbers.{bit_at}
use Rattle.lists.proofs.Choices.{cond_case}
use Rattle.model.specs.declared.Line.{Line}
use Rattle.model.specs.declared.Module.{Module}
use Rattle.model.specs.State.{line, fresh_line}
use Rattle.model.specs.Samples.{line_sampled, selected_edge, counted, inputs_sampled}
use Rattle.model.specs.Refusals.{Out, silent, buffer_short}
use Rattle.model.specs.Calls.{sampled, sample_call, step, run}
use Rattle.model.specs.Cycles.{Counting, counting_of}
use Rattle.model.specs.Alone.{Sample, sample_calls, accepted_bits, AgreeIn, OneInputAlone}
use Rattle.model.proofs.InputSampled.{counting_sampled, line_at, counter_at, lines_kept, counters_kept}

-- the four of one input
record Input : Type 0 where
  line : Line
  mode : ℕ
  counter : ℕ

-- a sample of it, by the sampling number and its bit
abbrev input_sampled : ℕ → Input → Bool → Input
input_sampled number x b =
    let now = line_sampled number b x.line in
    record { line = now; mode = x.mode; counter = counted (selected_edge x.mode x.line now) x.counter }

-- the input in place i
abbrev input_at : ℕ → Counting → Input
input_at i x = record { line = get_or x.lines i fresh_line; mode = get_or x.modes i 0; counter = get_or x.counters i 0 }

-- all inputs sampled, seen at one
sampled_at : (i bits : ℕ) (x : Counting) → i < length x.lines → i < length x.counters
    → input_at i (counting_sampled bits x) ≡ input_sampled x.sampling (input_at i x) (bit_at bits i)
sampled_at i bits x l c = rw (line_at i bits x l, counter_at i bits x l c)

-- the bits of a list of samples, by the answer o to its first
abbrev bits_by : ℕ → Sample → List Sample → Out → List Bool
bits_by k s ss o = cond (eqb o.refusal 0) (bit_at s.bits (k - 1) ∷ accepted_bits k o.after ss) (accepted_bits k o.after ss)

-- and input k after the rest of the list
record Follows (k : ℕ) (s : Sample) (ss : List Sample) (m : Module) (o : Out) : Type 0 where
  input : input_at (k - 1) (counting_of (run o.after (sample_calls ss))) ≡ foldl (input_sampled m.settings.sampling) (input_at (k - 1) (counting_of m)) (bits_by k s ss o)

module _ (k : ℕ) where
  -- after a list of samples
  abbrev Whole : List Sample → Module → Type 0
  Whole ss m = k - 1 < length m.inputs.lines → k - 1 < length m.inputs.counters
      → input_at (k - 1) (counting_of (run m (sample_calls ss))) ≡ foldl (input_sampled m.settings.sampling) (input_at (k - 1) (counting_of m)) (accepted_bits k m ss)

  -- an accepted sample, from what holds of the rest
  accepts : (s : Sample) (ss : List Sample) (m : Module) → k - 1 < length m.inputs.lines → k - 1 < length m.inputs.counters
      → Whole ss (sampled s.bits m).after → Follows k s ss m (sampled s.bits m)
  unfolding sampled inputs_sampled
  accepts s ss m l c h = record {
    input =
        h (omega (arith, lines_kept s.bits (counting_of m), l)) (omega (arith, counters_kept s.bits (counting_of m), c))
        ∙ ap (λ (x : Input). foldl (input_sampled m.settings.sampling) x (accepted_bits k (sampled s.bits m).after ss)) (sampled_at (k - 1) s.bits (counting_of m) l c);
  }

  samples_follow : (ss : List Sample) (m : Module) → Whole ss m
  unfolding run accepted_bits step sample_call
  samples_follow [] m l c = refl
  samples_follow (s ∷ ss) m l c =
      (cond_case (Follows k s ss m) (buffer_short s.room) (silent 1 m) (sampled s.bits m)
      (λ _. record { input = samples_follow ss m l c })
      (λ _. accepts s ss m l c (samples_follow ss (sampled s.bits m).after))).input

-- agreeing in the four is having the same input
same_input : (k : ℕ) (m n : Module) → AgreeIn k m n → input_at (k - 1) (counting_of m) ≡ input_at (k - 1) (counting_of n)
same_input k m n a = rw (same_line _ _ a.stable a.run, a.mode, a.counter)
  where
    same_line : (x y : Line) → x.stable ≡ y.stable → x.run ≡ y.run → line x.stable x.run ≡ line y.stable y.run
    same_line x y p q = rw (p, q)

pub one_input_alone : OneInputAlone
one_input_alone k l m n hm hn e a ss ts b =
    let same : input_at (k - 1) (counting_of (run m (sample_calls ss))) ≡ input_at (k - 1) (counting_of (run n (sample_calls ts))) =
    samples_follow k ss m (omega (arith, hm.line)) (omega (arith, hm.counter))
    ∙ (rw (b, same_input k m n a, e))
    ∙ sym (samples_follow k ts n (omega (arith, hn.line)) (omega (arith, hn.counter))) in
    record {
      stable = ap (λ (x : Input). x.line.stable) same;
      run = ap (λ (x : Input). x.line.run) same;
      mode = ap (λ (x : Input). x.mode) same;
      counter = ap (λ (x : Input). x.counter) same;
    }

-- What the module's inputs and the tally agree in, for one input; from where they agree, and after a sample. Assumes nothing.
use Prim.Native.Nat.{ℕ, suc, ◌+◌, ◌-◌, ◌*◌, ◌/◌, ◌%◌, ◌^◌, ◌≤◌, ◌<◌}
use native.Mathlib.Omega.{arith}
use mathlib.Core.Path.{◌≡◌, refl, ap, ◌∙◌}
use mathlib.Core.Bool.{Bool, true, false, cond}
use lib.ListN.{length, get_or, replicate, get_or-replicate}
use Rattle.lists.specs.Numbers.{bit_at}
use Rattle.model.specs.declared.Module.{Module}
use Rattle.model.specs.declared.Line.{Line}
use Rattle.model.specs.State.{fresh_line, fresh_module}
use Rattle.model.specs.Samples.{counter_modulus, line_sampled, selected_edge, counted}
use Rattle.model.specs.Tally.{Tally, Account, sampled_account, sampled_bit, fresh_tally}
use Rattle.model.specs.Cycles.{Counting, counting_of, Agree}
use Rattle.model.proofs.Bridge.{account, sampled_agrees}
use Rattle.model.proofs.InputSampled.{counting_sampled, line_at, counter_at, lines_kept, counters_kept}

-- n and u are the tally's sampling number and its account of the input in place i, whose number is i + 1
pub record At (i : ℕ) (x : Counting) (n : ℕ) (u : Account) : Type 0 where
  pub sampling : x.sampling ≡ n
  pub stable : cond (get_or x.lines i fresh_line).stable 1 0 ≡ u.stable
  pub run : (get_or x.lines i fresh_line).run ≡ u.run
  pub mode : get_or x.modes i 0 ≡ u.mode
  pub lines : length x.lines ≡ 16
  pub modes : length x.modes ≡ 16
  pub counters : length x.counters ≡ 16
  pub times : ℕ
  pub sum : u.edges ≡ u.collected + get_or x.counters i 0 + 4294967296 * times

abbrev pub Inv : ℕ → Counting → Tally → Type 0
Inv i x t = At i x t.sampling (t.input (suc i))

-- the sum that a module and a tally agree in, by the input's place
pub exact_at : (i : ℕ) (m : Module) (t : Tally) → Agree (suc i) m t → (t.input (suc i)).edges ≡ (t.input (suc i)).collected + get_or m.inputs.counters i 0
exact_at i m t a =
    let place : suc i - 1 ≡ i = omega arith in
    rw place at a.sum

-- all that they agree in
pub agreed : (i : ℕ) (m : Module) (t : Tally) → Agree (suc i) m t → Inv i (counting_of m) t
agreed i m t a =
    let place : suc i - 1 ≡ i = omega arith in
    record {
      sampling = a.alike.sampling;
      stable = rw place at a.alike.stable;
      run = rw place at a.alike.run;
      mode = rw place at a.alike.mode;
      lines = a.alike.lines;
      modes = a.alike.modes;
      counters = a.alike.counters;
      times = 0;
      sum = omega (arith, exact_at i m t a);
    }

-- fresh ones agree in every input
pub fresh_agrees : (k : ℕ) → 1 ≤ k → k ≤ 16 → Agree k fresh_module fresh_tally
unfolding fresh_module
fresh_agrees k l h =
    let zeros : ◌≡◌ {A = ℕ} (get_or (replicate 16 0) (k - 1) 0) 0 = get_or-replicate {A = ℕ} 16 (k - 1) 0 0 (omega arith) in
    let idle : get_or (replicate 16 fresh_line) (k - 1) fresh_line ≡ fresh_line = get_or-replicate {A = Line} 16 (k - 1) fresh_line fresh_line (omega arith) in
    record {
      alike = record { sampling = refl; stable = rw idle; run = rw idle; mode = zeros; lines = refl; modes = refl; counters = refl };
      sum = omega arith;
    }

-- a counter that counts, with the wraps it has made
wraps : (b : Bool) (c : ℕ) → c + cond b 1 0 ≡ counted b c + 4294967296 * cond b ((c + 1) / 4294967296) 0
unfolding counted
wraps true c =
    let width : counter_modulus ≡ 4294967296 = refl in
    rw width (omega arith)
wraps false c = omega arith

-- the same account, the state and run those of the line
as_line : (u : Account) (s : Bool) (r : ℕ) → cond s 1 0 ≡ u.stable → r ≡ u.run → u ≡ account s r u.mode u.edges u.collected
as_line u s r e q = rw (e, q)

module _ (i : ℕ) (small : i < 16) (x : Counting) (n : ℕ) (u : Account) (bits : ℕ) (v : At i x n u) where
  abbrev was : Line
  was = get_or x.lines i fresh_line

  abbrev now : Line
  now = line_sampled n (bit_at bits i) was

  line_now : get_or (counting_sampled bits x).lines i fresh_line ≡ now
  line_now = line_at i bits x (omega (arith, v.lines)) ∙ rw v.sampling

  counter_now : get_or (counting_sampled bits x).counters i 0 ≡ counted (selected_edge u.mode was now) (get_or x.counters i 0)
  counter_now = counter_at i bits x (omega (arith, v.lines)) (omega (arith, v.counters)) ∙ rw (v.sampling, v.mode)

  account_after : sampled_account n (sampled_bit bits (suc i)) u ≡ account now.stable now.run u.mode (u.edges + cond (selected_edge u.mode was now) 1 0) u.collected
  account_after =
      let place : suc i - 1 ≡ i = omega arith in
      rw place
      (ap (sampled_account n (bits / 2 ^ i % 2)) (as_line u was.stable was.run v.stable v.run)
      ∙ sampled_agrees n was.run u.mode u.edges u.collected (bits / 2 ^ i % 2) was.stable (omega arith))

  pub sample_keeps : At i (counting_sampled bits x) n (sampled_account n (sampled_bit bits (suc i)) u)
  sample_keeps =
      rw account_after
      (record {
        sampling = v.sampling;
        stable = rw line_now;
        run = rw line_now;
        mode = v.mode;
        lines = lines_kept bits x ∙ v.lines;
        modes = v.modes;
        counters = counters_kept bits x ∙ v.counters;
        times = v.times + cond (selected_edge u.mode was now) ((get_or x.counters i 0 + 1) / 4294967296) 0;
        sum = rw counter_now (omega (arith, v.sum, wraps (selected_edge u.mode was now) (get_or x.counters i 0)));
      })

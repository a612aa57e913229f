-- Each instruction of the Spinel port keeps the invariant: its conditions, then the change of `Effects`, then the tally's reading by
-- `Bridge`. Assumes nothing.
use Prim.Native.Nat.{ℕ, suc, ◌+◌, ◌<◌}
use mathlib.Core.Path.{◌≡◌, refl}
use mathlib.Core.List.{List, ◌∷◌, ◌++◌}
use mathlib.Core.Bool.{Bool, false, true≢false}
use lib.ListN.{length, get_or, drop}
use lib.Dec.{eqb}
use borrow.Author.Tests.{not-false}
use Rattle.lists.specs.Entries.{entries}
use Rattle.lists.proofs.Choices.{cond_case, cond_eq}
use Rattle.model.specs.declared.Module.{Module}
use Rattle.model.specs.State.{with_counters, with_modes, with_sampling}
use Rattle.model.specs.Refusals.{Request, not_listed, on_part}
use Rattle.model.specs.Samples.{counter_bits, counter_bytes}
use Rattle.model.specs.Counters.{list_read, read_counters, parameters, values_read, deduct_counters, clear_all, deduct, set_modes_list, set_modes, set_sampling, read_sampling, set_port, read_port, reset_module, reset}
use Rattle.model.specs.Outputs.{read_states}
use Rattle.model.specs.Notice.{read_notice}
use Rattle.model.specs.Temperature.{read_temperature, read_thermostats}
use Rattle.model.specs.SumTest.{read_sum_test}
use Rattle.model.specs.Spinel.{SpinelRequest, spinel_asked}
use Rattle.model.specs.Tally.{Tally, Account, with_mode, changed, spinel_collects, spinel_clears, spinel_resets, spinel_mode, spinel_sampling, spinel_tallied}
use Rattle.model.proofs.Bridge.{amounts_agree, modes_given, taken_agrees, kept}
use Rattle.model.specs.Cycles.{Counting, counting_of}
use Rattle.model.proofs.Invariant.{Inv}
use Rattle.model.proofs.Judged.{order}
use Rattle.model.proofs.OneInput.{mode_after}
use Rattle.model.proofs.Accepted.{Good}
use Rattle.model.proofs.Effects as effects

module _ (i : ℕ) (small : i < 16) (m : Module) (t : Tally) (v : Inv i (counting_of m) t) (d : List ℕ) (framed : List ℕ → List ℕ) where
  abbrev x : Counting
  x = counting_of m

  abbrev u : Account
  u = t.input (suc i)

  -- an accepted request with instruction c
  abbrev pub by : ℕ → List ℕ → Tally
  by c b = spinel_tallied c d (framed b) t

  -- an instruction that the tally does not name
  idle : (c : ℕ) (r : List ℕ)
      → eqb c 0x60 ≡ false
      → eqb c 0x61 ≡ false
      → eqb c 0x62 ≡ false
      → eqb c 0x6A ≡ false
      → eqb c 0xE0 ≡ false
      → eqb c 0xE3 ≡ false
      → Inv i x (spinel_tallied c d r t)
  unfolding spinel_sampling spinel_resets spinel_clears spinel_mode spinel_collects changed
  idle c r h60 h61 h62 h6a he0 he3 = rw (h60, h61, h62, h6a, he0, he3, kept u) v

  read_good : (s : List ℕ → List ℕ) → ((bs : List ℕ) → drop 8 (framed (counter_bits ∷ bs)) ≡ bs ++ s bs)
      → Good i (by 0x60) (on_part (with_counters m) (read_counters d m.inputs.counters))
  unfolding order read_counters spinel_sampling spinel_resets spinel_clears spinel_mode spinel_collects changed
  read_good s e = record {
    keeps = λ p. rw (taken_agrees i d) (effects.reads i small x t.sampling u v (parameters d) _ (s _) (not-false _ (p.at 11 refl)) (e (values_read (parameters d) x.counters)));
  }

  deduct_good : Good i (by 0x61) (on_part (with_counters m) (deduct_counters d m.inputs.counters))
  unfolding order deduct_counters clear_all deduct spinel_sampling spinel_resets spinel_clears spinel_mode spinel_collects changed
  deduct_good =
      cond_case (λ q. Good i (by 0x61) (on_part (with_counters m) q)) (eqb (length d) 1) _ _
      (λ e. record { keeps = λ p. rw (e, not-false (eqb (get_or d 0 0) 0) (p.at 11 refl)) (effects.clears_all i small x t.sampling u v) })
      (λ e. record { keeps = λ p. rw (e, amounts_agree i d) (effects.deducts i small x t.sampling u v (entries (1 + counter_bytes) d) (p.at 13 refl) (not-false _ (p.at 11 refl))) })

  modes_good : Good i (by 0x6A) (on_part (with_modes m) (set_modes_list d m.settings.modes))
  unfolding order set_modes_list set_modes spinel_sampling spinel_resets spinel_clears spinel_mode spinel_collects changed
  modes_good = record {
    keeps = λ p. rw (modes_given i d) (rw (kept (with_mode (mode_after i (entries 2 d) u.mode) u)) (effects.modes i small x t.sampling u v (entries 2 d) (not-false _ (p.at 11 refl))));
  }

  sampling_good : Good i (by 0x62) (on_part (with_sampling m) (set_sampling d))
  unfolding order set_sampling spinel_sampling spinel_resets spinel_clears spinel_mode spinel_collects changed
  sampling_good = record { keeps = λ p. rw (kept u) (effects.samplings i small x t.sampling u v (get_or d 0 0)) }

  reset_good : Good i (by 0xE3) (reset_module d m)
  unfolding reset_module reset spinel_sampling spinel_resets changed
  reset_good = record { keeps = λ p. effects.resets i small x t.sampling u v }

  address_good : (a b : Bool) → Good i (by 0xE0) (set_port a b d m)
  unfolding set_port reset spinel_sampling spinel_resets changed
  address_good a b = record { keeps = λ p. effects.resets i small x t.sampling u v }

  -- a request that leaves the inputs as they are, by such an instruction
  still : (c : ℕ) (q : Request Module) → counting_of q.after ≡ x
      → eqb c 0x60 ≡ false
      → eqb c 0x61 ≡ false
      → eqb c 0x62 ≡ false
      → eqb c 0x6A ≡ false
      → eqb c 0xE0 ≡ false
      → eqb c 0xE3 ≡ false
      → Good i (by c) q
  still c q e h60 h61 h62 h6a he0 he3 = record { keeps = λ p. rw e (idle c (framed q.reply) h60 h61 h62 h6a he0 he3) }

  unlisted_good : (c : ℕ) → Good i (by c) (not_listed m)
  unfolding order
  unlisted_good c = record { keeps = λ p. absurd (true≢false (p.at 7 refl)) }

  -- every instruction; `tail` says where the data of a reply to 60H stand
  pub spinel_good : (q : SpinelRequest) (c : ℕ) (s : List ℕ → List ℕ) → q.content ≡ d → q.instruction ≡ c
      → (c ≡ 0x60 → (bs : List ℕ) → drop 8 (framed (counter_bits ∷ bs)) ≡ bs ++ s bs)
      → Good i (by c) (spinel_asked q m)
  unfolding spinel_asked read_notice read_thermostats read_states list_read read_temperature read_sampling read_port read_sum_test
  spinel_good q c s ed ec tail =
      rw (ed, ec)
      (cond_eq P c 0x10 _ _ (λ e. rw e (still 0x10 _ refl refl refl refl refl refl refl))
      (cond_eq P c 0x11 _ _ (λ e. rw e (still 0x11 _ refl refl refl refl refl refl refl))
      (cond_eq P c 0x1A _ _ (λ e. rw e (still 0x1A _ refl refl refl refl refl refl refl))
      (cond_eq P c 0x1B _ _ (λ e. rw e (still 0x1B _ refl refl refl refl refl refl refl))
      (cond_eq P c 0x20 _ _ (λ e. rw e (still 0x20 _ refl refl refl refl refl refl refl))
      (cond_eq P c 0x23 _ _ (λ e. rw e (still 0x23 _ refl refl refl refl refl refl refl))
      (cond_eq P c 0x25 _ _ (λ e. rw e (still 0x25 _ refl refl refl refl refl refl refl))
      (cond_eq P c 0x26 _ _ (λ e. rw e (still 0x26 _ refl refl refl refl refl refl refl))
      (cond_eq P c 0x30 _ _ (λ e. rw e (still 0x30 _ refl refl refl refl refl refl refl))
      (cond_eq P c 0x31 _ _ (λ e. rw e (still 0x31 _ refl refl refl refl refl refl refl))
      (cond_eq P c 0x33 _ _ (λ e. rw e (still 0x33 _ refl refl refl refl refl refl refl))
      (cond_eq P c 0x36 _ _ (λ e. rw e (still 0x36 _ refl refl refl refl refl refl refl))
      (cond_eq P c 0x38 _ _ (λ e. rw e (still 0x38 _ refl refl refl refl refl refl refl))
      (cond_eq P c 0x40 _ _ (λ e. rw e (still 0x40 _ refl refl refl refl refl refl refl))
      (cond_eq P c 0x41 _ _ (λ e. rw e (still 0x41 _ refl refl refl refl refl refl refl))
      (cond_eq P c 0x51 _ _ (λ e. rw e (still 0x51 _ refl refl refl refl refl refl refl))
      (cond_eq P c 0x60 _ _ (λ e. rw e (read_good s (tail e)))
      (cond_eq P c 0x61 _ _ (λ e. rw e deduct_good)
      (cond_eq P c 0x62 _ _ (λ e. rw e sampling_good)
      (cond_eq P c 0x63 _ _ (λ e. rw e (still 0x63 _ refl refl refl refl refl refl refl))
      (cond_eq P c 0x6A _ _ (λ e. rw e modes_good)
      (cond_eq P c 0x6B _ _ (λ e. rw e (still 0x6B _ refl refl refl refl refl refl refl))
      (cond_eq P c 0xE0 _ _ (λ e. rw e (address_good q.permitted q.to_universal))
      (cond_eq P c 0xE3 _ _ (λ e. rw e reset_good)
      (cond_eq P c 0xE4 _ _ (λ e. rw e (still 0xE4 _ refl refl refl refl refl refl refl))
      (cond_eq P c 0xEE _ _ (λ e. rw e (still 0xEE _ refl refl refl refl refl refl refl))
      (cond_eq P c 0xF0 _ _ (λ e. rw e (still 0xF0 _ refl refl refl refl refl refl refl))
      (cond_eq P c 0xFE _ _ (λ e. rw e (still 0xFE _ refl refl refl refl refl refl refl))
      (unlisted_good c)))))))))))))))))))))))))))))
    where
      P : Request Module → Type 0
      P r = Good i (by c) r

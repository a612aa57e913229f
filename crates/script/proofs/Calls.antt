-- A call by its first word and what follows it. Assumes nothing.
use Prim.Native.Nat.{ℕ, ◌<◌, ◌≤◌}
use native.Mathlib.Omega.{arith}
use mathlib.Core.Path.{◌≡◌}
use mathlib.Core.Bool.{true, false, ◌||◌}
use mathlib.Core.List.{List, [], ◌∷◌}
use lib.Dec.{eqb, ltb}
use borrow.Author.Tests.{lt-ltb, le-ltb, ne_eqb}
use Rattle.std.specs.Prelude.{Option, Some, None, Result, Ok, Err, MatchOption}
use Rattle.std.specs.Option.{is_some}
use Rattle.std.specs.Result.{IsErr, IsErrAnd}
use Rattle.model.specs.Temperature.{signed_of}
use Rattle.digits.specs.Reading.{hex, decimal, signed_decimal}
use Rattle.script.specs.Words.{same}
use Rattle.script.specs.Lines.{of_kind, wrong, good_samples, good_tenths, sampled, sample, toggle, temperature, tenths_of, framed, text_frame, texted, fault_word, sample_word, toggle_word, temperature_word, spinel_word, modbus_word, text_word, keyword, called}
use Rattle.script.specs.declared.Reason.{Reason}

-- what a `?` returns of an error
pub failed : {A : Type 0} (r : Result A Reason) {e d : Reason} → IsErr r × IsErrAnd r (λ x. x ≡ e) → e ≡ d → r ≡ Err d
failed (Ok l) h f = absurd h.1
failed (Err x) h f = rw (h.1, f)

-- the word that was found
pub word_there : {A : Type 0} (P : Type 0) (Q : A → Type 0) {o : Option A} {x : A} → MatchOption o P Q → o ≡ Some x → Q x
word_there P Q h e = rw e at h

-- where no word was found, none is left
pub no_word : {A : Type 0} (o : Option A) {P : Type 0} (Q : A → Type 0) → false ≡ is_some o → MatchOption o P Q → P
no_word None Q e h = h
no_word (Some x) Q e h = absurd (let z : ⊥ = cc in z)

-- bits and times by their numbers
module _ (k : ℕ) (b n : ℕ) where
  pub sampled_first : (a : ℕ) → 65536 ≤ a → wrong 2 ≡ sampled k a b n
  unfolding sampled
  sampled_first a h = rw (le-ltb a 65536 h)

  module _ {x a : ℕ} (e : x ≡ a) (h : x < 65536) where
    pub sampled_second : 65536 ≤ b → wrong 2 ≡ sampled k a b n
    unfolding sampled
    sampled_second i = rw (lt-ltb a 65536 (rw e at h), le-ltb b 65536 i)

    module _ {y : ℕ} (f : y ≡ b) (i : y < 65536) where
      pub sampled_times : (eqb n 0 || ltb 65535 n) ≡ true → wrong 3 ≡ sampled k a b n
      unfolding sampled
      sampled_times j = rw (lt-ltb a 65536 (rw e at h), lt-ltb b 65536 (rw f at i), j)

      pub sampled_good : {m : ℕ} → m ≡ n → 0 < m → m < 65536 → good_samples k x y m ≡ sampled k a b n
      unfolding sampled
      sampled_good {m} g j l =
          let some : n ≡ 0 → ⊥ = λ z. omega (arith, g) in
          let few : n ≤ 65535 = omega (arith, g) in
          rw (e, f, g) (rw (lt-ltb a 65536 (rw e at h), lt-ltb b 65536 (rw f at i), ne_eqb n 0 some, le-ltb 65535 n few))

-- the words after `sample`, `toggle` and `temperature`
module _ {p q : List (List ℕ)} {a : List ℕ} (e : p ≡ a ∷ q) where
  pub sample_one : q ≡ [] → sampled 1 (hex 4 a) 0 1 ≡ sample p
  unfolding sample
  sample_one n = rw (e, n)

  pub temperature_fault : q ≡ [] → same a fault_word ≡ true → of_kind 3 ≡ temperature p
  unfolding temperature
  temperature_fault n h = rw (e, n, h)

  pub temperature_good : q ≡ [] → same a fault_word ≡ false → tenths_of (signed_decimal a) ≡ temperature p
  unfolding temperature
  temperature_good n h = rw (e, n, h)

  module _ {r : List (List ℕ)} {b : List ℕ} (f : q ≡ b ∷ r) where
    pub sample_two : r ≡ [] → sampled 1 (hex 4 a) 0 (decimal b) ≡ sample p
    unfolding sample
    sample_two n = rw (e, f, n)

    pub toggle_three : {s : List (List ℕ)} {d : List ℕ} → r ≡ d ∷ s → s ≡ [] → sampled 7 (hex 4 a) (hex 4 b) (decimal d) ≡ toggle p
    unfolding toggle
    toggle_three g n = rw (e, f, g, n)

pub tenths_good : (p : ℕ) → p < 65536 → good_tenths (signed_of p) ≡ tenths_of p
unfolding tenths_of
tenths_good p h = rw (lt-ltb p 65536 h)

pub tenths_none : (p : ℕ) → 65536 ≤ p → wrong 3 ≡ tenths_of p
unfolding tenths_of
tenths_none p h = rw (le-ltb p 65536 h)

-- by its first word
module _ (w : List ℕ) (p : List (List ℕ)) (l : List ℕ) where
  pub called_sample : same w sample_word ≡ true → sample p ≡ called (keyword w) p l
  unfolding keyword called
  called_sample e = rw e

  module _ (a : same w sample_word ≡ false) where
    pub called_toggle : same w toggle_word ≡ true → toggle p ≡ called (keyword w) p l
    unfolding keyword called
    called_toggle e = rw (a, e)

    module _ (b : same w toggle_word ≡ false) where
      pub called_temperature : same w temperature_word ≡ true → temperature p ≡ called (keyword w) p l
      unfolding keyword called
      called_temperature e = rw (a, b, e)

      module _ (d : same w temperature_word ≡ false) where
        pub called_spinel : same w spinel_word ≡ true → framed (of_kind 4) p ≡ called (keyword w) p l
        unfolding keyword called
        called_spinel e = rw (a, b, d, e)

        module _ (f : same w spinel_word ≡ false) where
          pub called_modbus : same w modbus_word ≡ true → framed (of_kind 5) p ≡ called (keyword w) p l
          unfolding keyword called
          called_modbus e = rw (a, b, d, f, e)

          module _ (g : same w modbus_word ≡ false) where
            pub called_text : same w text_word ≡ true → texted (text_frame l) ≡ called (keyword w) p l
            unfolding keyword called
            called_text e = rw (a, b, d, f, g, e)

            pub called_other : same w text_word ≡ false → wrong 1 ≡ called (keyword w) p l
            unfolding keyword called
            called_other e = rw (a, b, d, f, g, e)

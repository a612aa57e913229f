-- The tally's reading of samples and frames against the module's. Assumes nothing.
use Prim.Native.Nat.{ℕ, zero, suc, ◌+◌, ◌-◌, ◌*◌, ◌%◌, ◌≤◌, ◌<◌}
use native.Mathlib.Nat.{add-zero}
use native.Mathlib.Omega.{arith}
use mathlib.Core.Path.{◌≡◌, refl, sym, ap, ◌∙◌}
use mathlib.Core.List.{List, [], ◌∷◌, map}
use mathlib.Core.Bool.{Bool, true, false, cond, not, ◌&&◌, ◌||◌, and-false}
use lib.ListN.{length, get_or, drop, length-take, length-drop}
use lib.Seq.{get_or-take, get_or-drop}
use lib.Dec.{leb, ltb, eqb}
use borrow.Author.Tests.{leb-true, leb-false, eqb-true, eqb-false, ltb-true, ltb-false, le-leb, lt-leb, lt-ltb, le-ltb, eq-eqb, ne_eqb, not-false}
use Rattle.lists.specs.Tests.{within}
use Rattle.lists.specs.Chunks.{chunks, chunks_of}
use Rattle.lists.specs.Numbers.{number}
use Rattle.lists.specs.declared.Entry.{Entry}
use Rattle.lists.specs.Entries.{entries, entry_of, numbered}
use Rattle.lists.proofs.Choices.{and_left, and_right, within_low}
use Rattle.lists.proofs.ChunkLaws.{chunks_cons, entries_cons}
use Rattle.model.specs.State.{line}
use Rattle.model.specs.Samples.{counter_bytes, line_sampled, selects, selected_edge}
use Rattle.model.specs.Frames.{modbus_body}
use Rattle.model.specs.Counters.{zeroes, number_in, parameters, every_number}
use Rattle.model.specs.Modbus.{start_of, second_of, count_wrong, words}
use Rattle.model.specs.Tally.{Account, with_run, with_mode, collect, clear, selected_by, sampled_account, two_at, amounts, mode_given, value_at, taken_by, taken_from, quantity, writes, written, modbus_collects, modbus_clears, modbus_resets, modbus_mode, changed}
use Rattle.model.proofs.OneInput.{collected_by, mode_after, named, Once, here, there, none_collected, none_mode, once_collected, once_mode, once_named}

-- samples ---------------------------------------------------------------------

selects_agree : (mode b : ℕ) → b ≤ 1 → selected_by mode b ≡ cond (selects mode (eqb b 1)) 1 0
unfolding selected_by selects
selects_agree zero zero h = refl
selects_agree zero (suc zero) h = refl
selects_agree (suc zero) zero h = refl
selects_agree (suc zero) (suc zero) h = refl
selects_agree (suc (suc zero)) zero h = refl
selects_agree (suc (suc zero)) (suc zero) h = refl
selects_agree (suc (suc (suc zero))) zero h = refl
selects_agree (suc (suc (suc zero))) (suc zero) h = refl
selects_agree (suc (suc (suc (suc m)))) b h =
    rw (
      ne_eqb (suc (suc (suc (suc m)))) 1 (λ q. omega arith),
      ne_eqb (suc (suc (suc (suc m)))) 2 (λ q. omega arith),
      ne_eqb (suc (suc (suc (suc m)))) 3 (λ q. omega arith),
    )
selects_agree zero (suc (suc b)) h = absurd (omega arith)
selects_agree (suc zero) (suc (suc b)) h = absurd (omega arith)
selects_agree (suc (suc zero)) (suc (suc b)) h = absurd (omega arith)
selects_agree (suc (suc (suc zero))) (suc (suc b)) h = absurd (omega arith)

-- an account with the state and the run of a line
abbrev pub account : Bool → ℕ → ℕ → ℕ → ℕ → Account
account stable run mode edges collected = record { stable = cond stable 1 0; run = run; mode = mode; edges = edges; collected = collected }

module _ (n r mode e c : ℕ) where
  abbrev Agrees : ℕ → Bool → Type 0
  Agrees b s =
      sampled_account n b (account s r mode e c)
      ≡ account (line_sampled n (eqb b 1) (line s r)).stable (line_sampled n (eqb b 1) (line s r)).run mode (e + cond (selected_edge mode (line s r) (line_sampled n (eqb b 1) (line s r))) 1 0) c

  -- y: with this sample the run is long enough
  by_run : (b : ℕ) (s y : Bool) → b ≤ 1 → leb n (r + 1) ≡ y → ltb (r + 1) n ≡ not y → Agrees b s
  unfolding sampled_account line_sampled selected_edge
  by_run zero false y h p q = rw (add-zero e)
  by_run (suc zero) true y h p q = rw (add-zero e)
  by_run zero true true h p q = rw (p, q, selects_agree mode 0 (omega arith))
  by_run zero true false h p q = rw (p, q, add-zero e)
  by_run (suc zero) false true h p q = rw (p, q, selects_agree mode 1 (omega arith))
  by_run (suc zero) false false h p q = rw (p, q, add-zero e)
  by_run (suc (suc b)) true y h p q = absurd (omega arith)
  by_run (suc (suc b)) false y h p q = absurd (omega arith)

  -- one input's account after a sample is that of its line after it
  pub sampled_agrees : (b : ℕ) (s : Bool) → b ≤ 1 → Agrees b s
  sampled_agrees b s h = go (leb n (r + 1)) refl
    where
      go : (y : Bool) → leb n (r + 1) ≡ y → Agrees b s
      go true p = by_run b s true h p (le-ltb (r + 1) n (leb-true n (r + 1) p))
      go false p = by_run b s false h p (lt-ltb (r + 1) n (leb-false n (r + 1) p))

-- lists of entries --------------------------------------------------------------

-- four bytes as two words, and one after another
four_bytes : (a b c e : ℕ) → (a * 256 + b) * 65536 + (c * 256 + e) ≡ number (a ∷ b ∷ c ∷ e ∷ [])
four_bytes a b c e = omega arith

pub amounts_agree : (i : ℕ) (d : List ℕ) → amounts (suc i) d ≡ collected_by i (entries (1 + counter_bytes) d)
unfolding amounts collected_by entries entry_of chunks chunks_of
amounts_agree i [] = refl
amounts_agree i (n ∷ []) = refl
amounts_agree i (n ∷ a ∷ []) = refl
amounts_agree i (n ∷ a ∷ b ∷ []) = refl
amounts_agree i (n ∷ a ∷ b ∷ c ∷ []) = refl
amounts_agree i (n ∷ a ∷ b ∷ c ∷ e ∷ d) =
    ap (λ v. cond (eqb n (suc i)) v 0 + amounts (suc i) d) (four_bytes a b c e)
    ∙ ap (cond (eqb n (suc i)) (number (a ∷ b ∷ c ∷ e ∷ [])) 0 +◌) (amounts_agree i d)
    ∙ sym (ap (collected_by i) (entries_cons 5 0 (n ∷ a ∷ b ∷ c ∷ e ∷ d) (omega arith) (omega arith)))

pub modes_given : (i : ℕ) (d : List ℕ) (m : ℕ) → mode_given (suc i) d m ≡ mode_after i (entries 2 d) m
unfolding mode_given mode_after entries entry_of chunks chunks_of
modes_given i [] m = refl
modes_given i (n ∷ []) m = refl
modes_given i (n ∷ v ∷ d) m =
    modes_given i d (cond (eqb n (suc i)) v m)
    ∙ sym (ap (λ es. mode_after i es m) (entries_cons 2 0 (n ∷ v ∷ d) (omega arith) (omega arith)))

-- 60H: 0 alone is the same as all sixteen numbers ----------------------------------

-- the m parameters for the numbers from k + 1 on, with bit 7 or without
abbrev one : Bool → ℕ → ℕ
one b x = cond b 128 0 + suc x

upwards : ℕ → ℕ → Bool → List ℕ
upwards k zero b = []
upwards k (suc m) b = one b k ∷ upwards (suc k) m b

-- one of the sixteen
takes : (i x j : ℕ) (b : Bool) (r : List ℕ) → x < 16 → taken_by (suc i) (one b x) j r ≡ cond (b && eqb x i) (value_at r j) 0
unfolding taken_by
takes i x j true r h =
    let n : (128 + suc x) % 64 ≡ suc x = omega arith in
    rw (le-leb 128 (128 + suc x) (omega arith), n, ne_eqb (suc x) 0 (λ q. omega arith)) (go (eqb x i) refl)
  where
    go : (e : Bool) → eqb x i ≡ e → cond (eqb (suc x) (suc i)) (value_at r j) 0 ≡ cond e (value_at r j) 0
    go true q = rw (eq-eqb (suc x) (suc i) (omega (arith, eqb-true x i q)))
    go false q = rw (ne_eqb (suc x) (suc i) (λ s. eqb-false x i q (omega arith)))
takes i x j false r h = rw (lt-leb 128 (0 + suc x) (omega arith))

-- a place that is not input i's adds nothing
other_place : (i k : ℕ) (b : Bool) (r : List ℕ) {n v : ℕ} → n ≡ v → cond (b && false) (value_at r k) 0 + n ≡ v
other_place i k true r q = omega arith
other_place i k false r q = omega arith

takes_none : (i m k : ℕ) (b : Bool) (r : List ℕ) → k + m ≤ 16 → i < k → taken_from (suc i) (upwards k m b) k r ≡ 0
unfolding taken_from upwards
takes_none i zero k b r h l = refl
takes_none i (suc m) k b r h l =
    rw (takes i k k b r (omega arith), ne_eqb k i (λ q. omega arith))
    (other_place i k b r (takes_none i m (suc k) b r (omega arith) (omega arith)))

takes_one : (i m k : ℕ) (b : Bool) (r : List ℕ) → k + m ≤ 16 → k ≤ i → i < k + m → taken_from (suc i) (upwards k m b) k r ≡ cond b (value_at r i) 0
unfolding taken_from upwards
takes_one i zero k b r h l u = absurd (omega arith)
takes_one i (suc m) k b r h l u = go (eqb k i) refl (takes_one i m (suc k) b r (omega arith))
  where
    go : (e : Bool) → eqb k i ≡ e → (suc k ≤ i → i < suc k + m → taken_from (suc i) (upwards (suc k) m b) (suc k) r ≡ cond b (value_at r i) 0)
        → taken_by (suc i) (one b k) k r + taken_from (suc i) (upwards (suc k) m b) (suc k) r ≡ cond b (value_at r i) 0
    go true q f =
        let s : k ≡ i = eqb-true k i q in
        rw (takes i k k b r (omega arith), q, takes_none i m (suc k) b r (omega arith) (omega arith)) (rw s (both b))
      where
        both : (b : Bool) → cond (b && true) (value_at r i) 0 + 0 ≡ cond b (value_at r i) 0
        both true = add-zero (value_at r i)
        both false = refl
    go false q f =
        rw (takes i k k b r (omega arith), q) (other_place i k b r (f (omega (arith, eqb-false k i q)) (omega arith)))

-- the one parameter p with number 0
takes_all : (i p : ℕ) (b : Bool) (r : List ℕ) → zeroes p ≡ b → number_in p ≡ 0 → taken_from (suc i) (p ∷ []) 0 r ≡ cond b (value_at r i) 0
unfolding taken_from taken_by
takes_all i p b r e q =
    let place : suc i - 1 ≡ i = omega arith in
    rw (e, q, ne_eqb 0 (suc i) (λ s. omega arith), place, add-zero (cond b (value_at r i) 0))

every : (b : Bool) → cond b (map (λ n. 128 + n) every_number) every_number ≡ upwards 0 16 b
unfolding upwards
every true = refl
every false = refl

pub taken_agrees : (i : ℕ) (d r : List ℕ) → i < 16 → taken_from (suc i) d 0 r ≡ taken_from (suc i) (parameters d) 0 r
unfolding parameters
taken_agrees i [] r h = refl
taken_agrees i (p ∷ []) r h = go (eqb (number_in p) 0) refl
  where
    go : (x : Bool) → eqb (number_in p) 0 ≡ x
        → taken_from (suc i) (p ∷ []) 0 r ≡ taken_from (suc i) (cond (true && x) (cond (zeroes p) (map (λ n. 128 + n) every_number) every_number) (p ∷ [])) 0 r
    go true e =
        takes_all i p (zeroes p) r refl (eqb-true (number_in p) 0 e)
        ∙ sym (takes_one i 16 0 (zeroes p) r (omega arith) (omega arith) (omega arith))
        ∙ sym (ap (λ ps. taken_from (suc i) ps 0 r) (every (zeroes p)))
    go false e = refl
taken_agrees i (p ∷ q ∷ ps) r h = rw (ne_eqb (length (p ∷ q ∷ ps)) 1 (λ s. omega arith))

-- registers --------------------------------------------------------------------

-- the two bytes of register j among some values
words_at : (d : List ℕ) (j : ℕ) → 2 * j + 1 < length d → get_or (words d) j 0 ≡ two_at d (2 * j)
unfolding words
words_at [] j h = absurd (omega arith)
words_at (a ∷ []) j h = absurd (omega arith)
words_at (a ∷ b ∷ d) zero h = rw (chunks_cons 2 0 (a ∷ b ∷ d) (omega arith) (omega arith))
words_at (a ∷ b ∷ d) (suc j) h =
    let two : 2 * suc j ≡ suc (suc (2 * j)) = omega arith in
    let more : suc (suc (2 * j)) + 1 ≡ suc (suc (2 * j + 1)) = omega arith in
    rw (chunks_cons 2 0 (a ∷ b ∷ d) (omega arith) (omega arith), two, more) (words_at d j (omega arith))

length-words : (d : List ℕ) (n : ℕ) → length d ≡ 2 * n → length (words d) ≡ n
unfolding words chunks chunks_of
length-words [] n h = omega arith
length-words (a ∷ []) n h = absurd (omega arith)
length-words (a ∷ b ∷ d) zero h = absurd (omega arith)
length-words (a ∷ b ∷ d) (suc n) h =
    ap (λ (cs : List (List ℕ)). length (map number cs)) (chunks_cons 2 0 (a ∷ b ∷ d) (omega arith) (omega arith))
    ∙ ap suc (length-words d n (omega arith))

-- places of the body are places of the frame
body_at : (f : List ℕ) (k : ℕ) → k + 4 < length f → get_or (modbus_body f) k 0 ≡ get_or f (2 + k) 0
body_at f k h = get_or-take (length f - 4) (drop 2 f) k 0 (omega arith) ∙ get_or-drop 2 f k 0

length-body : (f : List ℕ) → length (modbus_body f) ≡ length f - 4
length-body f = simp (length-take, length-drop) (omega arith)

-- the values vs that the module takes from an accepted write are those that the tally reads
pub record Values (f vs : List ℕ) : Type 0 where
  pub start : start_of (modbus_body f) ≡ two_at f 2
  pub some : 1 ≤ quantity f
  pub size : length vs ≡ quantity f
  pub value : (j : ℕ) → j < quantity f → get_or vs j 0 ≡ two_at f (cond (eqb (get_or f 1 0) 0x06) 4 7 + 2 * j)

-- 06
pub single : (f : List ℕ) → get_or f 1 0 ≡ 0x06 → length (modbus_body f) ≡ 4 → Values f (second_of (modbus_body f) ∷ [])
single f e h =
    let long : length f ≡ 8 = omega (arith, length-body f) in
    let second : second_of (modbus_body f) ≡ two_at f 4 = rw (body_at f 2 (omega arith), body_at f 3 (omega arith)) in
    record {
      start = rw (body_at f 0 (omega arith), body_at f 1 (omega arith));
      some = rw e (omega arith);
      size = rw e;
      value = λ j l. rw e (only j (rw e at l) second);
    }
  where
    only : (j : ℕ) → j < 1 → second_of (modbus_body f) ≡ two_at f 4 → get_or (second_of (modbus_body f) ∷ []) j 0 ≡ two_at f (4 + 2 * j)
    only zero l q = q
    only (suc j) l q = absurd (omega arith)

-- 10H
pub several : (f : List ℕ) → get_or f 1 0 ≡ 0x10 → count_wrong 123 (2 * second_of (modbus_body f)) (modbus_body f) ≡ false → Values f (words (drop 5 (modbus_body f)))
unfolding count_wrong
several f e h =
    let ok = not-false _ h in
    let some : within 1 123 (second_of (modbus_body f)) ≡ true = and_left _ _ ok in
    let few : 1 ≤ second_of (modbus_body f) = within_low 1 123 _ some in
    let whole = and_right (within 1 123 (second_of (modbus_body f))) _ ok in
    let long : length (modbus_body f) ≡ 5 + 2 * second_of (modbus_body f) = eqb-true _ _ (and_right (eqb (get_or (modbus_body f) 4 0) (2 * second_of (modbus_body f))) _ whole) in
    let all : length f ≡ 9 + 2 * second_of (modbus_body f) = omega (arith, length-body f) in
    let second : second_of (modbus_body f) ≡ two_at f 4 = rw (body_at f 2 (omega arith), body_at f 3 (omega arith)) in
    let rest : length (drop 5 (modbus_body f)) ≡ 2 * second_of (modbus_body f) = simp length-drop (omega arith) in
    record {
      start = rw (body_at f 0 (omega arith), body_at f 1 (omega arith));
      some = rw e (omega arith);
      size = rw e (length-words (drop 5 (modbus_body f)) (second_of (modbus_body f)) rest ∙ second);
      value = λ j l. rw e (there_at j (omega (arith, rw e at l)) second rest all);
    }
  where
    there_at : (j : ℕ) → j < two_at f 4 → second_of (modbus_body f) ≡ two_at f 4 → length (drop 5 (modbus_body f)) ≡ 2 * second_of (modbus_body f)
        → length f ≡ 9 + 2 * second_of (modbus_body f) → get_or (words (drop 5 (modbus_body f))) j 0 ≡ two_at f (7 + 2 * j)
    there_at j l second rest all =
        let a : 2 + (5 + 2 * j) ≡ 7 + 2 * j = omega arith in
        let b : 2 + (5 + (2 * j + 1)) ≡ 7 + 2 * j + 1 = omega arith in
        words_at (drop 5 (modbus_body f)) j (omega arith)
        ∙ rw (get_or-drop 5 (modbus_body f) (2 * j) 0, get_or-drop 5 (modbus_body f) (2 * j + 1) 0, body_at f (5 + 2 * j) (omega arith), body_at f (5 + (2 * j + 1)) (omega arith), a, b)

-- 06 and 10H
abbrev pub is_write : List ℕ → Bool
is_write f = eqb (get_or f 1 0) 0x06 || eqb (get_or f 1 0) 0x10

pub writes_in : (f : List ℕ) (x : ℕ) → is_write f ≡ true → two_at f 2 ≤ x → x < two_at f 2 + quantity f → writes f x ≡ true
unfolding writes
writes_in f x w l h = rw (w, le-leb (two_at f 2) x l, lt-ltb x (two_at f 2 + quantity f) h)

pub writes_below : (f : List ℕ) (x : ℕ) → x < two_at f 2 → writes f x ≡ false
unfolding writes
writes_below f x h = rw (lt-leb (two_at f 2) x h) (and-false (is_write f))

pub writes_above : (f : List ℕ) (x : ℕ) → two_at f 2 + quantity f ≤ x → writes f x ≡ false
unfolding writes
writes_above f x h = rw (le-ltb x (two_at f 2 + quantity f) h, and-false (leb (two_at f 2) x)) (and-false (is_write f))

-- another function writes no register
pub writes_not : (f : List ℕ) (x : ℕ) → is_write f ≡ false → writes f x ≡ false
unfolding writes
writes_not f x h = rw h

-- input i is not among the values for the numbers from s on
numbered_below : (i s : ℕ) (vs : List ℕ) → suc i < s → named i (numbered s vs) ≡ false
unfolding named numbered
numbered_below i s [] h = refl
numbered_below i s (v ∷ vs) h = rw (ne_eqb s (suc i) (λ q. omega arith)) (numbered_below i (suc s) vs (omega arith))

numbered_above : (i s : ℕ) (vs : List ℕ) → s + length vs ≤ suc i → named i (numbered s vs) ≡ false
unfolding named numbered
numbered_above i s [] h = refl
numbered_above i s (v ∷ vs) h = rw (ne_eqb s (suc i) (λ q. omega arith)) (numbered_above i (suc s) vs (omega arith))

-- or it is, once, with the value at j
numbered_in : (i s j : ℕ) (vs : List ℕ) → s + j ≡ suc i → j < length vs → Once i (numbered s vs) (get_or vs j 0)
unfolding numbered
numbered_in i s j [] e h = absurd (omega arith)
numbered_in i s zero (v ∷ vs) e h = here _ _ (eq-eqb s (suc i) (omega arith)) (numbered_below i (suc s) vs (omega arith))
numbered_in i s (suc j) (v ∷ vs) e h = there _ _ _ (ne_eqb s (suc i) (λ q. omega arith)) (numbered_in i (suc s) j vs (omega arith) (omega arith))

-- the tally's answers b and v, is it written and with what, against the entries
pub data Lookup (i : ℕ) (es : List Entry) (b : Bool) (v : ℕ) : Type 0 where
  found : b ≡ true → Once i es v → Lookup i es b v
  missing : b ≡ false → named i es ≡ false → Lookup i es b v

-- for the group of registers whose first is base + 1
pub lookup : (i base : ℕ) (f vs : List ℕ) → is_write f ≡ true → Values f vs → base < two_at f 2
    → Lookup i (numbered (two_at f 2 - base) vs) (writes f (base + suc i)) (written f (base + suc i))
unfolding written
lookup i base f vs w o h = low (ltb (base + suc i) (two_at f 2)) refl
  where
    high : (x : Bool) → ltb (base + suc i) (two_at f 2 + quantity f) ≡ x → two_at f 2 ≤ base + suc i
        → Lookup i (numbered (two_at f 2 - base) vs) (writes f (base + suc i)) (written f (base + suc i))
    high true e l =
        let u : base + suc i < two_at f 2 + quantity f = ltb-true (base + suc i) (two_at f 2 + quantity f) e in
        found (writes_in f (base + suc i) w l u)
        (rw (← o.value (base + suc i - two_at f 2) (omega arith))
        (numbered_in i (two_at f 2 - base) (base + suc i - two_at f 2) vs (omega arith) (omega (arith, o.size))))
    high false e l =
        let u : two_at f 2 + quantity f ≤ base + suc i = ltb-false (base + suc i) (two_at f 2 + quantity f) e in
        missing (writes_above f (base + suc i) u) (numbered_above i (two_at f 2 - base) vs (omega (arith, o.size)))

    low : (x : Bool) → ltb (base + suc i) (two_at f 2) ≡ x
        → Lookup i (numbered (two_at f 2 - base) vs) (writes f (base + suc i)) (written f (base + suc i))
    low true e =
        let u : base + suc i < two_at f 2 = ltb-true (base + suc i) (two_at f 2) e in
        missing (writes_below f (base + suc i) u) (numbered_below i (two_at f 2 - base) vs (omega arith))
    low false e = high (ltb (base + suc i) (two_at f 2 + quantity f)) refl (ltb-false (base + suc i) (two_at f 2) e)

module _ {i : ℕ} {es : List Entry} {b : Bool} {v : ℕ} (u : Account) where
  pub lookup_collect : Lookup i es b v → collect (collected_by i es) u ≡ collect (cond b v 0) u
  lookup_collect (found e o) = rw (e, once_collected o)
  lookup_collect (missing e n) = rw (e, none_collected i es n)

  pub lookup_mode : Lookup i es b v → with_mode (mode_after i es u.mode) u ≡ with_mode (cond b v u.mode) u
  lookup_mode (found e o) = rw (e, once_mode o u.mode)
  lookup_mode (missing e n) = rw (e, none_mode i es u.mode n)

  pub lookup_clear : Lookup i es b v → cond (named i es) (clear u) u ≡ cond b (clear u) u
  lookup_clear (found e o) = rw (e, once_named o)
  lookup_clear (missing e n) = rw (e, n)

-- which register of an input an accepted write reaches, by where it starts and ends ------------

-- nothing collected and the mode kept
pub kept : (u : Account) → collect 0 (with_mode u.mode u) ≡ u
kept u = rw (add-zero u.collected)

module _ (i : ℕ) (f : List ℕ) (u : Account) (small : i < 16) where
  -- input i's account after an accepted frame
  abbrev pub after : Account
  after = changed (modbus_resets f) (modbus_clears (suc i) f) (modbus_mode (suc i) f u.mode) (modbus_collects (suc i) f) u

  pub quiet : ((x : ℕ) → 1 ≤ x → x ≤ 315 → writes f x ≡ false) → after ≡ u
  unfolding changed modbus_resets modbus_clears modbus_mode modbus_collects
  quiet q =
      rw (
        q 1 (omega arith) (omega arith),
        q 2 (omega arith) (omega arith),
        q (99 + suc i) (omega arith) (omega arith),
        q (199 + suc i) (omega arith) (omega arith),
        q (299 + suc i) (omega arith) (omega arith),
      )
      (kept u)

  pub at_counter : 100 ≤ two_at f 2 → two_at f 2 + quantity f ≤ 116 → after ≡ cond (writes f (99 + suc i)) (clear u) u
  unfolding changed modbus_resets modbus_clears modbus_mode modbus_collects
  at_counter l h =
      rw (writes_below f 1 (omega arith), writes_below f 2 (omega arith), writes_above f (199 + suc i) (omega arith), writes_above f (299 + suc i) (omega arith))
      (ap (cond (writes f (99 + suc i)) (clear u)) (kept u))

  pub at_deduction : 200 ≤ two_at f 2 → two_at f 2 + quantity f ≤ 216 → after ≡ collect (cond (writes f (199 + suc i)) (written f (199 + suc i)) 0) u
  unfolding changed modbus_resets modbus_clears modbus_mode modbus_collects
  at_deduction l h =
      rw (writes_below f 1 (omega arith), writes_below f 2 (omega arith), writes_below f (99 + suc i) (omega arith), writes_above f (299 + suc i) (omega arith))

  pub at_mode : 300 ≤ two_at f 2 → after ≡ with_mode (cond (writes f (299 + suc i)) (written f (299 + suc i)) u.mode) u
  unfolding changed modbus_resets modbus_clears modbus_mode modbus_collects
  at_mode l =
      rw (writes_below f 1 (omega arith), writes_below f 2 (omega arith), writes_below f (99 + suc i) (omega arith), writes_below f (199 + suc i) (omega arith), add-zero u.collected)

  pub at_settings : is_write f ≡ true → 1 ≤ quantity f → 1 ≤ two_at f 2 → two_at f 2 ≤ 2 → after ≡ with_run 0 (clear u)
  unfolding changed modbus_resets
  at_settings w q l h = go (eqb (two_at f 2) 1) refl
    where
      go : (x : Bool) → eqb (two_at f 2) 1 ≡ x → after ≡ with_run 0 (clear u)
      go true e = rw (writes_in f 1 w (omega (arith, eqb-true (two_at f 2) 1 e)) (omega arith))
      go false e =
          let two : two_at f 2 ≡ 2 = omega (arith, eqb-false (two_at f 2) 1 e) in
          rw (writes_below f 1 (omega arith), writes_in f 2 w (omega arith) (omega arith))

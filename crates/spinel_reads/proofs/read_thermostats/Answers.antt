-- `spinel_reads::read_thermostats` meets its contract. Assumes nothing.
use Rattle.std.proofs.Common.{rules, arith, ◌≡◌, Err, sym, refl, ◌∙◌, List, ℕ, length}
use mathlib.Core.Bool.{Bool, true, false, not, cond}
use lib.Dec.{leb}
use borrow.Author.Tests.{ltb-false}
use Rattle.lists.specs.Tests.{all}
use Rattle.lists.proofs.Choices.{below}
use Rattle.model.specs.Counters.{is_number}
use Rattle.model.specs.Temperature.{read_thermostats}
use Rattle.model.proofs.Refusing.{stops, goes, passes}
use Rattle.encoding.proofs.Telling.{told_refused, told_answered}
use Rattle.spinel_reads.proofs.ListReads.{thermostats_refused, groups_fit}
use Rattle.spinel_reads.proofs.read_thermostats.Goals as goal

holds : (b : Bool) → not b ≡ false → b ≡ true
holds true e = refl
holds false e = cc

-- 8, and what is looked at after it
abbrev many : List ℕ → Bool
many d = not (leb (length d) 12)

abbrev later : List ℕ → ℕ
later d = cond (not (all is_number d)) 11 0

pub returns-in_err-refused_if : goal.returns-in_err-refused_if
returns-in_err-refused_if c =
    let d = c.args.d.now in
    let r = c.in_err-refused_if.field-0.0 in
    let e : c.from_residual.result ≡ Err r = search rules in
    rw e (told_refused (read_thermostats d c.args.hs) r (stops (many d) 8 (later d) r (rw (below 12 (length d)) at c.in_err-refused_if.ensures) ∙ sym (thermostats_refused d c.args.hs)))

pub returns-in_err-refused_if-2 : goal.returns-in_err-refused_if-2
returns-in_err-refused_if-2 c =
    let d = c.args.d.now in
    let r = c.in_err-refused_if-2.field-0.0 in
    let e : c.from_residual-in_err-refused_if-2.result ≡ Err r = search rules in
    let few = rw (below 12 (length d)) at c.in_ok-refused_if.ensures in
    let named = rw c.all_numbers.ensures at c.in_err-refused_if-2.ensures in
    rw e (told_refused (read_thermostats d c.args.hs) r (named ∙ goes (many d) 7 (later d) few ∙ sym (thermostats_refused d c.args.hs)))

pub returns : goal.returns
unfolding read_thermostats
returns c =
    let d = c.args.d.now in
    let few = rw (below 12 (length d)) at c.in_ok-refused_if.ensures in
    let named = rw c.all_numbers.ensures at c.in_ok-refused_if-2.ensures in
    told_answered (read_thermostats d c.args.hs) _ (named ∙ goes (many d) 7 (later d) few ∙ sym (thermostats_refused d c.args.hs))
    (c.show_groups.ensures ∙ groups_fit c.args.hs d (omega (arith, ltb-false 12 (length d) (passes _ 7 c.in_ok-refused_if.ensures))) (holds _ (passes _ 10 named)))

-- `sampling::notice` meets its contract. Assumes nothing.
use Rattle.std.proofs.Common.{◌≡◌, refl, ◌∙◌, sym, ap}
use Rattle.inputs.specs.declared.Edged.{Edged}
use Rattle.model.specs.Notice.{notice_written}
use Rattle.sampling.proofs.Laws.{same_edge, not_none}
use Rattle.sampling.proofs.notice.Goals as goal

pub returns-then-is_due : goal.returns-then-is_due
unfolding notice_written
returns-then-is_due c = record {
  none = λ h. absurd (not_none c.in-Some.e (sym c.in-Some.is ∙ h));
  some = λ e es x h f s.
      let same = same_edge c.in-Some.e e (sym c.in-Some.is ∙ h) in
      let due = sym (c.is_due.ensures es (ap (λ (y : Edged). y.found) same ∙ f)) ∙ c.if-is_due.true in
      rw due (c.notice_frame.ensures x (ap (λ (y : Edged). y.states) same ∙ s));
}

pub returns-else-is_due : goal.returns-else-is_due
unfolding notice_written
returns-else-is_due c = record {
  none = λ _. refl;
  some = λ e es x h f s.
      let same = same_edge c.in-Some.e e (sym c.in-Some.is ∙ h) in
      let idle = sym (c.is_due.ensures es (ap (λ (y : Edged). y.found) same ∙ f)) ∙ c.if-is_due.false in
      rw idle;
}

pub returns-in-None : goal.returns-in-None
returns-in-None c = record { none = λ _. refl; some = λ e es x h f s. absurd (not_none e (sym h ∙ c.in-None.is)) }

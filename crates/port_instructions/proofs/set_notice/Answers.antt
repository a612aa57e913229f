-- `port_instructions::set_notice` meets its contract. Assumes nothing.
use Rattle.std.proofs.Common.{rules, ◌≡◌, refl, Err, []}
use Rattle.lists.specs.Data.{data_of}
use Rattle.model.specs.State.{with_notice}
use Rattle.model.specs.Refusals.{on_part, refusal_of}
use Rattle.model.specs.Notice.{set_notice}
use Rattle.outcomes.proofs.Laws.{refused_at, done_at}
use Rattle.port_instructions.proofs.set_notice.Goals as goal

pub returns-in_err-notice_refusal : goal.returns-in_err-notice_refusal
unfolding set_notice refusal_of
returns-in_err-notice_refusal c =
    let a = c.args in
    let e : c.from_residual.result ≡ Err c.in_err-notice_refusal.field-0.0 = search rules in
    rw e (refused_at a.m (on_part (with_notice a.m) (set_notice a.signature a.d.now a.m.settings.notice)) _ (c.in_err-notice_refusal.ensures a.signature))

pub returns : goal.returns
unfolding set_notice refusal_of
returns c =
    let a = c.args in
    rw c.without_data.ensures
    (done_at a.m (on_part (with_notice a.m) (set_notice a.signature a.d.now a.m.settings.notice)) c.with_notice.result (data_of []) (c.in_ok-notice_refusal.ensures a.signature)
    (rw (c.with_notice.ensures, c.notice_set-notice.ensures)) refl)

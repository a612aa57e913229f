-- `sampling::handle` meets its contract. Assumes nothing.
use Rattle.std.proofs.Common.{rules, ◌≡◌, length}
use Rattle.sampling.proofs.Laws.{out_law, notice_law}
use Rattle.sampling.proofs.handle.Goals as goal
use Rattle.sampling.proofs.handle.Goals.{Start}

long : (c : Start) → length c.args.m.inputs.lines ≡ 16
long c = search rules

pub returns : goal.returns
returns c =
    let m = c.args.m in
    let s = c.sample-s.result in
    let told = c.notice-notice in
    out_law c.args.bits m s _ _ told.result (long (goal.at.returns c).Start) c.sample-s.ensures c.pulse_outputs-pulsed.ensures c.link_outputs-linked.ensures
    (λ es h. notice_law m.spinel.address m.settings.notice s es told.result told.ensures.none told.ensures.some h)

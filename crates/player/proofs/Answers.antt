-- From a call's answer to its text, and a line's samples one by one. Assumes nothing.
use Prim.Native.Nat.{ℕ, suc, ◌≤◌}
use native.Mathlib.Omega.{arith}
use mathlib.Core.Path.{◌≡◌, ap}
use mathlib.Core.List.{List, []}
use lib.ListN.{length, take, replicate, length-take}
use lib.Seq.{take-append_seam, take_all}
use borrow.Author.Tests.{eq-eqb, ne_eqb}
use Rattle.model.specs.declared.Answer.{Answer}
use Rattle.model.specs.declared.Module.{Module}
use Rattle.model.specs.Refusals.{Out}
use Rattle.model.specs.Call.{call, sample}
use Rattle.model.specs.Calls.{Answered, sample_call, step, run}
use Rattle.texts.specs.Texts.{Text, answer_text, text_of}
use Rattle.player.specs.Answers.{notice_text, printed}
use Rattle.player.specs.Scripts.{in_turn}

module _ {o : Out} {a : Answer} {old new : List ℕ} (p : Answered o a old new) where
  length-reply : a.len ≡ length o.reply
  length-reply = ap (λ (x : Answer). x.len) p.answer

  reply_shown : take a.len new ≡ o.reply
  reply_shown = rw (length-reply, p.buffer) (take-append_seam o.reply _)

  -- the text of an answer, where `told` tells a number and a reply
  pub frame_printed : (told : ℕ → List ℕ → List ℕ) {t : Text} → length new ≡ 256 → t ≡ text_of (told a.refusal (take 256 (take a.len new))) → record { after = a.after; text = t } ≡ printed o (told o.refusal o.reply)
  frame_printed told e q =
      let few : length (take a.len new) ≤ 256 = rw length-take (omega arith) in
      rw (q, take_all 256 (take a.len new) few, reply_shown, p.answer)

  pub notice_printed : {t : Text} → length new ≡ 256 → (a.len ≡ 0 → ⊥) → t ≡ text_of (answer_text a.refusal (take 256 (take a.len new))) → record { after = a.after; text = t } ≡ printed o (notice_text o)
  unfolding notice_text
  notice_printed e h q = rw (ne_eqb (length o.reply) 0 (rw length-reply at h)) (frame_printed answer_text e q)

  pub notice_none : a.len ≡ 0 → record { after = a.after; text = text_of [] } ≡ printed o (notice_text o)
  unfolding notice_text
  notice_none h = rw (p.answer, eq-eqb (length o.reply) 0 (rw length-reply at h))

-- one sample of several
pub samples_go : (bits left : ℕ) (m : Module) {after : Module} → after ≡ (sample_call 256 bits m).after → run after (replicate left (call 256 (sample bits))) ≡ run m (replicate (suc left) (call 256 (sample bits)))
unfolding run step
samples_go bits left m e = rw e

-- one turn of two samples
pub turns_go : (a b left : ℕ) (m : Module) {half after : Module} → half ≡ (sample_call 256 a m).after → after ≡ (sample_call 256 b half).after → run after (in_turn a b left) ≡ run m (in_turn a b (suc left))
unfolding run step in_turn
turns_go a b left m e f = rw (f, e)

-- What is printed of a call's answer.
use Rattle.std.specs.Prelude.{ℕ, cond, List, [], eqb, length, Option, Some, None}
use Rattle.model.specs.Refusals.{Out}
use Rattle.texts.specs.Texts.{Text, answer_text, answer_characters, text_of}
use Rattle.player.specs.declared.Printed.{Printed}
use Rattle.player.specs.declared.Noticed.{Noticed}

abbrev pub frame_text : Out → List ℕ
frame_text o = answer_text o.refusal o.reply

-- of a `text` line
abbrev pub characters_text : Out → List ℕ
characters_text o = answer_characters o.refusal o.reply

-- a sample without a notice prints nothing
unfoldable pub notice_text : Out → List ℕ
notice_text o = cond (eqb (length o.reply) 0) [] (frame_text o)

-- the state after a call, and its text
abbrev pub printed : Out → List ℕ → Printed
printed o text = record { after = o.after; text = text_of text }

-- a text, or no characters
abbrev pub text_shown : Option Text → Text
text_shown None = text_of []
text_shown (Some t) = t

-- of a sample: without a notice there is no text, which prints as none
abbrev pub noticed : Noticed → Printed
noticed n = record { after = n.after; text = text_shown n.text }

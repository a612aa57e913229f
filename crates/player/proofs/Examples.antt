-- The calls of some lines. Assumes nothing.
use mathlib.Core.Path.{◌≡◌, refl}
use mathlib.Core.List.{[], ◌∷◌, ◌++◌}
use Rattle.model.specs.Call.{call, sample, spinel}
use Rattle.script.specs.Lines.{good_samples, text_word, texted, sampled, toggle, keyword, called, by_parts, parsed_line}
use Rattle.script.specs.Words.{leading, uncr, body, split, behind, kept, trimmed, same}
use Rattle.digits.specs.Reading.{digit, digits, decimal, hex}
use Rattle.digits.specs.Writing.{padded}
use Rattle.player.specs.Scripts.{in_turn, line_calls}

sample_twice : line_calls (good_samples 1 5 0 2) ≡ call 256 (sample 5) ∷ call 256 (sample 5) ∷ []
unfolding line_calls
sample_twice = refl

toggle_once : line_calls (good_samples 7 5 6 1) ≡ call 256 (sample 5) ∷ call 256 (sample 6) ∷ []
unfolding line_calls in_turn
toggle_once = refl

-- `toggle 0001 8000 2`
toggle_twice : line_calls (parsed_line (116 ∷ 111 ∷ 103 ∷ 103 ∷ 108 ∷ 101 ∷ 32 ∷ 48 ∷ 48 ∷ 48 ∷ 49 ∷ 32 ∷ 56 ∷ 48 ∷ 48 ∷ 48 ∷ 32 ∷ 50 ∷ [])) ≡ call 256 (sample 0x0001) ∷ call 256 (sample 0x8000) ∷ call 256 (sample 0x0001) ∷ call 256 (sample 0x8000) ∷ []
unfolding leading uncr body split behind same digit digits decimal hex sampled toggle keyword called by_parts parsed_line line_calls in_turn
toggle_twice = refl

-- `text *B1OS2H # x` and a CR: one frame on the Spinel port
text_frame : line_calls (parsed_line (text_word ++ 32 ∷ 42 ∷ 66 ∷ 49 ∷ 79 ∷ 83 ∷ 50 ∷ 72 ∷ 32 ∷ 35 ∷ 32 ∷ 120 ∷ 13 ∷ [])) ≡ call 256 (spinel (42 ∷ 66 ∷ 49 ∷ 79 ∷ 83 ∷ 50 ∷ 72 ∷ 13 ∷ [])) ∷ []
unfolding leading uncr body split behind kept trimmed same padded texted keyword called by_parts parsed_line line_calls
text_frame = refl

-- `text`, and ` text  a ` with a tab
text_alone : line_calls (parsed_line text_word) ≡ call 256 (spinel (13 ∷ [])) ∷ []
unfolding leading uncr body split behind kept trimmed same padded texted keyword called by_parts parsed_line line_calls
text_alone = refl

text_blanks : line_calls (parsed_line (32 ∷ text_word ++ 32 ∷ 32 ∷ 97 ∷ 32 ∷ 9 ∷ [])) ≡ call 256 (spinel (32 ∷ 97 ∷ 13 ∷ [])) ∷ []
unfolding leading uncr body split behind kept trimmed same padded texted keyword called by_parts parsed_line line_calls
text_blanks = refl

-- `textx` makes no call
text_other : line_calls (parsed_line (text_word ++ 120 ∷ 32 ∷ 42 ∷ [])) ≡ []
unfolding leading uncr body split behind same keyword called by_parts parsed_line line_calls
text_other = refl

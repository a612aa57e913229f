-- Lines that the definitions read. Assumes nothing.
use mathlib.Core.Path.{◌≡◌, refl}
use mathlib.Core.List.{[], ◌∷◌, ◌++◌, map}
use lib.IntN.{negsuc}
use lib.ListN.{replicate}
use Rattle.model.specs.Temperature.{signed_of}
use Rattle.script.specs.Words.{leading, uncr, body, split, behind, kept, trimmed, same}
use Rattle.digits.specs.Reading.{digit, digits, decimal, hex, negative, signed_decimal}
use Rattle.script.specs.Lines.{of_kind, wrong, good_samples, good_tenths, good_text, toggle_word, text_word, texted, sampled, sample, toggle, tenths_of, temperature, keyword, called, by_parts, parsed_line}

-- `sample 0aF1 12`
two_words : parsed_line (115 ∷ 97 ∷ 109 ∷ 112 ∷ 108 ∷ 101 ∷ 32 ∷ 48 ∷ 97 ∷ 70 ∷ 49 ∷ 32 ∷ 49 ∷ 50 ∷ []) ≡ good_samples 1 0x0AF1 0 12
unfolding leading uncr body split behind same digit digits decimal hex sampled sample keyword called by_parts parsed_line
two_words = refl

-- `temperature -5 # x` and a CR
minus_five : parsed_line (116 ∷ 101 ∷ 109 ∷ 112 ∷ 101 ∷ 114 ∷ 97 ∷ 116 ∷ 117 ∷ 114 ∷ 101 ∷ 32 ∷ 45 ∷ 53 ∷ 32 ∷ 35 ∷ 32 ∷ 120 ∷ 13 ∷ []) ≡ good_tenths (negsuc 4)
unfolding leading uncr body split behind same digit digits decimal negative signed_decimal signed_of tenths_of temperature keyword called by_parts parsed_line
minus_five = refl

-- a tab and a comment
nothing : parsed_line (9 ∷ 35 ∷ 115 ∷ []) ≡ of_kind 0
unfolding leading uncr body split behind by_parts parsed_line
nothing = refl

-- `sample 123`: three digits
three_digits : parsed_line (115 ∷ 97 ∷ 109 ∷ 112 ∷ 108 ∷ 101 ∷ 32 ∷ 49 ∷ 50 ∷ 51 ∷ []) ≡ wrong 2
unfolding leading uncr body split behind same digit digits hex sampled sample keyword called by_parts parsed_line
three_digits = refl

-- `sample 0001`, and `sample 0001 65536`
once : parsed_line (115 ∷ 97 ∷ 109 ∷ 112 ∷ 108 ∷ 101 ∷ 32 ∷ 48 ∷ 48 ∷ 48 ∷ 49 ∷ []) ≡ good_samples 1 1 0 1
unfolding leading uncr body split behind same digit digits hex sampled sample keyword called by_parts parsed_line
once = refl

too_often : parsed_line (115 ∷ 97 ∷ 109 ∷ 112 ∷ 108 ∷ 101 ∷ 32 ∷ 48 ∷ 48 ∷ 48 ∷ 49 ∷ 32 ∷ 54 ∷ 53 ∷ 53 ∷ 51 ∷ 54 ∷ []) ≡ wrong 3
unfolding leading uncr body split behind same digit digits decimal hex sampled sample keyword called by_parts parsed_line
too_often = refl

-- `toggle 0aF1 0000 1`
toggle_once : parsed_line (116 ∷ 111 ∷ 103 ∷ 103 ∷ 108 ∷ 101 ∷ 32 ∷ 48 ∷ 97 ∷ 70 ∷ 49 ∷ 32 ∷ 48 ∷ 48 ∷ 48 ∷ 48 ∷ 32 ∷ 49 ∷ []) ≡ good_samples 7 0x0AF1 0 1
unfolding leading uncr body split behind same digit digits decimal hex sampled toggle keyword called by_parts parsed_line
toggle_once = refl

-- ` 0000 ff_fe 65535 # x` after `toggle`
toggle_most : parsed_line (toggle_word ++ 32 ∷ 48 ∷ 48 ∷ 48 ∷ 48 ∷ 32 ∷ 102 ∷ 102 ∷ 70 ∷ 69 ∷ 32 ∷ 54 ∷ 53 ∷ 53 ∷ 51 ∷ 53 ∷ 32 ∷ 35 ∷ 32 ∷ 120 ∷ []) ≡ good_samples 7 0 0xFFFE 65535
unfolding leading uncr body split behind same digit digits decimal hex sampled toggle keyword called by_parts parsed_line
toggle_most = refl

-- after `toggle`: no word, ` g`, ` g 000`, ` g 000 0 1`; the number of words is looked at first
toggle_words : map (λ l. parsed_line (toggle_word ++ l)) ([] ∷ (32 ∷ 103 ∷ []) ∷ (32 ∷ 103 ∷ 32 ∷ 48 ∷ 48 ∷ 48 ∷ []) ∷ (32 ∷ 103 ∷ 32 ∷ 48 ∷ 48 ∷ 48 ∷ 32 ∷ 48 ∷ 32 ∷ 49 ∷ []) ∷ []) ≡ map wrong (6 ∷ 6 ∷ 6 ∷ 4 ∷ [])
unfolding leading uncr body split behind same digit digits decimal hex sampled toggle keyword called by_parts parsed_line
toggle_words = refl

-- then both samples: ` 001 0000 0`, ` 0001 000g 0`; then the number: ` 0001 0000 0`, ` 0001 0000 65536`, ` 0001 0000 x`
toggle_values : map (λ l. parsed_line (toggle_word ++ l)) ((32 ∷ 48 ∷ 48 ∷ 49 ∷ 32 ∷ 48 ∷ 48 ∷ 48 ∷ 48 ∷ 32 ∷ 48 ∷ []) ∷ (32 ∷ 48 ∷ 48 ∷ 48 ∷ 49 ∷ 32 ∷ 48 ∷ 48 ∷ 48 ∷ 103 ∷ 32 ∷ 48 ∷ []) ∷ (32 ∷ 48 ∷ 48 ∷ 48 ∷ 49 ∷ 32 ∷ 48 ∷ 48 ∷ 48 ∷ 48 ∷ 32 ∷ 48 ∷ []) ∷ (32 ∷ 48 ∷ 48 ∷ 48 ∷ 49 ∷ 32 ∷ 48 ∷ 48 ∷ 48 ∷ 48 ∷ 32 ∷ 54 ∷ 53 ∷ 53 ∷ 51 ∷ 54 ∷ []) ∷ (32 ∷ 48 ∷ 48 ∷ 48 ∷ 49 ∷ 32 ∷ 48 ∷ 48 ∷ 48 ∷ 48 ∷ 32 ∷ 120 ∷ []) ∷ []) ≡ map wrong (2 ∷ 2 ∷ 3 ∷ 3 ∷ 3 ∷ [])
unfolding leading uncr body split behind same digit digits decimal hex sampled toggle keyword called by_parts parsed_line
toggle_values = refl

-- `toggles 0001 0000 1`
toggles : parsed_line (toggle_word ++ 115 ∷ 32 ∷ 48 ∷ 48 ∷ 48 ∷ 49 ∷ 32 ∷ 48 ∷ 48 ∷ 48 ∷ 48 ∷ 32 ∷ 49 ∷ []) ≡ wrong 1
unfolding leading uncr body split behind same keyword called by_parts parsed_line
toggles = refl

-- `text *B1`, also with a tab before it, blanks and a CR at its end, or a comment
text_plain : map parsed_line ((text_word ++ 32 ∷ 42 ∷ 66 ∷ 49 ∷ []) ∷ (9 ∷ text_word ++ 32 ∷ 42 ∷ 66 ∷ 49 ∷ []) ∷ (text_word ++ 9 ∷ 42 ∷ 66 ∷ 49 ∷ 32 ∷ 9 ∷ 13 ∷ []) ∷ (text_word ++ 32 ∷ 42 ∷ 66 ∷ 49 ∷ 32 ∷ 35 ∷ 120 ∷ 32 ∷ []) ∷ []) ≡ replicate 4 (good_text (42 ∷ 66 ∷ 49 ∷ 13 ∷ []))
unfolding leading uncr body split behind kept trimmed same keyword texted called by_parts parsed_line
text_plain = refl

-- `text  * B  1`: further blanks before the first character, and those inside, belong to the frame
text_blanks : parsed_line (text_word ++ 32 ∷ 32 ∷ 42 ∷ 32 ∷ 66 ∷ 9 ∷ 32 ∷ 49 ∷ 32 ∷ []) ≡ good_text (32 ∷ 42 ∷ 32 ∷ 66 ∷ 9 ∷ 32 ∷ 49 ∷ 13 ∷ [])
unfolding leading uncr body split behind kept trimmed same keyword texted called by_parts parsed_line
text_blanks = refl

-- nothing behind `text`, blanks alone, or a comment alone
text_nothing : map (λ l. parsed_line (text_word ++ l)) ([] ∷ (32 ∷ []) ∷ (32 ∷ 9 ∷ 32 ∷ 13 ∷ []) ∷ (35 ∷ 42 ∷ []) ∷ (32 ∷ 35 ∷ 42 ∷ []) ∷ []) ≡ replicate 5 (good_text (13 ∷ []))
unfolding leading uncr body split behind kept trimmed same keyword texted called by_parts parsed_line
text_nothing = refl

-- `textx`, and `tex`
text_other : map parsed_line ((text_word ++ 120 ∷ []) ∷ (116 ∷ 101 ∷ 120 ∷ []) ∷ []) ≡ replicate 2 (wrong 1)
unfolding leading uncr body split behind same keyword called by_parts parsed_line
text_other = refl

-- 299 characters, which with a CR are 300, and one more
text_longest : parsed_line (text_word ++ 32 ∷ replicate 299 42) ≡ good_text (replicate 299 42 ++ 13 ∷ [])
unfolding leading uncr body split behind kept trimmed same keyword texted called by_parts parsed_line
text_longest = refl

text_too_long : parsed_line (text_word ++ 32 ∷ replicate 300 42) ≡ wrong 5
unfolding leading uncr body split behind kept trimmed same keyword texted called by_parts parsed_line
text_too_long = refl

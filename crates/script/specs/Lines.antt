-- A line of a script as a call, or why it is wrong.
use Rattle.std.specs.Prelude.{ℕ, ◌+◌, cond, ◌&&◌, ◌||◌, List, [], ◌∷◌, ◌++◌, eqb, ltb, ℤ, pos, length, drop, set, replicate}
use Rattle.model.specs.Temperature.{signed_of}
use Rattle.script.specs.Words.{parts, behind, trimmed, body, same}
use Rattle.digits.specs.Reading.{decimal, hex, signed_decimal}
use Rattle.digits.specs.Writing.{padded}
use Rattle.script.specs.Parsed.{Parsed}

-- a line of a kind, all else 0: 0 nothing, 1 sample, 2 temperature, 3 fault, 4 spinel, 5 modbus, 6 wrong, 7 toggle, 8 text
abbrev pub of_kind : ℕ → Parsed
of_kind k = record { kind = k; reason = 0; bits = 0; second = 0; times = 0; tenths = pos 0; frame = replicate 300 0; len = 0 }

-- reasons: 1 unknown word, 2 bad hex, 3 bad number, 4 too many parts, 5 frame too long, 6 missing word
abbrev pub wrong : ℕ → Parsed
wrong n = record { kind = 6; reason = n; bits = 0; second = 0; times = 0; tenths = pos 0; frame = replicate 300 0; len = 0 }

-- a sample or a toggle, by its kind: the bits, those of a toggle's second sample, and how many times
abbrev pub good_samples : ℕ → ℕ → ℕ → ℕ → Parsed
good_samples k a b n = record { kind = k; reason = 0; bits = a; second = b; times = n; tenths = pos 0; frame = replicate 300 0; len = 0 }

abbrev pub good_tenths : ℤ → Parsed
good_tenths t = record { kind = 2; reason = 0; bits = 0; second = 0; times = 0; tenths = t; frame = replicate 300 0; len = 0 }

-- `fault` in ASCII, and so on
abbrev pub fault_word : List ℕ
fault_word = 102 ∷ 97 ∷ 117 ∷ 108 ∷ 116 ∷ []

abbrev pub sample_word : List ℕ
sample_word = 115 ∷ 97 ∷ 109 ∷ 112 ∷ 108 ∷ 101 ∷ []

abbrev pub toggle_word : List ℕ
toggle_word = 116 ∷ 111 ∷ 103 ∷ 103 ∷ 108 ∷ 101 ∷ []

abbrev pub temperature_word : List ℕ
temperature_word = 116 ∷ 101 ∷ 109 ∷ 112 ∷ 101 ∷ 114 ∷ 97 ∷ 116 ∷ 117 ∷ 114 ∷ 101 ∷ []

abbrev pub spinel_word : List ℕ
spinel_word = 115 ∷ 112 ∷ 105 ∷ 110 ∷ 101 ∷ 108 ∷ []

abbrev pub modbus_word : List ℕ
modbus_word = 109 ∷ 111 ∷ 100 ∷ 98 ∷ 117 ∷ 115 ∷ []

abbrev pub text_word : List ℕ
text_word = 116 ∷ 101 ∷ 120 ∷ 116 ∷ []

-- 16 bits each, 1 to 65,535 times
unfoldable pub sampled : ℕ → ℕ → ℕ → ℕ → Parsed
sampled k a b n = cond (ltb a 65536 && ltb b 65536) (cond (eqb n 0 || ltb 65535 n) (wrong 3) (good_samples k a b n)) (wrong 2)

-- no second sample: 0
unfoldable pub sample : List (List ℕ) → Parsed
sample [] = wrong 6
sample (h ∷ []) = sampled 1 (hex 4 h) 0 1
sample (h ∷ n ∷ []) = sampled 1 (hex 4 h) 0 (decimal n)
sample (h ∷ n ∷ _ ∷ _) = wrong 4

unfoldable pub toggle : List (List ℕ) → Parsed
toggle [] = wrong 6
toggle (g ∷ []) = wrong 6
toggle (g ∷ h ∷ []) = wrong 6
toggle (g ∷ h ∷ n ∷ []) = sampled 7 (hex 4 g) (hex 4 h) (decimal n)
toggle (g ∷ h ∷ n ∷ _ ∷ _) = wrong 4

-- a signed number of tenths
unfoldable pub tenths_of : ℕ → Parsed
tenths_of p = cond (ltb p 65536) (good_tenths (signed_of p)) (wrong 3)

unfoldable pub temperature : List (List ℕ) → Parsed
temperature [] = wrong 6
temperature (t ∷ []) = cond (same t fault_word) (of_kind 3) (tenths_of (signed_decimal t))
temperature (t ∷ _ ∷ _) = wrong 4

-- one byte more
abbrev pub with_byte : Parsed → ℕ → Parsed
with_byte r b = record { kind = r.kind; reason = r.reason; bits = r.bits; second = r.second; times = r.times; tenths = r.tenths; frame = set r.frame r.len b; len = r.len + 1 }

-- the bytes of a frame, after those that r holds
unfoldable pub framed : Parsed → List (List ℕ) → Parsed
framed r [] = r
framed r (w ∷ ws) = cond (ltb r.len 300) (cond (ltb (hex 2 w) 256) (framed (with_byte r (hex 2 w)) ws) (wrong 2)) (wrong 5)

-- the frame of a `text` line, where l stands behind the word: without one blank there and those at the end, and with a CR
abbrev pub text_frame : List ℕ → List ℕ
text_frame l = trimmed (drop 1 l) ++ 13 ∷ []

abbrev pub good_text : List ℕ → Parsed
good_text f = record { kind = 8; reason = 0; bits = 0; second = 0; times = 0; tenths = pos 0; frame = padded 300 f; len = length f }

-- a frame in characters has at most 300
unfoldable pub texted : List ℕ → Parsed
texted f = cond (ltb 300 (length f)) (wrong 5) (good_text f)

-- the kind of a line's first word, or 6
unfoldable pub keyword : List ℕ → ℕ
keyword w = cond (same w sample_word) 1 (cond (same w toggle_word) 7 (cond (same w temperature_word) 2 (cond (same w spinel_word) 4 (cond (same w modbus_word) 5 (cond (same w text_word) 8 6)))))

-- by the words behind the first, or of `text` by the characters l behind it
unfoldable pub called : ℕ → List (List ℕ) → List ℕ → Parsed
called k ws l =
    cond (eqb k 1) (sample ws)
    (cond (eqb k 7) (toggle ws)
    (cond (eqb k 2) (temperature ws)
    (cond (eqb k 4) (framed (of_kind 4) ws)
    (cond (eqb k 5) (framed (of_kind 5) ws)
    (cond (eqb k 8) (texted (text_frame l)) (wrong 1))))))

unfoldable pub by_parts : List (List ℕ) → List ℕ → Parsed
by_parts [] l = of_kind 0
by_parts (w ∷ ws) l = called (keyword w) ws l

unfoldable pub parsed_line : List ℕ → Parsed
parsed_line l = by_parts (parts (body l)) (behind (body l))

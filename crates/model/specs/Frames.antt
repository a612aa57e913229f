-- 01, Frames. A frame is the list of its bytes.
use Rattle.std.specs.Prelude.{ℕ, zero, suc, ◌+◌, ◌-◌, ◌/◌, ◌%◌, cond, eqb, leb, length, get_or, take, drop}
use mathlib.Core.List.{List, [], ◌∷◌, ◌++◌, foldl}
use Rattle.std.specs.Int.Bits.{bit_xor}
use Rattle.lists.specs.Numbers.{word_at, bytes}

-- Spinel, by places: 0 2A, 1 61, 2 and 3 NUM, 4 address, 5 signature, 6 instruction, 7 on data; the last two SUM and 0D ------

unfoldable pub total : List ℕ → ℕ
total [] = 0
total (b ∷ bs) = b + total bs

-- SUM (01): the byte that brings the bytes before it to 255, modulo 256
abbrev pub sum_of : List ℕ → ℕ
sum_of bs = 255 - total bs % 256

-- NUM (01): the word that tells how many bytes follow it
abbrev pub num_of : List ℕ → ℕ
num_of f = word_at f 2

abbrev pub spinel_to : List ℕ → ℕ
spinel_to f = get_or f 4 0

abbrev pub signature_of : List ℕ → ℕ
signature_of f = get_or f 5 0

abbrev pub instruction_of : List ℕ → ℕ
instruction_of f = get_or f 6 0

-- all between instruction and SUM
abbrev pub spinel_data : List ℕ → List ℕ
spinel_data f = take (length f - 9) (drop 7 f)

-- the two addresses that every module takes for its own: the universal one is answered, the broadcast is not
abbrev pub universal : ℕ
universal = 0xFE

abbrev pub spinel_broadcast : ℕ
spinel_broadcast = 0xFF

-- bytes, then their SUM and 0D
abbrev pub closed : List ℕ → List ℕ
closed bs = bs ++ sum_of bs ∷ 0x0D ∷ []

-- a reply: from this address, under the signature of what it answers, with an ACK where the instruction stood, then data
unfoldable pub spinel_reply : ℕ → ℕ → ℕ → List ℕ → List ℕ
spinel_reply address signature ack data' = closed (0x2A ∷ 0x61 ∷ bytes 2 (length data' + 5) ++ address ∷ signature ∷ ack ∷ data')

-- Modbus, by places: 0 address, 1 function, 2 on body; the last two CRC -------------------

-- one bit, the lowest first: where it is 1, exclusive or with the reflected polynomial A001H
unfoldable pub crc_bit : ℕ → ℕ
crc_bit c = cond (eqb (c % 2) 1) (bit_xor (c / 2) 0xA001) (c / 2)

unfoldable pub crc_bits : ℕ → ℕ → ℕ
crc_bits zero c = c
crc_bits (suc n) c = crc_bits n (crc_bit c)

unfoldable pub crc_byte : ℕ → ℕ → ℕ
crc_byte c b = crc_bits 8 (bit_xor c b)

-- CRC (01): from sixteen set bits on, every byte in its turn
unfoldable pub crc_of : List ℕ → ℕ
crc_of bs = foldl crc_byte 0xFFFF bs

abbrev pub modbus_to : List ℕ → ℕ
modbus_to f = get_or f 0 0

abbrev pub function_of : List ℕ → ℕ
function_of f = get_or f 1 0

-- all between function and CRC
abbrev pub modbus_body : List ℕ → List ℕ
modbus_body f = take (length f - 4) (drop 2 f)

-- to every module, and answered by none
abbrev pub modbus_broadcast : ℕ
modbus_broadcast = 0

-- a word as two bytes, the low one first
abbrev pub low_first : ℕ → List ℕ
low_first c = c % 256 ∷ c / 256 ∷ []

-- bytes, then their CRC
unfoldable pub with_crc : List ℕ → List ℕ
with_crc bs = bs ++ low_first (crc_of bs)

abbrev pub modbus_reply : ℕ → ℕ → List ℕ → List ℕ
modbus_reply address function body = with_crc (address ∷ function ∷ body)

-- an exception tells its function by the top bit, which a function from 80H up has already
abbrev pub exception_function : ℕ → ℕ
exception_function function = cond (leb 128 function) function (function + 128)

abbrev pub exception_reply : ℕ → ℕ → ℕ → List ℕ
exception_reply address function code = modbus_reply address (exception_function function) (code ∷ [])

-- 01, Outputs and notice: the notice (01), a frame that a sample leaves in its buffer when inputs have flipped; 02, E2: in either format.
use Rattle.std.specs.Prelude.{ℕ, Bool, cond, not, ◌&&◌, ◌||◌, List, [], ◌∷◌, length, get_or, eqb}
use Rattle.lists.specs.Tests.{any}
use Rattle.lists.specs.Mapi.{mapi}
use Rattle.lists.specs.Numbers.{word_at, bytes, bit_at}
use Rattle.model.specs.declared.Notice.{Notice}
use Rattle.model.specs.declared.Inputs.{Inputs}
use Rattle.model.specs.State.{notice, is_on, turned_off}
use Rattle.model.specs.Samples.{input_states}
use Rattle.model.specs.Frames.{spinel_reply}
use Rattle.model.specs.Refusals.{Request, accepting, telling, refuse}
use Rattle.model.specs.Counters.{some_data}
use Rattle.model.specs.Outputs.{states_shown}
use Rattle.model.specs.Text.{text_notice}

-- the mask of the request, or every input where it has none
abbrev pub mask_given : List ℕ → ℕ
mask_given d = cond (eqb (length d) 1) 0xFFFF (word_at d 1)

-- 10H: a first byte 1 switches on, with or without a mask, and is refused 11 while the notice is on; a 0 switches off and empties the
-- mask, but is refused 11 where a mask follows it; so is every other first byte
unfoldable pub set_notice : ℕ → List ℕ → Notice → Request Notice
set_notice signature d n =
    refuse 8 (not (eqb (length d) 1 || eqb (length d) 3))
    (refuse 11 (cond (eqb (get_or d 0 0) 0x01) (is_on n) (not (eqb (get_or d 0 0) 0x00 && eqb (length d) 1)))
    (accepting (cond (eqb (get_or d 0 0) 0x01) (notice 0x61 (mask_given d) signature) (turned_off n)) []))

-- 11H: the format byte as it is stored, then the mask
unfoldable pub read_notice : List ℕ → Notice → Request (Unit {0})
read_notice d n = refuse 8 (some_data d) (telling (n.format ∷ bytes 2 n.mask))

-- while on, an edge of any input that the mask picks; the input's mode has no part in it
unfoldable pub noticed : Notice → List Bool → Bool
noticed n edged = is_on n && any (λ b. b) (mapi (λ i b. b && bit_at n.mask i) edged)

-- built as a reply is, under the signature of the request that switched it on; its data is what 31H shows of the inputs. One that is on as
-- text goes out as text.
unfoldable pub notice_frame : ℕ → Notice → Inputs → List ℕ
notice_frame address n x =
    cond (eqb n.format 0x42) (text_notice address (input_states x))
    (spinel_reply address n.signature 0x0D (states_shown (input_states x)))

-- what a sample writes, by the edges and the inputs after them
unfoldable pub notice_written : ℕ → Notice → List Bool → Inputs → List ℕ
notice_written address n edged x = cond (noticed n edged) (notice_frame address n x) []

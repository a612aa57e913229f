-- `sampling::text_notice` meets its contract. Assumes nothing.
use mathlib.Core.List.{flat_map}
use Rattle.lists.specs.Chunks.{chunks_of}
use Rattle.model.specs.Text.{text_reply, text_notice}
use Rattle.lists.proofs.Bits.{bit_found}
use Rattle.sampling.proofs.text_notice.Goals as goal

pub returns : goal.returns
unfolding text_notice text_reply chunks_of flat_map
returns c inputs e =
    rw (
      c.letter_at.ensures,
      bit_found c.args.states inputs 0 e,
      c.letter_at-2.ensures,
      bit_found c.args.states inputs 1 e,
      c.letter_at-3.ensures,
      bit_found c.args.states inputs 2 e,
      c.letter_at-4.ensures,
      bit_found c.args.states inputs 3 e,
      c.letter_at-5.ensures,
      bit_found c.args.states inputs 4 e,
      c.letter_at-6.ensures,
      bit_found c.args.states inputs 5 e,
      c.letter_at-7.ensures,
      bit_found c.args.states inputs 6 e,
      c.letter_at-8.ensures,
      bit_found c.args.states inputs 7 e,
      c.letter_at-9.ensures,
      bit_found c.args.states inputs 8 e,
      c.letter_at-10.ensures,
      bit_found c.args.states inputs 9 e,
      c.letter_at-11.ensures,
      bit_found c.args.states inputs 10 e,
      c.letter_at-12.ensures,
      bit_found c.args.states inputs 11 e,
      c.letter_at-13.ensures,
      bit_found c.args.states inputs 12 e,
      c.letter_at-14.ensures,
      bit_found c.args.states inputs 13 e,
      c.letter_at-15.ensures,
      bit_found c.args.states inputs 14 e,
      c.letter_at-16.ensures,
      bit_found c.args.states inputs 15 e,
    )

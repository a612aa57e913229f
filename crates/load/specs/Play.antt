-- Runs of generated samples.
use Rattle.std.specs.Prelude.{ℕ, zero, suc, ◌+◌, ◌*◌, ◌/◌, ◌%◌, ◌^◌, Bool, true, cond, eqb, List, ◌++◌, length, replicate, ◌==◌, bit_xor, slice_index, slice_index_or}
use Rattle.lists.specs.Data.{over}
use Rattle.lists.specs.Mapi.{mapi}
use Rattle.model.specs.declared.Link.{Link}
use Rattle.model.specs.declared.Output.{Output}
use Rattle.model.specs.State.{fresh_module, fresh_output, fresh_link, output, link, notice, with_modes, with_sampling, with_links, with_outputs, with_notice}
use Rattle.model.specs.Calls.{sample_call}
use Rattle.load.specs.declared.Source.{Source}
use Rattle.load.specs.declared.Played.{Played}

-- the generator's next number, below 2 to the 31
abbrev pub next_seed : ℕ → ℕ
next_seed seed = (seed % 2147483648 * 1103515245 + 12345) % 2147483648

-- a typical sample: now and then, one time in 125, one input changes
unfoldable pub typical_next : Source → Source
typical_next s =
    let place = next_seed s.seed in
    let chance = next_seed place in
    record { seed = chance; level = cond (chance / 65536 % 125 == 0) (bit_xor s.level (1 * 2 ^ (place / 65536 % 16) % 65536)) s.level }

-- a sample of full load: any sixteen bits
unfoldable pub noisy_next : Source → Source
noisy_next s = record { seed = next_seed s.seed; level = next_seed s.seed / 32768 % 65536 }

unfoldable pub source_next : Bool → Source → Source
source_next noisy s = cond noisy (noisy_next s) (typical_next s)

-- one sample more: the state after it, and how many bytes the notices had so far, modulo 2 to the 64
unfoldable pub play_one : ℕ → Bool → Played → Played
play_one room noisy p =
    let s = source_next noisy p.source in
    record {
      after = (sample_call room s.level p.after).after;
      source = s;
      written = (p.written + length (sample_call room s.level p.after).reply) % 2 ^ 64;
    }

-- the lent buffer after it: its notice over what stood there
unfoldable pub buffer_one : ℕ → Bool → Played → List ℕ → List ℕ
buffer_one room noisy p old = over (sample_call room (source_next noisy p.source).level p.after).reply old

-- n of them
unfoldable pub play_many : ℕ → Bool → ℕ → Played → Played
play_many room noisy zero p = p
play_many room noisy (suc n) p = play_one room noisy (play_many room noisy n p)

-- the lent buffer after them: each notice over what the samples before it left
unfoldable pub buffer_many : ℕ → Bool → ℕ → Played → List ℕ → List ℕ
buffer_many room noisy zero p old = old
buffer_many room noisy (suc n) p old = buffer_one room noisy (play_many room noisy n p) (buffer_many room noisy n p old)

-- each output linked to the input of its number; by action 0 none is
unfoldable pub links_by : ℕ → List Link
links_by action = cond (eqb action 0) (replicate 16 fresh_link) (mapi (λ i l. link (i + 1) action) (replicate 16 fresh_link))

-- every input counts by mode and drives its output by action, the notice is on for the inputs of the mask; the first four outputs pulse, the
-- others for `rest` samples
unfoldable pub start_of : ℕ → ℕ → ℕ → ℕ → ℕ → Played
start_of sampling mode mask rest action = record {
  after = with_notice (with_outputs (with_links (with_sampling (with_modes fresh_module (replicate 16 mode)) sampling) (links_by action))
      (replicate 4 (output true 3000000) ++ replicate 12 (output true rest))) (notice 0x61 mask 2);
  source = record { seed = 12345; level = 0 };
  written = 0;
}

-- what samples leave in a counter and an output, as one number
unfoldable pub left_by : ℕ → Output → ℕ
left_by counter o = cond o.on (counter + o.left + 1) (counter + o.left)

-- that of the first i inputs and outputs, added to a number modulo 2 to the 64
unfoldable pub sum_of : List ℕ → List Output → ℕ → ℕ → ℕ
sum_of counters outputs n zero = n
sum_of counters outputs n (suc i) = (sum_of counters outputs n i + left_by (slice_index counters i) (slice_index_or outputs i fresh_output)) % 2 ^ 64

-- the bytes of the notices, counters and outputs
abbrev pub summed : Played → ℕ
summed p = sum_of p.after.inputs.counters p.after.outputs p.written 16

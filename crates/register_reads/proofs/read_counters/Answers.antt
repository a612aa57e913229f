-- `register_reads::read_counters` meets its contract. Assumes nothing.
use Rattle.std.proofs.Common.{rules, ◌≡◌}
use mathlib.Core.List.{map}
use Rattle.lists.proofs.Chains.{mapped}
use Rattle.model.specs.Registers.{counter_word}
use Rattle.register_reads.proofs.read_counters.Goals as goal

pub returns : goal.returns
unfolding counter_word
returns c =
    let words : c.map-words.result ≡ map counter_word c.args.cs = mapped _ counter_word _ _ _ 16 c.map-words.ensures.items (search rules) 0 (λ p x y q k. search rules) in
    rw words at c.tell_words.ensures

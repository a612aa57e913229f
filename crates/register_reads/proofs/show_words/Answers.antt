-- `register_reads::show_words` meets its contract. Assumes nothing.
use Rattle.std.proofs.Common.{rules, ◌∙◌, ◌*◌, length}
use Rattle.std.proofs.lemmas.Iterator.Consumers.{fold_from_yields_List}
use Rattle.std.proofs.lemmas.Iterator.{YieldsList-from_slice}
use Rattle.lists.specs.Data.{Data, extended}
use Rattle.lists.specs.Numbers.{bytes}
use Rattle.register_reads.proofs.Groups.{words_each, words_data}
use Rattle.register_reads.proofs.show_words.Goals as goal

pub returns : goal.returns
returns c =
    let ws = c.args.words.now in
    let each = fold_from_yields_List _ (λ (r : Data) (w : _). extended r (bytes 2 w)) _ _ c.fold.ensures.ran (YieldsList-from_slice ws cc) (λ a x b q k. search rules) in
    each ∙ words_each ws c.push-head.result ∙ rw (c.push-head.ensures, c.empty.ensures) (words_data (2 * length ws) ws c.requires)

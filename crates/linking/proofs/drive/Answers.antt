-- `linking::drive` meets its contract. Assumes nothing.
use Rattle.std.proofs.Common.{rules, ◌≡◌, length, ◌∙◌, sym, ap}
use Rattle.model.specs.declared.Link.{Link}
use mathlib.Core.List.{List}
use Rattle.linking.specs.Links.{sets_by, outputs_set}
use Rattle.linking.proofs.Laws.{from, by_links, all_sixteen}
use Rattle.linking.proofs.drive.Goals as goal
use Rattle.linking.proofs.drive.Goals.{Start}

long : (c : Start) → length c.args.l ≡ 16
long c = search rules

pub returns : goal.returns
unfolding from
returns c =
    let a = c.args in
    c.put_all.ensures
    ∙ rw (c.sets_of.ensures, c.word_of-w0.ensures, c.word_of-w1.ensures, c.word_of-w2.ensures, c.word_of-w3.ensures)
    (ap (λ (ls : List Link). outputs_set (sets_by ls a.e.found a.e.states) a.a) (sym (all_sixteen a.l (long (goal.at.returns c).Start))))
    ∙ by_links a.e.found a.e.states a.l a.a

-- `spinel_reads::list_read` meets its contract. Assumes nothing.
use Rattle.std.proofs.Common.{rules, ◌≡◌, Err}
use Rattle.number_lists.proofs.Lists.{read_refused, read_told}
use Rattle.spinel_reads.proofs.list_read.Goals as goal

pub returns-in_err-list_refusal : goal.returns-in_err-list_refusal
returns-in_err-list_refusal g c = λ bytes shows few.
    let e : c.from_residual.result ≡ Err c.in_err-list_refusal.field-0.0 = search rules in
    rw e (read_refused bytes c.args.d.now _ c.in_err-list_refusal.ensures)

pub returns : goal.returns
returns g c = λ bytes shows few.
    rw (c.show_listed.ensures bytes shows) (read_told bytes c.args.d.now c.in_ok-list_refusal.ensures few)

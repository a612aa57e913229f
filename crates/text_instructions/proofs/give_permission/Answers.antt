-- `text_instructions::give_permission` meets its contract. Assumes nothing.
use Rattle.text_instructions.proofs.Requests.{permission_given}
use Rattle.text_instructions.proofs.give_permission.Goals as goal

pub returns : goal.returns
returns c =
    let a = c.args in
    rw c.done.ensures (permission_given a.m a.universal a.t.now c.in_ok-served.served c.in_ok-served.ensures)

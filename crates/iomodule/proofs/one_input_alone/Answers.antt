-- `iomodule::one_input_alone` meets its contract. Assumes nothing.
use Rattle.model.proofs.Alone.{one_input_alone}
use Rattle.iomodule.proofs.one_input_alone.Goals as goal

pub returns : goal.returns
returns c = one_input_alone

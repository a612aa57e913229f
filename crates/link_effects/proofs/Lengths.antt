-- The length of a list, in the words of its definition. Assumes nothing.
use Rattle.number_lists.proofs.Lists.{items_length}

pub ruleset lengths = items_length

-- A module that takes over has no link, so that no output of it has a link and an active thermostat. Assumes nothing.
use Rattle.std.proofs.Common.{refl, ◌-◌}
use Rattle.lists.proofs.Stores.{get_or-replicate_same}
use Rattle.model.specs.State.{fresh_link}
use Rattle.model.specs.Linked.{NeverBoth}
use Rattle.takeover.specs.declared.ModuleBefore.{ModuleBefore}
use Rattle.takeover.specs.TakenOver.{taken_over}

pub never_both_over : (b : ModuleBefore) → NeverBoth (taken_over b)
never_both_over b = record { never = λ n. rw (get_or-replicate_same 16 (n - 1) fresh_link) }

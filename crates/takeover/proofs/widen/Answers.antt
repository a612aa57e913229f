-- `takeover::widen` meets its contract. Assumes nothing.
use Rattle.std.proofs.Common.{rules, ◌∙◌, ℕ}
use Rattle.std.proofs.lemmas.List.{map-id}
use Rattle.lists.proofs.Chains.{mapped}
use Rattle.takeover.proofs.widen.Goals as goal

pub returns : goal.returns
returns c = mapped _ (λ (v : ℕ). v) _ _ _ 16 c.map.ensures.items (search rules) 0 (λ p x y q k. search rules) ∙ map-id c.args.cs

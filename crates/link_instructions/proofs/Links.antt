-- 40H, refused and done. Assumes nothing.
use Rattle.std.proofs.Common.{◌≡◌, refl, ℕ, List, []}
use mathlib.Core.List.{foldl}
use Rattle.lists.specs.Chunks.{chunks}
use Rattle.lists.specs.Data.{data_of}
use Rattle.model.specs.declared.Link.{Link}
use Rattle.model.specs.declared.Module.{Module}
use Rattle.model.specs.State.{with_links}
use Rattle.model.specs.Refusals.{Request, on_part, refusal_of}
use Rattle.model.specs.Links.{set_link, set_links}
use Rattle.outcomes.proofs.Laws.{Refused, Done, refused_at, done_at}

module _ (m : Module) (d : List ℕ) where
  abbrev links : Request (List Link)
  links = set_links m.settings.thermostats d m.settings.links

  pub links_refused : Refused m (on_part (with_links m) links) (refusal_of links)
  unfolding refusal_of
  links_refused = refused_at m (on_part (with_links m) links)

  pub links_done : 0 ≡ refusal_of links → Done m (on_part (with_links m) links) (with_links m (foldl set_link m.settings.links (chunks 3 d)))
  unfolding set_links refusal_of
  links_done e = done_at m (on_part (with_links m) links) _ (data_of []) e refl refl

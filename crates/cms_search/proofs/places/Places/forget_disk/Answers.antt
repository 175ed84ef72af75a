use Rattle.std.proofs.Common.{rules}
use Rattle.std.proofs.lemmas.Map.Made.{filter_same_pairs}
use Rattle.cms_search.proofs.PlaceMaps.{forgets, stays}
use Rattle.cms_search.proofs.places.Places.forget_disk.Goals as goal

pub returns : goal.returns
returns c =
    forgets c.args.self.now c.self.inside.places.entries c.retain.new.self.entries c.args.vdev c.self.view_is
    (filter_same_pairs _ (stays c.args.vdev) _ (λ k v b w f' t. search rules) _ _ c.retain.ensures.filtered)

use Rattle.std.proofs.Common.{◌∙◌, ap}
use Rattle.std.specs.FinMap as finite
use Rattle.cms_search.proofs.PlaceMaps.{answers}
use Rattle.cms_search.proofs.places.Places.get.Goals as goal

pub returns : goal.returns
returns c =
    c.copied.ensures ∙ c.get.ensures.value ∙ answers c.args.self.now c.self.inside.places.entries c.of.result c.self.view_is
    ∙ ap (finite.get c.args.self.now) c.of.ensures

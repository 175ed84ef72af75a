use Rattle.std.proofs.Common.{◌∙◌, ap}
use Rattle.std.specs.FinMap as finite
use Rattle.cms_search.proofs.PlaceMaps.{unsets}
use Rattle.cms_search.proofs.places.Places.forget.Goals as goal

pub returns : goal.returns
returns c =
    unsets c.args.self.now c.self.inside.places.entries c.remove.new.self.entries c.of.result c.self.view_is c.remove.ensures.updates.0
    ∙ ap (finite.remove c.args.self.now) c.of.ensures

use Rattle.std.proofs.Common.{◌∙◌, ap}
use Rattle.std.specs.FinMap as finite
use Rattle.cms_search.proofs.PlaceMaps.{sets}
use Rattle.cms_search.proofs.places.Places.set.Goals as goal

pub returns-clause-ok : goal.returns-clause-ok
returns-clause-ok c =
    sets c.args.self.now c.self.inside.places.entries c.insert.new.self.entries c.of.result c.args.next c.self.view_is c.in_ok-insert.ensures.updates.0
    ∙ ap (λ key. finite.insert c.args.self.now key c.args.next) c.of.ensures

use Rattle.cms_tree.proofs.Totals.{climbs_all}
use Rattle.cms_tree.proofs.climb.climb_laws.Goals as goal

pub returns : goal.returns
returns c = climbs_all

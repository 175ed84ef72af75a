-- The trees of directory and map of a volume that is held stand level by level.
use Rattle.cms_journal.specs.Journal.{Journal}
use Rattle.cms_model.specs.LawsUpdates.{now}
use Rattle.cms_model.specs.Stands.{Layout}
use Rattle.cms_held.specs.HeldVolumes.{HeldVolume}
use Rattle.cms_held.specs.LawsRenewals.{IsHeldAt}
use Rattle.cms_held.specs.SharedRenewals.{HasLevels}

pub held_levels : (j : Journal) (v : HeldVolume) (old : Layout) → IsHeldAt j v old → HasLevels v (now j v.unit)
held_levels j v old x = record {
  directory_shape = x.trees.directory.shape;
  directory = x.trees.directory.stands;
  map_shape = x.trees.map.shape;
  map = x.trees.map.stands;
}

use Rattle.std.proofs.Common.{refl}
use Rattle.cms_search.proofs.Acts.{refused}
use Rattle.cms_access.proofs.access.tell.Goals as goal

pub returns-in-NoUnit : goal.returns-in-NoUnit
returns-in-NoUnit g c = let is = c.in-NoUnit.is in rw is (refused _ _ _ _ _ c.refuse_no_device.ensures.does c.refuse_no_device.ensures.went refl)

pub returns-in-NoParent : goal.returns-in-NoParent
returns-in-NoParent g c = let is = c.in-NoParent.is in rw is (refused _ _ _ _ _ c.refuse_not_accessed.ensures.does c.refuse_not_accessed.ensures.went refl)

pub returns-in-Failed : goal.returns-in-Failed
returns-in-Failed g c = let is = c.in-Failed.is in rw is (refused _ _ _ _ _ c.refuse_device.ensures.does c.refuse_device.ensures.went refl)

pub returns-in-NoVolume : goal.returns-in-NoVolume
returns-in-NoVolume g c = let is = c.in-NoVolume.is in rw is (refused _ _ _ _ _ c.refuse_no_volume.ensures.does c.refuse_no_volume.ensures.went refl)

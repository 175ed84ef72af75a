use Rattle.std.proofs.Common.{refl}
use Rattle.cms_search.proofs.Acts.{refused}
use Rattle.cms_search.proofs.change_told.tell_change.Goals as goal

pub returns-in-Limited : goal.returns-in-Limited
returns-in-Limited g c = let is = c.in-Limited.is in rw is (refused _ _ _ _ _ c.refuse_limit.ensures.does c.refuse_limit.ensures.went refl)

pub returns-in-Full : goal.returns-in-Full
returns-in-Full g c = let is = c.in-Full.is in rw is (refused _ _ _ _ _ c.refuse_full.ensures.does c.refuse_full.ensures.went refl)

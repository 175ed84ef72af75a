use Rattle.std.proofs.Common.{refl}
use Rattle.cms_search.proofs.Acts.{refused}
use Rattle.cms_search.proofs.StateCalls.{acts_stayed}
use Rattle.cms_access.proofs.access.tell_done.Goals as goal

pub returns-then-read_only : goal.returns-then-read_only
returns-then-read_only g c = let is = c.if-read_only.true in rw is (refused _ _ _ _ _ c.tell_read_only.ensures.does c.tell_read_only.ensures.went refl)

pub returns : goal.returns
returns g c = let is = c.if-read_only.false in rw is (acts_stayed _ _ _ _ _ refl refl (λ units h. (h, refl)) (λ usable. usable))

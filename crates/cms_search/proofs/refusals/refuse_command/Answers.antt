use Rattle.std.proofs.Common.{refl}
use Rattle.cms_search.proofs.refusals.refuse_command.Goals as goal

pub returns-in-Refused : goal.returns-in-Refused
returns-in-Refused g c =
    let is = c.in-Refused.is in
    let same = c.as_slice.ensures in
    rw is (rw same at c.refuse_line.ensures.does, c.refuse_line.ensures.went)

pub returns-in-Memory : goal.returns-in-Memory
returns-in-Memory g c = let is = c.in-Memory.is in rw is (refl, refl)

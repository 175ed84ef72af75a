use Rattle.std.proofs.Common.{arith}
use Rattle.cms_ext.proofs.Lists.{differ_none}
use Rattle.cms_ext.proofs.list.ExtList.new.Goals as goal

pub invariant_of-result : goal.invariant_of-result
invariant_of-result g c = let none = c.new.ensures.items in rw none (record { few = omega arith; differ = differ_none })

use Rattle.std.proofs.Common.{subst}
use Rattle.cms_map.specs.Bits.{HasFixed}
use Rattle.cms_map.proofs.Held.{fixed_in}
use Rattle.cms_map.proofs.map.Map.free_count.Goals as goal

pub returns-clause-fixed : goal.returns-clause-fixed
returns-clause-fixed c = subst HasFixed c.self.view_is (fixed_in c.self.inside.blocks c.self.inside.bytes.items)

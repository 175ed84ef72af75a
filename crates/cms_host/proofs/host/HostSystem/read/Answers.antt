use Rattle.std.proofs.Common.{inl, refl}
use Rattle.cms_host.proofs.host.HostSystem.read.Goals as goal

pub returns-clause-within : goal.returns-clause-within
returns-clause-within g c = c.read_some.ensures

pub returns-clause-failed : goal.returns-clause-failed
returns-clause-failed g c = inl refl

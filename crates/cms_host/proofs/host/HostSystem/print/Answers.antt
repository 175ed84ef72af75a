use Rattle.std.proofs.Common.{refl}
use Rattle.cms_host.proofs.Exits.{some_always}
use Rattle.cms_host.proofs.host.HostSystem.print.Goals as goal

pub returns-clause-within : goal.returns-clause-within
returns-clause-within g c = c.write_some.ensures

pub returns-clause-printed : goal.returns-clause-printed
returns-clause-printed g c = some_always c.write_some.result (λ n. refl)

pub returns-clause-failed : goal.returns-clause-failed
returns-clause-failed g c = λ is. refl

pub returns-clause-files : goal.returns-clause-files
returns-clause-files g c = refl

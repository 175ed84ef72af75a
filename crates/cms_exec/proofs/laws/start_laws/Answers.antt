use Rattle.cms_exec.proofs.Begun.{always_begins}
use Rattle.cms_exec.proofs.laws.start_laws.Goals as goal

pub returns : goal.returns
returns c = always_begins

use Rattle.exec2_run.proofs.Searches.{searches}
use Rattle.exec2_run.proofs.laws.label_laws.Goals as goal

pub returns : goal.returns
returns c = searches

use Rattle.exec2_run.proofs.ByRelation.{moved_are_steps, steps_are_moved}
use Rattle.exec2_run.proofs.laws.call_laws.Goals as goal

pub returns-clause-no_more : goal.returns-clause-no_more
returns-clause-no_more c = steps_are_moved

pub returns-clause-no_less : goal.returns-clause-no_less
returns-clause-no_less c = moved_are_steps

use Rattle.exec2_run.proofs.ByCases.{runs_are_steps, steps_are_runs}
use Rattle.exec2_run.proofs.laws.statement_laws.Goals as goal

pub returns-clause-no_more : goal.returns-clause-no_more
returns-clause-no_more c = runs_are_steps

pub returns-clause-no_less : goal.returns-clause-no_less
returns-clause-no_less c = steps_are_runs

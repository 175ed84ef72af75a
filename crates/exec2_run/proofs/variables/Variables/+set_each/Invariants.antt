use Rattle.std.proofs.Common.{length}
use Rattle.exec2_run.proofs.variables.Variables.+set_each.Given as goal

-- proposed from what the function passes where it calls itself
abbrev pub decreases-set_each : goal.decreases-set_each
decreases-set_each l = length l.names.now

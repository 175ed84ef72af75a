use Rattle.std.proofs.Common.{refl}
use Rattle.cms_host.proofs.Failures.{cause_of, no_cause}
use Rattle.cms_host.proofs.file_world.FileWorldWorld.type_out.Goals as goal

pub returns-in-Some-clause-prints : goal.returns-in-Some-clause-prints
returns-in-Some-clause-prints g c = tt

pub returns-in-None-clause-within : goal.returns-in-None-clause-within
returns-in-None-clause-within g c = tt

pub returns-in-None-clause-taken : goal.returns-in-None-clause-taken
returns-in-None-clause-taken g c = tt

pub returns-in-Some-clause-units : goal.returns-in-Some-clause-units
returns-in-Some-clause-units g c = refl

pub returns-in-Some-clause-faults : goal.returns-in-Some-clause-faults
returns-in-Some-clause-faults g c = refl

pub returns-in-Some-clause-cause : goal.returns-in-Some-clause-cause
returns-in-Some-clause-cause g c = no_cause _ _ _ refl

pub returns-in-None-clause-units : goal.returns-in-None-clause-units
returns-in-None-clause-units g c = c.edge_failed.ensures.units

pub returns-in-None-clause-faults : goal.returns-in-None-clause-faults
returns-in-None-clause-faults g c = c.edge_failed.ensures.faults

pub returns-in-None-clause-cause : goal.returns-in-None-clause-cause
returns-in-None-clause-cause g c = cause_of _ _ _ _ refl c.edge_failed.ensures.later c.edge_failed.ensures.edges

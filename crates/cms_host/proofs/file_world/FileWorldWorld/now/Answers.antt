use Rattle.std.proofs.Common.{◌∙◌, refl}
use Rattle.cms_host.proofs.Failures.{cause_of, no_cause}
use Rattle.cms_host.proofs.HeldBytes.{held_of_same}
use Rattle.cms_host.proofs.file_world.FileWorldWorld.now.Goals as goal

pub invariant_of-self : goal.invariant_of-self
invariant_of-self g c = record { held = held_of_same _ _ c.args.self.now.ahead c.seconds.ensures.files c.args.self.now.held }

pub invariant_of-self-in-None : goal.invariant_of-self-in-None
invariant_of-self-in-None g c = record { held = held_of_same _ _ c.args.self.now.ahead c.seconds.ensures.files c.args.self.now.held }

pub returns-in-Some-clause-done : goal.returns-in-Some-clause-done
returns-in-Some-clause-done g c = c.seconds.ensures.told

pub returns-in-Some-clause-output : goal.returns-in-Some-clause-output
returns-in-Some-clause-output g c = refl

pub returns-in-Some-clause-units : goal.returns-in-Some-clause-units
returns-in-Some-clause-units g c = refl

pub returns-in-Some-clause-faults : goal.returns-in-Some-clause-faults
returns-in-Some-clause-faults g c = refl

pub returns-in-Some-clause-cause : goal.returns-in-Some-clause-cause
returns-in-Some-clause-cause g c = no_cause _ _ _ refl

pub returns-in-None-clause-done : goal.returns-in-None-clause-done
returns-in-None-clause-done g c = c.edge_failed.ensures.told ∙ c.seconds.ensures.told

pub returns-in-None-clause-output : goal.returns-in-None-clause-output
returns-in-None-clause-output g c = c.edge_failed.ensures.output

pub returns-in-None-clause-units : goal.returns-in-None-clause-units
returns-in-None-clause-units g c = c.edge_failed.ensures.units

pub returns-in-None-clause-faults : goal.returns-in-None-clause-faults
returns-in-None-clause-faults g c = c.edge_failed.ensures.faults

pub returns-in-None-clause-cause : goal.returns-in-None-clause-cause
returns-in-None-clause-cause g c = cause_of _ _ _ _ refl c.edge_failed.ensures.later c.edge_failed.ensures.edges

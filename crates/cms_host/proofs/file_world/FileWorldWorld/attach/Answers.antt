use Rattle.std.proofs.Common.{◌∙◌, refl}
use Rattle.cms_host.proofs.Failures.{cause_of, no_cause}
use Rattle.cms_host.proofs.file_world.FileWorldWorld.attach.Goals as goal

pub returns-in-Some-clause-number : goal.returns-in-Some-clause-number
returns-in-Some-clause-number g c = c.in-Some.ensures.number

pub returns-in-Some-clause-opened : goal.returns-in-Some-clause-opened
returns-in-Some-clause-opened g c = c.in-Some.ensures.opened

pub returns-in-Some-clause-units : goal.returns-in-Some-clause-units
returns-in-Some-clause-units g c = c.in-Some.ensures.units

pub returns-in-Some-clause-kept : goal.returns-in-Some-clause-kept
returns-in-Some-clause-kept g c = tt

pub returns-in-None-clause-number : goal.returns-in-None-clause-number
returns-in-None-clause-number g c = tt

pub returns-in-None-clause-opened : goal.returns-in-None-clause-opened
returns-in-None-clause-opened g c = tt

pub returns-in-None-clause-units : goal.returns-in-None-clause-units
returns-in-None-clause-units g c = tt

pub returns-in-Some-clause-cause : goal.returns-in-Some-clause-cause
returns-in-Some-clause-cause g c = no_cause _ _ _ c.attach_image.ensures.edges

pub returns-in-Some-clause-faults : goal.returns-in-Some-clause-faults
returns-in-Some-clause-faults g c = c.attach_image.ensures.faults

pub returns-in-None-clause-kept : goal.returns-in-None-clause-kept
returns-in-None-clause-kept g c = c.edge_failed.ensures.units ∙ c.in-None.ensures.kept refl

pub returns-in-None-clause-cause : goal.returns-in-None-clause-cause
returns-in-None-clause-cause g c = cause_of _ _ _ _ c.attach_image.ensures.edges c.edge_failed.ensures.later c.edge_failed.ensures.edges

pub returns-in-None-clause-faults : goal.returns-in-None-clause-faults
returns-in-None-clause-faults g c = c.edge_failed.ensures.faults ∙ c.attach_image.ensures.faults

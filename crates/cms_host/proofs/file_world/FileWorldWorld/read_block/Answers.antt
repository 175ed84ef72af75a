use Rattle.std.proofs.Common.{◌∙◌}
use Rattle.cms_host.proofs.Failures.{cause_of, no_cause}
use Rattle.cms_host.proofs.file_world.FileWorldWorld.read_block.Goals as goal

pub returns-then-read_unit-clause-bytes : goal.returns-then-read_unit-clause-bytes
returns-then-read_unit-clause-bytes g c = c.read_unit.ensures.bytes c.if-read_unit.true

pub returns-then-read_unit-clause-done : goal.returns-then-read_unit-clause-done
returns-then-read_unit-clause-done g c = c.read_unit.ensures.told

pub returns-then-read_unit-clause-output : goal.returns-then-read_unit-clause-output
returns-then-read_unit-clause-output g c = c.read_unit.ensures.output

pub returns-then-read_unit-clause-units : goal.returns-then-read_unit-clause-units
returns-then-read_unit-clause-units g c = c.read_unit.ensures.units

pub returns-then-read_unit-clause-edges : goal.returns-then-read_unit-clause-edges
returns-then-read_unit-clause-edges g c = c.read_unit.ensures.edges

pub returns-then-read_unit-clause-cause : goal.returns-then-read_unit-clause-cause
returns-then-read_unit-clause-cause g c = no_cause _ _ _ c.read_unit.ensures.faults

pub returns-clause-bytes : goal.returns-clause-bytes
returns-clause-bytes g c = tt

pub returns-clause-done : goal.returns-clause-done
returns-clause-done g c = c.unit_failed.ensures.told ∙ c.read_unit.ensures.told

pub returns-clause-output : goal.returns-clause-output
returns-clause-output g c = c.unit_failed.ensures.output ∙ c.read_unit.ensures.output

pub returns-clause-units : goal.returns-clause-units
returns-clause-units g c = c.unit_failed.ensures.units ∙ c.read_unit.ensures.units

pub returns-clause-edges : goal.returns-clause-edges
returns-clause-edges g c = c.unit_failed.ensures.edges ∙ c.read_unit.ensures.edges

pub returns-clause-cause : goal.returns-clause-cause
returns-clause-cause g c = cause_of _ _ _ _ c.read_unit.ensures.faults c.unit_failed.ensures.later c.unit_failed.ensures.faults

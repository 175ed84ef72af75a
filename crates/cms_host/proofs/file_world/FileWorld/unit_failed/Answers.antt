use Rattle.std.proofs.Common.{refl}
use Rattle.cms_host.proofs.file_world.FileWorld.unit_failed.Goals as goal

pub invariant_of-self : goal.invariant_of-self
invariant_of-self g c = record { held = c.args.self.now.held }

pub invariant_of-self-else-is_none : goal.invariant_of-self-else-is_none
invariant_of-self-else-is_none g c = record { held = c.args.self.now.held }

pub returns-then-is_none-clause-edges : goal.returns-then-is_none-clause-edges
returns-then-is_none-clause-edges g c = refl

pub returns-then-is_none-clause-units : goal.returns-then-is_none-clause-units
returns-then-is_none-clause-units g c = refl

pub returns-then-is_none-clause-output : goal.returns-then-is_none-clause-output
returns-then-is_none-clause-output g c = refl

pub returns-then-is_none-clause-told : goal.returns-then-is_none-clause-told
returns-then-is_none-clause-told g c = refl

pub returns-else-is_none-clause-edges : goal.returns-else-is_none-clause-edges
returns-else-is_none-clause-edges g c = refl

pub returns-else-is_none-clause-units : goal.returns-else-is_none-clause-units
returns-else-is_none-clause-units g c = refl

pub returns-else-is_none-clause-output : goal.returns-else-is_none-clause-output
returns-else-is_none-clause-output g c = refl

pub returns-else-is_none-clause-told : goal.returns-else-is_none-clause-told
returns-else-is_none-clause-told g c = refl

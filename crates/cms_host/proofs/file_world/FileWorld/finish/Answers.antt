use Rattle.std.proofs.Common.{refl}
use Rattle.cms_host.proofs.file_world.FileWorld.finish.Goals as goal

pub returns-then-not-printed-clause-units : goal.returns-then-not-printed-clause-units
returns-then-not-printed-clause-units g c = refl

pub returns-then-not-printed-clause-faults : goal.returns-then-not-printed-clause-faults
returns-then-not-printed-clause-faults g c = refl

pub returns-then-not-printed-clause-edges : goal.returns-then-not-printed-clause-edges
returns-then-not-printed-clause-edges g c = refl

pub returns-else-not-printed-clause-units : goal.returns-else-not-printed-clause-units
returns-else-not-printed-clause-units g c = refl

pub returns-else-not-printed-clause-faults : goal.returns-else-not-printed-clause-faults
returns-else-not-printed-clause-faults g c = refl

pub returns-else-not-printed-clause-edges : goal.returns-else-not-printed-clause-edges
returns-else-not-printed-clause-edges g c = refl

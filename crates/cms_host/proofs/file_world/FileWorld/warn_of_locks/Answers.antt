use Rattle.std.proofs.Common.{refl}
use Rattle.cms_host.proofs.HeldBytes.{held_of_same}
use Rattle.cms_host.proofs.file_world.FileWorld.warn_of_locks.Goals as goal

pub invariant_of-self : goal.invariant_of-self
invariant_of-self g c = record { held = held_of_same _ _ c.args.self.now.ahead c.warn.ensures.files c.args.self.now.held }

pub invariant_of-self-in-Some : goal.invariant_of-self-in-Some
invariant_of-self-in-Some g c = record { held = c.args.self.now.held }

pub invariant_of-self-in_default : goal.invariant_of-self-in_default
invariant_of-self-in_default g c = record { held = c.args.self.now.held }

pub returns-then-self-clause-told : goal.returns-then-self-clause-told
returns-then-self-clause-told g c = refl

pub returns-then-self-clause-output : goal.returns-then-self-clause-output
returns-then-self-clause-output g c = refl

pub returns-then-self-clause-units : goal.returns-then-self-clause-units
returns-then-self-clause-units g c = refl

pub returns-then-self-clause-faults : goal.returns-then-self-clause-faults
returns-then-self-clause-faults g c = refl

pub returns-then-self-clause-edges : goal.returns-then-self-clause-edges
returns-then-self-clause-edges g c = refl

pub returns-in-Unknown-clause-output : goal.returns-in-Unknown-clause-output
returns-in-Unknown-clause-output g c = refl

pub returns-in-Unknown-clause-units : goal.returns-in-Unknown-clause-units
returns-in-Unknown-clause-units g c = refl

pub returns-in-Unknown-clause-faults : goal.returns-in-Unknown-clause-faults
returns-in-Unknown-clause-faults g c = refl

pub returns-in-Unknown-clause-edges : goal.returns-in-Unknown-clause-edges
returns-in-Unknown-clause-edges g c = refl

pub returns-in_default-clause-told : goal.returns-in_default-clause-told
returns-in_default-clause-told g c = refl

pub returns-in_default-clause-output : goal.returns-in_default-clause-output
returns-in_default-clause-output g c = refl

pub returns-in_default-clause-units : goal.returns-in_default-clause-units
returns-in_default-clause-units g c = refl

pub returns-in_default-clause-faults : goal.returns-in_default-clause-faults
returns-in_default-clause-faults g c = refl

pub returns-in_default-clause-edges : goal.returns-in_default-clause-edges
returns-in_default-clause-edges g c = refl

pub returns-in-Unknown-clause-told : goal.returns-in-Unknown-clause-told
returns-in-Unknown-clause-told g c = c.warn.ensures.told

pub returns-in_default-lock : goal.returns-in_default-lock
returns-in_default-lock g c = record { told = refl; output = refl; units = refl; faults = refl; edges = refl }

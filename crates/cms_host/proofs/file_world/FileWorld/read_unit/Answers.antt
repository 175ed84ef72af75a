use Rattle.std.proofs.Common.{◌≡◌, List, get_or, length, true, refl, subst}
use Rattle.std.specs.Prelude.{nat_lt}
use Rattle.std.proofs.lemmas.Bool.{false≢true}
use Rattle.cms_host.specs.declared.file_unit.FileUnit.{FileUnit}
use Rattle.cms_host.proofs.Found.{got_there, of_there}
use Rattle.cms_host.proofs.file_world.FileWorld.read_unit.Goals as goal

pub read-requires : goal.read-requires
read-requires g c = c.args.self.now.held

pub invariant_of-self : goal.invariant_of-self
invariant_of-self g c = record { held = c.read.ensures.held }

pub invariant_of-self-in-None : goal.invariant_of-self-in-None
invariant_of-self-in-None g c = record { held = c.args.self.now.held }

pub returns-in-Some-clause-bytes : goal.returns-in-Some-clause-bytes
returns-in-Some-clause-bytes g c = λ is.
    let units = c.args.self.now.units.items in
    let u = c.in-Some.unit.now in
    let inside = subst (λ (xs : List FileUnit). true ≡ nat_lt c.args.unit (length xs)) c.deref.ensures.value c.in-Some.ensures.lookup.0 in
    of_there _ _ u (got_there units c.args.unit u inside (subst (λ (xs : List FileUnit). u ≡ get_or xs c.args.unit u) c.deref.ensures.value c.in-Some.ensures.lookup.1)) (c.read.ensures.bytes is)

pub returns-in-Some-clause-told : goal.returns-in-Some-clause-told
returns-in-Some-clause-told g c = c.read.ensures.told

pub returns-in-Some-clause-output : goal.returns-in-Some-clause-output
returns-in-Some-clause-output g c = refl

pub returns-in-Some-clause-units : goal.returns-in-Some-clause-units
returns-in-Some-clause-units g c = refl

pub returns-in-Some-clause-faults : goal.returns-in-Some-clause-faults
returns-in-Some-clause-faults g c = refl

pub returns-in-Some-clause-edges : goal.returns-in-Some-clause-edges
returns-in-Some-clause-edges g c = refl

pub returns-in-None-clause-output : goal.returns-in-None-clause-output
returns-in-None-clause-output g c = refl

pub returns-in-None-clause-units : goal.returns-in-None-clause-units
returns-in-None-clause-units g c = refl

pub returns-in-None-clause-faults : goal.returns-in-None-clause-faults
returns-in-None-clause-faults g c = refl

pub returns-in-None-clause-edges : goal.returns-in-None-clause-edges
returns-in-None-clause-edges g c = refl

pub returns-in-None-clause-told : goal.returns-in-None-clause-told
returns-in-None-clause-told g c = refl

pub returns-in-None-clause-bytes : goal.returns-in-None-clause-bytes
returns-in-None-clause-bytes g c = λ is. absurd (false≢true is)

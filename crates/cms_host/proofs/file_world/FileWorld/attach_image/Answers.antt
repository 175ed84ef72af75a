use Rattle.std.proofs.Common.{◌∙◌, List, length, take, ap}
use Rattle.std.proofs.lemmas.Bool.{true≢false}
use Rattle.cms_host.specs.declared.file_unit.FileUnit.{FileUnit}
use Rattle.cms_host.proofs.Found.{deeds_same}
use Rattle.cms_host.proofs.file_world.FileWorld.attach_image.Goals as goal

pub add_unit-requires : goal.add_unit-requires
add_unit-requires g c = c.requires

pub invariant_of-self : goal.invariant_of-self
invariant_of-self g c = record { held = c.add_unit.new.self.held }

pub returns-in-Ok-clause-number : goal.returns-in-Ok-clause-number
returns-in-Ok-clause-number g c = c.in-Ok.ensures.number

pub returns-in-Ok-clause-opened : goal.returns-in-Ok-clause-opened
returns-in-Ok-clause-opened g c =
    deeds_same _ _ c.in-Ok.unit.number _ _ _ _ _ _ _ c.warn_of_locks.ensures.units c.warn_of_locks.ensures.output c.warn_of_locks.ensures.told c.in-Ok.ensures.opened

pub returns-in-Ok-clause-units : goal.returns-in-Ok-clause-units
returns-in-Ok-clause-units g c = ap (λ (units : List FileUnit). take (length c.args.self.now.units.items) units) c.warn_of_locks.ensures.units ∙ c.in-Ok.ensures.units

pub returns-in-Ok-clause-kept : goal.returns-in-Ok-clause-kept
returns-in-Ok-clause-kept g c = λ is. absurd (true≢false is)

pub returns-in-Ok-clause-faults : goal.returns-in-Ok-clause-faults
returns-in-Ok-clause-faults g c = c.warn_of_locks.ensures.faults ∙ c.add_unit.ensures.faults

pub returns-in-Ok-clause-edges : goal.returns-in-Ok-clause-edges
returns-in-Ok-clause-edges g c = c.warn_of_locks.ensures.edges ∙ c.add_unit.ensures.edges

pub returns-in-Err-clause-number : goal.returns-in-Err-clause-number
returns-in-Err-clause-number g c = tt

pub returns-in-Err-clause-opened : goal.returns-in-Err-clause-opened
returns-in-Err-clause-opened g c = tt

pub returns-in-Err-clause-units : goal.returns-in-Err-clause-units
returns-in-Err-clause-units g c = tt

pub returns-in-Err-clause-kept : goal.returns-in-Err-clause-kept
returns-in-Err-clause-kept g c = λ is. c.in-Err.ensures.kept

pub returns-in-Err-clause-faults : goal.returns-in-Err-clause-faults
returns-in-Err-clause-faults g c = c.add_unit.ensures.faults

pub returns-in-Err-clause-edges : goal.returns-in-Err-clause-edges
returns-in-Err-clause-edges g c = c.add_unit.ensures.edges

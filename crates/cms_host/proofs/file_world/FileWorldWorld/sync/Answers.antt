use Rattle.std.proofs.Common.{◌≢◌, List, [], ℕ, Bool, false, slice_get, sym, subst, arith}
use Rattle.std.specs.Prelude.{◌⊎◌, IfSome, IsTrue}
use Rattle.cms_host.specs.Units.{OnlyLoses}
use Rattle.cms_host.specs.declared.file_unit.FileUnit.{FileUnit}
use Rattle.cms_host.proofs.Printed.{prints_same}
use Rattle.cms_host.proofs.Failures.{cause_of}
use Rattle.cms_host.proofs.file_world.FileWorldWorld.sync.Goals as goal

pub returns-then-sync_unit-clause-done : goal.returns-then-sync_unit-clause-done
returns-then-sync_unit-clause-done g c = c.sync_unit.ensures.synced c.if-sync_unit.true

pub returns-then-sync_unit-clause-believed : goal.returns-then-sync_unit-clause-believed
returns-then-sync_unit-clause-believed g c = c.sync_unit.ensures.believed c.if-sync_unit.true

pub returns-then-sync_unit-clause-units : goal.returns-then-sync_unit-clause-units
returns-then-sync_unit-clause-units g c = subst (λ (synced : Bool). OnlyLoses c.args.unit synced c.args.self.now.units.items c.sync_unit.new.self.units.items) c.if-sync_unit.true c.sync_unit.ensures.units

pub returns-then-sync_unit-clause-cause : goal.returns-then-sync_unit-clause-cause
returns-then-sync_unit-clause-cause g c = record { later = omega (arith, c.sync_unit.ensures.faults); failed = tt }

pub returns-clause-prints : goal.returns-clause-prints
returns-clause-prints g c = prints_same _ _ _ _ _ _ (c.sync_unit.ensures.failed c.if-sync_unit.false) c.unit_failed.ensures.output c.unit_failed.ensures.told

pub returns-clause-lost : goal.returns-clause-lost
returns-clause-lost g c =
    subst (λ (output : List ℕ). (output ≢ []) ⊎ IfSome (slice_get c.unit_failed.new.self.units.items c.args.unit) (λ (u : FileUnit). IsTrue u.lost)) (sym c.unit_failed.ensures.output)
    (subst (λ (units : List FileUnit). (c.sync_unit.new.self.output ≢ []) ⊎ IfSome (slice_get units c.args.unit) (λ (u : FileUnit). IsTrue u.lost)) (sym c.unit_failed.ensures.units)
    (c.sync_unit.ensures.lost c.if-sync_unit.false))

pub returns-clause-units : goal.returns-clause-units
returns-clause-units g c =
    subst (λ (units : List FileUnit). OnlyLoses c.args.unit false c.args.self.now.units.items units) (sym c.unit_failed.ensures.units)
    (subst (λ (synced : Bool). OnlyLoses c.args.unit synced c.args.self.now.units.items c.sync_unit.new.self.units.items) c.if-sync_unit.false c.sync_unit.ensures.units)

pub returns-clause-cause : goal.returns-clause-cause
returns-clause-cause g c = cause_of c.args.self.now.faults c.sync_unit.new.self.faults c.unit_failed.new.self.faults c.unit_failed.result c.sync_unit.ensures.faults c.unit_failed.ensures.later c.unit_failed.ensures.faults

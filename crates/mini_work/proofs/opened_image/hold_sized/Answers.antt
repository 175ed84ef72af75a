use Rattle.mini_work.proofs.Caused.{cause_fails, cause_then, later_same}
use Rattle.cms_journal.specs.declared.event.Access.TheVariants.{ReadOnly}
use Rattle.mini_work.proofs.Checked.{shut_new}
use Rattle.mini_work.proofs.LoneUnit.{unwritten_alone, unwritten_same}
use Rattle.mini_work.proofs.opened_image.hold_sized.Goals as goal

pub returns-clause-unwritten : goal.returns-clause-unwritten
returns-clause-unwritten g c = λ is.
    unwritten_same _ _ c.hold_unit.ensures.told (unwritten_alone c.args.image.now c.args.size ReadOnly _ (c.in_ok-unit.ensures.attaches is).alone)

pub returns-clause-shut : goal.returns-clause-shut
returns-clause-shut g c =
    let told = g.W.World.told in
    shut_new c.args.image.now c.args.size (told c.args.world.now) (told c.attach.new.world) (told c.hold_unit.new.world) c.in_ok-unit.unit c.hold_unit.result
    c.in_ok-unit.ensures.attaches c.hold_unit.ensures.shut

pub returns-in_err-unit-clause-cause : goal.returns-in_err-unit-clause-cause
returns-in_err-unit-clause-cause g c = let x = c.in_err-unit.ensures.cause (g.H.Host.faults c.args.host.now) in cause_fails _ _ _ c.in_err-unit.field-0.0 c.from_residual.result (later_same _) c.from_residual.ensures.1 x.later x.failed

pub returns-clause-cause : goal.returns-clause-cause
returns-clause-cause g c = cause_then _ _ _ _ (c.in_ok-unit.ensures.cause (g.H.Host.faults c.args.host.now)).later (c.hold_unit.ensures.cause)

use Rattle.std.proofs.Common.{◌≡◌, [], length, refl, ap, ◌∙◌}
use Rattle.cms_host.proofs.Printed.{done_behind}
use Rattle.cms_host.proofs.Exits.{ok_at_err, on_ok_at_err, on_err}
use Rattle.cms_host.proofs.Found.{pushed_there, pushed_front}
use Rattle.cms_host.proofs.HeldBytes.{holds_nothing}
use Rattle.cms_host.proofs.file_world.FileWorld.add_unit.Goals as goal

pub returns-in-Ok-push-clause-opened : goal.returns-in-Ok-push-clause-opened
returns-in-Ok-push-clause-opened g c =
    let at : c.in-Ok.number ≡ length c.finish.new.self.units.items = c.in-Ok.ensures.1 ∙ c.len.ensures ∙ c.finish.new.self.units.ok.0 in
    let none : c.finish.new.self.output ≡ [] = c.finish.ensures.all.0 c.if-not-finish.false in
    record {
      of = c.in_ok-unit.unit;
      found = pushed_there c.finish.new.self.units.items c.push.new.self.items c.in_ok-unit.unit c.in-Ok.number c.in-Ok-push.ensures.items at;
      done = done_behind _ _ _ _ _ _ _ c.finish.ensures.prints none refl c.in_ok-unit.ensures.opened;
    }

pub returns-then-not-finish-clause-kept : goal.returns-then-not-finish-clause-kept
returns-then-not-finish-clause-kept g c = c.finish.ensures.units

pub returns-in_default-clause-kept : goal.returns-in_default-clause-kept
returns-in_default-clause-kept g c = c.finish.ensures.units

pub returns-in_err-unit-clause-number : goal.returns-in_err-unit-clause-number
returns-in_err-unit-clause-number g c = ok_at_err _ c.from_residual.result _ c.from_residual.ensures.1

pub returns-in_err-unit-clause-opened : goal.returns-in_err-unit-clause-opened
returns-in_err-unit-clause-opened g c = ok_at_err _ c.from_residual.result _ c.from_residual.ensures.1

pub returns-in_err-unit-clause-units : goal.returns-in_err-unit-clause-units
returns-in_err-unit-clause-units g c = on_ok_at_err _ c.from_residual.result _ c.from_residual.ensures.1

pub returns-in_err-unit-clause-kept : goal.returns-in_err-unit-clause-kept
returns-in_err-unit-clause-kept g c = on_err c.from_residual.result _ c.finish.ensures.units

pub returns-in-Ok-push-clause-units : goal.returns-in-Ok-push-clause-units
returns-in-Ok-push-clause-units g c = pushed_front _ _ _ c.in_ok-unit.unit c.finish.ensures.units c.in-Ok-push.ensures.items

pub returns-then-not-finish-clause-number : goal.returns-then-not-finish-clause-number
returns-then-not-finish-clause-number g c = tt

pub returns-then-not-finish-clause-opened : goal.returns-then-not-finish-clause-opened
returns-then-not-finish-clause-opened g c = tt

pub returns-then-not-finish-clause-units : goal.returns-then-not-finish-clause-units
returns-then-not-finish-clause-units g c = tt

pub returns-in_default-clause-number : goal.returns-in_default-clause-number
returns-in_default-clause-number g c = tt

pub returns-in_default-clause-opened : goal.returns-in_default-clause-opened
returns-in_default-clause-opened g c = tt

pub returns-in_default-clause-units : goal.returns-in_default-clause-units
returns-in_default-clause-units g c = tt

pub returns-in-Err-clause-number : goal.returns-in-Err-clause-number
returns-in-Err-clause-number g c = tt

pub returns-in-Err-clause-opened : goal.returns-in-Err-clause-opened
returns-in-Err-clause-opened g c = tt

pub returns-in-Err-clause-units : goal.returns-in-Err-clause-units
returns-in-Err-clause-units g c = tt

pub returns-in-Ok-push-clause-kept : goal.returns-in-Ok-push-clause-kept
returns-in-Ok-push-clause-kept g c = tt

pub returns-then-not-finish-clause-faults : goal.returns-then-not-finish-clause-faults
returns-then-not-finish-clause-faults g c = c.finish.ensures.faults

pub returns-in_default-clause-faults : goal.returns-in_default-clause-faults
returns-in_default-clause-faults g c = c.finish.ensures.faults

pub returns-in_err-unit-clause-faults : goal.returns-in_err-unit-clause-faults
returns-in_err-unit-clause-faults g c = c.finish.ensures.faults

pub returns-in-Ok-push-clause-faults : goal.returns-in-Ok-push-clause-faults
returns-in-Ok-push-clause-faults g c = c.finish.ensures.faults

pub returns-in-Err-clause-faults : goal.returns-in-Err-clause-faults
returns-in-Err-clause-faults g c = c.finish.ensures.faults

pub returns-then-not-finish-clause-edges : goal.returns-then-not-finish-clause-edges
returns-then-not-finish-clause-edges g c = c.finish.ensures.edges

pub returns-in_default-clause-edges : goal.returns-in_default-clause-edges
returns-in_default-clause-edges g c = c.finish.ensures.edges

pub returns-in_err-unit-clause-edges : goal.returns-in_err-unit-clause-edges
returns-in_err-unit-clause-edges g c = c.finish.ensures.edges

pub returns-in-Ok-push-clause-edges : goal.returns-in-Ok-push-clause-edges
returns-in-Ok-push-clause-edges g c = c.finish.ensures.edges

pub returns-in-Err-clause-edges : goal.returns-in-Err-clause-edges
returns-in-Err-clause-edges g c = c.finish.ensures.edges

pub open_unit-requires : goal.open_unit-requires
open_unit-requires g c = c.requires

pub invariant_of-self : goal.invariant_of-self
invariant_of-self g c = record { held = holds_nothing (g.S.System.files c.open_unit.new.system) c.clear.new.self c.clear.ensures }

pub invariant_of-self-2 : goal.invariant_of-self-2
invariant_of-self-2 g c = record { held = holds_nothing (g.S.System.files c.open_unit.new.system) c.clear.new.self c.clear.ensures }

pub returns-in-Err-clause-kept : goal.returns-in-Err-clause-kept
returns-in-Err-clause-kept g c = c.in-Err.ensures.items ∙ c.finish.ensures.units

pub returns-in-Ok-push-clause-number : goal.returns-in-Ok-push-clause-number
returns-in-Ok-push-clause-number g c = c.in-Ok.ensures.1 ∙ c.len.ensures ∙ c.finish.new.self.units.ok.0 ∙ ap length c.finish.ensures.units

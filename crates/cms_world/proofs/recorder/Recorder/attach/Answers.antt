use Rattle.std.proofs.Common.{arith, ◌∙◌, refl, ap, sym, reverse, length, subst}
use Rattle.std.proofs.lemmas.Grind.{common_steps}
use Rattle.cms_world.proofs.Records.{record_attach, cut_back, pushed_err, pushed_ok, view_same, view_unit}
use Rattle.cms_journal.specs.Journal.{Journal, IsUntouched}
use Rattle.cms_world.proofs.Exits.{ok_at_err, holds_at_err}
use Rattle.cms_world.proofs.recorder.Recorder.attach.Goals as goal

pub invariant_of-self-else-is_err : goal.invariant_of-self-else-is_err
invariant_of-self-else-is_err c =
    let kept = record_attach _ _ c.args.unit _ _ c.requires c.self.invariant in
    grind (arith, common_steps, kept)

pub returns-in_err-current-clause-ok : goal.returns-in_err-current-clause-ok
returns-in_err-current-clause-ok c = ok_at_err _ c.from_residual.result _ c.from_residual.ensures.1

pub returns-in_err-current-clause-untouched : goal.returns-in_err-current-clause-untouched
returns-in_err-current-clause-untouched c = ok_at_err _ c.from_residual.result _ c.from_residual.ensures.1

pub returns-in_err-current-clause-err : goal.returns-in_err-current-clause-err
returns-in_err-current-clause-err c = holds_at_err c.from_residual.result refl

pub invariant_of-self : goal.invariant_of-self
invariant_of-self c = rw c.in_err-push.ensures.items c.self.invariant

pub returns-in_err-push-clause-ok : goal.returns-in_err-push-clause-ok
returns-in_err-push-clause-ok c = ok_at_err _ c.from_residual-in_err-push.result _ c.from_residual-in_err-push.ensures.1

pub returns-in_err-push-clause-untouched : goal.returns-in_err-push-clause-untouched
returns-in_err-push-clause-untouched c = ok_at_err _ c.from_residual-in_err-push.result _ c.from_residual-in_err-push.ensures.1

pub returns-in_err-push-clause-err : goal.returns-in_err-push-clause-err
returns-in_err-push-clause-err c = holds_at_err c.from_residual-in_err-push.result c.self.view_is

pub invariant_of-self-then-is_err : goal.invariant_of-self-then-is_err
invariant_of-self-then-is_err c =
    let i = c.self.inside in
    let units = pushed_err c.push-2.result i.units.items c.args.unit c.push-2.new.self.items c.push-2.ensures.items (sym c.is_err.ensures.value ∙ c.if-is_err.true) in
    let long = c.len.ensures ∙ (c.push-2.new.self.ok.0 ∙ (ap length units ∙ sym c.self.invariant.same_length)) in
    let back = cut_back i.current.items _ c.push.new.self.items c.truncate.new.self.items c.len.result c.in_ok-push.ensures.items long c.truncate.ensures.items in
    rw (units, back) c.self.invariant

pub returns-then-is_err-clause-err : goal.returns-then-is_err-clause-err
returns-then-is_err-clause-err c =
    let i = c.self.inside in
    let units = pushed_err c.push-2.result i.units.items c.args.unit c.push-2.new.self.items c.push-2.ensures.items (sym c.is_err.ensures.value ∙ c.if-is_err.true) in
    view_same i.units.items _ i.events.items i.events.items c.args.self.now units refl c.self.view_is

pub returns-clause-ok : goal.returns-clause-ok
returns-clause-ok c =
    let i = c.self.inside in
    let units = pushed_ok c.push-2.result i.units.items c.args.unit c.push-2.new.self.items c.push-2.ensures.items (sym c.is_err.ensures.value ∙ c.if-is_err.false) in
    view_unit i.units.items c.push-2.new.self.items c.args.unit (reverse i.events.items) c.args.self.now units c.self.view_is

pub returns-clause-untouched : goal.returns-clause-untouched
returns-clause-untouched c =
    let i = c.self.inside in
    subst (λ (j : Journal). IsUntouched j.events (length j.units)) c.self.view_is (c.self.invariant.to_come (length i.units.items) (omega arith))

use Rattle.std.proofs.Common.{sym, subst}
use Rattle.cms_held.specs.HeldVolumes.{HeldVolume}
use Rattle.cms_edf.specs.ChangePlans.{CanChange, IsFullFor, IsPlanFor, change_of}
use Rattle.cms_edf.proofs.Exits.{ok_at_err, same_at_err}
use Rattle.cms_edf.proofs.change_plan.plan.Goals as goal

pub step_for-requires-clause-stamp : goal.step_for-requires-clause-stamp
step_for-requires-clause-stamp c = c.requires.stamp

pub step_for-requires-clause-change : goal.step_for-requires-clause-change
step_for-requires-clause-change c = subst (λ (v : HeldVolume). CanChange v.files c.args.change.now) (sym c.reserve.ensures.volume) c.requires.change

pub returns-clause-planned : goal.returns-clause-planned
returns-clause-planned c =
    subst (λ (v : HeldVolume). IsPlanFor v (change_of c.args.change.now) c.args.stamp.now c.in_ok-step.step) c.reserve.ensures.volume c.in_ok-step.ensures.planned

pub returns-in_err-step-clause-full : goal.returns-in_err-step-clause-full
returns-in_err-step-clause-full c =
    same_at_err c.from_residual.result (IsFullFor c.args.held.now.volume c.args.change.now) _ c.from_residual.ensures.1
    (subst (λ (v : HeldVolume). IsFullFor v c.args.change.now c.in_err-step.field-0.0) c.reserve.ensures.volume c.in_err-step.ensures.full)

pub returns-in_default-clause-volume : goal.returns-in_default-clause-volume
returns-in_default-clause-volume c = c.reserve.ensures.volume

pub returns-in_err-step-clause-volume : goal.returns-in_err-step-clause-volume
returns-in_err-step-clause-volume c = c.reserve.ensures.volume

pub returns-clause-volume : goal.returns-clause-volume
returns-clause-volume c = c.reserve.ensures.volume

pub returns-in_default-clause-places : goal.returns-in_default-clause-places
returns-in_default-clause-places c = c.reserve.ensures.places

pub returns-in_err-step-clause-places : goal.returns-in_err-step-clause-places
returns-in_err-step-clause-places c = c.reserve.ensures.places

pub returns-clause-places : goal.returns-clause-places
returns-clause-places c = c.reserve.ensures.places

pub returns-in_default-clause-kept : goal.returns-in_default-clause-kept
returns-in_default-clause-kept c = c.reserve.ensures.kept

pub returns-in_err-step-clause-kept : goal.returns-in_err-step-clause-kept
returns-in_err-step-clause-kept c = c.reserve.ensures.kept

pub returns-clause-kept : goal.returns-clause-kept
returns-clause-kept c = c.reserve.ensures.kept

pub returns-clause-spare : goal.returns-clause-spare
returns-clause-spare c = c.in-Ok.ensures.spare

pub returns-in_err-step-clause-planned : goal.returns-in_err-step-clause-planned
returns-in_err-step-clause-planned c = ok_at_err _ c.from_residual.result _ c.from_residual.ensures.1

pub returns-in_err-step-clause-spare : goal.returns-in_err-step-clause-spare
returns-in_err-step-clause-spare c = ok_at_err _ c.from_residual.result _ c.from_residual.ensures.1

pub returns-in_default-clause-planned : goal.returns-in_default-clause-planned
returns-in_default-clause-planned c = tt

pub returns-in_default-clause-spare : goal.returns-in_default-clause-spare
returns-in_default-clause-spare c = tt

pub returns-clause-full : goal.returns-clause-full
returns-clause-full c = tt

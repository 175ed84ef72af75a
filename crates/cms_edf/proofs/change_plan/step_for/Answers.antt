use Rattle.std.proofs.Common.{◌-◌, ℕ, length, sym, ◌∙◌, subst}
use Rattle.std.specs.Result.{IfErr, IfOk}
use Rattle.std.proofs.lemmas.Option.{same_Some}
use Rattle.std.proofs.lemmas.Result.{IfErr-weaker, IfOk-weaker}
use Rattle.cms_held.specs.Renewals.{made_at, made_without, needed}
use Rattle.cms_model.specs.Changes as model
use Rattle.cms_edf.specs.ChangePlans.{CanChange, IsFullFor, IsPlanFor, IsRelabelOf, IsStepOf, change_of}
use Rattle.cms_edf.specs.NoRoom.{LacksRoom}
use Rattle.cms_edf.specs.declared.change.Change as asked
use Rattle.cms_edf.specs.declared.change.Change.TheVariants as ask
use Rattle.cms_edf.specs.declared.change.FileEdit.TheVariants as does
use Rattle.cms_edf.proofs.Planned.{century_for, drop_for, may_rename, named_at, relabel_for, rename_for, step_for}
use Rattle.cms_edf.proofs.change_plan.step_for.Goals as goal

pub edit_step-requires-clause-stamp : goal.edit_step-requires-clause-stamp
edit_step-requires-clause-stamp c = c.requires.stamp

pub edit_step-requires-clause-may : goal.edit_step-requires-clause-may
edit_step-requires-clause-may c = (named_at c.args.held.now.volume.files c.in-Drop.name.now c.place-place.result c.place-place.ensures).within

pub returns-in-Drop-clause-planned : goal.returns-in-Drop-clause-planned
returns-in-Drop-clause-planned c =
    let v = c.args.held.now.volume in
    let stamp = c.args.stamp.now in
    let name = c.in-Drop.name.now in
    let k = c.place-place.result in
    subst (λ (a : asked.Change). IfOk c.edit_step.result (IsPlanFor v (change_of a) stamp)) (sym c.in-Drop.is)
    (IfOk-weaker c.edit_step.result (IsStepOf v (does.Drop k) stamp) (IsPlanFor v (model.Drop name) stamp)
    (λ step is. step_for v (model.Drop name) (does.Drop k) stamp step (λ s ready. drop_for v name k stamp s c.place-place.ensures ready) is) c.edit_step.ensures.step)

pub returns-in-Drop-clause-full : goal.returns-in-Drop-clause-full
returns-in-Drop-clause-full c =
    let v = c.args.held.now.volume in
    let k = c.place-place.result in
    let Lacks = λ (place : ℕ). LacksRoom v (needed v (length v.files - 1) (made_without place (length v.files))) in
    subst (λ (a : asked.Change). IfErr c.edit_step.result (IsFullFor v a)) (sym c.in-Drop.is)
    (IfErr-weaker c.edit_step.result (Lacks k) (IsFullFor v (ask.Drop c.in-Drop.name))
    (λ why lacks place is. subst (λ (n : ℕ). Lacks n why) (same_Some k place (sym c.place-place.ensures ∙ is)) lacks) c.edit_step.ensures.full)

pub edit_step-requires-in-Rename-clause-stamp : goal.edit_step-requires-in-Rename-clause-stamp
edit_step-requires-in-Rename-clause-stamp c = c.requires.stamp

pub edit_step-requires-in-Rename-clause-may : goal.edit_step-requires-in-Rename-clause-may
edit_step-requires-in-Rename-clause-may c =
    let files = c.args.held.now.volume.files in
    let can = subst (CanChange files) c.in-Rename.is c.requires.change in
    may_rename files c.in-Rename.from.now c.in-Rename.to.now c.in-Rename.number c.place.result c.place.ensures can.1 can.2

pub returns-in-Rename-clause-planned : goal.returns-in-Rename-clause-planned
returns-in-Rename-clause-planned c =
    let v = c.args.held.now.volume in
    let stamp = c.args.stamp.now in
    let r = c.in-Rename in
    let k = c.place.result in
    let can = subst (CanChange v.files) r.is c.requires.change in
    let change = model.Rename r.from.now r.to.now r.number in
    let edit = does.Rename k r.to.now r.number in
    subst (λ (a : asked.Change). IfOk c.edit_step-in-Rename.result (IsPlanFor v (change_of a) stamp)) (sym r.is)
    (IfOk-weaker c.edit_step-in-Rename.result (IsStepOf v edit stamp) (IsPlanFor v change stamp)
    (λ step is. step_for v change edit stamp step (λ s ready. rename_for v r.from.now r.to.now r.number k stamp s c.place.ensures can.1 can.2 ready) is) c.edit_step-in-Rename.ensures.step)

pub returns-in-Rename-clause-full : goal.returns-in-Rename-clause-full
returns-in-Rename-clause-full c =
    let v = c.args.held.now.volume in
    let k = c.place.result in
    let r = c.in-Rename in
    let Lacks = λ (place : ℕ). LacksRoom v (needed v (length v.files) (made_at place)) in
    subst (λ (a : asked.Change). IfErr c.edit_step-in-Rename.result (IsFullFor v a)) (sym r.is)
    (IfErr-weaker c.edit_step-in-Rename.result (Lacks k) (IsFullFor v (ask.Rename r.from r.to r.number))
    (λ why lacks place is. subst (λ (n : ℕ). Lacks n why) (same_Some k place (sym c.place.ensures ∙ is)) lacks) c.edit_step-in-Rename.ensures.full)

pub returns-in-Relabel-clause-planned : goal.returns-in-Relabel-clause-planned
returns-in-Relabel-clause-planned c =
    let v = c.args.held.now.volume in
    let stamp = c.args.stamp.now in
    let volid = c.in-Relabel.volid in
    subst (λ (a : asked.Change). IfOk c.relabel_step.result (IsPlanFor v (change_of a) stamp)) (sym c.in-Relabel.is)
    (IfOk-weaker c.relabel_step.result (IsRelabelOf v volid) (IsPlanFor v (model.Relabel volid) stamp) (λ step is. relabel_for v volid stamp step is) c.relabel_step.ensures.step)

pub returns-in-Relabel-clause-full : goal.returns-in-Relabel-clause-full
returns-in-Relabel-clause-full c = subst (λ (a : asked.Change). IfErr c.relabel_step.result (IsFullFor c.args.held.now.volume a)) (sym c.in-Relabel.is) c.relabel_step.ensures.memory

pub edit_step-requires-in-Century-clause-stamp : goal.edit_step-requires-in-Century-clause-stamp
edit_step-requires-in-Century-clause-stamp c = c.requires.stamp

pub edit_step-requires-in-Century-clause-may : goal.edit_step-requires-in-Century-clause-may
edit_step-requires-in-Century-clause-may c = subst (CanChange c.args.held.now.volume.files) c.in-Century.is c.requires.change

pub returns-in-Century-clause-planned : goal.returns-in-Century-clause-planned
returns-in-Century-clause-planned c =
    let v = c.args.held.now.volume in
    let stamp = c.args.stamp.now in
    let pivot = c.in-Century.pivot in
    let small = subst (CanChange v.files) c.in-Century.is c.requires.change in
    subst (λ (a : asked.Change). IfOk c.edit_step-in-Century.result (IsPlanFor v (change_of a) stamp)) (sym c.in-Century.is)
    (IfOk-weaker c.edit_step-in-Century.result (IsStepOf v (does.Century pivot) stamp) (IsPlanFor v (model.Century pivot) stamp)
    (λ step is. step_for v (model.Century pivot) (does.Century pivot) stamp step (λ s ready. century_for v pivot stamp s small ready) is) c.edit_step-in-Century.ensures.step)

pub returns-in-Century-clause-full : goal.returns-in-Century-clause-full
returns-in-Century-clause-full c =
    subst (λ (a : asked.Change). IfErr c.edit_step-in-Century.result (IsFullFor c.args.held.now.volume a)) (sym c.in-Century.is) c.edit_step-in-Century.ensures.full

use Rattle.std.proofs.Common.{◌≡◌, ◌∙◌, inr, None, Result, Err, refl, sym, ap, subst}
use Rattle.std.specs.Prelude.{IfErr, ⊤}
use Rattle.std.proofs.lemmas.Result.{err_from_is_err_and}
use Rattle.cms_model.specs.Changes.{Add}
use Rattle.cms_model.specs.LawsUpdates.{now}
use Rattle.cms_held.proofs.Fronts.{if_err}
use Rattle.cms_disk.specs.Additions.{IsAddFault}
use Rattle.cms_disk.specs.Changes.{Appends}
use Rattle.cms_disk.specs.Disks.{place_of}
use Rattle.cms_disk.specs.declared.fault.DiskFault.{DiskFault}
use Rattle.cms_disk.specs.declared.fault.DiskFault.TheVariants.{NotFound}
use Rattle.cms_disk.proofs.FilesFound.{none_found}
use Rattle.cms_disk.proofs.minidisk.Minidisk.append.Goals as goal

pub returns-in_err-place-clause-appends : goal.returns-in_err-place-clause-appends
returns-in_err-place-clause-appends g c = λ j m records told is stands.
    let p = err_from_is_err_and c.from_residual.result c.from_residual.ensures.1 in
    let old = g.W.World.told c.args.world.now in
    let d = c.args.self.now in
    let none = c.in_err-place.ensures in
    subst (Appends old old d d m (Add c.args.name.now records c.args.more.now.stamp) c.args.stamp.now) (sym (p.1 ∙ ap Err (p.2 ∙ none.fault)))
    (refl, none_found d c.args.name.now none.missing (now j d.volume.unit) m is.stands)

pub returns-in_err-place-clause-fault : goal.returns-in_err-place-clause-fault
returns-in_err-place-clause-fault g c =
    let p = err_from_is_err_and c.from_residual.result c.from_residual.ensures.1 in
    let none = c.in_err-place.ensures in
    subst (λ (r : Result ⊤ DiskFault). IfErr r (IsAddFault c.args.self.now c.args.name.now c.args.more.now)) (sym (p.1 ∙ ap Err (p.2 ∙ none.fault))) none.missing

pub returns-clause-missing : goal.returns-clause-missing
returns-clause-missing g c =
    let d = c.args.self.now in
    let name = c.args.name.now in
    let more = c.args.more.now in
    if_err c.append_at.result (IsAddFault d name more) (λ (e : DiskFault). e ≡ NotFound → place_of name d.volume ≡ None)
    (λ e fault same. subst (IsAddFault d name more) same fault) c.append_at.ensures.fault

pub returns-clause-locked : goal.returns-clause-locked
returns-clause-locked g c = λ locked. inr (c.append_at.ensures.locked locked)

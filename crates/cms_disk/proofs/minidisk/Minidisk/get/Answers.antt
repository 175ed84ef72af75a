use Rattle.std.proofs.Common.{◌≡◌, ◌⊎◌, inr, None, Some}
use Rattle.std.proofs.lemmas.Result.{err_from_is_err_and}
use Rattle.cms_journal.specs.Journal.{contents_of}
use Rattle.cms_model.specs.Trees.{image_of}
use Rattle.cms_model.specs.declared.file.FileData.{FileData}
use Rattle.cms_held.proofs.Fronts.{if_err}
use Rattle.cms_names.specs.declared.name.Name.{Name}
use Rattle.cms_disk.specs.Disks.{place_of}
use Rattle.cms_disk.specs.Gets.{IsLike}
use Rattle.cms_disk.specs.declared.fault.DiskFault.{DiskFault}
use Rattle.cms_disk.specs.declared.fault.DiskFault.TheVariants.{Altered, Device, Memory, NotFound}
use Rattle.cms_disk.proofs.FilesFound.{ok_maps}
use Rattle.cms_disk.proofs.Gotten.{gets_none, is_there}
use Rattle.cms_disk.proofs.minidisk.Minidisk.get.Goals as goal

pub returns-in_err-place-clause-file : goal.returns-in_err-place-clause-file
returns-in_err-place-clause-file g c =
    let p = err_from_is_err_and c.from_residual.result c.from_residual.ensures.1 in
    rw (p.1, p.2) (λ j told m stands. gets_none c.args.name.now m c.in_err-place.field-0.0 c.in_err-place.ensures.fault
    (c.in_err-place.ensures.absent (image_of (contents_of j c.args.self.now.volume.unit)) m stands))

pub returns-clause-like : goal.returns-clause-like
returns-clause-like g c =
    let v = c.args.self.now.volume in
    ok_maps (λ (d : FileData). (name : Name) → place_of name v ≡ Some c.in_ok-place.place → IsLike v name d) (IsLike v c.args.name.now) c.get_at.result
    (λ d like. like c.args.name.now c.in_ok-place.ensures.place)
    c.get_at.ensures.like

pub returns-clause-file : goal.returns-clause-file
returns-clause-file g c = c.get_at.ensures.file c.args.name.now c.in_ok-place.ensures.place

pub returns-clause-missing : goal.returns-clause-missing
returns-clause-missing g c =
    if_err c.get_at.result (λ (e : DiskFault). (e ≡ Device) ⊎ (e ≡ Altered) ⊎ (e ≡ Memory)) (λ (e : DiskFault). e ≡ NotFound → place_of c.args.name.now c.args.self.now.volume ≡ None)
    (λ e why none. absurd (is_there e why none)) c.get_at.ensures.fault

pub returns-clause-fault : goal.returns-clause-fault
returns-clause-fault g c =
    if_err c.get_at.result (λ (e : DiskFault). (e ≡ Device) ⊎ (e ≡ Altered) ⊎ (e ≡ Memory)) (λ (e : DiskFault). (e ≡ NotFound) ⊎ (e ≡ Device) ⊎ (e ≡ Altered) ⊎ (e ≡ Memory))
    (λ e why. inr why) c.get_at.ensures.fault

-- What is stored of a file that is held are its records.
use Rattle.std.proofs.Common.{◌≡◌, Some, subst, slice_get}
use Rattle.std.specs.Prelude.{IfSome}
use Rattle.cms_held.specs.Kept.{IsSized}
use Rattle.cms_edf.specs.FilesTold.{infos_in, stored_in}
use Rattle.cms_disk.specs.Disks.{Accessed}
use Rattle.cms_disk.proofs.FilesFound.{stored_told}
use Rattle.cms_disk.proofs.FilesTold.{told_sized}
use Rattle.cms_disk.proofs.minidisk.Minidisk.stored.Goals as goal

pub returns-clause-records : goal.returns-clause-records
returns-clause-records c = λ image m f stands at. stored_told image c.args.self.now m f c.args.nth c.stored.result stands at
    (subst (λ (a : Accessed). slice_get (stored_in a.volume) c.args.nth ≡ Some c.stored.result) c.self.view_is c.stored.ensures.stored)

pub returns-clause-sized : goal.returns-clause-sized
returns-clause-sized c =
    let v = c.self.inside.held.volume in
    subst (λ (a : Accessed). IfSome (slice_get (infos_in a.volume) c.args.nth) (λ info. IsSized info.format info.length info.count c.stored.result)) c.self.view_is
    (told_sized v.disk.bsize v.label.blocks v.files c.args.nth c.stored.result c.stored.ensures.kept.each c.stored.ensures.stored)

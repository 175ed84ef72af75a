use Rattle.std.proofs.Common.{◌≡◌, Some}
use Rattle.cms_names.specs.declared.name.Name.{Name}
use Rattle.cms_disk.specs.Cursors.{Cursor}
use Rattle.cms_disk.specs.Disks.{FirstIn, OpensIn, StartsAt, place_of}
use Rattle.cms_disk.proofs.FilesFound.{ok_maps}
use Rattle.cms_disk.proofs.minidisk.Minidisk.cursor.Goals as goal

pub returns-clause-start : goal.returns-clause-start
returns-clause-start c =
    let v = c.args.self.now.volume in
    let place = c.in_ok-place.place in
    ok_maps (FirstIn v place) (StartsAt c.args.name.now v) c.cursor_at.result
    (λ x first. record { place = place; place_is = c.in_ok-place.ensures.place; file = first.0; file_is = first.1; first = first.2 })
    c.cursor_at.ensures.first

pub returns-clause-records : goal.returns-clause-records
returns-clause-records c =
    let d = c.args.self.now in
    ok_maps (λ (x : Cursor). (name : Name) → place_of name d.volume ≡ Some c.in_ok-place.place → OpensIn d name x) (OpensIn d c.args.name.now) c.cursor_at.result
    (λ x opens. opens c.args.name.now c.in_ok-place.ensures.place)
    c.cursor_at.ensures.records

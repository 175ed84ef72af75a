use Rattle.std.proofs.Common.{◌≡◌, ◌≤◌, Some, ap, subst}
use Rattle.std.specs.Prelude.{IfOk}
use Rattle.cms_fields.specs.Limits.{longest_record}
use Rattle.cms_model.specs.Volumes.{Disk}
use Rattle.cms_names.specs.declared.name.Name.{Name}
use Rattle.cms_held.specs.Kept.{Keeps}
use Rattle.cms_disk.specs.Cursors.{IsFirst, Cursor}
use Rattle.cms_disk.specs.Disks.{Accessed, FirstIn, OpensIn, place_of}
use Rattle.cms_disk.proofs.FilesFound.{CanRead, HasFile, can_read, first_is, has_file, ok_maps, opens_in}
use Rattle.cms_disk.proofs.FilesTold.{first_short}
use Rattle.cms_disk.proofs.minidisk.Minidisk.cursor_at.Goals as goal
use Rattle.cms_disk.proofs.minidisk.Minidisk.cursor_at.Goals.{After-leaves-leaves}

-- the file at the place, as it is held
held_file : (c : After-leaves-leaves) → HasFile c.self.inside.held.volume c.args.place c.info-info.result c.leaves-leaves.result.now
held_file c = has_file c.self.inside.held.volume c.args.place c.info-info.result c.leaves-leaves.result.now c.info-info.ensures.info c.leaves-leaves.ensures.leaves

may_be_read : (c : After-leaves-leaves) → CanRead c.self.inside.unit.unit.blocks c.self.inside.unit.bsize c.info-info.result c.leaves-leaves.result.now
may_be_read c =
    let v = c.self.inside in
    can_read v.held.volume c.args.place v.unit.unit.blocks v.unit.bsize c.info-info.result c.leaves-leaves.result.now c.info-info.ensures.kept
    (ap (λ (d : Disk). d.count) c.self.invariant.disk) (ap (λ (d : Disk). d.bsize) c.self.invariant.disk) (held_file c)

keeps : (c : After-leaves-leaves) → Keeps c.args.self.now.volume
keeps c = subst (λ (d : Accessed). Keeps d.volume) c.self.view_is c.info-info.ensures.kept

pub new-requires-clause-leaves : goal.new-requires-clause-leaves
new-requires-clause-leaves c = (may_be_read (goal.at.new-requires-clause-leaves c).After-leaves-leaves).on

pub new-requires-clause-few : goal.new-requires-clause-few
new-requires-clause-few c = (may_be_read (goal.at.new-requires-clause-few c).After-leaves-leaves).few

pub new-requires-clause-short : goal.new-requires-clause-short
new-requires-clause-short c = (may_be_read (goal.at.new-requires-clause-short c).After-leaves-leaves).short

pub new-requires-clause-fixed : goal.new-requires-clause-fixed
new-requires-clause-fixed c = (may_be_read (goal.at.new-requires-clause-fixed c).After-leaves-leaves).fixed

pub returns-clause-first : goal.returns-clause-first
returns-clause-first c =
    let v = c.self.inside in
    let info = c.info-info.result in
    let leaves = c.leaves-leaves.result.now in
    let has = held_file (goal.at.returns-clause-first c).After-leaves-leaves in
    subst (λ (d : Accessed). IfOk c.new.result (FirstIn d.volume c.args.place)) c.self.view_is
    (ok_maps (IsFirst v.unit.unit.number v.unit.unit.blocks v.unit.bsize leaves info.format info.length info.count) (FirstIn v.held.volume c.args.place) c.new.result
    (λ x first. first_is v.held.volume c.args.place v.unit.unit.number v.unit.unit.blocks v.unit.bsize info leaves x c.self.invariant.number
    (ap (λ (d : Disk). d.count) c.self.invariant.disk) (ap (λ (d : Disk). d.bsize) c.self.invariant.disk) has first)
    c.new.ensures.first)

pub returns-clause-records : goal.returns-clause-records
returns-clause-records c =
    let d = c.args.self.now in
    let place = c.args.place in
    let sound = keeps (goal.at.returns-clause-records c).After-leaves-leaves in
    ok_maps (FirstIn d.volume place) (λ (x : Cursor). (name : Name) → place_of name d.volume ≡ Some place → OpensIn d name x) c.new.result
    (λ x first name at. opens_in d name x sound (record { place = place; place_is = at; file = first.0; file_is = first.1; first = first.2 }))
    (returns-clause-first c)

pub returns-clause-short : goal.returns-clause-short
returns-clause-short c =
    let d = c.args.self.now in
    let place = c.args.place in
    let sound = keeps (goal.at.returns-clause-short c).After-leaves-leaves in
    ok_maps (FirstIn d.volume place) (λ (x : Cursor). x.begun.longest ≤ longest_record) c.new.result (λ x first. first_short d.volume place x sound first) (returns-clause-first c)

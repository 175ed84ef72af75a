use Rattle.std.proofs.Common.{◌≡◌, Result, Err, Some, false, List, [], refl, sym, ◌∙◌, ap, subst, inl}
use Rattle.std.specs.Prelude.{IfErr, ⊤}
use Rattle.std.proofs.lemmas.Result.{err_from_is_err_and}
use Rattle.std.proofs.lemmas.Bool.{true≢false}
use Rattle.cms_journal.specs.Journal.{HasBlocks, IsWritable}
use Rattle.cms_world.specs.Seen.{seen}
use Rattle.cms_journal.specs.declared.event.Attached.{Attached}
use Rattle.cms_model.specs.Changes.{Put}
use Rattle.cms_tree.proofs.ClimbSteps.{units_kept}
use Rattle.cms_held.proofs.Fronts.{if_err}
use Rattle.cms_held.specs.HeldVolumes.{HeldVolume}
use Rattle.cms_held.specs.Puts.{count_put, limit_put}
use Rattle.cms_edf.specs.FileDrafts.{IsSomeDraft, LeadsToFile}
use Rattle.cms_edf.proofs.Committed.{can_write}
use Rattle.cms_journal.specs.Told.{Told}
use Rattle.cms_held.specs.FileWriters.{HaveShape}
use Rattle.cms_edf.specs.declared.draft.Draft.{Draft}
use Rattle.cms_held.specs.declared.shape.DraftShape.{DraftShape}
use Rattle.cms_disk.specs.Changes.{Alters, IsDevices, IsPutIn}
use Rattle.cms_disk.specs.Disks.{Accessed}
use Rattle.cms_disk.specs.Drafts.{GoesOn, HaveCounts, IsDraftFault, IsPutFault, file_with, shape_of}
use Rattle.cms_disk.specs.declared.fault.DiskFault.{DiskFault}
use Rattle.cms_disk.specs.declared.fault.DiskFault.TheVariants.{Limit, ReadOnly}
use Rattle.cms_disk.proofs.FilePut.{alters_same, are_last, changed_behind, device_is_fault, draft_is_fault, file_none, given_up, has_counts, has_shape, long_so, not_made, not_read_only, on_ok, put_in, refused_so}
use Rattle.cms_disk.proofs.RecordsPut.{same_draft, same_some}
use Rattle.cms_edf.proofs.Exits.{ok_at_err, same_at_err}
use Rattle.cms_disk.proofs.Refused.{changed_places, draft_none, no_unit_changed, passed_on}
use Rattle.cms_disk.proofs.minidisk.Minidisk.put_at.Goals as goal

pub returns-in_err-draft-clause-alters : goal.returns-in_err-draft-clause-alters
returns-in_err-draft-clause-alters g c = λ j m records told is stands.
    let p = err_from_is_err_and c.from_residual.result c.from_residual.ensures.1 in
    let old = g.W.World.told c.args.world.now in
    let d = c.args.self.now in
    let e = c.draft_at.new.self in
    let name = c.args.name.now in
    let shape = c.shape_of-shape.result in
    let stamp = c.args.stamp.now in
    let why = c.in_err-draft.field-0.0 in
    let eq = c.shape_of-shape.ensures.shape in
    let counts = subst (λ (s : DraftShape). HaveCounts s records) (sym eq) (has_counts c.args.file.now records stands) in
    subst (λ (s : DraftShape). Alters old old d e m (Put (file_with name s records)) stamp c.from_residual.result) eq
    (subst (Alters old old d e m (Put (file_with name shape records)) stamp) (sym (p.1 ∙ ap Err p.2))
    (refused_so Draft old d e m name shape records stamp why c.in_err-draft.ensures.fault (c.in_err-draft.ensures.answers j m records is (c.requires.blocks j told) counts)))

pub returns-in_err-draft-clause-fault : goal.returns-in_err-draft-clause-fault
returns-in_err-draft-clause-fault g c =
    let p = err_from_is_err_and c.from_residual.result c.from_residual.ensures.1 in
    let d = c.args.self.now in
    let name = c.args.name.now in
    let shape = shape_of c.args.file.now in
    subst (λ (r : Result ⊤ DiskFault). IfErr r (IsPutFault d name shape)) (sym (p.1 ∙ ap Err p.2))
    (draft_is_fault d name shape _ (subst (λ (s : DraftShape). IsDraftFault d name s c.in_err-draft.field-0.0) c.shape_of-shape.ensures.shape c.in_err-draft.ensures.fault))

pub put_records-requires-clause-last : goal.put_records-requires-clause-last
put_records-requires-clause-last g c = are_last c.args.file.now c.requires.file _ _ _ _ c.in_ok-draft.draft.writer c.shape_of-shape.ensures.shape c.in_ok-draft.ensures.fresh

pub put_records-requires-clause-ready : goal.put_records-requires-clause-ready
put_records-requires-clause-ready g c = λ j told.
    can_write j.units c.args.self.now.volume c.in_ok-draft.draft c.in_ok-draft.ensures.some (c.requires.blocks j told) (c.requires.writable c.in_ok-draft.ensures.writable j told)

pub returns-in-Err-clause-alters : goal.returns-in-Err-clause-alters
returns-in-Err-clause-alters g c = λ j m records told is stands.
    let old = g.W.World.told c.args.world.now in
    let new = g.W.World.told c.put_records.new.world in
    let d = c.args.self.now in
    let e = c.draft_at.new.self in
    let name = c.args.name.now in
    let shape = c.shape_of-shape.result in
    let stamp = c.args.stamp.now in
    let draft = c.in_ok-draft.draft in
    let made = c.in_ok-draft.ensures in
    let eq = c.shape_of-shape.ensures.shape in
    let change = Put (file_with name shape records) in
    let have = subst (λ (s : DraftShape). HaveShape s records) (sym eq) (has_shape c.args.file.now records stands) in
    let goes = subst (λ (t : Told). GoesOn t t e m draft change stamp [] records) (sym told)
    (made.begins j m records is (c.requires.blocks j told) have (long_so c.args.file.now shape records eq stands)) in
    let g' = c.in-Err.ensures.puts old e m change stamp [] records stands goes in
    let counts = subst (λ (s : DraftShape). HaveCounts s records) (sym eq) (has_counts c.args.file.now records stands) in
    subst (λ (s : DraftShape). Alters old new d e m (Put (file_with name s records)) stamp (Err c.in-Err.fault)) eq
    (subst (Alters old new d e m (Put (file_with name shape records)) stamp) (sym (ap Err c.in-Err.ensures.fault))
    (given_up old new e e m change stamp _ g' (made.answers j m records is (c.requires.blocks j told) counts) (file_none (file_with name shape records)) (refl, refl) refl))

pub commit-requires-clause-blocks : goal.commit-requires-clause-blocks
commit-requires-clause-blocks g c = λ k told.
    let volume = ap (λ (a : Accessed). a.volume) c.in_ok-draft.ensures.kept in
    subst (λ (v : HeldVolume). HasBlocks k.units v.unit v.disk.count v.disk.bsize) (sym volume)
    (units_kept (λ (units : List Attached). HasBlocks units c.args.self.now.volume.unit c.args.self.now.volume.disk.count c.args.self.now.volume.disk.bsize) _ _
    c.in-Ok.ensures.changes.grown c.requires.blocks k told)

pub commit-requires-clause-writable : goal.commit-requires-clause-writable
commit-requires-clause-writable g c = λ k told.
    let volume = ap (λ (a : Accessed). a.volume) c.in_ok-draft.ensures.kept in
    subst (λ (v : HeldVolume). IsWritable k.units v.unit) (sym volume)
    (units_kept (λ (units : List Attached). IsWritable units c.args.self.now.volume.unit) _ _ c.in-Ok.ensures.changes.grown (c.requires.writable c.in_ok-draft.ensures.writable) k told)

pub returns-in-Ok-clause-alters : goal.returns-in-Ok-clause-alters
returns-in-Ok-clause-alters g c = λ j m records told is stands.
    let old = g.W.World.told c.args.world.now in
    let new = g.W.World.told c.commit.new.world in
    let d = c.args.self.now in
    let e = c.draft_at.new.self in
    let name = c.args.name.now in
    let shape = c.shape_of-shape.result in
    let stamp = c.args.stamp.now in
    let draft = c.in_ok-draft.draft in
    let made = c.in_ok-draft.ensures in
    let put = c.in-Ok.ensures in
    let eq = c.shape_of-shape.ensures.shape in
    let volume = ap (λ (a : Accessed). a.volume) made.kept in
    let writable = ap (λ (a : Accessed). a.writable) made.kept in
    let change = Put (file_with name shape records) in
    let have = subst (λ (s : DraftShape). HaveShape s records) (sym eq) (has_shape c.args.file.now records stands) in
    let begun = subst (λ (t : Told). GoesOn t t e m draft change stamp [] records) (sym told)
    (made.begins j m records is (c.requires.blocks j told) have (long_so c.args.file.now shape records eq stands)) in
    let goes = put.puts old e m change stamp [] records stands begun in
    subst (λ (s : DraftShape). Alters old new d c.commit.new.self m (Put (file_with name s records)) stamp c.commit.result) eq
    (alters_same old new d e c.commit.new.self m (Put (file_with name shape records)) stamp c.commit.result volume writable
    (c.commit.ensures.alters old m change stamp records goes))

pub returns-in-Err-clause-limited : goal.returns-in-Err-clause-limited
returns-in-Err-clause-limited g c = λ writable which limit.
    let shape = c.shape_of-shape.ensures.shape in
    absurd (not_made c.in_ok-draft.draft (Limit which) (c.in_ok-draft.ensures.limited writable which
    (subst (λ (s : DraftShape). limit_put (count_put c.args.self.now.volume c.args.name.now) s.count s.bytes ≡ Some which) (sym shape) limit)))

pub returns-in-Ok-clause-limited : goal.returns-in-Ok-clause-limited
returns-in-Ok-clause-limited g c = λ writable which limit.
    let shape = c.shape_of-shape.ensures.shape in
    absurd (not_made c.in_ok-draft.draft (Limit which) (c.in_ok-draft.ensures.limited writable which
    (subst (λ (s : DraftShape). limit_put (count_put c.args.self.now.volume c.args.name.now) s.count s.bytes ≡ Some which) (sym shape) limit)))

pub commit-requires-clause-planned : goal.commit-requires-clause-planned
commit-requires-clause-planned g c =
    let volume = ap (λ (a : Accessed). a.volume) c.in_ok-draft.ensures.kept in
    subst (λ (v : HeldVolume). IsSomeDraft v c.put_records.new.draft) (sym volume)
    (same_some c.args.self.now.volume c.in_ok-draft.draft c.put_records.new.draft c.in-Ok.ensures.same c.in_ok-draft.ensures.some)

pub returns-in-Ok-clause-fault : goal.returns-in-Ok-clause-fault
returns-in-Ok-clause-fault g c =
    let shape = shape_of c.args.file.now in
    if_err c.commit.result IsDevices (IsPutFault c.args.self.now c.args.name.now shape) (device_is_fault c.args.self.now c.args.name.now shape) c.commit.ensures.fault

pub returns-in-Ok-clause-read_only : goal.returns-in-Ok-clause-read_only
returns-in-Ok-clause-read_only g c =
    if_err c.commit.result IsDevices (λ (e : DiskFault). e ≡ ReadOnly → c.args.self.now.writable ≡ false) (λ e device same. absurd (not_read_only e device same)) c.commit.ensures.fault

pub returns-in-Ok-clause-changes : goal.returns-in-Ok-clause-changes
returns-in-Ok-clause-changes g c =
    let put = c.in-Ok.ensures.changes in
    changed_behind (seen g.W.World c.args.world.now) (seen g.W.World c.put_records.new.world) (seen g.W.World c.commit.new.world) c.args.self.now c.draft_at.new.self c.commit.new.self c.commit.result
    put.grown put.faults put.edges c.in_ok-draft.ensures.kept c.commit.ensures.changes

pub returns-in-Ok-clause-holds : goal.returns-in-Ok-clause-holds
returns-in-Ok-clause-holds g c =
    let d = c.args.self.now in
    let name = c.args.name.now in
    let volume = ap (λ (a : Accessed). a.volume) c.in_ok-draft.ensures.kept in
    let planned = same_draft d.volume name c.shape_of-shape.result c.args.stamp.now c.in_ok-draft.draft c.put_records.new.draft c.in-Ok.ensures.same c.in_ok-draft.ensures.planned in
    on_ok c.commit.result
    (λ leads. subst (λ (s : DraftShape). IsPutIn d.volume name s c.commit.new.self.volume) c.shape_of-shape.ensures.shape
    (put_in d.volume c.commit.new.self.volume name c.shape_of-shape.result c.args.stamp.now c.put_records.new.draft planned
    (subst (λ (v : HeldVolume). LeadsToFile v c.put_records.new.draft c.commit.new.self.volume) volume leads)))
    c.commit.ensures.holds

pub returns-in_err-draft-clause-holds : goal.returns-in_err-draft-clause-holds
returns-in_err-draft-clause-holds g c = ok_at_err _ c.from_residual.result _ c.from_residual.ensures.1

pub returns-in-Err-clause-holds : goal.returns-in-Err-clause-holds
returns-in-Err-clause-holds g c = tt

pub draft_at-requires-clause-stamp : goal.draft_at-requires-clause-stamp
draft_at-requires-clause-stamp g c = c.requires.stamp

pub draft_at-requires-clause-shape : goal.draft_at-requires-clause-shape
draft_at-requires-clause-shape g c = c.shape_of-shape.ensures.can

pub draft_at-requires-clause-there : goal.draft_at-requires-clause-there
draft_at-requires-clause-there g c = c.requires.there

pub returns-in_err-draft-clause-read_only : goal.returns-in_err-draft-clause-read_only
returns-in_err-draft-clause-read_only g c =
    same_at_err c.from_residual.result (λ (e : DiskFault). e ≡ ReadOnly → c.args.self.now.writable ≡ false) _ c.from_residual.ensures.1
    (λ is. subst (IsDraftFault c.args.self.now c.args.name.now c.shape_of-shape.result) is c.in_err-draft.ensures.fault)

pub returns-in_err-draft-clause-locked : goal.returns-in_err-draft-clause-locked
returns-in_err-draft-clause-locked g c = λ no. passed_on c.from_residual.result c.in_err-draft.field-0.0 ReadOnly c.from_residual.ensures.1 (c.in_err-draft.ensures.locked no)

pub returns-in_err-draft-clause-limited : goal.returns-in_err-draft-clause-limited
returns-in_err-draft-clause-limited g c = λ writable which limit.
    passed_on c.from_residual.result c.in_err-draft.field-0.0 (Limit which) c.from_residual.ensures.1
    (c.in_err-draft.ensures.limited writable which
    (subst (λ (s : DraftShape). limit_put (count_put c.args.self.now.volume c.args.name.now) s.count s.bytes ≡ Some which) (sym c.shape_of-shape.ensures.shape) limit))

pub returns-in_err-draft-clause-changes : goal.returns-in_err-draft-clause-changes
returns-in_err-draft-clause-changes g c =
    let why = c.in_err-draft.field-0.0 in
    let r = c.from_residual.result in
    changed_places (seen g.W.World c.args.world.now) (seen g.W.World c.args.world.now) c.args.self.now c.draft_at.new.self r
    (no_unit_changed (seen g.W.World c.args.world.now) r why c.from_residual.ensures.1 (draft_none c.args.self.now c.args.name.now c.shape_of-shape.result why c.in_err-draft.ensures.fault))
    c.in_err-draft.ensures.kept

pub put_records-requires-clause-file : goal.put_records-requires-clause-file
put_records-requires-clause-file g c = c.requires.file

pub commit-requires-clause-full : goal.commit-requires-clause-full
commit-requires-clause-full g c = c.in-Ok.ensures.full

pub commit-requires-clause-room : goal.commit-requires-clause-room
commit-requires-clause-room g c = c.in_ok-draft.ensures.spare

pub returns-in-Ok-clause-locked : goal.returns-in-Ok-clause-locked
returns-in-Ok-clause-locked g c = λ no. absurd (true≢false (sym c.in_ok-draft.ensures.writable ∙ no))

pub returns-in-Err-clause-locked : goal.returns-in-Err-clause-locked
returns-in-Err-clause-locked g c = λ no. absurd (true≢false (sym c.in_ok-draft.ensures.writable ∙ no))

pub returns-in-Err-clause-fault : goal.returns-in-Err-clause-fault
returns-in-Err-clause-fault g c = device_is_fault c.args.self.now c.args.name.now (shape_of c.args.file.now) c.in-Err.fault (inl c.in-Err.ensures.fault)

pub returns-in-Err-clause-read_only : goal.returns-in-Err-clause-read_only
returns-in-Err-clause-read_only g c = λ is. absurd (not_read_only c.in-Err.fault (inl c.in-Err.ensures.fault) is)

pub returns-in-Err-clause-changes : goal.returns-in-Err-clause-changes
returns-in-Err-clause-changes g c =
    changed_places (seen g.W.World c.args.world.now) (seen g.W.World c.put_records.new.world) c.args.self.now c.draft_at.new.self (Err c.in-Err.fault) c.in-Err.ensures.changes c.in_ok-draft.ensures.kept

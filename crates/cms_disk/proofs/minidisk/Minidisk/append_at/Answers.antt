use Rattle.std.proofs.Common.{◌≡◌, inl, inr, Result, Ok, Err, false, List, [], refl, sym, ◌∙◌, ap, subst}
use Rattle.std.specs.Prelude.{IfErr, ⊤}
use Rattle.std.proofs.lemmas.Result.{err_from_is_err_and}
use Rattle.std.proofs.lemmas.Bool.{true≢false}
use Rattle.cms_journal.specs.Journal.{HasBlocks, IsWritable}
use Rattle.cms_journal.specs.declared.event.Attached.{Attached}
use Rattle.cms_fields.specs.declared.time.Stamp.{Stamp}
use Rattle.cms_model.specs.Changes.{Add, changed}
use Rattle.cms_model.specs.LawsUpdates.{now}
use Rattle.cms_world.specs.Seen.{seen}
use Rattle.cms_held.proofs.Fronts.{if_err}
use Rattle.cms_tree.proofs.ClimbSteps.{units_kept}
use Rattle.cms_held.specs.HeldVolumes.{HeldVolume}
use Rattle.cms_edf.proofs.Committed.{can_write}
use Rattle.cms_edf.proofs.Planned.{named_at}
use Rattle.cms_edf.specs.FileDrafts.{IsSomeDraft, LeadsToFile}
use Rattle.cms_edf.specs.declared.draft.Draft.{Draft}
use Rattle.cms_held.specs.declared.shape.DraftShape.{DraftShape}
use Rattle.cms_disk.specs.Additions.{IsAddFault}
use Rattle.cms_disk.specs.Changes.{Appends, ChangesDisk, IsDevices, IsPutIn}
use Rattle.cms_disk.specs.Disks.{Accessed}
use Rattle.cms_disk.specs.declared.fault.DiskFault.{DiskFault}
use Rattle.cms_disk.specs.declared.fault.DiskFault.TheVariants.{ReadOnly}
use Rattle.cms_disk.proofs.Added.{add_fault, appends_of, changed_both, changed_put, changed_read, changed_then, device_fault, fault_locked, more_refused}
use Rattle.cms_disk.proofs.DraftSteps.{none_aside}
use Rattle.cms_disk.proofs.FilePut.{added_none, alters_same, given_up, more_in, not_read_only, on_ok}
use Rattle.cms_disk.proofs.FilesFound.{none_found}
use Rattle.cms_disk.proofs.MoreDrafts.{behind_at, last_behind, may_extend, shape_told, shaped_at}
use Rattle.cms_disk.proofs.RecordsPut.{same_more, same_some}
use Rattle.cms_disk.proofs.TooMany.{limited, no_room}
use Rattle.cms_edf.proofs.Exits.{ok_at_err}
use Rattle.cms_disk.proofs.Refused.{nothing_changed, read_only_none}
use Rattle.cms_disk.proofs.minidisk.Minidisk.append_at.Goals as goal

pub returns-then-not-is_writable-clause-appends : goal.returns-then-not-is_writable-clause-appends
returns-then-not-is_writable-clause-appends g c = λ j m records told is stands. (refl, sym c.is_writable.ensures ∙ c.if-not-is_writable.true)

pub shape_with-requires-clause-place : goal.shape_with-requires-clause-place
shape_with-requires-clause-place g c = (named_at c.args.self.now.volume.files c.args.name.now c.args.place c.requires.there).within

pub shape_with-requires-clause-fits : goal.shape_with-requires-clause-fits
shape_with-requires-clause-fits g c = λ info at. c.requires.fits c.args.place info c.requires.there at

pub returns-in_err-shape-clause-appends : goal.returns-in_err-shape-clause-appends
returns-in_err-shape-clause-appends g c = λ j m records told is stands.
    let p = err_from_is_err_and c.from_residual.result c.from_residual.ensures.1 in
    let old = g.W.World.told c.args.world.now in
    let d = c.args.self.now in
    let name = c.args.name.now in
    let more = c.args.more.now in
    let no = c.in_err-shape.ensures in
    subst (Appends old old d d m (Add name records more.stamp) c.args.stamp.now) (sym (p.1 ∙ ap Err (p.2 ∙ no.fault)))
    (refl, limited j d m name c.args.place more records no.kept is (c.requires.blocks j told) stands c.requires.fits c.requires.there no.many)

pub returns-in_err-shape-clause-fault : goal.returns-in_err-shape-clause-fault
returns-in_err-shape-clause-fault g c =
    let p = err_from_is_err_and c.from_residual.result c.from_residual.ensures.1 in
    let d = c.args.self.now in
    let name = c.args.name.now in
    let more = c.args.more.now in
    let no = c.in_err-shape.ensures in
    subst (λ (r : Result ⊤ DiskFault). IfErr r (IsAddFault d name more)) (sym (p.1 ∙ ap Err (p.2 ∙ no.fault))) (no_room d name c.args.place more no.kept c.requires.there no.many)

pub draft_more_at-requires-clause-extends : goal.draft_more_at-requires-clause-extends
draft_more_at-requires-clause-extends g c =
    let shape = c.in_ok-shape.ensures in
    may_extend c.args.self.now.volume c.args.name.now c.args.more.now c.in_ok-shape.shape
    (shaped_at c.args.self.now.volume c.args.name.now c.args.place c.args.more.now c.in_ok-shape.shape c.requires.there shape.shape shape.can)

pub returns-in_err-draft-clause-appends : goal.returns-in_err-draft-clause-appends
returns-in_err-draft-clause-appends g c = λ j m records told is stands.
    let p = err_from_is_err_and c.from_residual-in_err-draft.result c.from_residual-in_err-draft.ensures.1 in
    let old = g.W.World.told c.args.world.now in
    let new = g.W.World.told c.draft_more_at.new.world in
    let d = c.args.self.now in
    let e = c.draft_more_at.new.self in
    let name = c.args.name.now in
    let more = c.args.more.now in
    let shape = c.in_ok-shape.shape in
    let stamp = c.args.stamp.now in
    let made = c.in_err-draft.ensures in
    let s = shaped_at d.volume name c.args.place more shape c.requires.there c.in_ok-shape.ensures.shape c.in_ok-shape.ensures.can in
    let at = behind_at j d m name more records shape is stands c.requires.fits s in
    let has = c.requires.blocks j told in
    subst (λ (z : Stamp). Appends old new d e m (Add name records z) stamp c.from_residual-in_err-draft.result) (ap (λ (z : DraftShape). z.stamp) s.shape_is)
    (subst (Appends old new d e m (Add name records shape.stamp) stamp) (sym (p.1 ∙ ap Err p.2))
    (more_refused Draft old new d e m name shape stamp records c.in_err-draft.field-0.0 made.reads.told (none_aside j old d m told is has)
    (λ none. none_found d name none (now j d.volume.unit) m is.stands) made.fault (made.answers j m at.file records is has at.named at.have.counts)))

pub put_records-requires-clause-last : goal.put_records-requires-clause-last
put_records-requires-clause-last g c =
    let d = c.args.self.now in
    let name = c.args.name.now in
    let more = c.args.more.now in
    let shape = c.in_ok-shape.shape in
    let s = shaped_at d.volume name c.args.place more shape c.requires.there c.in_ok-shape.ensures.shape c.in_ok-shape.ensures.can in
    let told = s.told in
    let fit = c.requires.fits told.place _ told.place_is told.info_is in
    last_behind more c.requires.more.records _ s.file.size shape c.in_ok-draft.draft.writer c.requires.more.stands s.shape_is fit.0 fit.1 (c.in_ok-draft.ensures.behind _ s.file.size told)

pub put_records-requires-clause-ready : goal.put_records-requires-clause-ready
put_records-requires-clause-ready g c = λ k told.
    let made = c.in_ok-draft.ensures in
    let same = made.reads.told in
    can_write k.units c.args.self.now.volume c.in_ok-draft.draft made.some (c.requires.blocks k (sym same ∙ told)) (c.requires.writable made.writable k (sym same ∙ told))

pub returns-in-Err-clause-appends : goal.returns-in-Err-clause-appends
returns-in-Err-clause-appends g c = λ j m records told is stands.
    let old = g.W.World.told c.args.world.now in
    let new = g.W.World.told c.put_records.new.world in
    let d = c.args.self.now in
    let e = c.draft_more_at.new.self in
    let name = c.args.name.now in
    let more = c.args.more.now in
    let shape = c.in_ok-shape.shape in
    let stamp = c.args.stamp.now in
    let made = c.in_ok-draft.ensures in
    let s = shaped_at d.volume name c.args.place more shape c.requires.there c.in_ok-shape.ensures.shape c.in_ok-shape.ensures.can in
    let at = behind_at j d m name more records shape is stands c.requires.fits s in
    let change = Add name records shape.stamp in
    let goes = made.begins j m at.file records told is at.named at.have in
    let given = c.in-Err.ensures.puts old e m change stamp [] records stands goes in
    subst (λ (z : Stamp). Appends old new d e m (Add name records z) stamp (Err c.in-Err.fault)) (ap (λ (z : DraftShape). z.stamp) s.shape_is)
    (subst (Appends old new d e m change stamp) (sym (ap Err c.in-Err.ensures.fault))
    (inr (given_up old new e e m change stamp (changed m change) given (made.answers j m at.file records is (c.requires.blocks j told) at.named at.have.counts)
    (added_none name records shape.stamp) (refl, refl) refl)))

pub commit-requires-clause-blocks : goal.commit-requires-clause-blocks
commit-requires-clause-blocks g c = λ k told.
    let made = c.in_ok-draft.ensures in
    let volume = ap (λ (a : Accessed). a.volume) made.kept in
    let same = made.reads.told in
    subst (λ (v : HeldVolume). HasBlocks k.units v.unit v.disk.count v.disk.bsize) (sym volume)
    (units_kept (λ (units : List Attached). HasBlocks units c.args.self.now.volume.unit c.args.self.now.volume.disk.count c.args.self.now.volume.disk.bsize) _ _
    c.in-Ok.ensures.changes.grown (λ j is. c.requires.blocks j (sym same ∙ is)) k told)

pub commit-requires-clause-writable : goal.commit-requires-clause-writable
commit-requires-clause-writable g c = λ k told.
    let made = c.in_ok-draft.ensures in
    let volume = ap (λ (a : Accessed). a.volume) made.kept in
    let same = made.reads.told in
    subst (λ (v : HeldVolume). IsWritable k.units v.unit) (sym volume)
    (units_kept (λ (units : List Attached). IsWritable units c.args.self.now.volume.unit) _ _ c.in-Ok.ensures.changes.grown
    (λ j is. c.requires.writable made.writable j (sym same ∙ is)) k told)

pub returns-in-Ok-clause-appends : goal.returns-in-Ok-clause-appends
returns-in-Ok-clause-appends g c = λ j m records told is stands.
    let old = g.W.World.told c.args.world.now in
    let new = g.W.World.told c.commit.new.world in
    let d = c.args.self.now in
    let e = c.draft_more_at.new.self in
    let name = c.args.name.now in
    let more = c.args.more.now in
    let shape = c.in_ok-shape.shape in
    let stamp = c.args.stamp.now in
    let made = c.in_ok-draft.ensures in
    let s = shaped_at d.volume name c.args.place more shape c.requires.there c.in_ok-shape.ensures.shape c.in_ok-shape.ensures.can in
    let at = behind_at j d m name more records shape is stands c.requires.fits s in
    let volume = ap (λ (a : Accessed). a.volume) made.kept in
    let writable = ap (λ (a : Accessed). a.writable) made.kept in
    let change = Add name records shape.stamp in
    let begun = made.begins j m at.file records told is at.named at.have in
    let goes = c.in-Ok.ensures.puts old e m change stamp [] records stands begun in
    subst (λ (z : Stamp). Appends old new d c.commit.new.self m (Add name records z) stamp c.commit.result) (ap (λ (z : DraftShape). z.stamp) s.shape_is)
    (appends_of old new d c.commit.new.self m change stamp c.commit.result
    (alters_same old new d e c.commit.new.self m change stamp c.commit.result volume writable (c.commit.ensures.alters old m change stamp records goes)))

pub returns-in_err-draft-clause-fault : goal.returns-in_err-draft-clause-fault
returns-in_err-draft-clause-fault g c =
    let p = err_from_is_err_and c.from_residual-in_err-draft.result c.from_residual-in_err-draft.ensures.1 in
    let d = c.args.self.now in
    let name = c.args.name.now in
    let more = c.args.more.now in
    let shape = c.in_ok-shape.shape in
    let s = shaped_at d.volume name c.args.place more shape c.requires.there c.in_ok-shape.ensures.shape c.in_ok-shape.ensures.can in
    subst (λ (r : Result ⊤ DiskFault). IfErr r (IsAddFault d name more)) (sym (p.1 ∙ ap Err p.2)) (add_fault d name more shape s c.in_err-draft.field-0.0 c.in_err-draft.ensures.fault)

pub returns-in_err-draft-clause-read_only : goal.returns-in_err-draft-clause-read_only
returns-in_err-draft-clause-read_only g c =
    let p = err_from_is_err_and c.from_residual-in_err-draft.result c.from_residual-in_err-draft.ensures.1 in
    let d = c.args.self.now in
    let name = c.args.name.now in
    subst (λ (r : Result ⊤ DiskFault). IfErr r (λ (e : DiskFault). e ≡ ReadOnly → d.writable ≡ false)) (sym (p.1 ∙ ap Err p.2))
    (fault_locked d name c.in_ok-shape.shape c.in_err-draft.field-0.0 c.in_err-draft.ensures.fault)

pub returns-in_err-draft-clause-changes : goal.returns-in_err-draft-clause-changes
returns-in_err-draft-clause-changes g c =
    let p = err_from_is_err_and c.from_residual-in_err-draft.result c.from_residual-in_err-draft.ensures.1 in
    let a = seen g.W.World c.args.world.now in
    let b = seen g.W.World c.draft_more_at.new.world in
    let made = c.in_err-draft.ensures in
    subst (ChangesDisk a b c.args.self.now c.draft_more_at.new.self) (sym (p.1 ∙ ap Err p.2))
    (changed_read Draft a b c.args.self.now c.draft_more_at.new.self c.args.name.now c.in_ok-shape.shape c.in_err-draft.field-0.0 made.reads made.fault made.kept)

pub returns-in-Err-clause-fault : goal.returns-in-Err-clause-fault
returns-in-Err-clause-fault g c =
    let d = c.args.self.now in
    let name = c.args.name.now in
    let more = c.args.more.now in
    let shape = c.in_ok-shape.shape in
    let s = shaped_at d.volume name c.args.place more shape c.requires.there c.in_ok-shape.ensures.shape c.in_ok-shape.ensures.can in
    device_fault d name more shape s c.in_ok-draft.ensures.room c.in-Err.fault (inl c.in-Err.ensures.fault)

pub returns-in-Err-clause-read_only : goal.returns-in-Err-clause-read_only
returns-in-Err-clause-read_only g c =
    let d = c.args.self.now in
    let why = c.in-Err.fault in
    λ same. absurd (not_read_only why (inl c.in-Err.ensures.fault) same)

pub returns-in-Err-clause-changes : goal.returns-in-Err-clause-changes
returns-in-Err-clause-changes g c =
    let a = seen g.W.World c.args.world.now in
    let b = seen g.W.World c.draft_more_at.new.world in
    let f = seen g.W.World c.put_records.new.world in
    let d = c.args.self.now in
    let e = c.draft_more_at.new.self in
    let made = c.in_ok-draft.ensures in
    let why = c.in-Err.fault in
    changed_then a b f d e e (Ok c.in_ok-draft.draft) (Err why) made.reads made.kept (changed_put b f e why c.in-Err.ensures.changes)

pub returns-in-Ok-clause-fault : goal.returns-in-Ok-clause-fault
returns-in-Ok-clause-fault g c =
    let d = c.args.self.now in
    let name = c.args.name.now in
    let more = c.args.more.now in
    let shape = c.in_ok-shape.shape in
    let s = shaped_at d.volume name c.args.place more shape c.requires.there c.in_ok-shape.ensures.shape c.in_ok-shape.ensures.can in
    if_err c.commit.result IsDevices (IsAddFault d name more) (device_fault d name more shape s c.in_ok-draft.ensures.room) c.commit.ensures.fault

pub returns-in-Ok-clause-read_only : goal.returns-in-Ok-clause-read_only
returns-in-Ok-clause-read_only g c =
    if_err c.commit.result IsDevices (λ (e : DiskFault). e ≡ ReadOnly → c.args.self.now.writable ≡ false) (λ e device same. absurd (not_read_only e device same)) c.commit.ensures.fault

pub returns-in-Ok-clause-changes : goal.returns-in-Ok-clause-changes
returns-in-Ok-clause-changes g c =
    let a = seen g.W.World c.args.world.now in
    let b = seen g.W.World c.draft_more_at.new.world in
    let f = seen g.W.World c.put_records.new.world in
    let h = seen g.W.World c.commit.new.world in
    let made = c.in_ok-draft.ensures in
    changed_then a b h c.args.self.now c.draft_more_at.new.self c.commit.new.self (Ok c.in_ok-draft.draft) c.commit.result made.reads made.kept
    (changed_both b f h c.draft_more_at.new.self c.commit.new.self c.commit.result (Ok tt) c.in-Ok.ensures.changes c.commit.ensures.changes)

pub commit-requires-clause-planned : goal.commit-requires-clause-planned
commit-requires-clause-planned g c =
    let made = c.in_ok-draft.ensures in
    subst (λ (v : HeldVolume). IsSomeDraft v c.put_records.new.draft) (sym (ap (λ (a : Accessed). a.volume) made.kept))
    (same_some c.args.self.now.volume c.in_ok-draft.draft c.put_records.new.draft c.in-Ok.ensures.same made.some)

pub returns-in-Ok-clause-holds : goal.returns-in-Ok-clause-holds
returns-in-Ok-clause-holds g c =
    let d = c.args.self.now in
    let name = c.args.name.now in
    let more = c.args.more.now in
    let made = c.in_ok-draft.ensures in
    let volume = ap (λ (a : Accessed). a.volume) made.kept in
    let s = shaped_at d.volume name c.args.place more c.in_ok-shape.shape c.requires.there c.in_ok-shape.ensures.shape c.in_ok-shape.ensures.can in
    let planned = same_more d.volume name s.file c.in_ok-shape.shape c.args.stamp.now c.in_ok-draft.draft c.put_records.new.draft c.in-Ok.ensures.same (made.planned s.file s.is) in
    on_ok c.commit.result
    (λ leads info bytes told. subst (λ (x : DraftShape). IsPutIn d.volume name x c.commit.new.self.volume) (shape_told d.volume name more c.in_ok-shape.shape info bytes s told)
    (more_in d.volume c.commit.new.self.volume name s.file c.in_ok-shape.shape c.args.stamp.now c.put_records.new.draft planned
    (subst (λ (v : HeldVolume). LeadsToFile v c.put_records.new.draft c.commit.new.self.volume) volume leads)))
    c.commit.ensures.holds

pub returns-in_err-shape-clause-holds : goal.returns-in_err-shape-clause-holds
returns-in_err-shape-clause-holds g c = ok_at_err _ c.from_residual.result _ c.from_residual.ensures.1

pub returns-in_err-draft-clause-holds : goal.returns-in_err-draft-clause-holds
returns-in_err-draft-clause-holds g c = ok_at_err _ c.from_residual-in_err-draft.result _ c.from_residual-in_err-draft.ensures.1

pub returns-in-Err-clause-holds : goal.returns-in-Err-clause-holds
returns-in-Err-clause-holds g c = tt

pub returns-then-not-is_writable-clause-holds : goal.returns-then-not-is_writable-clause-holds
returns-then-not-is_writable-clause-holds g c = tt

pub returns-then-not-is_writable-clause-read_only : goal.returns-then-not-is_writable-clause-read_only
returns-then-not-is_writable-clause-read_only g c = λ is. sym c.is_writable.ensures ∙ c.if-not-is_writable.true

pub returns-then-not-is_writable-clause-locked : goal.returns-then-not-is_writable-clause-locked
returns-then-not-is_writable-clause-locked g c = λ no. refl

pub returns-then-not-is_writable-clause-changes : goal.returns-then-not-is_writable-clause-changes
returns-then-not-is_writable-clause-changes g c = nothing_changed (seen g.W.World c.args.world.now) c.args.self.now ReadOnly read_only_none

pub draft_more_at-requires-clause-stamp : goal.draft_more_at-requires-clause-stamp
draft_more_at-requires-clause-stamp g c = c.requires.stamp

pub draft_more_at-requires-clause-there : goal.draft_more_at-requires-clause-there
draft_more_at-requires-clause-there g c = c.requires.there

pub draft_more_at-requires-clause-blocks : goal.draft_more_at-requires-clause-blocks
draft_more_at-requires-clause-blocks g c = c.requires.blocks

pub returns-in_err-shape-clause-locked : goal.returns-in_err-shape-clause-locked
returns-in_err-shape-clause-locked g c = λ no. absurd (true≢false (sym (sym c.is_writable.ensures ∙ c.if-not-is_writable.false) ∙ no))

pub returns-in_err-draft-clause-locked : goal.returns-in_err-draft-clause-locked
returns-in_err-draft-clause-locked g c = λ no. absurd (true≢false (sym (sym c.is_writable.ensures ∙ c.if-not-is_writable.false) ∙ no))

pub returns-in-Ok-clause-locked : goal.returns-in-Ok-clause-locked
returns-in-Ok-clause-locked g c = λ no. absurd (true≢false (sym (sym c.is_writable.ensures ∙ c.if-not-is_writable.false) ∙ no))

pub returns-in-Err-clause-locked : goal.returns-in-Err-clause-locked
returns-in-Err-clause-locked g c = λ no. absurd (true≢false (sym (sym c.is_writable.ensures ∙ c.if-not-is_writable.false) ∙ no))

pub put_records-requires-clause-file : goal.put_records-requires-clause-file
put_records-requires-clause-file g c = c.requires.more

pub commit-requires-clause-full : goal.commit-requires-clause-full
commit-requires-clause-full g c = c.in-Ok.ensures.full

pub commit-requires-clause-room : goal.commit-requires-clause-room
commit-requires-clause-room g c = c.in_ok-draft.ensures.spare

-- Copies that are written as a file of the disk of a letter, or added to one.
use Rattle.std.proofs.Common.{◌≡◌, ◌≢◌, inl, inr, ℕ, ◌+◌, ◌≤◌, false, List, [], ◌++◌, Option, Some, Result, Ok, Err, length, refl, sym, ◌∙◌, ap, subst, arith, append-nil}
use Rattle.std.specs.Prelude.{⊤, IfErr, IfSome, None, option_map, slice_get}
use Rattle.std.specs.Option.{ForSome, IsSome, option_and_then}
use Rattle.std.proofs.lemmas.Option.{same_Some}
use Rattle.cms_journal.specs.Causes.{Rose}
use Rattle.cms_journal.specs.declared.event.Attached.{Attached}
use Rattle.cms_journal.specs.Journal.{HasBlocks, IsWritable, Journal}
use Rattle.cms_journal.specs.Told.{Grown, Told}
use Rattle.cms_journal.proofs.Pieces.{grown_same}
use Rattle.cms_names.specs.declared.name.Name.{Name}
use Rattle.cms_fields.specs.declared.time.Stamp.{Stamp}
use Rattle.cms_model.specs.Changes.{Add, Answer, Century, Change, Changed, Drop, Full, Limited, Put, Relabel, Rename, changed, file_named, need}
use Rattle.cms_model.specs.Beats.{written_count}
use Rattle.cms_model.specs.LawsUpdates.{now as now_of}
use Rattle.cms_model.specs.Minidisks.{Minidisk}
use Rattle.cms_model.specs.Steps.{MayPut, OldFault, ReadFault, is_relabel, put_syncs}
use Rattle.cms_held.specs.BlockWriters.{CanWrite, came}
use Rattle.cms_held.specs.Drafts.{Front, stored_on}
use Rattle.cms_held.specs.FileWriters.{FileWriter, Drafts, HaveShape}
use Rattle.cms_held.specs.declared.shape.DraftShape.{DraftShape}
use Rattle.cms_world.specs.Seen.{ChangesUnits, Seen}
use Rattle.cms_edf.proofs.Committed.{can_write}
use Rattle.cms_edf.specs.FileDrafts.{CanDraft, Draft, IsSomeDraft}
use Rattle.cms_held.specs.HeldVolumes.{HeldVolume}
use Rattle.cms_disk.specs.Additions.{IsMoreFault, MayExtend}
use Rattle.cms_disk.specs.Changes.{Appends, Changes, ChangesDisk, IsDevices}
use Rattle.cms_disk.specs.Cursors.{Cursor}
use Rattle.cms_disk.specs.Disks.{Accessed, place_of}
use Rattle.cms_files.specs.Told.{place_named}
use Rattle.cms_disk.specs.Drafts.{GoesOn, HaveCounts, IsDraftFault, IsFor, IsGivenUp, IsSameDraft, WritesAside}
use Rattle.cms_disk.specs.declared.unit.UnitInfo.{UnitInfo}
use Rattle.cms_disk.specs.declared.fault.DiskFault.{DiskFault}
use Rattle.cms_disk.specs.declared.fault.DiskFault.TheVariants as failed
use Rattle.cms_disk.proofs.Added.{appends_of, more_refused}
use Rattle.cms_disk.proofs.DraftSteps.{none_aside}
use Rattle.cms_disk.proofs.FilesFound.{none_found}
use Rattle.cms_disk.proofs.RecordsPut.{same_some}
use Rattle.cms_disk.proofs.FilePut.{alters_same, changed_behind, given_up, refused_so}
use Rattle.cms_disk.proofs.DisksTold.{minidisk_same}
use Rattle.cms_search.specs.Calls.{Usable}
use Rattle.cms_search.specs.Drafts.{CommitsTo, DraftsMoreTo, DraftsTo, IsPlannedOn, MayCommit}
use Rattle.cms_search.specs.Searches.{item_at}
use Rattle.cms_search.specs.Seats.{HasDevice, HasDisk}
use Rattle.cms_search.specs.Tables.{AccessTable, Seated, letters_of, seat_with, with_disk, writing}
use Rattle.cms_search.proofs.LetterDisks.{readable_seat}
use Rattle.cms_search.proofs.Seats.{has_same, item_here, item_within, seat_there, table_with, with_disk_is, with_disk_twice}
use Rattle.cms_search.proofs.Stepped.{has_device, if_some, written_at}
use Rattle.cms_copyfile.proofs.CopyPasses.{units_grown}
use Rattle.cms_copyfile.specs.Copies as copies
use Rattle.cms_copyfile.specs.Copies.{CopiesFrom, FailsOn, PutsCopies, ReadsWell, StayBeside}
use Rattle.cms_copyfile.specs.Drafts.{CameTo, CopyFailsOn, FillFailsOn, FillsTo, FinishesTo, FitsVolume, HaveRecords, IsToHave, MayWrite, PlansAs, PlansSeat, PlansTo, StillGoes, WriteFailsOn, WritesTo, answer_in, change_as, changing}
use Rattle.cms_copyfile.specs.Outputs.{copies_in}
use Rattle.cms_copyfile.specs.declared.second_pass.CopyFault.{CopyFault}
use Rattle.cms_copyfile.specs.declared.second_pass.CopyFault.TheVariants as why
use Rattle.cms_copyfile.specs.declared.output.CopyPlan.{CopyPlan}
use Rattle.cms_copyfile.specs.declared.draft.CopyTarget.{CopyTarget}
use Rattle.cms_copyfile.specs.declared.draft.CopyWrite.{CopyWrite}
use Rattle.cms_copyfile.specs.declared.draft.CopyWrite.TheVariants.{Added, Whole}
use Rattle.cms_copyfile.specs.declared.draft.Written.{Written}
use Rattle.cms_copyfile.specs.declared.draft.Written.TheVariants.{Altered, Came, Unread as NotRead}

-- ---- the disk of a letter

pub some_seat : (x : Option Seated) → IsSome x → (s : Seated) × (x ≡ Some s)
some_seat None some = absurd (cc some)
some_seat (Some s) some = (s, refl)

-- what is said of a disk is said of its letter
pub disk_so : (IsSo IsThen : Seated → Accessed → Type 0) (t t' : AccessTable) (n : ℕ) (s : Seated) → item_at t.seats n ≡ Some s → IfSome (item_at t.seats n) (λ x. HasDisk t t' n (IsSo x))
    → ((e : Accessed) → IsSo s e → IsThen s e) → IfSome (item_at t.seats n) (λ x. HasDisk t t' n (IsThen x))
disk_so IsSo IsThen t t' n s at has so =
    let h = if_some (item_at t.seats n) (λ x. HasDisk t t' n (IsSo x)) s at has in
    rw at (record { disk = h.disk; table = h.table; does = so h.disk h.does })

-- where the table is as it was, and no reading is kept
pub disk_kept : (IsThen : Seated → Accessed → Type 0) (t : AccessTable) (n : ℕ) (s : Seated) → item_at t.seats n ≡ Some s → s.reading ≡ None → IsThen s s.disk
    → IfSome (item_at t.seats n) (λ x. HasDisk t t n (IsThen x))
disk_kept IsThen t n s at none so = rw at (has_same (IsThen s) t n s at none so)

-- one disk after another
pub disk_then : (IsSo : Accessed → Type 0) (Next IsThen : Seated → Accessed → Type 0) (t t1 t2 : AccessTable) (n : ℕ) (s : Seated) → item_at t.seats n ≡ Some s → (h : HasDisk t t1 n IsSo)
    → IfSome (item_at t1.seats n) (λ x. HasDisk t1 t2 n (Next x)) → ((e : Accessed) → Next (seat_with s h.disk) e → IsThen s e) → IfSome (item_at t.seats n) (λ x. HasDisk t t2 n (IsThen x))
disk_then IsSo Next IsThen t t1 t2 n s at h next so =
    let g = if_some (item_at t1.seats n) (λ x. HasDisk t1 t2 n (Next x)) (seat_with s h.disk) (seat_there t t1 n s at h) next in
    rw at (record { disk = g.disk; table = g.table ∙ (ap (with_disk n g.disk) h.table ∙ with_disk_twice t n s h.disk g.disk at); does = so g.disk g.does })

-- it is there still, as the same device
pub still_there : (IsSo : Seated → Accessed → Type 0) (t t' : AccessTable) (n : ℕ) (s : Seated) → item_at t.seats n ≡ Some s → IfSome (item_at t.seats n) (λ x. HasDisk t t' n (IsSo x))
    → IsSome (item_at t'.seats n)
still_there IsSo t t' n s at has =
    let is = seat_there t t' n s at (if_some (item_at t.seats n) (λ x. HasDisk t t' n (IsSo x)) s at has) in
    rw is refl

pub still_device : (IsSo : Seated → Accessed → Type 0) (t t' : AccessTable) (n : ℕ) (s : Seated) (vdev : ℕ) → item_at t.seats n ≡ Some s → IfSome (item_at t.seats n) (λ x. HasDisk t t' n (IsSo x))
    → HasDevice t n vdev → HasDevice t' n vdev
still_device IsSo t t' n s vdev at has device =
    let h = if_some (item_at t.seats n) (λ x. HasDisk t t' n (IsSo x)) s at has in
    let table : t' ≡ table_with t n s h.disk = h.table ∙ with_disk_is t n s h.disk at in
    let there : item_at (table_with t n s h.disk).seats n ≡ Some (seat_with s h.disk) = item_here t.seats n (Some (seat_with s h.disk)) (item_within t.seats n s at) in
    let is = if_some (item_at t.seats n) (λ (x : Seated). option_map (λ (unit : UnitInfo). unit.vdev) (slice_get t.units x.letter.unit) ≡ Some vdev) s at device in
    subst (λ (x : AccessTable). HasDevice x n vdev) (sym table) (rw there is)

-- ---- nothing was done to the disk

pub unchanged : (before now : Seen) (d : Accessed) (e : DiskFault) → ChangesUnits {T = ⊤} before now IsDevices (Err e) → ChangesDisk before now d d (Err e)
unchanged before now d e units = record {
  units = units;
  same = record { vdev = refl; writable = refl; unit = refl; disk = refl };
  kept = λ sure. refl;
}

pub not_device : IsDevices failed.Altered → ⊥
not_device (inl is) = clash is
  where
    clash : failed.Altered ≡ failed.Device → ⊥
    clash e = cc
not_device (inr is) = clash is
  where
    clash : failed.Altered ≡ failed.InDoubt → ⊥
    clash e = cc

pub still : (w : Seen) (d : Accessed) → ChangesDisk w w d d (Err failed.Altered)
still w d = unchanged w w d failed.Altered (record { grown = grown_same w.told w.told refl; faults = omega arith; edges = refl; cause = λ device. absurd (not_device device) })

-- ---- a draft that has all its records

-- none is left, and no byte
pub none_left : (d : FileWriter) (front : Front) (all : List (List ℕ)) (left : ℕ) → Drafts d front all [] → d.put + left ≡ d.shape.count → left ≡ 0
none_left d front all left drafts is =
    let put = drafts.put in
    let count : d.shape.count ≡ front.count + length all = drafts.count ∙ ap (λ (l : List (List ℕ)). front.count + length l) (append-nil all) in
    omega (arith, put, count, is)

pub no_bytes : (d : FileWriter) (front : Front) (all : List (List ℕ)) (left : ℕ) → Drafts d front all [] → came d.writer + left ≡ d.writer.size → left ≡ 0
no_bytes d front all left drafts is =
    let here = drafts.came_is in
    let size : length (stored_on d.shape.format front all) ≡ d.writer.size =
    ap (λ (l : List (List ℕ)). length (stored_on d.shape.format front l)) (sym (append-nil all)) ∙ drafts.streams.size in
    omega (arith, here, size, is)

pub finished : (before now : Seen) (d e : Accessed) (draft : Draft) (r : Result ⊤ DiskFault) → CommitsTo before now d e draft r → FinishesTo before now d e draft (Came r)
finished before now d e draft r c = record {
  came = λ start m change stamp all goes. appends_of start now.told d e m change stamp r (c.alters start m change stamp all goes);
  changes = c.changes;
}

pub unfinished : (w : Seen) (d : Accessed) (draft : Draft)
    → ((start : Told) (m : Minidisk) (change : Change) (stamp : Stamp) (all : List (List ℕ)) → GoesOn start w.told d m draft change stamp all [] → ⊥) → FinishesTo w w d d draft Altered
unfinished w d draft never = record { came = λ start m change stamp all goes. never start m change stamp all goes; changes = still w d }

-- ---- what may be called

may_write : (told : Told) (t : AccessTable) (n : ℕ) (s : Seated) (unit : UnitInfo) (to : CopyTarget) → item_at t.seats n ≡ Some s → slice_get t.units s.letter.unit ≡ Some unit → Usable told t
    → to.there ≡ place_of to.name s.disk.volume → FitsVolume to.write s.disk.volume to.name to.shape → MayWrite told s.disk to
may_write told t n s unit to at has usable there fits = record {
  there = there;
  fits = fits;
  blocks = readable_seat told t n s unit at has usable;
  writable = λ may j is.
      let on = ((usable j is).seats n s unit at has).on in
      subst (IsWritable j.units) (sym on.number) (((usable j is).units s.letter.unit unit has).writable (sym on.writable ∙ may));
}

pub may_at : (told : Told) (t : AccessTable) (n vdev : ℕ) (to : CopyTarget) → HasDevice t n vdev → Usable told t
    → to.there ≡ place_named t n to.name → ForSome (item_at t.seats n) (λ s. FitsVolume to.write s.disk.volume to.name to.shape)
    → ForSome (item_at t.seats n) (λ s. MayWrite told s.disk to)
may_at told t n vdev to device usable place fits = λ s at.
    let found : to.there ≡ place_of to.name s.disk.volume = place ∙ ap (λ (x : Option Seated). option_and_then (λ (y : Seated). place_of to.name y.disk.volume) x) at in
    let there = if_some (item_at t.seats n) (λ (x : Seated). option_map (λ (unit : UnitInfo). unit.vdev) (slice_get t.units x.letter.unit) ≡ Some vdev) s at device in
    let unit = has_device (slice_get t.units s.letter.unit) vdev there in
    may_write told t n s unit.0 to at unit.1 usable found (fits s at)

-- a letter that may be written has a disk
pub written_there : (t : AccessTable) (n : ℕ) → writing (item_at (letters_of t) n) n ≡ Ok tt → IsSome (item_at t.seats n)
written_there t n is =
    let s = written_at t n is in
    let there = s.1 in
    rw there refl

-- ---- a draft that is filled

pub may_commit : (old new : Told) (d : Accessed) (draft draft' : Draft) → Grown old new → IsSameDraft draft draft' → MayCommit old d draft → MayCommit new d draft'
may_commit old new d draft draft' grown same may = record {
  planned = same_some d.volume draft draft' same may.planned;
  room = may.room;
  blocks = λ k told. units_grown old new (λ (units : List Attached). HasBlocks units d.volume.unit d.volume.disk.count d.volume.disk.bsize) grown may.blocks k told;
  writable = λ k told. units_grown old new (λ (units : List Attached). IsWritable units d.volume.unit) grown may.writable k told;
}

pub ready_so : (told : Told) (d : Accessed) (draft : Draft) → MayCommit told d draft → ForSome told (λ j. CanWrite j.units draft.writer.writer)
ready_so told d draft may j is = can_write j.units d.volume draft may.planned (may.blocks j is) (may.writable j is)

-- what putting the copies says
abbrev pub PutsAll : Told → Told → Draft → Draft → CopyPlan → Cursor → Result ⊤ CopyFault → Type 0
PutsAll old new draft draft' plan c r = (start : Told) (d : Accessed) (m : Minidisk) (change : Change) (stamp : Stamp) (records : List (List ℕ))
    → CopiesFrom start old d m draft change stamp plan c records → PutsCopies start new d m draft' change stamp (copies_in plan records) [] r

pub filled : (before mid now : Seen) (d e : Accessed) (draft draft' : Draft) (plan : CopyPlan) (c : Cursor) (x : ⊤) (r : Result ⊤ CopyFault) (written : Written) → r ≡ Ok x
    → PutsAll before.told mid.told draft draft' plan c r → ChangesUnits before mid copies.IsDevices r → FinishesTo mid now d e draft' written → FillsTo before now d e draft plan c written
filled before mid now d e draft draft' plan c x r written is puts units f = record {
  came = λ start m change stamp records from answer.
      f.came start m change stamp (copies_in plan records)
      (subst (PutsCopies start mid.told d m draft' change stamp (copies_in plan records) []) is (puts start d m change stamp records from));
  changes = changed_behind before mid now d d e (answer_in written) units.grown units.faults units.edges refl f.changes;
}

-- the device of the input or of the output failed
pub failed_so : (before now : Seen) (d : Accessed) (r : Result ⊤ CopyFault) (e : CopyFault) → r ≡ Err e → copies.IsDevices e → ChangesUnits before now copies.IsDevices r
    → ChangesDisk before now d d (Err failed.Device)
failed_so before now d r e is device units =
    let u = subst (λ (q : Result ⊤ CopyFault). ChangesUnits before now copies.IsDevices q) is units in
    unchanged before now d failed.Device (record { grown = u.grown; faults = u.faults; edges = u.edges; cause = λ any. u.cause device })

pub unread_so : (before now : Seen) (d : Accessed) (draft draft' : Draft) (plan : CopyPlan) (c : Cursor) (r : Result ⊤ CopyFault) → r ≡ Err why.Read
    → PutsAll before.told now.told draft draft' plan c r → ChangesUnits before now copies.IsDevices r → FillsTo before now d d draft plan c NotRead
unread_so before now d draft draft' plan c r is puts units = record {
  came = λ start m change stamp records from answer. record {
    stands = subst (PutsCopies start now.told d m draft' change stamp (copies_in plan records) []) is (puts start d m change stamp records from);
    answer = answer;
  };
  changes = failed_so before now d r why.Read is (inl refl) units;
}

-- on which unit a call failed
pub well_so : (start now : Told) (d : Accessed) (m : Minidisk) (change : Change) (stamp : Stamp) (plan : CopyPlan) (first c : Cursor) (records : List (List ℕ)) (written : Written) → written ≢ NotRead
    → ReadsWell start first c records → WriteFailsOn start now d m change stamp plan first c records written
well_so start now d m change stamp plan first c records (Came r) read well = well
well_so start now d m change stamp plan first c records NotRead read well = absurd (read refl)
well_so start now d m change stamp plan first c records Altered read well = tt

pub still_goes : (start now : Told) (d : Accessed) (m : Minidisk) (draft : Draft) (change : Change) (stamp : Stamp) (plan : CopyPlan) (first c : Cursor) (records : List (List ℕ))
    → FailsOn start now d m draft change stamp plan first c records (Err why.Read) → StillGoes start now d m change stamp plan first c records
still_goes start now d m draft change stamp plan first c records x = record { disk = d; volume = refl; draft = draft; place = x.0; to = x.1 }

pub fails_on_same : (start now : Told) (d e : Accessed) (m : Minidisk) (change : Change) (stamp : Stamp) (plan : CopyPlan) (first c : Cursor) (records : List (List ℕ)) (written : Written) → e.volume ≡ d.volume
    → WriteFailsOn start now e m change stamp plan first c records written → WriteFailsOn start now d m change stamp plan first c records written
fails_on_same start now d e m change stamp plan first c records (Came r) volume w = w
fails_on_same start now d e m change stamp plan first c records NotRead volume w = record {
  disk = w.disk;
  volume = w.volume ∙ volume;
  draft = w.draft;
  place = w.place;
  to = w.to;
}
fails_on_same start now d e m change stamp plan first c records Altered volume w = w

-- a change of a file may leave the unit as before, with no sync
pub old_may : (change : Change) (after : Minidisk) → is_relabel change ≡ false → MayPut change (Changed after) OldFault
old_may (Relabel volid) after other = absurd (cc other)
old_may (Put new) after other = (refl, refl)
old_may (Add name more added) after other = (refl, refl)
old_may (Drop name) after other = (refl, refl)
old_may (Rename from to number) after other = (refl, refl)
old_may (Century pivot) after other = (refl, refl)

pub old_none : (change : Change) (answer : Answer) → is_relabel change ≡ false → put_syncs change answer OldFault ≡ 0
old_none change (Limited k) other = refl
old_none change (Full need free) other = refl
old_none (Relabel volid) (Changed after) other = absurd (cc other)
old_none (Put new) (Changed after) other = refl
old_none (Add name more added) (Changed after) other = refl
old_none (Drop name) (Changed after) other = refl
old_none (Rename from to number) (Changed after) other = refl
old_none (Century pivot) (Changed after) other = refl

-- a draft is for a change of a file
of_file : (j : Journal) (d : Accessed) (draft : Draft) (change : Change) (stamp : Stamp) (front : Front) (records : List (List ℕ)) → IsFor j d draft change stamp front records
    → is_relabel change ≡ false
of_file j d draft (Put new) stamp front records is = refl
of_file j d draft (Add name more added) stamp front records is = refl
of_file j d draft (Drop name) stamp front records is = refl
of_file j d draft (Rename from to number) stamp front records is = refl
of_file j d draft (Relabel volid) stamp front records is = absurd is
of_file j d draft (Century pivot) stamp front records is = absurd is

pub unwritten_so : (before now : Seen) (d : Accessed) (draft draft' : Draft) (plan : CopyPlan) (c : Cursor) (r : Result ⊤ CopyFault) → r ≡ Err why.Write
    → PutsAll before.told now.told draft draft' plan c r → ChangesUnits before now copies.IsDevices r → FillsTo before now d d draft plan c (Came (Err failed.Device))
unwritten_so before now d draft draft' plan c r is puts units = record {
  came = λ start m change stamp records from answer.
      (let other = of_file from.goes.stands.at d draft change stamp from.goes.front ([] ++ copies_in plan records) from.goes.is_for in
      inr (given_up start now.told d d m change stamp (changed m change)
      (subst (PutsCopies start now.told d m draft' change stamp (copies_in plan records) []) is (puts start d m change stamp records from)) answer
      (λ a. old_none change a other) (old_may change (changed m change) other) refl));
  changes = failed_so before now d r why.Write is (inr refl) units;
}

pub altered_so : (before now : Seen) (d : Accessed) (draft draft' : Draft) (plan : CopyPlan) (c : Cursor) (r : Result ⊤ CopyFault) → r ≡ Err why.Altered
    → PutsAll before.told now.told draft draft' plan c r → ChangesUnits before now copies.IsDevices r → FillsTo before now d d draft plan c Altered
altered_so before now d draft draft' plan c r is puts units = record {
  came = λ start m change stamp records from answer.
      subst (PutsCopies start now.told d m draft' change stamp (copies_in plan records) []) is (puts start d m change stamp records from);
  changes = unchanged before now d failed.Altered (record { grown = units.grown; faults = units.faults; edges = units.edges; cause = λ device. absurd (not_device device) });
}

-- ---- what is planned

-- the draft's disk, which has other spare places at most, may be written with it
planned_may : (told : Told) (d e : Accessed) (to : CopyTarget) (draft : Draft) → e ≡ record d { spare = e.spare } → IsPlannedOn d e draft → MayWrite told d to → MayCommit told e draft
planned_may told d e to draft kept planned may =
    let volume : e.volume ≡ d.volume = ap (λ (a : Accessed). a.volume) kept in
    record {
      planned = subst (λ (v : HeldVolume). IsSomeDraft v draft) (sym volume) planned.some;
      room = planned.room;
      blocks = λ j at. subst (λ (v : HeldVolume). HasBlocks j.units v.unit v.disk.count v.disk.bsize) (sym volume) (may.blocks j at);
      writable = λ j at. subst (λ (v : HeldVolume). IsWritable j.units v.unit) (sym volume) (may.writable planned.writable j at);
    }

pub draft_may : (before now : Seen) (t t' : AccessTable) (to : CopyTarget) (r : Result Draft DiskFault) (draft : Draft) → r ≡ Ok draft → IsSome (item_at t.seats to.letter)
    → IfSome (item_at t.seats to.letter) (λ x. PlansSeat before now t t' x to r) → ForSome (item_at t.seats to.letter) (λ x. MayWrite before.told x.disk to)
    → ForSome (item_at t'.seats to.letter) (λ x. MayCommit now.told x.disk draft)
draft_may before now t t' to r draft is accessed plans may = λ x at.
    let s = some_seat (item_at t.seats to.letter) accessed in
    let h = if_some (item_at t.seats to.letter) (λ (y : Seated). PlansSeat before now t t' y to r) s.0 s.1 plans in
    let same : seat_with s.0 h.disk ≡ x = same_Some (seat_with s.0 h.disk) x (sym (seat_there t t' to.letter s.0 s.1 h) ∙ at) in
    let made = subst (λ (q : Result Draft DiskFault). PlansTo before now s.0.disk h.disk to q) is h.does in
    let told : now.told ≡ before.told = made.reads.told in
    subst (λ (y : Seated). MayCommit now.told y.disk draft) same
    (subst (λ (z : Told). MayCommit z h.disk draft) (sym told) (planned_may before.told s.0.disk h.disk to draft made.kept made.planned (may s.0 s.1)))

-- ---- which it came to, of a whole file

counts_of : (shape : DraftShape) (records : List (List ℕ)) → HaveShape shape records → HaveCounts shape records
counts_of shape records have = record { count = have.count; bytes = have.bytes }

whole_plans : (told : Told) (d e : Accessed) (m : Minidisk) (to : CopyTarget) (all : List (List ℕ)) (r : Result Draft DiskFault) → DraftsTo d e to.name to.shape to.stamp r → MayWrite told d to
    → (x : IsToHave told d m to all) → HaveRecords Whole (file_named to.name m.files) to.shape all → PlansAs told told d e m (change_as Whole to.name to.shape all) to.stamp all r
whole_plans told d e m to all (Ok draft) drafted may x have =
    let change = change_as Whole to.name to.shape all in
    let has = may.blocks x.at x.told_is in
    record {
      goes = subst (λ (t : Told). GoesOn t t e m draft change to.stamp [] all) (sym x.told_is) (drafted.begins x.at m all x.minidisk has have.0 have.1);
      answer = drafted.answers x.at m all x.minidisk has (counts_of to.shape all have.0);
    }
whole_plans told d e m to all (Err why) drafted may x have =
    appends_of told told d e m (change_as Whole to.name to.shape all) to.stamp (Err why)
    (refused_so Draft told d e m to.name to.shape all to.stamp why drafted.fault
    (drafted.answers x.at m all x.minidisk (may.blocks x.at x.told_is) (counts_of to.shape all have.0)))

no_device : (d : Accessed) (name : Name) (shape : DraftShape) (r : Result Draft DiskFault) (why : DiskFault) → (IsDraftFault d name shape why → ⊥) → IfErr r (IsDraftFault d name shape)
    → IfErr r (λ e. e ≡ why → ⊥)
no_device d name shape (Ok draft) why never fault = tt
no_device d name shape (Err e) why never fault = λ same. never (subst (IsDraftFault d name shape) same fault)

no_rise : (n : ℕ) (r : Result Draft DiskFault) → IfErr r (λ e. e ≡ failed.Device → ⊥) → IfErr r (λ e. e ≡ failed.Device → Rose n n)
no_rise n (Ok draft) never = tt
no_rise n (Err e) never = λ same. absurd (never same)

pub planned_whole : (w : Seen) (d e : Accessed) (to : CopyTarget) (r : Result Draft DiskFault) → to.write ≡ Whole → MayWrite w.told d to → DraftsTo d e to.name to.shape to.stamp r → PlansTo w w d e to r
planned_whole w d e to r is may drafted = record {
  planned = drafted.planned;
  plans = λ m all x.
      subst (λ (k : CopyWrite). PlansAs w.told w.told d e m (change_as k to.name to.shape all) to.stamp all r) (sym is)
      (whole_plans w.told d e m to all r drafted may x (subst (λ (k : CopyWrite). HaveRecords k (file_named to.name m.files) to.shape all) is x.have));
  kept = drafted.kept;
  sure = no_device d to.name to.shape r failed.InDoubt (λ f. f) drafted.fault;
  reads = record { told = refl; faults = omega arith; edges = refl; cause = no_rise w.faults r (no_device d to.name to.shape r failed.Device (λ f. f) drafted.fault) };
}

-- ---- which it came to, of records that are added

more_plans : (before now : Seen) (d e : Accessed) (m : Minidisk) (to : CopyTarget) (all : List (List ℕ)) (r : Result Draft DiskFault) → DraftsMoreTo before now d e to.name to.shape to.stamp r
    → MayWrite before.told d to → (x : IsToHave before.told d m to all) → HaveRecords Added (file_named to.name m.files) to.shape all
    → PlansAs before.told now.told d e m (change_as Added to.name to.shape all) to.stamp all r
more_plans before now d e m to all (Ok draft) drafted may x have = record {
  goes = drafted.begins x.at m have.0 all x.told_is x.minidisk have.1 have.2;
  answer = drafted.answers x.at m have.0 all x.minidisk (may.blocks x.at x.told_is) have.1 have.2.counts;
}
more_plans before now d e m to all (Err why) drafted may x have =
    let has = may.blocks x.at x.told_is in
    more_refused Draft before.told now.told d e m to.name to.shape to.stamp all why drafted.reads.told (none_aside x.at before.told d m x.told_is x.minidisk has)
    (λ none. none_found d to.name none (now_of x.at d.volume.unit) m x.minidisk.stands) drafted.fault (drafted.answers x.at m have.0 all x.minidisk has have.1 have.2.counts)

no_doubt : (d : Accessed) (name : Name) (shape : DraftShape) (r : Result Draft DiskFault) → IfErr r (IsMoreFault d name shape) → IfErr r (λ e. e ≡ failed.InDoubt → ⊥)
no_doubt d name shape (Ok draft) fault = tt
no_doubt d name shape (Err e) fault = λ same. subst (IsMoreFault d name shape) same fault

pub planned_more : (before now : Seen) (d e : Accessed) (to : CopyTarget) (r : Result Draft DiskFault) → to.write ≡ Added → MayWrite before.told d to
    → DraftsMoreTo before now d e to.name to.shape to.stamp r → PlansTo before now d e to r
planned_more before now d e to r is may drafted = record {
  planned = drafted.planned;
  plans = λ m all x.
      subst (λ (k : CopyWrite). PlansAs before.told now.told d e m (change_as k to.name to.shape all) to.stamp all r) (sym is)
      (more_plans before now d e m to all r drafted may x (subst (λ (k : CopyWrite). HaveRecords k (file_named to.name m.files) to.shape all) is x.have));
  kept = drafted.kept;
  sure = no_doubt d to.name to.shape r drafted.fault;
  reads = drafted.reads;
}

-- what fits the disk fits the one or the other
pub fits_whole : (v : HeldVolume) (to : CopyTarget) → to.write ≡ Whole → FitsVolume to.write v to.name to.shape → CanDraft to.shape
fits_whole v to is fits = subst (λ (k : CopyWrite). FitsVolume k v to.name to.shape) is fits

pub fits_more : (v : HeldVolume) (to : CopyTarget) → to.write ≡ Added → FitsVolume to.write v to.name to.shape → MayExtend v to.name to.shape
fits_more v to is fits = (subst (λ (k : CopyWrite). FitsVolume k v to.name to.shape) is fits).1

-- the file that is extended is there
pub some_there : (v : HeldVolume) (to : CopyTarget) → to.write ≡ Added → to.there ≡ place_of to.name v → FitsVolume to.write v to.name to.shape → IsSome to.there
some_there v to is there fits = subst (λ (o : Option ℕ). IsSome o) (sym there) (subst (λ (k : CopyWrite). FitsVolume k v to.name to.shape) is fits).0

-- ---- a file that is written

read_failed : (fault : DiskFault) → (fault ≡ failed.InDoubt → ⊥) → IsDevices fault → fault ≡ failed.Device
read_failed fault sure (inl device) = device
read_failed fault sure (inr doubt) = absurd (sure doubt)

changes_from : (before now : Seen) (d e : Accessed) (to : CopyTarget) (r : Result Draft DiskFault) (fault : DiskFault) → r ≡ Err fault → PlansTo before now d e to r
    → ChangesDisk before now d e (Err fault)
changes_from before now d e to r fault is plans =
    let made = subst (λ (q : Result Draft DiskFault). PlansTo before now d e to q) is plans in
    let kept = made.kept in
    record {
      units = record {
        grown = grown_same before.told now.told made.reads.told;
        faults = made.reads.faults;
        edges = made.reads.edges;
        cause = λ is'. made.reads.cause (read_failed fault made.sure is');
      };
      same = record {
        vdev = ap (λ (a : Accessed). a.vdev) kept;
        writable = ap (λ (a : Accessed). a.writable) kept;
        unit = ap (λ (a : Accessed). a.volume.unit) kept;
        disk = ap (λ (a : Accessed). a.volume.disk) kept;
      };
      kept = λ sure. kept;
    }

-- it is the same disk but for its spare places
given_same : (old new : Told) (d e : Accessed) (m : Minidisk) (change : Change) → e.volume ≡ d.volume → IsGivenUp old new e m change → IsGivenUp old new d m change
given_same old new d e m change volume g = record {
  stands = record {
    at = g.stands.at;
    told_is = g.stands.told_is;
    minidisk = minidisk_same g.stands.at e d m (sym volume) g.stands.minidisk;
    readable = subst (λ (v : HeldVolume). HasBlocks g.stands.at.units v.unit v.disk.count v.disk.bsize) volume g.stands.readable;
  };
  aside = beside.0;
  few = beside.1;
}
  where
    beside : (a : WritesAside old new d.volume.disk d.volume.unit m) × (written_count a.events ≤ need m change)
    beside = subst (λ (v : HeldVolume). (a : WritesAside old new v.disk v.unit m) × (written_count a.events ≤ need m change)) volume (g.aside, g.few)

appends_same : (old new : Told) (d e f : Accessed) (m : Minidisk) (change : Change) (stamp : Stamp) (r : Result ⊤ DiskFault) → e.volume ≡ d.volume → e.writable ≡ d.writable
    → Appends old new e f m change stamp r → Appends old new d f m change stamp r
appends_same old new d e f m change stamp (Ok x) volume writable a = a
appends_same old new d e f m change stamp (Err failed.Device) volume writable (inl u) = inl (record {
  same = u.same;
  after = u.after;
  answer = u.answer;
  changes = subst (λ (v : HeldVolume). Changes old new v.disk v.unit m change stamp (ReadFault 0)) volume u.changes;
})
appends_same old new d e f m change stamp (Err failed.Device) volume writable (inr k) = inr k
appends_same old new d e f m change stamp (Err failed.NotFound) volume writable a = a
appends_same old new d e f m change stamp (Err failed.Exists) volume writable a = a
appends_same old new d e f m change stamp (Err failed.ReadOnly) volume writable a = (a.0, sym writable ∙ a.1)
appends_same old new d e f m change stamp (Err failed.InDoubt) volume writable a = alters_same old new d e f m change stamp (Err failed.InDoubt) volume writable a
appends_same old new d e f m change stamp (Err failed.Altered) volume writable a = a
appends_same old new d e f m change stamp (Err (failed.Limit k)) volume writable a = a
appends_same old new d e f m change stamp (Err (failed.Full need free)) volume writable a = a
appends_same old new d e f m change stamp (Err failed.Memory) volume writable a = a

pub came_same : (old new : Told) (d e f : Accessed) (m : Minidisk) (change : Change) (stamp : Stamp) (written : Written) → e.volume ≡ d.volume → e.writable ≡ d.writable
    → CameTo old new e f m change stamp written → CameTo old new d f m change stamp written
came_same old new d e f m change stamp (Came r) volume writable a = appends_same old new d e f m change stamp r volume writable a
came_same old new d e f m change stamp NotRead volume writable a = record { stands = given_same old new d e m change volume a.stands; answer = a.answer }
came_same old new d e f m change stamp Altered volume writable a = a

pub stay_same : (told : Told) (d e : Accessed) (m : Minidisk) (unit : ℕ) (blocks : List ℕ) → e.volume ≡ d.volume → StayBeside told d m unit blocks → StayBeside told e m unit blocks
stay_same told d e m unit blocks volume stay = λ j k is there aside.
    stay j k is (minidisk_same k e d m (sym volume) there) (subst (λ (v : HeldVolume). WritesAside told (Some k) v.disk v.unit m) volume aside)

pub written_from : (before mid now : Seen) (d e f : Accessed) (to : CopyTarget) (plan : CopyPlan) (c : Cursor) (r : Result Draft DiskFault) (draft : Draft) (written : Written) → r ≡ Ok draft
    → PlansTo before mid d e to r → FillsTo mid now e f draft plan c written → WritesTo before now d f to plan c written
written_from before mid now d e f to plan c r draft written is plans fill =
    let made = subst (λ (q : Result Draft DiskFault). PlansTo before mid d e to q) is plans in
    let volume : e.volume ≡ d.volume = ap (λ (a : Accessed). a.volume) made.kept in
    let writable : e.writable ≡ d.writable = ap (λ (a : Accessed). a.writable) made.kept in
    record {
      came = λ m records x.
          let begun = made.plans m (copies_in plan records) x.to_have in
          let from : CopiesFrom before.told mid.told e m draft (changing to (copies_in plan records)) to.stamp plan c records =
          record { goes = begun.goes; stay = stay_same before.told d e m c.unit c.leaves volume x.stay; left = x.left } in
          came_same before.told now.told d e f m (changing to (copies_in plan records)) to.stamp written volume writable
          (fill.came before.told m (changing to (copies_in plan records)) to.stamp records from begun.answer);
      changes = changed_behind before mid now d e f (answer_in written) (grown_same before.told mid.told made.reads.told) made.reads.faults made.reads.edges made.kept fill.changes;
    }

pub written_none : (before now : Seen) (d e : Accessed) (to : CopyTarget) (plan : CopyPlan) (c : Cursor) (r : Result Draft DiskFault) (fault : DiskFault) → r ≡ Err fault
    → PlansTo before now d e to r → WritesTo before now d e to plan c (Came (Err fault))
written_none before now d e to plan c r fault is plans =
    let made = subst (λ (q : Result Draft DiskFault). PlansTo before now d e to q) is plans in
    record {
      came = λ m records x. made.plans m (copies_in plan records) x.to_have;
      changes = changes_from before now d e to r fault is plans;
    }

-- on which unit a call failed, from the planning on
pub failed_from : (before mid now : Seen) (d e : Accessed) (to : CopyTarget) (plan : CopyPlan) (first c : Cursor) (r : Result Draft DiskFault) (draft : Draft) (written : Written) → r ≡ Ok draft
    → PlansTo before mid d e to r → FillFailsOn mid.told now.told e draft plan first c written → CopyFailsOn before.told now.told d to plan first c written
failed_from before mid now d e to plan first c r draft written is plans fill = λ m records x.
    let made = subst (λ (q : Result Draft DiskFault). PlansTo before mid d e to q) is plans in
    let volume : e.volume ≡ d.volume = ap (λ (a : Accessed). a.volume) made.kept in
    let begun = made.plans m (copies_in plan records) x.to_have in
    let from : CopiesFrom before.told mid.told e m draft (changing to (copies_in plan records)) to.stamp plan first records =
    record { goes = begun.goes; stay = stay_same before.told d e m first.unit first.leaves volume x.stay; left = x.left } in
    fails_on_same before.told now.told d e m (changing to (copies_in plan records)) to.stamp plan first c records written volume
    (fill before.told m (changing to (copies_in plan records)) to.stamp records from)

-- Records that are added to a file, where a read failed first.
use Rattle.std.proofs.Common.{◌≡◌, inl, inr, ⊎_elim, ℕ, false, List, [], ◌∷◌, Option, None, Result, Ok, Err, refl, sym, ap, subst, arith}
use Rattle.std.specs.Prelude.{unwrap_or, ⊤}
use Rattle.cms_world.specs.Seen.{ChangesUnits, OnlyReads, Seen}
use Rattle.cms_journal.specs.declared.event.Event.{Event}
use Rattle.cms_journal.specs.Told.{Told, plus}
use Rattle.cms_names.specs.declared.name.Name.{Name}
use Rattle.cms_fields.specs.declared.time.Stamp.{Stamp}
use Rattle.cms_model.specs.Minidisks.{Minidisk, State, Volume}
use Rattle.cms_model.specs.Volumes.{Disk}
use Rattle.cms_model.proofs.Fronts.{front_nil}
use Rattle.cms_model.specs.Changes.{Add, Answer, Change, Changed, Full, Limited, answer_of, changed, file_named}
use Rattle.cms_model.specs.Slots.{Settled, Slot, set_of}
use Rattle.cms_model.specs.Steps.{MayPut, ReadFault, after_put, put_syncs}
use Rattle.cms_model.specs.declared.file.FileData.{FileData}
use Rattle.cms_held.specs.declared.shape.DraftShape.{DraftShape}
use Rattle.cms_disk.specs.Additions.{HasRoomFor, IsAddFault, IsMoreFault, IsNotExtended}
use Rattle.cms_disk.specs.Changes.{Alters, Appends, ChangesDisk, IsDevices, Unread}
use Rattle.cms_disk.specs.CrashStates.{CoversOn, LeavesOn}
use Rattle.cms_disk.specs.Disks.{Accessed, place_of}
use Rattle.cms_disk.specs.Drafts.{IsAnsweredBy, WritesAside}
use Rattle.cms_disk.specs.declared.fault.DiskFault.{DiskFault}
use Rattle.cms_disk.specs.declared.fault.DiskFault.TheVariants as failed
use Rattle.cms_disk.proofs.FilePut.{changed_behind}
use Rattle.cms_disk.proofs.MoreDrafts.{Shaped, shape_told}

-- what a crash leaves of nothing, where it leaves the same of more
covers_none : (disk : Disk) (told : Told) (es : List Event) (u : ℕ) (states : List State) → CoversOn disk told es u states states → CoversOn disk told [] u states states
covers_none disk told es u states c = record {
  inside = λ front rest is x leaves. c.inside [] es refl x (subst (λ (l : List Event). LeavesOn disk (plus told l) u x) (front_nil front (record { rest = rest; is = is })) leaves);
  whole = λ x leaves. ⊎_elim (λ a. a) (λ b. b) (c.inside [] es refl x leaves);
}

-- nothing was written
pub unread_so : (told : Told) (d : Accessed) (m : Minidisk) (name : Name) (more : List (List ℕ)) (st stamp : Stamp) (after : Minidisk) → WritesAside told told d.volume.disk d.volume.unit m
    → answer_of m (Add name more st) ≡ Changed after → Unread told told d m (Add name more st) stamp
unread_so told d m name more st stamp after a answer = record {
  same = refl;
  after = after;
  answer = answer;
  changes = record {
    events = [];
    told = refl;
    of_unit = tt;
    fits = record {
      disk = tt;
      synced = sym (no_syncs (answer_of m (Add name more st)));
      stamped = tt;
      few = omega arith;
      outcome = subst (λ (x : Answer). MayPut (Add name more st) x (ReadFault 0)) (sym answer) (refl, refl, refl);
    };
    covers = subst (λ (s : Option Slot). CoversOn d.volume.disk told [] d.volume.unit (Volume m ∷ []) (set_of (unwrap_or s (Settled (Volume m))))) (sym (stays (answer_of m (Add name more st))))
        (covers_none d.volume.disk told a.events d.volume.unit (Volume m ∷ []) a.covers);
  };
}
  where
    no_syncs : (answer : Answer) → put_syncs (Add name more st) answer (ReadFault 0) ≡ 0
    no_syncs (Limited k) = refl
    no_syncs (Full needs free) = refl
    no_syncs (Changed k) = refl

    stays : (answer : Answer) → after_put m answer (ReadFault 0) ≡ None
    stays (Limited k) = refl
    stays (Full needs free) = refl
    stays (Changed k) = refl

-- an addition that isn't drafted: nothing was done, for this reason
pub more_refused : (T : Type 0) (old new : Told) (d e : Accessed) (m : Minidisk) (name : Name) (shape : DraftShape) (stamp : Stamp) (more : List (List ℕ)) (why : DiskFault) → new ≡ old
    → WritesAside old old d.volume.disk d.volume.unit m → (place_of name d.volume ≡ None → file_named name m.files ≡ None) → IsMoreFault d name shape why
    → IsAnsweredBy {T = T} (answer_of m (Add name more shape.stamp)) (changed m (Add name more shape.stamp)) (Err why)
    → Appends old new d e m (Add name more shape.stamp) stamp (Err why)
more_refused T old new d e m name shape stamp more failed.NotFound same aside none fault answer = (same, none fault)
more_refused T old new d e m name shape stamp more failed.ReadOnly same aside none fault answer = (same, fault)
more_refused T old new d e m name shape stamp more (failed.Limit k) same aside none fault answer = (same, answer)
more_refused T old new d e m name shape stamp more (failed.Full needs free) same aside none fault answer = (same, answer)
more_refused T old new d e m name shape stamp more failed.Memory same aside none fault answer = same
more_refused T old new d e m name shape stamp more failed.Device same aside none fault answer =
    inl (subst (λ (t : Told). Unread old t d m (Add name more shape.stamp) stamp) (sym same)
    (unread_so old d m name more shape.stamp stamp (changed m (Add name more shape.stamp)) aside answer))
more_refused T old new d e m name shape stamp more failed.Exists same aside none fault answer = absurd fault
more_refused T old new d e m name shape stamp more failed.InDoubt same aside none fault answer = absurd fault
more_refused T old new d e m name shape stamp more failed.Altered same aside none fault answer = absurd fault

-- a change that is made at once is one of those that may read first
pub appends_of : (old new : Told) (d e : Accessed) (m : Minidisk) (change : Change) (stamp : Stamp) (r : Result ⊤ DiskFault)
    → Alters old new d e m change stamp r → Appends old new d e m change stamp r
appends_of old new d e m change stamp (Ok x) is = is
appends_of old new d e m change stamp (Err failed.NotFound) is = is
appends_of old new d e m change stamp (Err failed.Exists) is = is
appends_of old new d e m change stamp (Err failed.ReadOnly) is = is
appends_of old new d e m change stamp (Err failed.Device) is = inr is
appends_of old new d e m change stamp (Err failed.InDoubt) is = is
appends_of old new d e m change stamp (Err failed.Altered) is = is
appends_of old new d e m change stamp (Err (failed.Limit k)) is = is
appends_of old new d e m change stamp (Err (failed.Full need free)) is = is
appends_of old new d e m change stamp (Err failed.Memory) is = is

-- ---- why they aren't added

not_extended : (d : Accessed) (name : Name) (more : FileData) (shape : DraftShape) → Shaped d.volume name more shape → (e : DiskFault) → IsMoreFault d name shape e → IsNotExtended d name more e
not_extended d name more shape s e fault info bytes told = subst (λ (x : DraftShape). IsMoreFault d name x e) (shape_told d.volume name more shape info bytes s told) fault

-- as the file isn't drafted
pub add_fault : (d : Accessed) (name : Name) (more : FileData) (shape : DraftShape) → Shaped d.volume name more shape → (e : DiskFault) → IsMoreFault d name shape e → IsAddFault d name more e
add_fault d name more shape s failed.NotFound fault = fault
add_fault d name more shape s failed.ReadOnly fault = fault
add_fault d name more shape s (failed.Limit which) fault = not_extended d name more shape s (failed.Limit which) fault
add_fault d name more shape s (failed.Full needs free) fault = not_extended d name more shape s (failed.Full needs free) fault
add_fault d name more shape s failed.Device fault = not_extended d name more shape s failed.Device fault
add_fault d name more shape s failed.Memory fault = tt
add_fault d name more shape s failed.InDoubt fault = absurd fault
add_fault d name more shape s failed.Exists fault = absurd fault
add_fault d name more shape s failed.Altered fault = absurd fault

-- or as the device failed behind that
pub device_fault : (d : Accessed) (name : Name) (more : FileData) (shape : DraftShape) → Shaped d.volume name more shape → HasRoomFor d.volume name shape → (e : DiskFault) → IsDevices e
    → IsAddFault d name more e
device_fault d name more shape s room e (inl is) = subst (IsAddFault d name more) (sym is) (not_extended d name more shape s failed.Device room)
device_fault d name more shape s room e (inr is) = subst (IsAddFault d name more) (sym is) (not_extended d name more shape s failed.Device room)

pub fault_locked : (d : Accessed) (name : Name) (shape : DraftShape) (e : DiskFault) → IsMoreFault d name shape e → e ≡ failed.ReadOnly → d.writable ≡ false
fault_locked d name shape e fault is = subst (IsMoreFault d name shape) is fault

-- ---- what is done where no draft is made

-- units were read, and the disk has other spare places
pub changed_read : (T : Type 0) (a b : Seen) (d e : Accessed) (name : Name) (shape : DraftShape) (why : DiskFault) → OnlyReads {T = T} {E = DiskFault} a b failed.Device (Err why)
    → IsMoreFault d name shape why → e ≡ record d { spare = e.spare } → ChangesDisk a b d e (Err why)
changed_read T a b d e name shape why reads fault kept = record {
  units = record {
    grown = record { events = []; told = reads.told };
    faults = reads.faults;
    edges = reads.edges;
    cause = λ (device : IsDevices why). ⊎_elim
        (λ (failed : why ≡ failed.Device). reads.cause failed)
        (λ (doubt : why ≡ failed.InDoubt). absurd (subst (IsMoreFault d name shape) doubt fault))
        device;
  };
  same = record {
    vdev = ap (λ (x : Accessed). x.vdev) kept;
    writable = ap (λ (x : Accessed). x.writable) kept;
    unit = ap (λ (x : Accessed). x.volume.unit) kept;
    disk = ap (λ (x : Accessed). x.volume.disk) kept;
  };
  kept = λ sure. kept;
}

-- then units were changed
pub changed_then : {T : Type 0} (a b c : Seen) (d e f : Accessed) (made : Result T DiskFault) (r : Result ⊤ DiskFault) → OnlyReads a b failed.Device made → e ≡ record d { spare = e.spare }
    → ChangesDisk b c e f r → ChangesDisk a c d f r
changed_then a b c d e f made r reads kept two =
    changed_behind a b c d e f r (record { events = []; told = reads.told }) reads.faults reads.edges kept two

-- and no more, where the device failed
pub changed_put : (b c : Seen) (e : Accessed) (why : DiskFault) → ChangesUnits {T = ⊤} b c IsDevices (Err why) → ChangesDisk b c e e (Err why)
changed_put b c e why changes = record { units = changes; same = record { vdev = refl; writable = refl; unit = refl; disk = refl }; kept = λ sure. refl }

-- or behind it a minidisk
pub changed_both : (b c f : Seen) (e g : Accessed) (r : Result ⊤ DiskFault) (s : Result ⊤ DiskFault) → ChangesUnits b c IsDevices s → ChangesDisk c f e g r → ChangesDisk b f e g r
changed_both b c f e g r s put two = changed_behind b c f e e g r put.grown put.faults put.edges refl two

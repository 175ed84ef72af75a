-- An update of a file of the disk of a letter, as a step of a command.
use Rattle.std.proofs.Common.{◌≡◌, inl, ⊎_elim, ◌∙◌, ℕ, List, [], ◌∷◌, Option, Some, Result, Err, refl, sym, ap, subst, slice_get}
use Rattle.std.specs.Prelude.{⊤, IfSome, None, option_map}
use Rattle.std.specs.Option.{IsSome, unwrap_or}
use Rattle.cms_journal.specs.Causes.{Counted}
use Rattle.cms_journal.specs.Journal.{IsWritable}
use Rattle.cms_journal.specs.Told.{Told}
use Rattle.cms_journal.proofs.Counts.{counted_one}
use Rattle.cms_names.specs.declared.name.Name.{Name}
use Rattle.cms_fields.specs.Moments.{stamp_of}
use Rattle.cms_fields.specs.declared.time.Stamp.{Stamp}
use Rattle.cms_model.specs.Changes.{Answer, Change, Changed, Full, Limited, answer_of}
use Rattle.cms_model.specs.Volumes.{Disk}
use Rattle.cms_model.specs.Minidisks.{Minidisk, Volume}
use Rattle.cms_model.specs.Acts.{Act}
use Rattle.cms_model.specs.Runs.{Ran}
use Rattle.cms_model.specs.Slots.{Settled, Slot}
use Rattle.cms_model.specs.Steps.{OldFault, Outcome, ReadFault, after_put, faults_in}
use Rattle.cms_disk.specs.Changes.{Appends, Changes, Kept, Unread}
use Rattle.cms_disk.specs.Disks.{Accessed}
use Rattle.cms_disk.specs.declared.fault.DiskFault.{DiskFault}
use Rattle.cms_disk.specs.declared.fault.DiskFault.TheVariants as failed
use Rattle.cms_disk.specs.declared.unit.UnitInfo.{UnitInfo}
use Rattle.cms_disk.proofs.Added.{appends_of}
use Rattle.cms_disk.proofs.DisksTold.{minidisk_same}
use Rattle.cms_world.specs.Seen.{Seen}
use Rattle.cms_search.specs.Calls.{Comes, Spot, Usable, at, holds, machine_of}
use Rattle.cms_search.specs.DeviceSteps.{Changing, changing_by, changing_tree}
use Rattle.cms_search.specs.FileWrites.{FitsUpdate, MayUpdate, Updated, UpdatesSeat}
use Rattle.cms_search.specs.Machine.{Machine}
use Rattle.cms_search.specs.Searches.{item_at}
use Rattle.cms_search.specs.Seats.{ChangesSeat, HasDevice}
use Rattle.cms_search.specs.Tables.{AccessTable, Seated, seat_with}
use Rattle.cms_search.specs.Units.{vdev_of}
use Rattle.cms_search.specs.declared.file_write.FileWrite.{FileWrite}
use Rattle.cms_search.proofs.Changes.{Steps, changed_slot, changed_units, steps_kept, steps_with}
use Rattle.cms_search.proofs.LetterDisks.{MetAt, meets_at, readable_seat}
use Rattle.cms_search.proofs.Seats.{item_here, item_within, seat_there, table_with, with_disk_is}
use Rattle.cms_search.proofs.Stepped.{console_is, device_is, failed_at, failed_tree, if_some, later_changes, machine_is, ran_to, table_is, table_then, then_of, usable_then}

-- ---- what may be called

pub may_update : (told : Told) (t : AccessTable) (n : ℕ) (s : Seated) (unit : UnitInfo) (name : Name) (u : FileWrite) → item_at t.seats n ≡ Some s
    → slice_get t.units s.letter.unit ≡ Some unit → FitsUpdate s.disk.volume name u → Usable told t → MayUpdate told s.disk name u
may_update told t n s unit name u at has fits usable = record {
  fits = fits;
  blocks = readable_seat told t n s unit at has usable;
  writable = λ may j is.
      let on = ((usable j is).seats n s unit at has).on in
      subst (IsWritable j.units) (sym on.number) (((usable j is).units s.letter.unit unit has).writable (sym on.writable ∙ may));
}

-- ---- what it came to

pub updated_so : (old mid : Spot) (n : ℕ) (s : Seated) (change : Change) (stamp : Stamp) (r : Result ⊤ DiskFault) → item_at old.state.table.seats n ≡ Some s → stamp ≡ stamp_of old.state.moment
    → IfSome (item_at old.state.table.seats n) (λ x. UpdatesSeat old.world mid.world old.state.table mid.state.table n x change stamp r)
    → mid.state ≡ record old.state { table = mid.state.table } → Updated old mid n s (λ units. change) r
updated_so old mid n s change stamp r there when does state =
    let one = if_some (item_at old.state.table.seats n) (λ x. UpdatesSeat old.world mid.world old.state.table mid.state.table n x change stamp r) s there does in
    record {
      there = there;
      seat = record {
        disk = one.disk;
        table = one.table;
        does = record {
          appends = λ units h j m told is.
              subst (λ (z : Stamp). Appends old.world.told mid.world.told s.disk one.disk m change z r) when (one.does.appends j m told is);
          changes = one.does.changes;
        };
      };
      state = state;
    }

-- what came of a change that is made at once
pub changed_so : (before now : Seen) (t t' : AccessTable) (n : ℕ) (s : Seated) (change : Change) (stamp : Stamp) (r : Result ⊤ DiskFault) → ChangesSeat before now t t' n s change stamp r
    → UpdatesSeat before now t t' n s change stamp r
changed_so before now t t' n s change stamp r c = record {
  disk = c.disk;
  table = c.table;
  does = record {
    appends = λ j m told is. appends_of before.told now.told s.disk c.disk m change stamp r (c.does.alters j m told is);
    changes = c.does.changes;
  };
}

-- which answer it was
pub came_to : (old mid : Spot) (n : ℕ) (s : Seated) (change : List Slot → Change) (r r' : Result ⊤ DiskFault) → r ≡ r' → Updated old mid n s change r → Updated old mid n s change r'
came_to old mid n s change r r' is u = subst (λ (q : Result ⊤ DiskFault). Updated old mid n s change q) is u

-- or which fault
pub came_why : (old mid : Spot) (n : ℕ) (s : Seated) (change : List Slot → Change) (r : Result ⊤ DiskFault) (e why : DiskFault) → r ≡ Err e → e ≡ why → Updated old mid n s change r
    → Updated old mid n s change (Err why)
came_why old mid n s change r e why is same u = came_to old mid n s change r (Err why) (is ∙ ap (λ (x : DiskFault). Err x) same) u

-- the letter is accessed still
pub still_accessed : (old mid : Spot) (n : ℕ) (s : Seated) (change : List Slot → Change) (r : Result ⊤ DiskFault) → Updated old mid n s change r → IsSome (item_at mid.state.table.seats n)
still_accessed old mid n s change r u = let is = seat_there old.state.table mid.state.table n s u.there u.seat in rw is refl

-- as the same device
pub device_still : (old mid : Spot) (n : ℕ) (s : Seated) (change : List Slot → Change) (r : Result ⊤ DiskFault) (vdev : ℕ) → Updated old mid n s change r → HasDevice old.state.table n vdev
    → HasDevice mid.state.table n vdev
device_still old mid n s change r vdev u h =
    let t = old.state.table in
    let e = u.seat.disk in
    let table : mid.state.table ≡ table_with t n s e = u.seat.table ∙ with_disk_is t n s e u.there in
    let there : item_at (table_with t n s e).seats n ≡ Some (seat_with s e) = item_here t.seats n (Some (seat_with s e)) (item_within t.seats n s u.there) in
    let device = if_some (item_at t.seats n) (λ (x : Seated). option_map (λ (unit : UnitInfo). unit.vdev) (slice_get t.units x.letter.unit) ≡ Some vdev) s u.there h in
    subst (λ (x : AccessTable). HasDevice x n vdev) (sym table) (rw there device)

-- as which it was accessed before
pub device_was : (old mid : Spot) (n : ℕ) (s : Seated) (change : List Slot → Change) (r : Result ⊤ DiskFault) (vdev : ℕ) → Updated old mid n s change r → HasDevice mid.state.table n vdev
    → option_map (λ (unit : UnitInfo). unit.vdev) (slice_get old.state.table.units s.letter.unit) ≡ Some vdev
device_was old mid n s change r vdev u h =
    let t = old.state.table in
    let e = u.seat.disk in
    let table : mid.state.table ≡ table_with t n s e = u.seat.table ∙ with_disk_is t n s e u.there in
    let there : item_at (table_with t n s e).seats n ≡ Some (seat_with s e) = item_here t.seats n (Some (seat_with s e)) (item_within t.seats n s u.there) in
    if_some (item_at (table_with t n s e).seats n) (λ (x : Seated). option_map (λ (unit : UnitInfo). unit.vdev) (slice_get t.units x.letter.unit) ≡ Some vdev) (seat_with s e) there
    (subst (λ (x : AccessTable). HasDevice x n vdev) table h)

-- ---- the device failed before the label was written

none_unread : (m : Minidisk) (answer : Answer) → after_put m answer (ReadFault 0) ≡ None
none_unread m (Changed after) = refl
none_unread m (Limited k) = refl
none_unread m (Full need free) = refl

slot_unread : (u : ℕ) (m : Minidisk) (change : Change) (stamp : Stamp) → changed_slot u m change stamp (ReadFault 0) ≡ Settled (Volume m)
slot_unread u m change stamp = ap (λ (x : Option Slot). unwrap_or x (Settled (Volume m))) (none_unread m (answer_of m change))

module _ (old mid : Spot) (n : ℕ) (s : Seated) (change : List Slot → Change) (vdev : ℕ) (u : Updated old mid n s change (Err failed.Device))
    (device : option_map (λ (unit : UnitInfo). unit.vdev) (slice_get old.state.table.units s.letter.unit) ≡ Some vdev) where
  -- so far it came on these units
  abbrev CameOn : List Slot → Type 0
  CameOn units = (now : List Slot) × (holds mid now × Ran (at old units) (at mid now) (changing_tree old.state n (change units) units) (failed_tree mid.state vdev now))

  came : (units : List Slot) (k : MetAt old units s) (o : Outcome)
      → Steps old.world.told mid.world.told k.journal units old.state.table (table_then old n s u.seat.disk) s k.met (change units) (stamp_of old.state.moment) o
      → Counted old.world.faults (faults_in (o ∷ [])) mid.world.faults
      → then_of old.state n s (change units) k.met.minidisk units o
      ≡ failed_at (machine_of old.state (changed_units units s.letter.unit k.met.minidisk (change units) (stamp_of old.state.moment) o)) (vdev_of (machine_of old.state units) s.letter.unit)
      → CameOn units
  came units k o steps counted ends =
      let units' = changed_units units s.letter.unit k.met.minidisk (change units) (stamp_of old.state.moment) o in
      let ran = ran_to old mid n s (change units) units (table_then old n s u.seat.disk) o u.there k steps counted (console_is old mid n s change (Err failed.Device) u) in
      let end' : then_of old.state n s (change units) k.met.minidisk units o ≡ failed_tree mid.state vdev units' =
      ends
      ∙ ap (λ (v : ℕ). failed_at (machine_of old.state units') v) (device_is old.state s units vdev device)
      ∙ ap (λ (z : Machine). failed_at z vdev) (machine_is old mid n s change (Err failed.Device) units' u) in
      let table = table_is old mid n s change (Err failed.Device) u in
      (units', (rw table steps.holds, subst (λ (z : Act Changing). Ran (at old units) (at mid units') (changing_tree old.state n (change units) units) z) end' ran))

  counted : Counted old.world.faults 1 mid.world.faults
  counted = counted_one old.world.faults mid.world.faults u.seat.does.changes.units.faults (u.seat.does.changes.units.cause (inl refl))

  -- the file wasn't read
  unread : (units : List Slot) (k : MetAt old units s) → Unread old.world.told mid.world.told s.disk k.met.minidisk (change units) (stamp_of old.state.moment) → CameOn units
  unread units k x =
      let m = k.met.minidisk in
      let e = u.seat.disk in
      let stamp = stamp_of old.state.moment in
      let same = u.seat.does.changes.same in
      let volume : e.volume ≡ s.disk.volume = ap (λ (d : Accessed). d.volume) (u.seat.does.changes.kept (λ (d : failed.Device ≡ failed.InDoubt). absurd (cc d))) in
      let changes = subst (λ (b : Disk). Changes old.world.told mid.world.told b e.volume.unit m (change units) stamp (ReadFault 0)) (sym same.disk)
      (subst (λ (v : ℕ). Changes old.world.told mid.world.told s.disk.volume.disk v m (change units) stamp (ReadFault 0)) (sym same.unit) x.changes) in
      let steps = steps_with old.world.told mid.world.told k.journal k.journal units old.state.table n s e k.met (change units) stamp (ReadFault 0) m k.told (x.same ∙ k.told) k.table u.there same
      (minidisk_same k.journal s.disk e m volume k.met.is) changes (slot_unread s.letter.unit m (change units) stamp) in
      came units k (ReadFault 0) steps counted refl

  kept : (units : List Slot) (k : MetAt old units s) → Kept old.world.told mid.world.told u.seat.disk k.met.minidisk (change units) (stamp_of old.state.moment) → CameOn units
  kept units k x =
      let steps = steps_kept old.world.told mid.world.told k.journal units old.state.table n s u.seat.disk k.met (change units) (stamp_of old.state.moment) k.told k.table u.there
      u.seat.does.changes.same x in
      came units k OldFault steps counted refl

  pub update_failed : Comes old mid (changing_by old.state n change) (failed_tree mid.state vdev)
  update_failed = record {
    each = λ units h.
        let k = meets_at old units n s u.there h in
        ⊎_elim (unread units k) (kept units k) (u.seat.does.appends units h k.journal k.met.minidisk k.told k.met.is);
    later = later_changes old.world mid.world u.seat.does.changes.units;
    usable = usable_then old mid n s change (Err failed.Device) u;
  }

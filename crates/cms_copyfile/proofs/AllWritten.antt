-- One file that is copied: records are written as a file of the output's disk, whatever they are.
use Rattle.std.proofs.Common.{◌≡◌, ◌∙◌, inl, ℕ, List, [], ◌∷◌, Option, Some, Result, Ok, Err, length, slice_get, refl, sym, ap, subst, arith}
use Rattle.std.specs.Prelude.{IfSome, false, ⊤}
use Rattle.cms_journal.specs.Causes.{Rose}
use Rattle.cms_journal.specs.Told.{Told}
use Rattle.cms_journal.proofs.Counts.{counted_one}
use Rattle.cms_names.specs.declared.name.Name.{Name}
use Rattle.cms_fields.specs.Moments.{stamp_of}
use Rattle.cms_fields.specs.declared.time.Stamp.{Stamp}
use Rattle.cms_model.specs.Changes.{Change, changed}
use Rattle.cms_model.specs.Minidisks.{Volume}
use Rattle.cms_model.specs.Acts.{Act, Does, bind}
use Rattle.cms_model.specs.Runs.{Ran}
use Rattle.cms_model.specs.Slots.{Settled, Slot}
use Rattle.cms_model.specs.Steps.{Get, OldFault, is_relabel}
use Rattle.cms_held.specs.declared.shape.DraftShape.{DraftShape}
use Rattle.cms_line.specs.declared.token.Token.{Token}
use Rattle.cms_line.specs.ConsoleState.{Console}
use Rattle.cms_disk.specs.Changes.{Appends}
use Rattle.cms_disk.specs.Disks.{Accessed}
use Rattle.cms_disk.specs.Drafts.{WritesAside}
use Rattle.cms_disk.specs.declared.fault.DiskFault.{DiskFault}
use Rattle.cms_disk.specs.declared.fault.DiskFault.TheVariants as failed
use Rattle.cms_disk.proofs.FilePut.{given_up}
use Rattle.cms_search.specs.Calls.{Acts, Comes, Holds, IsUsable, Spot, Usable, at, holds, machine_of}
use Rattle.cms_search.specs.DeviceSteps.{HasRead, Stepped, changing_by, changing_of, changing_tree, failing}
use Rattle.cms_search.specs.FileWrites.{Updated}
use Rattle.cms_search.specs.Machine.{Letter, Machine, letter_at}
use Rattle.cms_search.specs.Searches.{item_at}
use Rattle.cms_search.specs.Seats.{HasDisk}
use Rattle.cms_search.specs.Tables.{AccessTable, Seated}
use Rattle.cms_search.specs.Units.{vdev_of}
use Rattle.cms_search.specs.declared.state.End.{End}
use Rattle.cms_search.specs.declared.state.State.{State}
use Rattle.cms_search.specs.declared.device_step.Changed as outcomes
use Rattle.cms_search.proofs.Acts.{acts_same, later_then, rose_from}
use Rattle.cms_search.proofs.Changes.{changed_units, steps_kept}
use Rattle.cms_search.proofs.HandedRecords.{later_read}
use Rattle.cms_search.proofs.IdleEvents.{usable_grown}
use Rattle.cms_search.proofs.LetterDisks.{meets_at}
use Rattle.cms_search.proofs.Seats.{letters_with, table_with, with_disk_is}
use Rattle.cms_search.proofs.Stepped.{device_is, if_some, later_changes, usable_with}
use Rattle.cms_files.proofs.Updates.{then_updated}
use Rattle.cms_files.specs.OpenFiles.{IsOpened}
use Rattle.cms_files.specs.Updates.{names_of, updated, updated_of, updating, vdev_at}
use Rattle.cms_files.specs.declared.open_files.OpenFile.{OpenFile}
use Rattle.cms_files.specs.declared.update.Updated as declared
use Rattle.cms_world.specs.Seen.{Seen}
use Rattle.cms_copyfile.specs.Drafts.{change_as, changing}
use Rattle.cms_copyfile.specs.FileCopies.{IsFileCopy}
use Rattle.cms_copyfile.specs.Outcomes.{ChangesAs, WritesAll, WroteAll}
use Rattle.cms_copyfile.specs.declared.copy.FileCopy.{FileCopy}
use Rattle.cms_copyfile.specs.declared.line.CopyLine.{CopyLine}
use Rattle.cms_copyfile.specs.declared.draft.CopyTarget.{CopyTarget}
use Rattle.cms_copyfile.specs.declared.draft.CopyWrite.{CopyWrite}
use Rattle.cms_copyfile.specs.declared.draft.CopyWrite.TheVariants.{Added, Whole}
use Rattle.cms_copyfile.specs.declared.draft.Written.{Written}
use Rattle.cms_copyfile.specs.declared.draft.Written.TheVariants.{Altered, Came, Unread}
use Rattle.cms_copyfile.proofs.CopyInput.{input_at}
use Rattle.cms_copyfile.proofs.FilesCopied.{copying_at}
use Rattle.cms_copyfile.proofs.OneRead.{acts_by, acts_by_stop, acts_never_so, behind_read, first, tree_at, wanted_in, wanted_low, whole}
use Rattle.cms_copyfile.proofs.ReadAside.{DraftedOn, read_failed_beside}
use Rattle.cms_copyfile.proofs.Writes.{old_may, old_none}

-- ---- what follows the change of the output's disk

-- it is done
pub put_ends : (mid came new : Spot) (n vdev : ℕ) (change : List Slot → Change) (name : Name) (x : outcomes.Changed) (r : Result declared.Updated End)
    → Acts mid came (changing_by mid.state n change) (Ok x) (changing_of came.state) → vdev_at (machine_of mid.state []) (letter_at (machine_of mid.state []) n) ≡ vdev
    → ((units : List Slot) → names_of (change units) ≡ name ∷ [])
    → ((one : Change) → names_of one ≡ name ∷ [] → Acts came new (λ units. updated n vdev one (changing_of came.state units x)) r (updated_of new.state))
    → Acts mid new (λ units. updating (machine_of mid.state units) n (change units)) r (updated_of new.state)
put_ends mid came new n vdev change name x r a device names ends =
    acts_same mid new (λ units. bind (changing_tree mid.state n (change units) units) (then_updated mid.state n (change units)))
    (λ units. bind (changing_tree mid.state n (change units) units) (updated n vdev (change units))) r (updated_of new.state) (λ units h. rw device refl)
    (acts_by mid came new (changing_by mid.state n change) (λ units. updated n vdev (change units)) x (changing_of came.state) r (updated_of new.state) a
    (λ units. ends (change units) (names units)))

pub put_stops : (mid new : Spot) (n : ℕ) (change : List Slot → Change) (e : End) → Acts {T = outcomes.Changed} mid new (changing_by mid.state n change) (Err e) (changing_of new.state)
    → Acts {T = declared.Updated} mid new (λ units. updating (machine_of mid.state units) n (change units)) (Err e) (updated_of new.state)
put_stops mid new n change e a =
    acts_by_stop mid new (changing_by mid.state n change) (λ units. then_updated mid.state n (change units)) e (changing_of new.state) (updated_of new.state) a

-- ---- what the writing came to

-- so it is where the disk says it
pub wrote_all : (IsSo : Seated → Accessed → Type 0) (mid now : Spot) (to : CopyTarget) (all : List Slot → List (List ℕ)) (s : Seated) (written : Written)
    → item_at mid.state.table.seats to.letter ≡ Some s → IfSome (item_at mid.state.table.seats to.letter) (λ x. HasDisk mid.state.table now.state.table to.letter (IsSo x))
    → now.state ≡ record mid.state { table = now.state.table } → to.stamp ≡ stamp_of mid.state.moment → ((e : Accessed) → IsSo s e → WritesAll mid now s.disk e to all written)
    → WroteAll mid now to all s written
wrote_all IsSo mid now to all s written there writes state stamp so =
    let seat = if_some (item_at mid.state.table.seats to.letter) (λ x. HasDisk mid.state.table now.state.table to.letter (IsSo x)) s there writes in
    record {
      there = there;
      seat = record { disk = seat.disk; table = seat.table; does = so seat.disk seat.does };
      state = state;
      stamp = stamp;
    }

module _ (mid now : Spot) (to : CopyTarget) (all : List Slot → List (List ℕ)) (s : Seated) (written : Written) (w : WroteAll mid now to all s written) where
  -- the disk may be used then
  pub usable_all : IsUsable mid → IsUsable now
  usable_all usable =
      let t = mid.state.table in
      let e = w.seat.disk in
      let table : now.state.table ≡ table_with t to.letter s e = w.seat.table ∙ with_disk_is t to.letter s e w.there in
      let grown = usable_grown mid.world.told now.world.told t w.seat.does.changes.units.grown usable in
      subst (λ (x : AccessTable). Usable now.world.told x) (sym table) (λ j at. usable_with j t to.letter s e w.there w.seat.does.changes.same (grown j at))

-- the change is of the file of that name
pub names_as : (write : CopyWrite) (name : Name) (shape : DraftShape) (all : List (List ℕ)) → names_of (change_as write name shape all) ≡ name ∷ []
names_as Whole name shape all = refl
names_as Added name shape all = refl

no_label : (write : CopyWrite) (name : Name) (shape : DraftShape) (all : List (List ℕ)) → is_relabel (change_as write name shape all) ≡ false
no_label Whole name shape all = refl
no_label Added name shape all = refl

-- the disk was updated
pub all_came : (mid now : Spot) (to : CopyTarget) (all : List Slot → List (List ℕ)) (s : Seated) (r : Result ⊤ DiskFault) → WroteAll mid now to all s (Came r)
    → Updated mid now to.letter s (λ units. changing to (all units)) r
all_came mid now to all s r w = record {
  there = w.there;
  seat = record {
    disk = w.seat.disk;
    table = w.seat.table;
    does = record {
      appends = λ units h j m told minidisk.
          subst (λ (z : Stamp). Appends mid.world.told now.world.told s.disk w.seat.disk m (changing to (all units)) z r) w.stamp
          (w.seat.does.came units h j m told minidisk);
      changes = w.seat.does.changes;
    };
  };
  state = w.state;
}

-- the records never are others
all_never : (mid now : Spot) (to : CopyTarget) (all : List Slot → List (List ℕ)) (s : Seated) → WroteAll mid now to all s Altered → (units : List Slot) → holds mid units → ⊥
all_never mid now to all s w units h =
    let k = meets_at mid units to.letter s w.there h in
    w.seat.does.came units h k.journal k.met.minidisk k.told k.met.is

pub all_altered : (before : Seen) (mid now new : Spot) (words : List Token) (line : CopyLine) (c : FileCopy) (to : CopyTarget) (all : List Slot → List (List ℕ)) (s : Seated)
    (u : List Slot → Act Stepped) (r : Result declared.Updated End) → HasRead before mid.world → WroteAll mid now to all s Altered → Acts now new u r (updated_of new.state)
    → Acts (first before mid) new (whole mid words line c) r (updated_of new.state)
all_altered before mid now new words line c to all s u r read w a =
    acts_never_so (first before mid) now new (whole mid words line c) u r (updated_of new.state) (updated_of new.state)
    (λ units h. all_never mid now to all s w units (let told = read.told in rw told h))
    (later_then before mid.world now.world (later_read before mid.world read) (later_changes mid.world now.world w.seat.does.changes.units))
    (λ usable. usable_all mid now to all s Altered w (let told = read.told in rw told usable)) a

-- ---- the input's device failed in the second pass

-- the machine is on the same units, with the same letters
same_machine : (st st' : State) (n : ℕ) (s : Seated) (units : List Slot) (IsSo : Accessed → Type 0) → item_at st.table.seats n ≡ Some s → HasDisk st.table st'.table n IsSo
    → st' ≡ record st { table = st'.table } → machine_of st units ≡ machine_of st' units
same_machine st st' n s units IsSo at h same =
    let table : st'.table ≡ table_with st.table n s h.disk = h.table ∙ with_disk_is st.table n s h.disk at in
    sym (ap (λ (l : List (Option Letter)). record (machine_of st units) { letters = l }) (letters_with st.table.seats n s h.disk at))
    ∙ (ap (λ (t : AccessTable). machine_of (record st { table = t }) units) (sym table) ∙ ap (λ (z : State). machine_of z units) (sym same))

module _ (before : Seen) (mid now : Spot) (words : List Token) (line : CopyLine) (c : FileCopy) (file : OpenFile) (to : CopyTarget) (all : List Slot → List (List ℕ)) (change : List Slot → Change)
    (s : Seated) (read : HasRead before mid.world) (is : IsFileCopy mid.state.table line c) (opened : IsOpened mid.state.table c.found.letter c.found.name file)
    (changes : ChangesAs mid line c change) (w : WroteAll mid now to all s Unread) where
  abbrev e : Accessed
  e = w.seat.disk

  abbrev stamp : Stamp
  stamp = stamp_of mid.state.moment

  rose : Rose mid.world.faults now.world.faults
  rose = w.seat.does.changes.units.cause (inl refl)

  step : (units : List Slot) → holds mid units → Holds now.world.told now.state.table units
      × Ran (at (first before mid) units) (at now units) (whole mid words line c units) (failing (machine_of now.state units) file.vdev)
  step units h =
      let x = copying_at mid line c is units h in
      let k = meets_at mid units to.letter s w.there h in
      let m = k.met.minidisk in
      let put = changing to (all units) in
      let u = w.seat.does.came units h k.journal m k.told k.met.is in
      let volume : e.volume ≡ s.disk.volume = ap (λ (d : Accessed). d.volume) (w.seat.does.changes.kept (λ (d : failed.Device ≡ failed.InDoubt). absurd (cc d))) in
      let no = no_label to.write to.name to.shape (all units) in
      let kept = given_up mid.world.told now.world.told s.disk e m put stamp (changed m put) u.stands u.answer (λ a. old_none put a no) (old_may put (changed m put) no) volume in
      let steps = steps_kept mid.world.told now.world.told k.journal units mid.state.table to.letter s e k.met put stamp k.told k.table w.there w.seat.does.changes.same kept in
      let answer = u.answer in
      let still : changed_units units s.letter.unit m put stamp OldFault ≡ units = rw answer refl in
      let table : now.state.table ≡ table_with mid.state.table to.letter s e = w.seat.table ∙ with_disk_is mid.state.table to.letter s e w.there in
      let held : Holds now.world.told now.state.table units = rw table (subst (λ (l : List Slot). Holds now.world.told (table_with mid.state.table to.letter s e) l) still steps.holds) in
      let told = read.told in
      let console = ap (λ (st : State). st.console) w.state in
      let drafted : DraftedOn (at (first before mid) units) (at now units) s.disk m = record {
        slot = subst (λ (v : ℕ). slice_get units v ≡ Some (Settled (Volume m))) (sym k.met.own) k.met.slot;
        before = k.journal;
        told_is = sym told ∙ k.told;
        looked = k.met.looked;
        stands = u.stands.stands;
        aside = subst (λ (t : Told). WritesAside t now.world.told s.disk.volume.disk s.disk.volume.unit m) told u.stands.aside;
        same = refl;
        objects = refl;
      } in
      let input = input_at mid units line c file opened h x in
      let ran = read_failed_beside (at (first before mid) units) (at now units) s.disk m drafted x.file.unit x.file.file (wanted_in line x.file)
      (behind_read (machine_of mid.state units) line c x.file (change units)) (input.offers (wanted_in line x.file) (wanted_low line.style (length x.file.file.records)))
      (counted_one before.faults now.world.faults (omega (arith, read.faults, w.seat.does.changes.units.faults)) (rose_from before.faults mid.world.faults now.world.faults read.faults rose))
      (record { unread = ap (λ (z : Console). z.unread) console; ended = ap (λ (z : Console). z.ended) console }) in
      let tree = tree_at before mid words line c file change read is opened changes units h in
      let device = device_is mid.state opened.seat units file.vdev opened.device in (
        held,
        subst (λ (z : Act Stepped). Ran (at (first before mid) units) (at now units) z (failing (machine_of now.state units) file.vdev)) (sym tree)
            (subst (λ (z : Act Stepped). Ran (at (first before mid) units) (at now units) (Does (Get x.file.unit x.file.file (wanted_in line x.file))
            (behind_read (machine_of mid.state units) line c x.file (change units))) z)
            (ap (λ (v : ℕ). failing (machine_of mid.state units) v) (ap (vdev_of (machine_of mid.state units)) (sym input.unit) ∙ device)
            ∙ ap (λ (z : Machine). failing z file.vdev) (same_machine mid.state now.state to.letter s units _ w.there w.seat w.state))
            ran),
      )

  pub all_unread : Comes (first before mid) now (whole mid words line c) (λ units. failing (machine_of now.state units) file.vdev)
  all_unread = record {
    each = λ units h. let y = step units (let told = read.told in rw told h) in (units, (y.0, y.1));
    later = later_then before mid.world now.world (later_read before mid.world read) (later_changes mid.world now.world w.seat.does.changes.units);
    usable = λ usable. usable_all mid now to all s Unread w (let told = read.told in rw told usable);
  }

-- An update of the disk of a letter, as a step of a command.
use Rattle.std.proofs.Common.{◌≡◌, ◌≢◌, inr, ⊎_elim, ◌∙◌, ℕ, List, [], ◌∷◌, Option, Some, None, Result, Ok, Err, pos, refl, sym, ap, subst, slice_get, arith}
use Rattle.std.specs.Prelude.{⊤, IfSome, option_map}
use Rattle.std.specs.Option.{IsSome}
use Rattle.cms_journal.specs.Causes.{Counted}
use Rattle.cms_journal.specs.Journal.{Journal, IsWritable}
use Rattle.cms_journal.specs.Told.{Told}
use Rattle.cms_journal.proofs.Counts.{counted_none, counted_one}
use Rattle.cms_fields.specs.Moments.{stamp_of}
use Rattle.cms_fields.specs.declared.time.Stamp.{Stamp}
use Rattle.cms_model.specs.Changes.{Answer, Change, answer_of}
use Rattle.cms_model.specs.Minidisks.{Minidisk, Volume}
use Rattle.cms_model.specs.Slots.{Slot, Settled}
use Rattle.cms_model.specs.Steps.{EitherFault, Good, Outcome, Put, Step, faults_in, new_slot, sync_count}
use Rattle.cms_model.specs.Acts.{Act, Done, Out, bind, saying, typed_line}
use Rattle.cms_model.specs.Runs.{Ran}
use Rattle.cms_model.proofs.Single.{broke_before, ran_still}
use Rattle.cms_line.specs.ConsoleState.{Console}
use Rattle.cms_line.specs.Messages.{message_text}
use Rattle.cms_line.specs.declared.message.Message.TheVariants.{M105}
use Rattle.cms_world.specs.Seen.{ChangesUnits, Seen}
use Rattle.cms_edf.specs.ChangePlans.{CanChange}
use Rattle.cms_edf.specs.declared.change.Change as asked
use Rattle.cms_disk.specs.Changes.{Appends, IsOnSame}
use Rattle.cms_disk.specs.Disks.{Accessed}
use Rattle.cms_disk.specs.declared.fault.DiskFault.{DiskFault}
use Rattle.cms_disk.specs.declared.fault.DiskFault.TheVariants as failed
use Rattle.cms_disk.specs.declared.unit.UnitInfo.{UnitInfo}
use Rattle.cms_disk.proofs.DisksTold.{minidisk_same}
use Rattle.cms_search.specs.Calls.{Acts, Comes, Does, IsLater, IsSeatOf, IsUsable, IsUsableTable, Spot, Usable, at, holds, machine_of, said}
use Rattle.cms_search.specs.Machine.{Letter, Machine, Places, Went, after_step}
use Rattle.cms_search.specs.Places.{without_device}
use Rattle.cms_search.specs.Units.{released, vdev_of}
use Rattle.cms_search.specs.Searches.{item_at}
use Rattle.cms_search.specs.FileWrites.{Updated}
use Rattle.cms_search.specs.Seats.{MayChange}
use Rattle.cms_search.specs.Shows.{device_of}
use Rattle.cms_search.specs.DeviceSteps.{Changing, Did, HasFailed, IsChanged, IsFull, IsLimited, answered, behind, changing_by, changing_in, changing_of, changing_tree}
use Rattle.cms_search.specs.Tables.{AccessTable, Seated, doubted, letters_in, seat_with, writing}
use Rattle.cms_search.specs.Texts.{device_text}
use Rattle.cms_search.specs.declared.state.Course as declared
use Rattle.cms_search.specs.declared.state.Course.TheVariants as course
use Rattle.cms_search.specs.declared.state.End.{End}
use Rattle.cms_search.specs.declared.state.End.TheVariants.{Memory}
use Rattle.cms_search.specs.declared.state.State.{State}
use Rattle.cms_search.specs.declared.device_step.Changed as changes
use Rattle.cms_search.specs.declared.device_step.Changed.TheVariants as came
use Rattle.std.proofs.lemmas.Option.{same_Some, slice_get-map}
use Rattle.cms_search.proofs.Acts.{acts_after, acts_done, comes_does, does_stop}
use Rattle.cms_search.proofs.Changes.{Steps, change_ran, changed_units, holds_with, on_same, steps_doubted, steps_good}
use Rattle.cms_search.proofs.IdleEvents.{usable_grown}
use Rattle.cms_search.proofs.LetterDisks.{MetAt, letter_is, meets_at, readable_seat}
use Rattle.cms_search.proofs.Seats.{cleared_with, letters_cleared, letters_with, seat_there, table_with, with_disk_is}
use Rattle.cms_search.proofs.Searches.{item_at_map}
use Rattle.cms_search.proofs.Tables.{item_put, stays}

-- ---- what may be called

pub if_some : {A : Type 0} (x : Option A) (P : A → Type 0) (a : A) → x ≡ Some a → IfSome x P → P a
if_some x P a is h = rw is at h

-- a unit that has a device is there
pub has_device : (x : Option UnitInfo) (vdev : ℕ) → option_map (λ (unit : UnitInfo). unit.vdev) x ≡ Some vdev → (unit : UnitInfo) × (x ≡ Some unit)
has_device None vdev is = absurd (cc is)
has_device (Some unit) vdev is = (unit, refl)

-- a letter that may be written has a disk
written_seat : (x : Option Seated) (n : ℕ) → writing (option_map (λ (s : Seated). s.letter) x) n ≡ Ok tt → (s : Seated) × (x ≡ Some s)
written_seat None n is = absurd (cc is)
written_seat (Some s) n is = (s, refl)

pub written_at : (t : AccessTable) (n : ℕ) → writing (item_at (letters_in t.seats) n) n ≡ Ok tt → (s : Seated) × (item_at t.seats n ≡ Some s)
written_at t n is =
    written_seat (item_at t.seats n) n (ap (λ (x : Option Letter). writing x n) (sym (item_at_map (λ (s : Seated). s.letter) t.seats n)) ∙ is)

-- whether a letter may be written, by its disk
pub writing_at : (t : AccessTable) (n : ℕ) (x : Option Seated) → item_at t.seats n ≡ x → writing (option_map (λ (s : Seated). s.letter) x) n ≡ writing (item_at (letters_in t.seats) n) n
writing_at t n x at =
    ap (λ (y : Option Letter). writing y n) (sym (item_at_map (λ (s : Seated). s.letter) t.seats n ∙ ap (λ (y : Option Seated). option_map (λ (s : Seated). s.letter) y) at))

pub accessed_at : (t : AccessTable) (n : ℕ) → writing (item_at (letters_in t.seats) n) n ≡ Ok tt → IsSome (item_at t.seats n)
accessed_at t n is = let s = written_at t n is in rw s.1 refl

pub may_change : (told : Told) (t : AccessTable) (n : ℕ) (s : Seated) (unit : UnitInfo) (change : asked.Change) → item_at t.seats n ≡ Some s → slice_get t.units s.letter.unit ≡ Some unit
    → CanChange s.disk.volume.files change → Usable told t → MayChange told s.disk change
may_change told t n s unit change at has there usable = record {
  there = there;
  blocks = readable_seat told t n s unit at has usable;
  writable = λ may j is.
      let on = ((usable j is).seats n s unit at has).on in
      subst (IsWritable j.units) (sym on.number) (((usable j is).units s.letter.unit unit has).writable (sym on.writable ∙ may));
}

pub usable_with : (j : Journal) (t : AccessTable) (n : ℕ) (s : Seated) (e : Accessed) → item_at t.seats n ≡ Some s → IsOnSame s.disk e → IsUsableTable j t → IsUsableTable j (table_with t n s e)
usable_with j t n s e at same u = record {
  units = u.units;
  seats = λ a x unit is has. ⊎_elim
      (λ (h : (a ≡ n) × (Some (seat_with s e) ≡ Some x)).
      let one = same_Some (seat_with s e) x h.1 in
      let before = u.seats n s unit at (subst (λ (y : Seated). slice_get t.units y.letter.unit ≡ Some unit) (sym one) has) in
      subst (IsSeatOf unit) one (record { on = on_same unit s.disk e same before.on; marked = before.marked }))
      (λ (h : (a ≢ n) × (item_at t.seats a ≡ Some x)). u.seats a x unit h.1 has)
      (item_put t.seats n (Some (seat_with s e)) a x is);
}

usable_doubted : (j : Journal) (t : AccessTable) (n u : ℕ) → IsUsableTable j t → IsUsableTable j (doubted n u t)
usable_doubted j t n u usable = record { units = usable.units; seats = λ a x unit is has. usable.seats a x unit (stays t n a x is).1 has }

-- the journal has grown, and no count has fallen
pub later_changes : {T E : Type 0} {P : E → Type 0} {r : Result T E} (before now : Seen) → ChangesUnits before now P r → IsLater before now
later_changes before now c = let edges = c.edges in record { grown = c.grown; faults = c.faults; edges = omega (arith, edges) }

-- ---- what it was updated to

-- the table then
abbrev pub table_then : Spot → ℕ → Seated → Accessed → AccessTable
table_then old n s e = table_with old.state.table n s e

abbrev pub state_then : Spot → ℕ → Seated → Accessed → State
state_then old n s e = record old.state { table = table_then old n s e }

pub table_is : (old mid : Spot) (n : ℕ) (s : Seated) (change : List Slot → Change) (r : Result ⊤ DiskFault) → (a : Updated old mid n s change r) → mid.state.table ≡ table_then old n s a.seat.disk
table_is old mid n s change r a = a.seat.table ∙ with_disk_is old.state.table n s a.seat.disk a.there

-- the letter has the disk then
pub seat_is : (old mid : Spot) (n : ℕ) (s : Seated) (change : List Slot → Change) (r : Result ⊤ DiskFault) → (a : Updated old mid n s change r)
    → item_at mid.state.table.seats n ≡ Some (seat_with s a.seat.disk)
seat_is old mid n s change r a = seat_there old.state.table mid.state.table n s a.there a.seat

pub state_is : (old mid : Spot) (n : ℕ) (s : Seated) (change : List Slot → Change) (r : Result ⊤ DiskFault) → (a : Updated old mid n s change r) → mid.state ≡ state_then old n s a.seat.disk
state_is old mid n s change r a = a.state ∙ ap (λ (t : AccessTable). record old.state { table = t }) (table_is old mid n s change r a)

pub usable_then : (old mid : Spot) (n : ℕ) (s : Seated) (change : List Slot → Change) (r : Result ⊤ DiskFault) → Updated old mid n s change r → IsUsable old → IsUsable mid
usable_then old mid n s change r a usable =
    let grown = usable_grown old.world.told mid.world.told old.state.table a.seat.does.changes.units.grown usable in
    subst (λ (t : AccessTable). Usable mid.world.told t) (sym (table_is old mid n s change r a))
    (λ j is. usable_with j old.state.table n s a.seat.disk a.there a.seat.does.changes.same (grown j is))

-- the machine is on the same units, with the same letters
pub machine_is : (old mid : Spot) (n : ℕ) (s : Seated) (change : List Slot → Change) (r : Result ⊤ DiskFault) (units : List Slot) → Updated old mid n s change r
    → machine_of old.state units ≡ machine_of mid.state units
machine_is old mid n s change r units a =
    sym (ap (λ (l : List (Option Letter)). record (machine_of old.state units) { letters = l }) (letters_with old.state.table.seats n s a.seat.disk a.there))
    ∙ ap (λ (st : State). machine_of st units) (sym (state_is old mid n s change r a))

pub console_is : (old mid : Spot) (n : ℕ) (s : Seated) (change : List Slot → Change) (r : Result ⊤ DiskFault) → Updated old mid n s change r → mid.state.console ≡ old.state.console
console_is old mid n s change r a = ap (λ (st : State). st.console) a.state

-- ---- the tree

pub tree_is : (st : State) (n : ℕ) (s : Seated) (change : Change) (units : List Slot) (m : Minidisk) → item_at st.table.seats n ≡ Some s
    → slice_get units s.letter.unit ≡ Some (Settled (Volume m)) → changing_tree st n change units ≡ changing_in (machine_of st units) n s.letter change m
tree_is st n s change units m there slot = let letter = letter_is st.table n s there in rw (letter, slot) refl

abbrev step_of : State → Seated → Change → Minidisk → Step
step_of st s change m = Put s.letter.unit m change (stamp_of st.moment)

-- what follows the step
abbrev pub then_of : State → ℕ → Seated → Change → Minidisk → List Slot → Outcome → Act Changing
then_of st n s change m units o =
    bind (behind (after_step (machine_of st units) (step_of st s change m) o) n (vdev_of (machine_of st units) s.letter.unit) o) (λ x. answered x (answer_of m change))

-- the device of the disk
pub device_is : (st : State) (s : Seated) (units : List Slot) (vdev : ℕ) → option_map (λ (unit : UnitInfo). unit.vdev) (slice_get st.table.units s.letter.unit) ≡ Some vdev
    → vdev_of (machine_of st units) s.letter.unit ≡ vdev
device_is st s units vdev is = go (slice_get st.table.units s.letter.unit) (slice_get-map device_of st.table.units s.letter.unit) is
  where
    go : (x : Option UnitInfo) → slice_get (machine_of st units).devices s.letter.unit ≡ option_map device_of x → option_map (λ (unit : UnitInfo). unit.vdev) x ≡ Some vdev
        → vdev_of (machine_of st units) s.letter.unit ≡ vdev
    go None there is = absurd (cc is)
    go (Some unit) there is = rw there (same_Some unit.vdev vdev is)

-- its step was done
pub ran_to : (old mid : Spot) (n : ℕ) (s : Seated) (change : Change) (units : List Slot) (t' : AccessTable) (o : Outcome) → item_at old.state.table.seats n ≡ Some s → (k : MetAt old units s)
    → Steps old.world.told mid.world.told k.journal units old.state.table t' s k.met change (stamp_of old.state.moment) o → Counted old.world.faults (faults_in (o ∷ [])) mid.world.faults
    → mid.state.console ≡ old.state.console
    → Ran (at old units) (at mid (changed_units units s.letter.unit k.met.minidisk change (stamp_of old.state.moment) o)) (changing_tree old.state n change units)
    (then_of old.state n s change k.met.minidisk units o)
ran_to old mid n s change units t' o there k steps counted console =
    let m = k.met.minidisk in
    let stamp = stamp_of old.state.moment in
    subst (λ (z : Act Changing). Ran (at old units) (at mid (changed_units units s.letter.unit m change stamp o)) z (then_of old.state n s change m units o))
    (sym (tree_is old.state n s change units m there k.met.slot))
    (change_ran old mid units s.disk.volume.disk s.letter.unit m change stamp o (then_of old.state n s change m units) k.met.slot steps.changes steps.covers steps.now' counted console)

-- ---- it is done

pub change_done : (old mid : Spot) (n : ℕ) (s : Seated) (change : List Slot → Change) (x : ⊤) → Updated old mid n s change (Ok x)
    → Acts old mid (changing_by old.state n change) (Ok came.Done) (changing_of mid.state)
change_done old mid n s change x a = record {
  each = λ units h.
      let k = meets_at old units n s a.there h in
      let m = k.met.minidisk in
      let stamp = stamp_of old.state.moment in
      let done = a.seat.does.appends units h k.journal m k.told k.met.is in
      let steps = steps_good old.world.told mid.world.told k.journal units old.state.table n s a.seat.disk k.met (change units) stamp k.told k.table a.there a.seat.does.changes.same done in
      let units' = changed_units units s.letter.unit m (change units) stamp Good in
      let ran = ran_to old mid n s (change units) units (table_then old n s a.seat.disk) Good a.there k steps (counted_none old.world.faults mid.world.faults a.seat.does.changes.units.faults)
      (console_is old mid n s change (Ok x) a) in
      let end' : then_of old.state n s (change units) m units Good ≡ Done (IsChanged (machine_of mid.state units')) =
      ap (λ (y : Answer). answered (Did (machine_of old.state units')) y) done.answer
      ∙ ap (λ (z : Machine). Done (IsChanged z)) (machine_is old mid n s change (Ok x) units' a) in
      let table = table_is old mid n s change (Ok x) a in
      (units', (rw table steps.holds, subst (λ (z : Act Changing). Ran (at old units) (at mid units') (changing_tree old.state n (change units) units) z) end' ran));
  later = later_changes old.world mid.world a.seat.does.changes.units;
  usable = usable_then old mid n s change (Ok x) a;
  cause = tt;
}

-- ---- it is refused

-- the disk is the same minidisk still
still_held : (old mid : Spot) (n : ℕ) (s : Seated) (change : List Slot → Change) (why : DiskFault) (units : List Slot) → Updated old mid n s change (Err why) → (why ≡ failed.InDoubt → ⊥)
    → mid.world.told ≡ old.world.told → MetAt old units s → holds mid units
still_held old mid n s change why units a sure told k =
    let e = a.seat.disk in
    let volume : e.volume ≡ s.disk.volume = ap (λ (d : Accessed). d.volume) (a.seat.does.changes.kept sure) in
    let table = table_is old mid n s change (Err why) a in
    let journal = k.told in
    rw (told, journal, table)
    (holds_with k.journal units old.state.table n s e k.met a.there a.seat.does.changes.same (minidisk_same k.journal s.disk e k.met.minidisk volume k.met.is) k.table)

-- a step that was refused does nothing
ran_refused : (old mid : Spot) (n : ℕ) (s : Seated) (change : List Slot → Change) (why : DiskFault) (units : List Slot) → Updated old mid n s change (Err why) → (k : MetAt old units s)
    → mid.world.told ≡ old.world.told → sync_count (step_of old.state s (change units) k.met.minidisk) Good ≡ 0 → new_slot (step_of old.state s (change units) k.met.minidisk) Good ≡ None
    → Ran (at old units) (at mid units) (changing_tree old.state n (change units) units) (then_of old.state n s (change units) k.met.minidisk units Good)
ran_refused old mid n s change why units a k told synced none =
    let m = k.met.minidisk in
    let console = console_is old mid n s change (Err why) a in
    subst (λ (z : Act Changing). Ran (at old units) (at mid units) z (then_of old.state n s (change units) m units Good)) (sym (tree_is old.state n s (change units) units m a.there k.met.slot))
    (ran_still (at old units) (at mid units) (step_of old.state s (change units) m) Good (then_of old.state n s (change units) m units) told
    (counted_none old.world.faults mid.world.faults a.seat.does.changes.units.faults) synced tt k.met.slot refl none
    (record { unread = ap (λ (c : Console). c.unread) console; ended = ap (λ (c : Console). c.ended) console }) refl)

-- the machine that a refused step leaves
same_units : (st : State) (n : ℕ) (s : Seated) (change : Change) (m : Minidisk) (units : List Slot) → new_slot (step_of st s change m) Good ≡ None
    → after_step (machine_of st units) (step_of st s change m) Good ≡ machine_of st units
same_units st n s change m units none = rw none refl

-- the change passes a limit
pub change_limited : (old mid : Spot) (n : ℕ) (s : Seated) (change : List Slot → Change) (which : ℕ) → Updated old mid n s change (Err (failed.Limit which))
    → Acts old mid (changing_by old.state n change) (Ok (came.Limited which)) (changing_of mid.state)
change_limited old mid n s change which a = record {
  each = λ units h.
      let k = meets_at old units n s a.there h in
      let m = k.met.minidisk in
      let done = a.seat.does.appends units h k.journal m k.told k.met.is in
      let answer = done.1 in
      let none : new_slot (step_of old.state s (change units) m) Good ≡ None = rw answer refl in
      let ran = ran_refused old mid n s change (failed.Limit which) units a k done.0 (rw answer refl) none in
      let end' : then_of old.state n s (change units) m units Good ≡ Done (IsLimited (machine_of mid.state units) which) =
      ap (λ (z : Machine). answered (Did z) (answer_of m (change units))) (same_units old.state n s (change units) m units none)
      ∙ ap (λ (y : Answer). answered (Did (machine_of old.state units)) y) answer
      ∙ ap (λ (z : Machine). Done (IsLimited z which)) (machine_is old mid n s change (Err (failed.Limit which)) units a) in (
        units,
        (
          still_held old mid n s change (failed.Limit which) units a (λ doubt. absurd (cc doubt)) done.0 k,
          subst (λ (z : Act Changing). Ran (at old units) (at mid units) (changing_tree old.state n (change units) units) z) end' ran,
        ),
      );
  later = later_changes old.world mid.world a.seat.does.changes.units;
  usable = usable_then old mid n s change (Err (failed.Limit which)) a;
  cause = tt;
}

-- there are too few free blocks
pub change_full : (old mid : Spot) (n : ℕ) (s : Seated) (change : List Slot → Change) (need free : ℕ) → Updated old mid n s change (Err (failed.Full need free))
    → Acts old mid (changing_by old.state n change) (Ok (came.Full need free)) (changing_of mid.state)
change_full old mid n s change need free a = record {
  each = λ units h.
      let k = meets_at old units n s a.there h in
      let m = k.met.minidisk in
      let done = a.seat.does.appends units h k.journal m k.told k.met.is in
      let answer = done.1 in
      let none : new_slot (step_of old.state s (change units) m) Good ≡ None = rw answer refl in
      let ran = ran_refused old mid n s change (failed.Full need free) units a k done.0 (rw answer refl) none in
      let end' : then_of old.state n s (change units) m units Good ≡ Done (IsFull (machine_of mid.state units) need free) =
      ap (λ (z : Machine). answered (Did z) (answer_of m (change units))) (same_units old.state n s (change units) m units none)
      ∙ ap (λ (y : Answer). answered (Did (machine_of old.state units)) y) answer
      ∙ ap (λ (z : Machine). Done (IsFull z need free)) (machine_is old mid n s change (Err (failed.Full need free)) units a) in (
        units,
        (
          still_held old mid n s change (failed.Full need free) units a (λ doubt. absurd (cc doubt)) done.0 k,
          subst (λ (z : Act Changing). Ran (at old units) (at mid units) (changing_tree old.state n (change units) units) z) end' ran,
        ),
      );
  later = later_changes old.world mid.world a.seat.does.changes.units;
  usable = usable_then old mid n s change (Err (failed.Full need free)) a;
  cause = tt;
}

-- nothing is told of what came to none of these
untold : (old new : Told) (d e : Accessed) (m : Minidisk) (change : Change) (stamp : Stamp) (why : DiskFault) → ((k : ℕ) → why ≡ failed.Limit k → ⊥)
    → ((need free : ℕ) → why ≡ failed.Full need free → ⊥) → (why ≡ failed.Device → ⊥) → (why ≡ failed.InDoubt → ⊥) → Appends old new d e m change stamp (Err why) → new ≡ old
untold old new d e m change stamp failed.NotFound limit full device doubt is = is.0
untold old new d e m change stamp failed.Exists limit full device doubt is = is.0
untold old new d e m change stamp failed.ReadOnly limit full device doubt is = is.0
untold old new d e m change stamp failed.Device limit full device doubt is = absurd (device refl)
untold old new d e m change stamp failed.InDoubt limit full device doubt is = absurd (doubt refl)
untold old new d e m change stamp failed.Altered limit full device doubt is = absurd is
untold old new d e m change stamp (failed.Limit k) limit full device doubt is = absurd (limit k refl)
untold old new d e m change stamp (failed.Full need free) limit full device doubt is = absurd (full need free refl)
untold old new d e m change stamp failed.Memory limit full device doubt is = is

-- nothing was done, and there was no memory
pub change_cut : (old mid : Spot) (n : ℕ) (s : Seated) (change : List Slot → Change) (why : DiskFault) → Updated old mid n s change (Err why) → ((k : ℕ) → why ≡ failed.Limit k → ⊥)
    → ((need free : ℕ) → why ≡ failed.Full need free → ⊥) → (why ≡ failed.Device → ⊥) → (why ≡ failed.InDoubt → ⊥)
    → Acts {T = changes.Changed} old mid (changing_by old.state n change) (Err Memory) (changing_of mid.state)
change_cut old mid n s change why a limit full device doubt = record {
  each = λ units h.
      let k = meets_at old units n s a.there h in
      let told = untold old.world.told mid.world.told s.disk a.seat.disk k.met.minidisk (change units) (stamp_of old.state.moment) why limit full device doubt
      (a.seat.does.appends units h k.journal k.met.minidisk k.told k.met.is) in (
        units,
        (
          still_held old mid n s change why units a doubt told k,
          broke_before (at old units) (at mid units) (changing_tree old.state n (change units) units) told a.seat.does.changes.units.faults refl,
        ),
      );
  later = later_changes old.world mid.world a.seat.does.changes.units;
  usable = usable_then old mid n s change (Err why) a;
  cause = λ edge. absurd (cc);
}

-- ---- the device failed

-- its message is typed, and the command ends
abbrev pub failed_tree : State → ℕ → List Slot → Act Changing
failed_tree st vdev units = Out (typed_line (message_text (M105 (device_text vdev)))) (Done (HasFailed (Went (machine_of st units) (pos 100))))

abbrev pub failed_at : Machine → ℕ → Act Changing
failed_at z vdev = Out (typed_line (message_text (M105 (device_text vdev)))) (Done (HasFailed (Went z (pos 100))))

-- the state with the letter released, its unit in doubt, and no reading place of its device
abbrev pub state_doubted : State → ℕ → ℕ → ℕ → State
state_doubted st n u vdev = record st { table = doubted n u st.table; places = without_device vdev st.places }

pub doubted_so : (st : State) (n u vdev : ℕ) (t : AccessTable) (places : Places) → t ≡ doubted n u st.table → places ≡ without_device vdev st.places
    → record st { table = t; places = places } ≡ state_doubted st n u vdev
doubted_so st n u vdev t places table forgotten =
    ap (λ (x : AccessTable). record st { table = x; places = places }) table
    ∙ ap (λ (x : Places). record st { table = doubted n u st.table; places = x }) forgotten

-- a letter that is released then is released before
doubted_is : (t : AccessTable) (n : ℕ) (s : Seated) (e : Accessed) → doubted n s.letter.unit (table_with t n s e) ≡ doubted n s.letter.unit t
doubted_is t n s e = ap (λ (l : List (Option Seated)). record (doubted n s.letter.unit t) { seats = l }) (cleared_with t n s e)

released_is : (st : State) (n : ℕ) (s : Seated) (vdev : ℕ) (units : List Slot) → item_at st.table.seats n ≡ Some s → vdev_of (machine_of st units) s.letter.unit ≡ vdev
    → released n (machine_of st units) ≡ machine_of (state_doubted st n s.letter.unit vdev) units
released_is st n s vdev units there device =
    let letter = letter_is st.table n s there in
    let cleared' = letters_cleared st.table.seats n in
    rw (letter, device, cleared') refl

-- after the label was written
pub change_doubted : (old mid mid' : Spot) (n : ℕ) (s : Seated) (change : List Slot → Change) (vdev : ℕ) → Updated old mid n s change (Err failed.InDoubt)
    → option_map (λ (unit : UnitInfo). unit.vdev) (slice_get old.state.table.units s.letter.unit) ≡ Some vdev
    → mid'.world ≡ mid.world → mid'.state ≡ state_doubted mid.state n s.letter.unit vdev → Comes old mid' (changing_by old.state n change) (failed_tree mid'.state vdev)
change_doubted old mid mid' n s change vdev a device same doubt =
    rw same (doubted_state)
  where
    u : ℕ
    u = s.letter.unit

    state' : mid'.state ≡ state_doubted old.state n s.letter.unit vdev
    state' = doubt
        ∙ ap (λ (st : State). state_doubted st n s.letter.unit vdev) (state_is old mid n s change (Err failed.InDoubt) a)
        ∙ ap (λ (t : AccessTable). record (state_doubted old.state n s.letter.unit vdev) { table = t }) (doubted_is old.state.table n s a.seat.disk)

    now : Spot
    now = record { world = mid.world; state = mid'.state }

    doubted_state : Comes old now (changing_by old.state n change) (failed_tree mid'.state vdev)
    doubted_state = record {
      each = λ units h.
          let k = meets_at old units n s a.there h in
          let m = k.met.minidisk in
          let stamp = stamp_of old.state.moment in
          let done = a.seat.does.appends units h k.journal m k.told k.met.is in
          let o = EitherFault done.side in
          let steps = steps_doubted old.world.told mid.world.told k.journal units old.state.table n s k.met (change units) stamp k.told k.table a.there done in
          let units' = changed_units units s.letter.unit m (change units) stamp o in
          let ran = ran_to old now n s (change units) units (doubted n s.letter.unit old.state.table) o a.there k steps
          (counted_one old.world.faults mid.world.faults a.seat.does.changes.units.faults (a.seat.does.changes.units.cause (inr refl))) (ap (λ (st : State). st.console) state') in
          let end' : then_of old.state n s (change units) m units o ≡ failed_tree mid'.state vdev units' =
          ap (λ (v : ℕ). failed_at (released n (machine_of old.state units')) v) (device_is old.state s units vdev device)
          ∙ ap (λ (z : Machine). failed_at z vdev) (released_is old.state n s vdev units' a.there (device_is old.state s units' vdev device)
          ∙ ap (λ (st : State). machine_of st units') (sym state')) in
          let table : mid'.state.table ≡ doubted n s.letter.unit old.state.table = ap (λ (st : State). st.table) state' in
          (units', (rw table steps.holds, subst (λ (z : Act Changing). Ran (at old units) (at now units') (changing_tree old.state n (change units) units) z) end' ran));
      later = later_changes old.world mid.world a.seat.does.changes.units;
      usable = λ usable.
          let grown = usable_grown old.world.told mid.world.told old.state.table a.seat.does.changes.units.grown usable in
          subst (λ (t : AccessTable). Usable mid.world.told t) (sym (ap (λ (st : State). st.table) state'))
          (λ j is. usable_doubted j old.state.table n s.letter.unit (grown j is));
    }

-- the message was typed
pub change_failed : (old mid new : Spot) (n : ℕ) (change : List Slot → Change) (vdev : ℕ) (c : declared.Course) → Comes old mid (changing_by old.state n change) (failed_tree mid.state vdev)
    → Does mid.world new.world (saying (typed_line (message_text (M105 (device_text vdev))))) (Ok c) said → c ≡ course.Went (pos 100) → new.state ≡ mid.state
    → Acts old new (changing_by old.state n change) (Ok (came.Failed c)) (changing_of new.state)
change_failed old mid new n change vdev c comes does went same =
    subst (λ (st : State). Acts old new (changing_by old.state n change) (Ok (came.Failed c)) (changing_of st)) (sym same)
    (rw went
    (acts_after old mid new (changing_by old.state n change) (failed_tree mid.state vdev) (Ok (came.Failed (course.Went (pos 100)))) (changing_of mid.state) comes
    (acts_done mid new (failed_tree mid.state vdev) (came.Failed (course.Went (pos 100))) (changing_of mid.state)
    (comes_does mid new (saying (typed_line (message_text (M105 (device_text vdev))))) (λ units y. Done (HasFailed (Went (machine_of mid.state units) (pos 100)))) c said does same))))

-- or it was cut off in that
pub change_stops : (old mid new : Spot) (n : ℕ) (change : List Slot → Change) (vdev : ℕ) (e : End) → Comes old mid (changing_by old.state n change) (failed_tree mid.state vdev)
    → Does {T = declared.Course} mid.world new.world (saying (typed_line (message_text (M105 (device_text vdev))))) (Err e) said → new.state ≡ mid.state
    → Acts {T = changes.Changed} old new (changing_by old.state n change) (Err e) (changing_of new.state)
change_stops old mid new n change vdev e comes does same =
    acts_after old mid new (changing_by old.state n change) (failed_tree mid.state vdev) (Err e) (changing_of new.state) comes
    (does_stop {T = declared.Course} mid new (saying (typed_line (message_text (M105 (device_text vdev))))) (λ units y. Done (HasFailed (Went (machine_of mid.state units) (pos 100))))
    e said (changing_of new.state) does same)

-- A file that an extension reads: it is looked for, and read whole.
use Rattle.std.proofs.Common.{◌≡◌, ◌∙◌, inl, inr, ℕ, List, Some, None, Result, Ok, Err, arith, pos, length, slice_get, refl, sym, ap, subst}
use Rattle.std.specs.Prelude.{◌⊎◌, IfErr, IfOk, IfSome}
use Rattle.std.specs.Option.{option_map}
use Rattle.cms_fields.specs.Steps.{◌>>=◌}
use Rattle.cms_journal.specs.Causes.{Rose}
use Rattle.cms_journal.specs.Journal.{Journal}
use Rattle.cms_journal.specs.Told.{Told}
use Rattle.cms_journal.proofs.Counts.{counted_none, counted_one}
use Rattle.cms_names.specs.declared.name.Name.{Name}
use Rattle.cms_model.specs.Changes.{file_named}
use Rattle.cms_model.specs.LawsUpdates as updates
use Rattle.cms_model.specs.Minidisks.{File}
use Rattle.cms_model.specs.Trees.{Image}
use Rattle.cms_model.specs.declared.file.FileData.{FileData}
use Rattle.cms_model.specs.Acts.{Act, Done, saying, typed_line}
use Rattle.cms_model.specs.Objects.{Object, Records}
use Rattle.cms_model.specs.Slots.{Slot}
use Rattle.cms_model.specs.Steps.{Good, Outcome, ReadFault}
use Rattle.cms_line.specs.Messages.{message_text}
use Rattle.cms_line.specs.declared.message.Message.TheVariants.{M105}
use Rattle.cms_operands.specs.declared.mode.ReadMode.TheVariants.{Letter}
use Rattle.cms_records.specs.Stored.{records_in}
use Rattle.cms_records.proofs.StoredRecords.{records_are}
use Rattle.cms_edf.specs.OpeningSteps.{OfImage}
use Rattle.cms_disk.specs.Disks.{Accessed, IsReadable, StandsIn, place_of}
use Rattle.cms_disk.specs.Gets.{GetsIn}
use Rattle.cms_disk.specs.declared.fault.DiskFault.{DiskFault}
use Rattle.cms_disk.specs.declared.fault.DiskFault.TheVariants as failed
use Rattle.cms_disk.specs.declared.unit.UnitInfo.{UnitInfo}
use Rattle.cms_world.specs.Seen.{Seen}
use Rattle.cms_search.specs.Calls.{Acts, Comes, Does, IsLater, IsUsable, Meaning, Spot, at, holds, machine_of, refusal_tree, said}
use Rattle.cms_search.specs.DeviceSteps.{HasRead, handed, silently}
use Rattle.cms_search.specs.Machine.{Course, Machine, letter_at}
use Rattle.cms_search.specs.Refusals.{device_fault, unread_code, unread_message}
use Rattle.cms_search.specs.Searches.{item_at, look_up, shelves_in}
use Rattle.cms_search.specs.Shows.{Shows}
use Rattle.cms_search.specs.Tables.{Seated}
use Rattle.cms_search.specs.Texts.{device_text}
use Rattle.cms_search.specs.Units.{vdev_of}
use Rattle.cms_search.specs.declared.fault.SearchFault.{SearchFault}
use Rattle.cms_search.specs.declared.fault.SearchFault.TheVariants as why
use Rattle.cms_search.specs.declared.search.Found.{Found}
use Rattle.cms_search.specs.declared.state.Course as declared
use Rattle.cms_search.specs.declared.state.Course.TheVariants as course
use Rattle.cms_search.specs.declared.state.End.{End}
use Rattle.cms_search.specs.declared.state.End.TheVariants.{Edge, Memory}
use Rattle.cms_search.specs.declared.state.State.{State}
use Rattle.cms_search.proofs.Acts as joins
use Rattle.cms_search.proofs.Acts.{acts_after, acts_done, acts_same, later_does, later_then, no_memory, usable_later}
use Rattle.cms_search.proofs.HandedRecords.{acts_never, later_read, named_so}
use Rattle.cms_search.proofs.LetterDisks.{holds_shows, letter_is, meets_at, readable_seat}
use Rattle.cms_search.proofs.Released.{vdev_is}
use Rattle.cms_search.proofs.Stepped.{has_device}
use Rattle.cms_files.specs.Files.{UnitFile, file_on}
use Rattle.cms_files.proofs.Found.{found_held}
use Rattle.cms_files.proofs.OpenedFiles.{none_on, none_with, seat_with}
use Rattle.cms_files.proofs.WholeReads.{ReadsAll, comes_read, seen_now, there_is}
use Rattle.cms_ext.specs.Calls.{desk_of, met_of, met_with}
use Rattle.cms_ext.specs.Extensions.{Met, getting, read_found, refusing, unfound}
use Rattle.cms_ext.specs.Extensions as spec
use Rattle.cms_ext.specs.declared.extension.ExtReply.TheVariants as told
use Rattle.cms_ext.specs.declared.wants.Met as declared_met
use Rattle.cms_ext.specs.declared.wants.Met.TheVariants as met
use Rattle.cms_ext.proofs.Refusals.{refuses}

-- what a unit holds now
abbrev current : Journal → ℕ → Image
current j u = updates.now j u

module _ (old : Spot) (objects : List Object) (name : Name) (n found : ℕ) where
  abbrev pub read_tree : List Slot → Act Met
  read_tree units =
      read_found (desk_of old.state objects units) name n
      (file_on (machine_of old.state units) name (letter_at (machine_of old.state units) found))

  abbrev pub missing : List Slot → Act Met
  missing units = unfound (desk_of old.state objects units) name n why.NotFound

  -- no disk has the letter
  pub no_disk : (units : List Slot) → holds old units → None ≡ option_map (λ (s : Seated). s.disk) (item_at old.state.table.seats found)
      → read_tree units ≡ missing units
  no_disk units h none =
      let absent = none_on old.state.table (machine_of old.state units) found name (none_with (item_at old.state.table.seats found) none) (holds_shows old units h) in
      rw absent refl

  -- so it is refused
  pub read_missing : (new : Spot) (r : Result declared_met.Met End) (d : Meaning declared_met.Met Met)
      → ((units : List Slot) → holds old units → read_tree units ≡ missing units) → Acts old new missing r d → Acts old new read_tree r d
  read_missing new r d same a = acts_same old new read_tree missing r d same a

  -- ---- a file that is there

  module _ (d : Accessed) (is : Some d ≡ option_map (λ (s : Seated). s.disk) (item_at old.state.table.seats found)) where
    seat : (s : Seated) × (item_at old.state.table.seats found ≡ Some s) × (s.disk ≡ d)
    seat = seat_with (item_at old.state.table.seats found) d is

    abbrev gives : List (List ℕ) → List Slot → Act Met
    gives records units = Done (spec.Told (desk_of old.state objects units) (Records records))

    abbrev fails_on : List Slot → Act Met
    fails_on units = refusing objects (device_fault (machine_of old.state units) (vdev_of (machine_of old.state units) seat.0.letter.unit))

    reads_so : (units : List Slot) (h : holds old units) (o : Outcome) (next : Act Met) (x : File) → file_named name (meets_at old units found seat.0 seat.1 h).met.minidisk.files ≡ Some x
        → handed silently x (length x.records) (gives x.records units) (fails_on units) o ≡ next → ReadsAll units (read_tree units) o next
    reads_so units h o next x named goes =
        let k = meets_at old units found seat.0 seat.1 h in
        let letter = letter_is old.state.table found seat.0 seat.1 in
        let slot = k.met.slot in
        record {
          unit = seat.0.letter.unit;
          file = x;
          then' = handed silently x (length x.records) (gives x.records units) (fails_on units);
          offers = record {
            minidisk = k.met.minidisk;
            settled = slot;
            file = subst (λ (n : Name). file_named n k.met.minidisk.files ≡ Some x) (sym (named_so name k.met.minidisk.files x named)) named;
            enough = omega arith;
          };
          tree = rw (letter, slot, named) refl;
          is = goes;
        }

    -- its data were read
    comes_data : (now : Seen) (stored : FileData) → HasRead old.world now → OfImage old.world.told d.volume.unit (λ image. GetsIn image d name (Ok stored))
        → Comes old (seen_now old now) read_tree (gives (records_in stored))
    comes_data now stored read got =
        comes_read old now read_tree (gives (records_in stored)) Good read (λ n. tt) (counted_none old.world.faults now.faults read.faults)
        (λ units h.
        let k = meets_at old units found seat.0 seat.1 h in
        let stands = subst (λ (a : Accessed). StandsIn (current k.journal a.volume.unit) a k.met.minidisk) seat.2 k.met.is.stands in
        let x = got k.journal k.told k.met.minidisk stands in
        let same : x.0.records ≡ records_in stored = sym (records_are stored x.0.records x.2.stands) in
        reads_so units h Good (gives (records_in stored) units) x.0 x.1 (ap (λ (records : List (List ℕ)). gives records units) same))

    -- the device failed
    comes_fault : (now : Seen) (vdev : ℕ) → HasRead old.world now → Rose old.world.faults now.faults → (place_of name d.volume ≡ None → ⊥)
        → IfSome (item_at old.state.table.seats found) (λ s. option_map (λ (unit : UnitInfo). unit.vdev) (slice_get old.state.table.units s.letter.unit) ≡ Some vdev)
        → Comes old (seen_now old now) read_tree (λ units. refusing objects (refusal_tree old.state (M105 (device_text vdev)) (pos 100) units))
    comes_fault now vdev read rose some device =
        comes_read old now read_tree (λ units. refusing objects (refusal_tree old.state (M105 (device_text vdev)) (pos 100) units)) (ReadFault 0) read (λ n. omega arith)
        (counted_one old.world.faults now.faults read.faults rose)
        (λ units h.
        let k = meets_at old units found seat.0 seat.1 h in
        let stands = subst (λ (a : Accessed). StandsIn (current k.journal a.volume.unit) a k.met.minidisk) seat.2 k.met.is.stands in
        let x = there_is (current k.journal d.volume.unit) d k.met.minidisk name (place_of name d.volume) stands refl some in
        reads_so units h (ReadFault 0) _ x.0 x.1
        (ap (λ (v : ℕ). refusing objects (device_fault (machine_of old.state units) v)) (vdev_is old.state units seat.0.letter.unit vdev (told' device))))
      where
        told' : IfSome (item_at old.state.table.seats found) (λ s. option_map (λ (unit : UnitInfo). unit.vdev) (slice_get old.state.table.units s.letter.unit) ≡ Some vdev)
            → option_map (λ (unit : UnitInfo). unit.vdev) (slice_get old.state.table.units seat.0.letter.unit) ≡ Some vdev
        told' h = rw seat.1 at h

    -- its blocks may be read
    pub may_read : (vdev : ℕ) → IfSome (item_at old.state.table.seats found) (λ s. option_map (λ (unit : UnitInfo). unit.vdev) (slice_get old.state.table.units s.letter.unit) ≡ Some vdev)
        → IsUsable old → (j : _) → old.world.told ≡ Some j → IsReadable j d
    may_read vdev device usable j told =
        let unit = has_device (slice_get old.state.table.units seat.0.letter.unit) vdev (rw seat.1 at device) in
        subst (λ (a : Accessed). IsReadable j a) seat.2 (readable_seat old.world.told old.state.table found seat.0 unit.0 seat.1 unit.1 usable j told)

    -- its bytes aren't records any more: never where the journal is told
    never_altered : OfImage old.world.told d.volume.unit (λ image. GetsIn image d name (Err failed.Altered)) → (units : List Slot) → holds old units → ⊥
    never_altered got units h =
        let k = meets_at old units found seat.0 seat.1 h in
        let stands = subst (λ (a : Accessed). StandsIn (current k.journal a.volume.unit) a k.met.minidisk) seat.2 k.met.is.stands in
        got k.journal k.told k.met.minidisk stands

    -- ---- how the read ends

    -- its records are handed over
    pub read_data : (now : Seen) (stored : FileData) (records : List (List ℕ)) → HasRead old.world now
        → OfImage old.world.told d.volume.unit (λ image. GetsIn image d name (Ok stored)) → records ≡ records_in stored
        → Acts old (seen_now old now) read_tree (Ok (met.Told (told.File records))) (met_of old.state objects)
    read_data now stored records read got same =
        subst (λ (rs : List (List ℕ)). Acts old (seen_now old now) read_tree (Ok (met.Told (told.File rs))) (met_of old.state objects)) (sym same)
        (acts_done old (seen_now old now) read_tree (met.Told (told.File (records_in stored))) (met_of old.state objects) (comes_data now stored read got))

    -- or there is no memory for them
    pub read_starved : (now : Seen) (stored : FileData) → HasRead old.world now
        → OfImage old.world.told d.volume.unit (λ image. GetsIn image d name (Ok stored))
        → Acts {T = declared_met.Met} old (seen_now old now) read_tree (Err Memory) (met_of old.state objects)
    read_starved now stored read got =
        no_memory {T = declared_met.Met} old (seen_now old now) read_tree (gives (records_in stored)) (met_of old.state objects) (comes_data now stored read got)

    -- the fault of the device is typed
    read_fault : (now : Seen) (new : Spot) (vdev : ℕ) (r : Result declared.Course End) (x : Result declared_met.Met End) → HasRead old.world now → Rose old.world.faults now.faults
        → (place_of name d.volume ≡ None → ⊥)
        → IfSome (item_at old.state.table.seats found) (λ s. option_map (λ (unit : UnitInfo). unit.vdev) (slice_get old.state.table.units s.letter.unit) ≡ Some vdev)
        → Does now new.world (saying (typed_line (message_text (M105 (device_text vdev))))) r said → IfOk r (λ c. c ≡ course.Went (pos 100)) → new.state ≡ old.state
        → x ≡ met_with r → Acts old new read_tree x (met_of new.state objects)
    read_fault now new vdev r x read rose some device does went same is =
        let refused : List Slot → Act Course = refusal_tree old.state (M105 (device_text vdev)) (pos 100) in
        acts_after old (seen_now old now) new read_tree (λ units. refusing objects (refused units)) x (met_of new.state objects) (comes_fault now vdev read rose some device)
        (rw is (refuses (seen_now old now) new objects refused r new.state (joins.refused (seen_now old now) new (M105 (device_text vdev)) (pos 100) r does went same)))

    -- that the records are altered, which never comes
    read_altered : (now : Seen) (new : Spot) (r : Result declared.Course End) (x : Result declared_met.Met End) → HasRead old.world now
        → OfImage old.world.told d.volume.unit (λ image. GetsIn image d name (Err failed.Altered)) → IsLater now new.world
        → IfErr r (λ e. e ≡ Edge → Rose now.edges new.world.edges) → new.state ≡ old.state → x ≡ met_with r → Acts old new read_tree x (met_of new.state objects)
    read_altered now new r x read got more cause same is =
        let later = later_then old.world now new.world (later_read old.world now read) more in
        rw is
        (acts_never old new read_tree (met_with r) (met_of new.state objects) (never_altered got) later (usable_later old new later (ap (λ (s : State). s.table) same)) (caused r cause))
      where
        caused : (r : Result declared.Course End) → IfErr r (λ e. e ≡ Edge → Rose now.edges new.world.edges) → IfErr (met_with r) (λ e. e ≡ Edge → Rose old.world.edges new.world.edges)
        caused (Ok (course.Went code)) h = tt
        caused (Ok course.OutOfTurns) h = tt
        caused (Err e) h = λ edge. (let edges = read.edges in subst (λ (n : ℕ). Rose n new.world.edges) edges (h edge))

    -- either of them: its message was typed
    pub read_unread : (now : Seen) (new : Spot) (vdev : ℕ) (why : DiskFault) (r : Result declared.Course End) (x : Result declared_met.Met End) → (why ≡ failed.Device) ⊎ (why ≡ failed.Altered)
        → HasRead old.world now → (why ≡ failed.Device → Rose old.world.faults now.faults) → OfImage old.world.told d.volume.unit (λ image. GetsIn image d name (Err why))
        → (place_of name d.volume ≡ None → ⊥)
        → IfSome (item_at old.state.table.seats found) (λ s. option_map (λ (unit : UnitInfo). unit.vdev) (slice_get old.state.table.units s.letter.unit) ≡ Some vdev)
        → Does now new.world (saying (typed_line (message_text (unread_message why vdev)))) r said → IfOk r (λ c. c ≡ course.Went (pos (unread_code why))) → new.state ≡ old.state
        → x ≡ met_with r → Acts old new read_tree x (met_of new.state objects)
    read_unread now new vdev why r x (inl device) read rose got some at does went same is =
        read_fault now new vdev r x read (rose device) some at (rw device at does) (rw device at went) same is
    read_unread now new vdev why r x (inr altered) read rose got some at does went same is =
        read_altered now new r x read (rw altered at got) (later_does now new.world (saying (typed_line (message_text (unread_message why vdev)))) r said does) does.cause same is

-- ---- the file that is looked for

module _ (old new : Spot) (objects : List Object) (name : Name) (n : ℕ) (looked : Result Found SearchFault)
    (finds : (s : Machine) → Shows old.state.table s → looked ≡ look_up (shelves_in s) (Letter n) name) where
  abbrev pub gets : List Slot → Act Met
  gets units = getting (desk_of old.state objects units) name n

  abbrev on_letter : List Slot → Found → Result UnitFile SearchFault
  on_letter units x = file_on (machine_of old.state units) name (letter_at (machine_of old.state units) x.letter)

  got_so : (r : Result Found SearchFault) → looked ≡ r → (units : List Slot) → holds old units
      → gets units ≡ read_found (desk_of old.state objects units) name n (r >>= on_letter units)
  got_so r is units h =
      ap (λ (x : Result Found SearchFault). read_found (desk_of old.state objects units) name n (x >>= on_letter units))
      (found_held old (λ m. look_up (shelves_in m) (Letter n) name) looked finds units h ∙ is)

  -- it is found
  pub gets_found : (x : Found) (r : Result declared_met.Met End) (d : Meaning declared_met.Met Met) → looked ≡ Ok x
      → Acts old new (read_tree old objects name n x.letter) r d → Acts old new gets r d
  gets_found x r d is a = acts_same old new gets (read_tree old objects name n x.letter) r d (got_so (Ok x) is) a

  -- or it isn't
  pub gets_unfound : (fault : SearchFault) (r : Result declared_met.Met End) (d : Meaning declared_met.Met Met) → looked ≡ Err fault
      → Acts old new (λ units. unfound (desk_of old.state objects units) name n fault) r d → Acts old new gets r d
  gets_unfound fault r d is a =
      acts_same old new gets (λ units. unfound (desk_of old.state objects units) name n fault) r d (got_so (Err fault) is) a

-- A file that is found and read whole.
use Rattle.std.proofs.Common.{◌≡◌, ◌∙◌, inl, inr, ⊎_elim, ℕ, ℤ, List, Option, Some, None, Result, Ok, Err, true, false, arith, pos, length, slice_get, refl, sym, ap, subst}
use Rattle.std.specs.Prelude.{◌⊎◌, ◌&&◌, Bool, if◌then◌else◌, IfErr, IfOk, IfSome, nat_lt}
use Rattle.std.specs.Option.{option_map}
use Rattle.cms_journal.specs.Causes.{Rose}
use Rattle.cms_journal.specs.Journal.{Journal}
use Rattle.cms_journal.proofs.Counts.{counted_none, counted_one}
use Rattle.cms_names.specs.declared.name.Name.{Name}
use Rattle.cms_text.specs.Numbers.{decimal_of}
use Rattle.cms_model.specs.Changes.{file_named}
use Rattle.cms_model.specs.LawsUpdates as updates
use Rattle.cms_model.specs.Minidisks.{File, Minidisk}
use Rattle.cms_model.specs.Trees.{Image}
use Rattle.cms_model.specs.declared.file.FileData.{FileData}
use Rattle.cms_model.specs.Acts.{Act, Done, saying, typed_line}
use Rattle.cms_model.specs.Slots.{Slot}
use Rattle.cms_model.specs.Steps.{Good, Outcome, ReadFault}
use Rattle.cms_line.specs.Messages.{message_text}
use Rattle.cms_line.specs.declared.message.Message.{Message}
use Rattle.cms_line.specs.declared.message.Message.TheVariants.{M105, M120, M123}
use Rattle.cms_line.specs.declared.token.Token.{Token}
use Rattle.cms_records.specs.Stored.{records_in}
use Rattle.cms_records.proofs.StoredRecords.{records_are}
use Rattle.cms_edf.specs.OpeningSteps.{OfImage}
use Rattle.cms_edf.specs.declared.held.FileInfo.{FileInfo}
use Rattle.cms_disk.specs.Disks.{Accessed, IsReadable, StandsIn, place_of}
use Rattle.cms_disk.specs.Gets.{GetsIn, IsDataOf}
use Rattle.cms_disk.specs.declared.fault.DiskFault.{DiskFault}
use Rattle.cms_disk.specs.declared.fault.DiskFault.TheVariants as failed
use Rattle.cms_disk.specs.declared.unit.UnitInfo.{UnitInfo}
use Rattle.cms_world.specs.Seen.{Seen}
use Rattle.cms_search.specs.Calls.{Acts, Comes, Does, IsLater, IsUsable, Spot, at, course_of, holds, machine_of, refusal_tree, said, spot_at}
use Rattle.cms_search.specs.ChangeTold.{limited}
use Rattle.cms_search.specs.DeviceSteps.{HasRead, handed, silently}
use Rattle.cms_search.specs.Machine.{Course, Letter, Machine, letter_at, minidisk_in}
use Rattle.cms_search.specs.Refusals.{device_fault, unread_code, unread_message}
use Rattle.cms_search.specs.Searches.{item_at, look_up, shelves_in}
use Rattle.cms_search.specs.Shows.{Shows}
use Rattle.cms_search.specs.Tables.{Seated}
use Rattle.cms_search.specs.Texts.{device_text}
use Rattle.cms_search.specs.Units.{vdev_of}
use Rattle.cms_search.specs.declared.fault.SearchFault.{SearchFault}
use Rattle.cms_search.specs.declared.fault.SearchFault.TheVariants as why
use Rattle.cms_search.specs.declared.search.Found.{Found}
use Rattle.cms_search.specs.declared.state.Course as declared
use Rattle.cms_search.specs.declared.state.Course.TheVariants as course
use Rattle.cms_search.specs.declared.state.End.{End}
use Rattle.cms_search.specs.declared.state.End.TheVariants.{Edge, Memory}
use Rattle.cms_search.specs.declared.state.State.{State}
use Rattle.cms_search.proofs.Acts as joins
use Rattle.cms_search.proofs.Acts.{acts_after, acts_done, acts_same, acts_stop, comes_in, comes_none, later_does, later_then, no_memory, usable_later}
use Rattle.cms_search.proofs.HandedRecords.{acts_never, later_read, named_so}
use Rattle.cms_search.proofs.LetterDisks.{holds_shows, letter_is, meets_at, readable_seat}
use Rattle.cms_search.proofs.Released.{vdev_is}
use Rattle.cms_search.proofs.Stepped.{has_device}
use Rattle.cms_files.specs.Files.{UnitFile, file_found, file_in, file_on, search_code, search_message, search_refused, unit_file}
use Rattle.cms_files.specs.Told.{info_named}
use Rattle.cms_files.specs.Unfound.{RefusesSearch}
use Rattle.cms_files.specs.declared.identifier.FileInput.{FileInput}
use Rattle.cms_files.proofs.FileTold.{IsTold, file_told}
use Rattle.cms_files.proofs.Found.{found_held, memory_or_other}
use Rattle.cms_files.proofs.OpenedFiles.{seat_with}
use Rattle.cms_files.proofs.WholeReads.{ReadsAll, comes_read, seen_now, there_is}
use Rattle.cms_cards.specs.Dumps.{file_with}
use Rattle.cms_cards.specs.Calls.{fetched_of, with_refused}
use Rattle.cms_cards.specs.Fetch.{Fetched, HasFile, IsRefused, fetch_on, fetching, not_taken, on_search, read_fitting, read_there, read_whole, refused, too_long, too_many}
use Rattle.cms_cards.specs.declared.fetch.Fetched as came
use Rattle.cms_cards.specs.declared.fetch.Fetched.TheVariants as came'

-- what a unit holds now
abbrev current : Journal → ℕ → Image
current j u = updates.now j u

-- ---- refusals

-- a part of a call that refuses it
pub refuses : (old new : Spot) (name : Name) (t : List Slot → Act Course) (r : Result declared.Course End) (s : State) → Acts old new t r (course_of s)
    → Acts old new (λ units. refused (t units)) (with_refused r) (fetched_of s name)
refuses old new name t (Ok x) s a =
    acts_done old new (λ units. refused (t units)) (came'.Refused x) (fetched_of s name) (comes_in old new t (λ course. Done (IsRefused course)) x (course_of s) a)
refuses old new name t (Err e) s a = acts_stop old new t (λ course. Done (IsRefused course)) e (course_of s) (fetched_of s name) a

-- a call that is refused so
pub refused_so : (old new : Spot) (name : Name) (t : List Slot → Act Fetched) (message : Message) (code : ℤ) (r : Result declared.Course End) (x : Result came.Fetched End)
    → Does old.world new.world (saying (typed_line (message_text message))) r said → IfOk r (λ c. c ≡ course.Went code) → new.state ≡ old.state → x ≡ with_refused r
    → ((units : List Slot) → holds old units → t units ≡ refused (refusal_tree old.state message code units)) → Acts old new t x (fetched_of new.state name)
refused_so old new name t message code r x does went same is tree =
    rw is
    (acts_same old new t (λ units. refused (refusal_tree old.state message code units)) (with_refused r) (fetched_of new.state name) tree
    (refuses old new name (refusal_tree old.state message code) r new.state (joins.refused old new message code r does went same)))

-- a search that isn't answered refuses it
pub search_off : (old new : Spot) (name : Name) (t : List Slot → Act Fetched) (words : List Token) (place : ℕ) (fault : SearchFault) (r : Result declared.Course End)
    (x : Result came.Fetched End) → ((fault ≡ why.Memory → ⊥) → (units : List Slot) → holds old units → t units ≡ refused (search_refused (machine_of old.state units) words place fault))
    → RefusesSearch old.world new.world words place fault r → new.state ≡ old.state → x ≡ with_refused r → Acts old new t x (fetched_of new.state name)
search_off old new name t words place fault r x is refuses' same so = ⊎_elim none other (memory_or_other fault)
  where
    none : fault ≡ why.Memory → Acts old new t x (fetched_of new.state name)
    none memory =
        let starved = refuses'.starved memory in
        let failed = starved.0 in
        rw (so, failed)
        (subst (λ (w : Seen). Acts {T = came.Fetched} old (spot_at w new.state) t (Err Memory) (fetched_of new.state name)) (sym starved.1)
        (subst (λ (s : State). Acts {T = came.Fetched} old (spot_at old.world s) t (Err Memory) (fetched_of s name)) (sym same)
        (no_memory old old t t (fetched_of old.state name) (comes_none old t))))

    other : (fault ≡ why.Memory → ⊥) → Acts old new t x (fetched_of new.state name)
    other memory =
        refused_so old new name t (search_message words place fault) (pos (search_code fault)) r x (refuses'.does memory) (refuses'.went memory) same so (is memory)

-- the blocks of a disk may be read
pub may_read : (old : Spot) (n : ℕ) (d : Accessed) → Some d ≡ option_map (λ (s : Seated). s.disk) (item_at old.state.table.seats n) → (vdev : ℕ)
    → IfSome (item_at old.state.table.seats n) (λ s. option_map (λ (unit : UnitInfo). unit.vdev) (slice_get old.state.table.units s.letter.unit) ≡ Some vdev)
    → IsUsable old → (j : _) → old.world.told ≡ Some j → IsReadable j d
may_read old n d is vdev device usable j told =
    let seat = seat_with (item_at old.state.table.seats n) d is in
    let unit = has_device (slice_get old.state.table.units seat.0.letter.unit) vdev (rw seat.1 at device) in
    subst (λ (a : Accessed). IsReadable j a) seat.2 (readable_seat old.world.told old.state.table n seat.0 unit.0 seat.1 unit.1 usable j told)

-- the data are those of a file that a minidisk has under a name
data_is : (name : Name) (files : List File) (x : File) (stored : FileData) → file_named name files ≡ Some x → IsDataOf x stored → x ≡ file_with name stored (records_in stored)
data_is name files x stored named is =
    let same : x.records ≡ records_in stored = sym (records_are stored x.records is.stands) in
    let called : x.name ≡ name = named_so name files x named in
    λ i. record {
      name = called i;
      number = (sym is.number_is) i;
      format = (sym is.format_is) i;
      length = (sym is.length_is) i;
      stamp = (sym is.stamp_is) i;
      records = same i;
    }

module _ (old : Spot) (name : Name) (n : ℕ) where
  abbrev pub tree : List Slot → Act Fetched
  tree units = read_there (machine_of old.state units) n (file_on (machine_of old.state units) name (letter_at (machine_of old.state units) n))

  -- ---- a file that is there

  module _ (d : Accessed) (is : Some d ≡ option_map (λ (s : Seated). s.disk) (item_at old.state.table.seats n)) where
    seat : (s : Seated) × (item_at old.state.table.seats n ≡ Some s) × (s.disk ≡ d)
    seat = seat_with (item_at old.state.table.seats n) d is

    -- the file that is handed over
    abbrev gives_file : File → List Slot → Act Fetched
    gives_file x units = Done (HasFile (machine_of old.state units) n x)

    abbrev gives : FileData → List Slot → Act Fetched
    gives stored units = gives_file (file_with name stored (records_in stored)) units

    abbrev fails_on : List Slot → Act Fetched
    fails_on units = refused (device_fault (machine_of old.state units) (vdev_of (machine_of old.state units) seat.0.letter.unit))

    -- what its minidisk has under the name
    abbrev Names : List Slot → (File → Type 0) → Type 0
    Names units P = (image : Image) (m : Minidisk) → StandsIn image d m → (x : File) × (file_named name m.files ≡ Some x) × P x

    reads_so : (units : List Slot) (h : holds old units) (o : Outcome) (next : Act Fetched) (x : File) → file_named name (meets_at old units n seat.0 seat.1 h).met.minidisk.files ≡ Some x
        → handed silently x (length x.records) (gives_file x units) (fails_on units) o ≡ next → ReadsAll units (tree units) o next
    reads_so units h o next x named goes =
        let k = meets_at old units n seat.0 seat.1 h in
        let letter = letter_is old.state.table n seat.0 seat.1 in
        let slot = k.met.slot in
        record {
          unit = seat.0.letter.unit;
          file = x;
          then' = handed silently x (length x.records) (gives_file x units) (fails_on units);
          offers = record {
            minidisk = k.met.minidisk;
            settled = slot;
            file = subst (λ (n : Name). file_named n k.met.minidisk.files ≡ Some x) (sym (named_so name k.met.minidisk.files x named)) named;
            enough = omega arith;
          };
          tree = rw (letter, slot, named) refl;
          is = goes;
        }

    -- its data were read
    pub comes_data : (now : Seen) (stored : FileData) → HasRead old.world now → OfImage old.world.told d.volume.unit (λ image. GetsIn image d name (Ok stored))
        → Comes old (seen_now old now) tree (gives stored)
    comes_data now stored read got =
        comes_read old now tree (gives stored) Good read (λ n. tt) (counted_none old.world.faults now.faults read.faults)
        (λ units h.
        let k = meets_at old units n seat.0 seat.1 h in
        let stands = subst (λ (a : Accessed). StandsIn (current k.journal a.volume.unit) a k.met.minidisk) seat.2 k.met.is.stands in
        let x = got k.journal k.told k.met.minidisk stands in
        let file : x.0 ≡ file_with name stored (records_in stored) = data_is name k.met.minidisk.files x.0 stored x.1 x.2 in
        reads_so units h Good (gives stored units) x.0 x.1 (ap (λ (y : File). gives_file y units) file))

    -- the device failed
    pub comes_fault : (now : Seen) (vdev : ℕ) → HasRead old.world now → Rose old.world.faults now.faults → (place_of name d.volume ≡ None → ⊥)
        → IfSome (item_at old.state.table.seats n) (λ s. option_map (λ (unit : UnitInfo). unit.vdev) (slice_get old.state.table.units s.letter.unit) ≡ Some vdev)
        → Comes old (seen_now old now) tree (λ units. refused (refusal_tree old.state (M105 (device_text vdev)) (pos 100) units))
    comes_fault now vdev read rose some device =
        comes_read old now tree (λ units. refused (refusal_tree old.state (M105 (device_text vdev)) (pos 100) units)) (ReadFault 0) read (λ n. omega arith)
        (counted_one old.world.faults now.faults read.faults rose)
        (λ units h.
        let k = meets_at old units n seat.0 seat.1 h in
        let stands = subst (λ (a : Accessed). StandsIn (current k.journal a.volume.unit) a k.met.minidisk) seat.2 k.met.is.stands in
        let x = there_is (current k.journal d.volume.unit) d k.met.minidisk name (place_of name d.volume) stands refl some in
        reads_so units h (ReadFault 0) _ x.0 x.1
        (ap (λ (v : ℕ). refused (device_fault (machine_of old.state units) v)) (vdev_is old.state units seat.0.letter.unit vdev (told device))))
      where
        told : IfSome (item_at old.state.table.seats n) (λ s. option_map (λ (unit : UnitInfo). unit.vdev) (slice_get old.state.table.units s.letter.unit) ≡ Some vdev)
            → option_map (λ (unit : UnitInfo). unit.vdev) (slice_get old.state.table.units seat.0.letter.unit) ≡ Some vdev
        told h = rw seat.1 at h

    -- its bytes aren't records any more: never where the journal is told
    pub never_altered : OfImage old.world.told d.volume.unit (λ image. GetsIn image d name (Err failed.Altered)) → (units : List Slot) → holds old units → ⊥
    never_altered got units h =
        let k = meets_at old units n seat.0 seat.1 h in
        let stands = subst (λ (a : Accessed). StandsIn (current k.journal a.volume.unit) a k.met.minidisk) seat.2 k.met.is.stands in
        got k.journal k.told k.met.minidisk stands

    -- ---- how the read ends

    -- its data are there
    pub read_data : (now : Seen) (stored : FileData) → HasRead old.world now → OfImage old.world.told d.volume.unit (λ image. GetsIn image d name (Ok stored))
        → Acts old (seen_now old now) tree (Ok (came'.File n stored)) (fetched_of old.state name)
    read_data now stored read got = acts_done old (seen_now old now) tree (came'.File n stored) (fetched_of old.state name) (comes_data now stored read got)

    -- the fault of the device is typed
    read_fault : (now : Seen) (new : Spot) (vdev : ℕ) (r : Result declared.Course End) (x : Result came.Fetched End) → HasRead old.world now → Rose old.world.faults now.faults
        → (place_of name d.volume ≡ None → ⊥)
        → IfSome (item_at old.state.table.seats n) (λ s. option_map (λ (unit : UnitInfo). unit.vdev) (slice_get old.state.table.units s.letter.unit) ≡ Some vdev)
        → Does now new.world (saying (typed_line (message_text (M105 (device_text vdev))))) r said → IfOk r (λ c. c ≡ course.Went (pos 100)) → new.state ≡ old.state
        → x ≡ with_refused r → Acts old new tree x (fetched_of new.state name)
    read_fault now new vdev r x read rose some device does went same is =
        let failed : List Slot → Act Course = refusal_tree old.state (M105 (device_text vdev)) (pos 100) in
        acts_after old (seen_now old now) new tree (λ units. refused (failed units)) x (fetched_of new.state name) (comes_fault now vdev read rose some device)
        (rw is (refuses (seen_now old now) new name failed r new.state (joins.refused (seen_now old now) new (M105 (device_text vdev)) (pos 100) r does went same)))

    -- that the records are altered, which never comes
    read_altered : (now : Seen) (new : Spot) (r : Result declared.Course End) (x : Result came.Fetched End) → HasRead old.world now
        → OfImage old.world.told d.volume.unit (λ image. GetsIn image d name (Err failed.Altered)) → IsLater now new.world
        → IfErr r (λ e. e ≡ Edge → Rose now.edges new.world.edges) → new.state ≡ old.state → x ≡ with_refused r → Acts old new tree x (fetched_of new.state name)
    read_altered now new r x read got more cause same is =
        let later = later_then old.world now new.world (later_read old.world now read) more in
        rw is
        (acts_never old new tree (with_refused r) (fetched_of new.state name) (never_altered got) later (usable_later old new later (ap (λ (s : State). s.table) same)) (caused r cause))
      where
        caused : (r : Result declared.Course End) → IfErr r (λ e. e ≡ Edge → Rose now.edges new.world.edges) → IfErr (with_refused r) (λ e. e ≡ Edge → Rose old.world.edges new.world.edges)
        caused (Ok c) h = tt
        caused (Err e) h = λ edge. (let edges = read.edges in subst (λ (n : ℕ). Rose n new.world.edges) edges (h edge))

    -- either of them: its message was typed
    pub read_unread : (now : Seen) (new : Spot) (vdev : ℕ) (why : DiskFault) (r : Result declared.Course End) (x : Result came.Fetched End) → (why ≡ failed.Device) ⊎ (why ≡ failed.Altered)
        → HasRead old.world now → (why ≡ failed.Device → Rose old.world.faults now.faults) → OfImage old.world.told d.volume.unit (λ image. GetsIn image d name (Err why))
        → (place_of name d.volume ≡ None → ⊥)
        → IfSome (item_at old.state.table.seats n) (λ s. option_map (λ (unit : UnitInfo). unit.vdev) (slice_get old.state.table.units s.letter.unit) ≡ Some vdev)
        → Does now new.world (saying (typed_line (message_text (unread_message why vdev)))) r said → IfOk r (λ c. c ≡ course.Went (pos (unread_code why))) → new.state ≡ old.state
        → x ≡ with_refused r → Acts old new tree x (fetched_of new.state name)
    read_unread now new vdev why r x (inl device) read rose got some at does went same is =
        read_fault now new vdev r x read (rose device) some at (rw device at does) (rw device at went) same is
    read_unread now new vdev why r x (inr altered) read rose got some at does went same is =
        read_altered now new r x read (rw altered at got) (later_does now new.world (saying (typed_line (message_text (unread_message why vdev)))) r said does) does.cause same is

-- ---- before it is read

in_files : (u : ℕ) (f : Option File) → (unit_file u f ≡ Err why.NotFound) ⊎ ((x : UnitFile) × (unit_file u f ≡ Ok x))
in_files u None = inl refl
in_files u (Some f) = inr (record { unit = u; file = f }, refl)

in_disk : (u : ℕ) (name : Name) (m : Option Minidisk) → (file_in u name m ≡ Err why.NotFound) ⊎ ((x : UnitFile) × (file_in u name m ≡ Ok x))
in_disk u name None = inl refl
in_disk u name (Some m) = in_files u (file_named name m.files)

on_letter : (s : Machine) (name : Name) (l : Option Letter) → (file_on s name l ≡ Err why.NotFound) ⊎ ((x : UnitFile) × (file_on s name l ≡ Ok x))
on_letter s name None = inl refl
on_letter s name (Some disk) = in_disk disk.unit name (minidisk_in (slice_get s.units disk.unit))

module _ (old new : Spot) (words : List Token) (place : ℕ) (name : Name) (n : ℕ) (narrow full : Bool) where
  abbrev pub fetches : List Slot → Act Fetched
  fetches units = fetch_on (machine_of old.state units) words place narrow full name n

  abbrev there : List Slot → Result UnitFile SearchFault
  there units = file_on (machine_of old.state units) name (letter_at (machine_of old.state units) n)

  told_so : (units : List Slot) → holds old units → IsTold (there units) (info_named old.state.table n name)
  told_so units h = file_told old.state.table (machine_of old.state units) n name (holds_shows old units h)

  present_so : (info : FileInfo) → info_named old.state.table n name ≡ Some info → (units : List Slot) → holds old units
      → (x : UnitFile) × (there units ≡ Ok x) × (info.length ≡ x.file.length)
  present_so info some units h = ⊎_elim
      (λ (missing : there units ≡ Err why.NotFound).
      let told : IsTold (there units) (Some info) = subst (λ (i : Option FileInfo). IsTold (there units) i) some (told_so units h) in
      absurd (subst (λ (y : Result UnitFile SearchFault). IsTold y (Some info)) missing told))
      (λ (found : (x : UnitFile) × (there units ≡ Ok x)).
      let told : IsTold (there units) (Some info) = subst (λ (i : Option FileInfo). IsTold (there units) i) some (told_so units h) in
      let is : IsTold (Ok found.0) (Some info) = subst (λ (y : Result UnitFile SearchFault). IsTold y (Some info)) found.1 told in
      (found.0, found.1, is.size))
      (on_letter (machine_of old.state units) name (letter_at (machine_of old.state units) n))

  -- what its length and the reader's room decide
  abbrev fitting : Bool → Bool → UnitFile → List Slot → Act Fetched
  fitting long none x units =
      if long then refused (too_long (machine_of old.state units))
      else (if none then refused (too_many (machine_of old.state units)) else read_whole (machine_of old.state units) n x)

  fits_so : (info : FileInfo) (long : Bool) → info_named old.state.table n name ≡ Some info → long ≡ (narrow && nat_lt 80 info.length) → (units : List Slot) → holds old units
      → (x : UnitFile) × (there units ≡ Ok x) × (fetches units ≡ fitting long full x units)
  fits_so info long some is units h =
      let x = present_so info some units h in
      let size : (narrow && nat_lt 80 x.0.file.length) ≡ long = ap (λ (k : ℕ). narrow && nat_lt 80 k) (sym x.2) ∙ sym is in (
        x.0,
        x.1,
        ap (on_search (machine_of old.state units) words place (read_fitting (machine_of old.state units) narrow full n)) x.1
            ∙ ap (λ (b : Bool). fitting b full x.0 units) size,
      )

  -- its records are longer than a card
  pub long_on : (info : FileInfo) (long : Bool) (r : Result declared.Course End) (x : Result came.Fetched End) → info_named old.state.table n name ≡ Some info
      → long ≡ (narrow && nat_lt 80 info.length) → long ≡ true → Does old.world new.world (saying (typed_line (message_text M123))) r said
      → IfOk r (λ c. c ≡ course.Went (pos not_taken)) → new.state ≡ old.state → x ≡ with_refused r → Acts old new fetches x (fetched_of new.state name)
  long_on info long r x some is wide does went same so =
      refused_so old new name fetches M123 (pos not_taken) r x does went same so
      (λ units h. let y = fits_so info long some is units h in y.2 ∙ ap (λ (b : Bool). fitting b full y.0 units) wide)

  -- the reader has no room
  pub full_on : (info : FileInfo) (long : Bool) (r : Result declared.Course End) (x : Result came.Fetched End) → info_named old.state.table n name ≡ Some info
      → long ≡ (narrow && nat_lt 80 info.length) → long ≡ false → full ≡ true → Does old.world new.world (saying (typed_line (message_text (M120 (decimal_of 6))))) r said
      → IfOk r (λ c. c ≡ course.Went (pos limited)) → new.state ≡ old.state → x ≡ with_refused r → Acts old new fetches x (fetched_of new.state name)
  full_on info long r x some is fits none does went same so =
      refused_so old new name fetches (M120 (decimal_of 6)) (pos limited) r x does went same so
      (λ units h. let y = fits_so info long some is units h in
      y.2 ∙ (ap (λ (b : Bool). fitting b full y.0 units) fits ∙ ap (λ (b : Bool). fitting false b y.0 units) none))

  -- it is read
  pub read_on : (info : FileInfo) (long : Bool) (x : Result came.Fetched End) → info_named old.state.table n name ≡ Some info
      → long ≡ (narrow && nat_lt 80 info.length) → long ≡ false → full ≡ false → Acts old new (tree old name n) x (fetched_of new.state name)
      → Acts old new fetches x (fetched_of new.state name)
  read_on info long x some is fits room a =
      acts_same old new fetches (tree old name n) x (fetched_of new.state name)
      (λ units h. let y = fits_so info long some is units h in
      y.2 ∙ (ap (λ (b : Bool). fitting b full y.0 units) fits ∙ (ap (λ (b : Bool). fitting false b y.0 units) room
      ∙ ap (read_there (machine_of old.state units) n) (sym y.1)))) a

-- ---- the search

module _ (old new : Spot) (words : List Token) (place : ℕ) (narrow full : Bool) (input : FileInput) (found : Result Found SearchFault)
    (finds : (s : Machine) → Shows old.state.table s → found ≡ look_up (shelves_in s) input.mode input.name) where
  abbrev searches : List Slot → Act Fetched
  searches units = fetching (machine_of old.state units) words place narrow full input

  abbrev then_on : List Slot → Found → Act Fetched
  then_on units f = fetch_on (machine_of old.state units) words place narrow full input.name f.letter

  finds_so : (y : Result Found SearchFault) → found ≡ y → (units : List Slot) → holds old units
      → searches units ≡ on_search (machine_of old.state units) words place (then_on units) y
  finds_so y is units h =
      ap (on_search (machine_of old.state units) words place (then_on units)) (found_held old (λ s. file_found s input) found finds units h ∙ is)

  pub search_found : (f : Found) (x : Result came.Fetched End) → found ≡ Ok f
      → Acts old new (λ units. then_on units f) x (fetched_of new.state input.name) → Acts old new searches x (fetched_of new.state input.name)
  search_found f x is a =
      acts_same old new searches (λ units. then_on units f) x (fetched_of new.state input.name) (λ units h. finds_so (Ok f) is units h) a

  pub search_unfound : (fault : SearchFault) (r : Result declared.Course End) (x : Result came.Fetched End) → found ≡ Err fault
      → RefusesSearch old.world new.world words place fault r → new.state ≡ old.state → x ≡ with_refused r → Acts old new searches x (fetched_of new.state input.name)
  search_unfound fault r x is refuses' same so =
      search_off old new input.name searches words place fault r x (λ other units h. finds_so (Err fault) is units h) refuses' same so

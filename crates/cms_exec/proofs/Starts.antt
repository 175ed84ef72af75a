-- A procedure that is called: it is refused, or its file is read and it begins.
use Rattle.std.proofs.Common.{◌≡◌, ◌+◌, ◌<◌, ◌≤◌, ◌∙◌, inl, inr, ⊎_elim, ℕ, ℤ, List, Option, Some, None, Result, Ok, Err, true, false, arith, codes, pos, length, slice_get, refl, sym, ap, subst}
use Rattle.std.specs.Prelude.{◌⊎◌, IfErr, IfOk, IfSome, nat_le}
use Rattle.std.specs.Option.{option_map}
use Rattle.std.proofs.lemmas.Bool.{le-leb, lt-leb}
use Rattle.cms_journal.specs.Causes.{Rose}
use Rattle.cms_journal.specs.Journal.{Journal}
use Rattle.cms_journal.proofs.Counts.{counted_none, counted_one}
use Rattle.cms_names.specs.declared.name.Name.{Name}
use Rattle.cms_text.specs.Numbers.{decimal_of}
use Rattle.cms_text.specs.Texts.{Text, coded}
use Rattle.cms_model.specs.Changes.{file_named}
use Rattle.cms_model.specs.LawsUpdates as updates
use Rattle.cms_model.specs.Minidisks.{File, Minidisk}
use Rattle.cms_model.specs.Records.{IsValid, StandsFor}
use Rattle.cms_model.specs.Trees.{Image}
use Rattle.cms_model.specs.declared.file.FileData.{FileData}
use Rattle.cms_model.specs.Acts.{Act, Done, saying, typed_line}
use Rattle.cms_model.specs.Slots.{Slot}
use Rattle.cms_model.specs.Steps.{Good, Outcome, ReadFault}
use Rattle.cms_line.specs.Messages.{message_text}
use Rattle.cms_line.specs.declared.message.Message.{Message}
use Rattle.cms_line.specs.declared.message.Message.TheVariants.{M002, M086, M105, M120}
use Rattle.cms_line.specs.declared.token.Token.{Token}
use Rattle.cms_operands.specs.Refusals.{code_of, message_of}
use Rattle.cms_operands.specs.declared.refusal.Refusal.{Refusal}
use Rattle.cms_records.specs.Stored.{records_in}
use Rattle.cms_records.proofs.StoredRecords.{records_are}
use Rattle.cms_edf.specs.OpeningSteps.{OfImage}
use Rattle.cms_disk.specs.Disks.{Accessed, IsReadable, StandsIn, place_of}
use Rattle.cms_disk.specs.Gets.{GetsIn}
use Rattle.cms_disk.specs.declared.fault.DiskFault.{DiskFault}
use Rattle.cms_disk.specs.declared.fault.DiskFault.TheVariants as failed
use Rattle.cms_disk.specs.declared.unit.UnitInfo.{UnitInfo}
use Rattle.cms_world.specs.Seen.{Seen}
use Rattle.cms_search.specs.Calls.{Acts, Comes, Does, IsLater, IsUsable, Spot, at, course_of, holds, machine_of, refusal_tree, said}
use Rattle.cms_search.specs.ChangeTold.{limited}
use Rattle.cms_search.specs.DeviceSteps.{HasRead, handed, silently}
use Rattle.cms_search.specs.Machine.{Course, Machine}
use Rattle.cms_search.specs.Refusals.{device_fault, unread_code, unread_message}
use Rattle.cms_search.specs.Searches.{item_at}
use Rattle.cms_search.specs.Shows.{Shows}
use Rattle.cms_search.specs.Tables.{Seated}
use Rattle.cms_search.specs.Texts.{device_text}
use Rattle.cms_search.specs.Units.{vdev_of}
use Rattle.cms_search.specs.declared.state.Course as declared
use Rattle.cms_search.specs.declared.state.Course.TheVariants as course
use Rattle.cms_search.specs.declared.state.End.{End}
use Rattle.cms_search.specs.declared.state.End.TheVariants.{Edge}
use Rattle.cms_search.specs.declared.state.State.{State}
use Rattle.cms_search.proofs.Acts as joins
use Rattle.cms_search.proofs.Acts.{acts_after, acts_done, acts_same, acts_stop, comes_in, later_does, later_then, usable_later}
use Rattle.cms_search.proofs.HandedRecords.{acts_never, later_read, named_so}
use Rattle.cms_search.proofs.LetterDisks.{holds_shows, letter_is, meets_at, readable_seat}
use Rattle.cms_search.proofs.Released.{vdev_is}
use Rattle.cms_search.proofs.StateCalls.{acts_stayed}
use Rattle.cms_search.proofs.Stepped.{has_device}
use Rattle.cms_files.specs.Files.{no_file_code}
use Rattle.cms_files.specs.Identifiers.{exec_kind}
use Rattle.cms_files.proofs.Found.{found_held}
use Rattle.cms_files.proofs.OpenedFiles.{none_on, none_with, seat_with}
use Rattle.cms_files.proofs.WholeReads.{ReadsAll, comes_read, seen_now, there_is}
use Rattle.exec2_parse.specs.Procedures.{procedure_of}
use Rattle.exec2_parse.specs.declared.procedure.ProcFault.{ProcFault}
use Rattle.exec2_parse.specs.declared.procedure.ProcFault.TheVariants as refuses
use Rattle.exec2_run.specs.Steps.{begun}
use Rattle.exec2_run.specs.State.{Exec}
use Rattle.exec2_run.specs.declared.exec.FileName.{FileName}
use Rattle.cms_exec.specs.Exec.{IsRefused, Starting, beginning, exec_command, exec_operand, exec_operands, line_from, no_procedure, not_run_code, on_procedure, read_there, reason_of, refused, start_named, started_of, starting}
use Rattle.cms_exec.specs.Refused.{with_refused}
use Rattle.cms_exec.specs.Searches.{procedure_named}
use Rattle.cms_exec.specs.declared.start.Started as came
use Rattle.cms_exec.specs.declared.start.Started.TheVariants.{Begun}

-- what a unit holds now
abbrev current : Journal → ℕ → Image
current j u = updates.now j u

-- ---- refusals

-- a part of a call that refuses it
pub starts_refused : (old new : Spot) (t : List Slot → Act Course) (r : Result declared.Course End) (s : State) → Acts old new t r (course_of s)
    → Acts old new (λ units. refused (t units)) (with_refused r) (started_of s)
starts_refused old new t (Ok x) s a =
    acts_done old new (λ units. refused (t units)) _ (started_of s) (comes_in old new t (λ course. Done (IsRefused course)) x (course_of s) a)
starts_refused old new t (Err e) s a = acts_stop old new t (λ course. Done (IsRefused course)) e (course_of s) (started_of s) a

-- a call that is refused so
pub refused_so : (old new : Spot) (t : List Slot → Act Starting) (message : Message) (code : ℤ) (r : Result declared.Course End) (x : Result came.Started End)
    → Does old.world new.world (saying (typed_line (message_text message))) r said → IfOk r (λ c. c ≡ course.Went code) → new.state ≡ old.state → x ≡ with_refused r
    → ((units : List Slot) → holds old units → t units ≡ refused (refusal_tree old.state message code units)) → Acts old new t x (started_of new.state)
refused_so old new t message code r x does went same is tree =
    rw is
    (acts_same old new t (λ units. refused (refusal_tree old.state message code units)) (with_refused r) (started_of new.state) tree
    (starts_refused old new (refusal_tree old.state message code) r new.state (joins.refused old new message code r does went same)))

module _ (old : Spot) (called : Text) (f : FileName) where
  abbrev tree : List Slot → Act Starting
  tree units = read_there (machine_of old.state units) called f

  abbrev missing : List Slot → Act Starting
  missing units = refused (no_procedure (machine_of old.state units) f.name.file)

  -- no disk has the letter
  pub no_disk : (units : List Slot) → holds old units → None ≡ option_map (λ (s : Seated). s.disk) (item_at old.state.table.seats f.letter) → tree units ≡ missing units
  no_disk units h none =
      let absent = none_on old.state.table (machine_of old.state units) f.letter f.name (none_with (item_at old.state.table.seats f.letter) none) (holds_shows old units h) in
      rw absent refl

  -- ---- a file that is there

  module _ (d : Accessed) (is : Some d ≡ option_map (λ (s : Seated). s.disk) (item_at old.state.table.seats f.letter)) where
    seat : (s : Seated) × (item_at old.state.table.seats f.letter ≡ Some s) × (s.disk ≡ d)
    seat = seat_with (item_at old.state.table.seats f.letter) d is

    abbrev begins_in : List (List ℕ) → List Slot → Act Starting
    begins_in records units = beginning (machine_of old.state units) called f (procedure_of records)

    abbrev fails_on : List Slot → Act Starting
    fails_on units = refused (device_fault (machine_of old.state units) (vdev_of (machine_of old.state units) seat.0.letter.unit))

    -- what its minidisk has under the name
    abbrev Names : List Slot → (File → Type 0) → Type 0
    Names units P = (image : Image) (m : Minidisk) → StandsIn image d m → (x : File) × (file_named f.name m.files ≡ Some x) × P x

    reads_so : (units : List Slot) (h : holds old units) (o : Outcome) (next : Act Starting) (x : File) → file_named f.name (meets_at old units f.letter seat.0 seat.1 h).met.minidisk.files ≡ Some x
        → handed silently x (length x.records) (begins_in x.records units) (fails_on units) o ≡ next → ReadsAll units (tree units) o next
    reads_so units h o next x named goes =
        let k = meets_at old units f.letter seat.0 seat.1 h in
        let letter = letter_is old.state.table f.letter seat.0 seat.1 in
        let slot = k.met.slot in
        record {
          unit = seat.0.letter.unit;
          file = x;
          then' = handed silently x (length x.records) (begins_in x.records units) (fails_on units);
          offers = record {
            minidisk = k.met.minidisk;
            settled = slot;
            file = subst (λ (n : Name). file_named n k.met.minidisk.files ≡ Some x) (sym (named_so f.name k.met.minidisk.files x named)) named;
            enough = omega arith;
          };
          tree = rw (letter, slot, named) refl;
          is = goes;
        }

    -- its data were read
    pub comes_data : (now : Seen) (stored : FileData) → HasRead old.world now → OfImage old.world.told d.volume.unit (λ image. GetsIn image d f.name (Ok stored))
        → Comes old (seen_now old now) tree (begins_in (records_in stored))
    comes_data now stored read got =
        comes_read old now tree (begins_in (records_in stored)) Good read (λ n. tt) (counted_none old.world.faults now.faults read.faults)
        (λ units h.
        let k = meets_at old units f.letter seat.0 seat.1 h in
        let stands = subst (λ (a : Accessed). StandsIn (current k.journal a.volume.unit) a k.met.minidisk) seat.2 k.met.is.stands in
        let x = got k.journal k.told k.met.minidisk stands in
        let same : x.0.records ≡ records_in stored = sym (records_are stored x.0.records x.2.stands) in
        reads_so units h Good (begins_in (records_in stored) units) x.0 x.1 (ap (λ (records : List (List ℕ)). begins_in records units) same))

    -- the device failed
    pub comes_fault : (now : Seen) (vdev : ℕ) → HasRead old.world now → Rose old.world.faults now.faults → (place_of f.name d.volume ≡ None → ⊥)
        → IfSome (item_at old.state.table.seats f.letter) (λ s. option_map (λ (unit : UnitInfo). unit.vdev) (slice_get old.state.table.units s.letter.unit) ≡ Some vdev)
        → Comes old (seen_now old now) tree (λ units. refused (refusal_tree old.state (M105 (device_text vdev)) (pos 100) units))
    comes_fault now vdev read rose some device =
        comes_read old now tree (λ units. refused (refusal_tree old.state (M105 (device_text vdev)) (pos 100) units)) (ReadFault 0) read (λ n. omega arith)
        (counted_one old.world.faults now.faults read.faults rose)
        (λ units h.
        let k = meets_at old units f.letter seat.0 seat.1 h in
        let stands = subst (λ (a : Accessed). StandsIn (current k.journal a.volume.unit) a k.met.minidisk) seat.2 k.met.is.stands in
        let x = there_is (current k.journal d.volume.unit) d k.met.minidisk f.name (place_of f.name d.volume) stands refl some in
        reads_so units h (ReadFault 0) _ x.0 x.1
        (ap (λ (v : ℕ). refused (device_fault (machine_of old.state units) v)) (vdev_is old.state units seat.0.letter.unit vdev (told device))))
      where
        told : IfSome (item_at old.state.table.seats f.letter) (λ s. option_map (λ (unit : UnitInfo). unit.vdev) (slice_get old.state.table.units s.letter.unit) ≡ Some vdev)
            → option_map (λ (unit : UnitInfo). unit.vdev) (slice_get old.state.table.units seat.0.letter.unit) ≡ Some vdev
        told h = rw seat.1 at h

    -- its blocks may be read
    pub may_read : (vdev : ℕ) → IfSome (item_at old.state.table.seats f.letter) (λ s. option_map (λ (unit : UnitInfo). unit.vdev) (slice_get old.state.table.units s.letter.unit) ≡ Some vdev)
        → IsUsable old → (j : _) → old.world.told ≡ Some j → IsReadable j d
    may_read vdev device usable j told =
        let unit = has_device (slice_get old.state.table.units seat.0.letter.unit) vdev (rw seat.1 at device) in
        subst (λ (a : Accessed). IsReadable j a) seat.2 (readable_seat old.world.told old.state.table f.letter seat.0 unit.0 seat.1 unit.1 usable j told)

    -- its bytes aren't records any more: never where the journal is told
    pub never_altered : OfImage old.world.told d.volume.unit (λ image. GetsIn image d f.name (Err failed.Altered)) → (units : List Slot) → holds old units → ⊥
    never_altered got units h =
        let k = meets_at old units f.letter seat.0 seat.1 h in
        let stands = subst (λ (a : Accessed). StandsIn (current k.journal a.volume.unit) a k.met.minidisk) seat.2 k.met.is.stands in
        got k.journal k.told k.met.minidisk stands

    -- ---- how the read ends

    -- the procedure in its data begins, or is none
    pub read_data : (now : Seen) (new : Spot) (stored : FileData) (r : Result came.Started End) → HasRead old.world now
        → OfImage old.world.told d.volume.unit (λ image. GetsIn image d f.name (Ok stored)) → Acts (seen_now old now) new (begins_in (records_in stored)) r (started_of new.state)
        → Acts old new tree r (started_of new.state)
    read_data now new stored r read got a = acts_after old (seen_now old now) new tree (begins_in (records_in stored)) r (started_of new.state) (comes_data now stored read got) a

    -- the fault of the device is typed
    read_fault : (now : Seen) (new : Spot) (vdev : ℕ) (r : Result declared.Course End) (x : Result came.Started End) → HasRead old.world now → Rose old.world.faults now.faults
        → (place_of f.name d.volume ≡ None → ⊥)
        → IfSome (item_at old.state.table.seats f.letter) (λ s. option_map (λ (unit : UnitInfo). unit.vdev) (slice_get old.state.table.units s.letter.unit) ≡ Some vdev)
        → Does now new.world (saying (typed_line (message_text (M105 (device_text vdev))))) r said → IfOk r (λ c. c ≡ course.Went (pos 100)) → new.state ≡ old.state
        → x ≡ with_refused r → Acts old new tree x (started_of new.state)
    read_fault now new vdev r x read rose some device does went same is =
        let failed : List Slot → Act Course = refusal_tree old.state (M105 (device_text vdev)) (pos 100) in
        acts_after old (seen_now old now) new tree (λ units. refused (failed units)) x (started_of new.state) (comes_fault now vdev read rose some device)
        (rw is (starts_refused (seen_now old now) new failed r new.state (joins.refused (seen_now old now) new (M105 (device_text vdev)) (pos 100) r does went same)))

    -- that the records are altered, which never comes
    read_altered : (now : Seen) (new : Spot) (r : Result declared.Course End) (x : Result came.Started End) → HasRead old.world now
        → OfImage old.world.told d.volume.unit (λ image. GetsIn image d f.name (Err failed.Altered)) → IsLater now new.world
        → IfErr r (λ e. e ≡ Edge → Rose now.edges new.world.edges) → new.state ≡ old.state → x ≡ with_refused r → Acts old new tree x (started_of new.state)
    read_altered now new r x read got more cause same is =
        let later = later_then old.world now new.world (later_read old.world now read) more in
        rw is
        (acts_never old new tree (with_refused r) (started_of new.state) (never_altered got) later (usable_later old new later (ap (λ (s : State). s.table) same)) (caused r cause))
      where
        caused : (r : Result declared.Course End) → IfErr r (λ e. e ≡ Edge → Rose now.edges new.world.edges) → IfErr (with_refused r) (λ e. e ≡ Edge → Rose old.world.edges new.world.edges)
        caused (Ok c) h = tt
        caused (Err e) h = λ edge. (let edges = read.edges in subst (λ (n : ℕ). Rose n new.world.edges) edges (h edge))

    -- either of them: its message was typed
    pub read_unread : (now : Seen) (new : Spot) (vdev : ℕ) (why : DiskFault) (r : Result declared.Course End) (x : Result came.Started End) → (why ≡ failed.Device) ⊎ (why ≡ failed.Altered)
        → HasRead old.world now → (why ≡ failed.Device → Rose old.world.faults now.faults) → OfImage old.world.told d.volume.unit (λ image. GetsIn image d f.name (Err why))
        → (place_of f.name d.volume ≡ None → ⊥)
        → IfSome (item_at old.state.table.seats f.letter) (λ s. option_map (λ (unit : UnitInfo). unit.vdev) (slice_get old.state.table.units s.letter.unit) ≡ Some vdev)
        → Does now new.world (saying (typed_line (message_text (unread_message why vdev)))) r said → IfOk r (λ c. c ≡ course.Went (pos (unread_code why))) → new.state ≡ old.state
        → x ≡ with_refused r → Acts old new tree x (started_of new.state)
    read_unread now new vdev why r x (inl device) read rose got some at does went same is =
        read_fault now new vdev r x read (rose device) some at (rw device at does) (rw device at went) same is
    read_unread now new vdev why r x (inr altered) read rose got some at does went same is =
        read_altered now new r x read (rw altered at got) (later_does now new.world (saying (typed_line (message_text (unread_message why vdev)))) r said does) does.cause same is

-- ---- the procedure in the data of a file

module _ (old : Spot) (called : Text) (f : FileName) (stored : FileData) (valid : IsValid stored) where
  abbrev begins_tree : List Slot → Act Starting
  begins_tree units = beginning (machine_of old.state units) called f (procedure_of (records_in stored))

  stands : StandsFor stored (records_in stored)
  stands = subst (λ (records : List (List ℕ)). StandsFor stored records) (sym (records_are stored valid.records valid.stands)) valid.stands

  pub has_begun : (lines : List Text) (exec : Exec) → ((records : List (List ℕ)) → StandsFor stored records → procedure_of records ≡ Ok lines) → begun lines called f ≡ Ok exec
      → Acts old old begins_tree (Ok (Begun exec)) (started_of old.state)
  has_begun lines exec is begins =
      let all = is (records_in stored) stands in
      acts_stayed old old begins_tree (Begun exec) (started_of old.state) refl refl (λ units h. (h, rw (all, begins) refl)) (λ usable. usable)

  -- it is none
  pub is_none : (new : Spot) (fault : ProcFault) (r : Result declared.Course End) (x : Result came.Started End)
      → (fault ≡ refuses.Memory) ⊎ ((records : List (List ℕ)) → StandsFor stored records → procedure_of records ≡ Err fault) → (fault ≡ refuses.Memory → ⊥)
      → Does old.world new.world (saying (typed_line (message_text (M086 f.name.file (decimal_of (reason_of fault)))))) r said
      → IfOk r (λ c. c ≡ course.Went (pos (not_run_code + reason_of fault))) → new.state ≡ old.state → x ≡ with_refused r → Acts old new begins_tree x (started_of new.state)
  is_none new fault r x why some does went same is =
      let none = ⊎_elim (λ (memory : fault ≡ refuses.Memory). absurd (some memory)) (λ (no : (records : List (List ℕ)) → StandsFor stored records → procedure_of records ≡ Err fault). no) why in
      let all = none (records_in stored) stands in
      refused_so old new begins_tree (M086 f.name.file (decimal_of (reason_of fault))) (pos (not_run_code + reason_of fault)) r x does went same is (λ units h. rw all refl)

-- ---- how many run

module _ (old new : Spot) (running : ℕ) (called : Text) (f : FileName) where
  abbrev starts : List Slot → Act Starting
  starts units = starting running (machine_of old.state units) called f

  pub limit_reached : (r : Result declared.Course End) (x : Result came.Started End) → 50 ≤ running
      → Does old.world new.world (saying (typed_line (message_text (M120 (decimal_of 5))))) r said → IfOk r (λ c. c ≡ course.Went (pos limited)) → new.state ≡ old.state
      → x ≡ with_refused r → Acts old new starts x (started_of new.state)
  limit_reached r x many does went same is =
      let full : nat_le 50 running ≡ true = le-leb 50 running many in
      refused_so old new starts (M120 (decimal_of 5)) (pos limited) r x does went same is (λ units h. rw full refl)

  pub limit_kept : (x : Result came.Started End) → running < 50 → Acts old new (λ units. read_there (machine_of old.state units) called f) x (started_of new.state)
      → Acts old new starts x (started_of new.state)
  limit_kept x few a =
      let room : nat_le 50 running ≡ false = lt-leb 50 running few in
      acts_same old new starts (λ units. read_there (machine_of old.state units) called f) x (started_of new.state) (λ units h. rw room refl) a

-- ---- the search

module _ (old new : Spot) (running : ℕ) (called : Text) (file : List ℕ) (found : Option FileName)
    (finds : (s : Machine) → Shows old.state.table s → found ≡ procedure_named s file) where
  abbrev named : List Slot → Act Starting
  named units = start_named running (machine_of old.state units) called file

  named_as : (units : List Slot) → holds old units
      → named units ≡ on_procedure (machine_of old.state units) file (λ f. starting running (machine_of old.state units) called f) found
  named_as units h =
      ap (on_procedure (machine_of old.state units) file (λ f. starting running (machine_of old.state units) called f)) (found_held old (λ s. procedure_named s file) found finds units h)

  pub named_starts : (f : FileName) (x : Result came.Started End) → found ≡ Some f
      → Acts old new (λ units. starting running (machine_of old.state units) called f) x (started_of new.state) → Acts old new named x (started_of new.state)
  named_starts f x is a =
      acts_same old new named (λ units. starting running (machine_of old.state units) called f) x (started_of new.state)
      (λ units h. named_as units h
      ∙ ap (on_procedure (machine_of old.state units) file (λ f. starting running (machine_of old.state units) called f)) is) a

  pub named_refused : (r : Result declared.Course End) (x : Result came.Started End) → found ≡ None
      → Does old.world new.world (saying (typed_line (message_text (M002 file exec_kind (coded (codes "*")))))) r said → IfOk r (λ c. c ≡ course.Went (pos no_file_code))
      → new.state ≡ old.state → x ≡ with_refused r → Acts old new named x (started_of new.state)
  named_refused r x none does went same is =
      refused_so old new named (M002 file exec_kind (coded (codes "*"))) (pos no_file_code) r x does went same is
      (λ units h. named_as units h
      ∙ ap (on_procedure (machine_of old.state units) file (λ f. starting running (machine_of old.state units) called f)) none)

-- ---- the line

module _ (old new : Spot) (running : ℕ) (line : Text) (words : List Token) (called : Text) where
  abbrev commands : List Slot → Act Starting
  commands units = exec_command running (machine_of old.state units) line words

  pub operand_read : (file : List ℕ) (x : Result came.Started End) → called ≡ line_from 1 line words → Ok file ≡ exec_operand words
      → Acts old new (λ units. start_named running (machine_of old.state units) called file) x (started_of new.state) → Acts old new commands x (started_of new.state)
  operand_read file x from is a =
      acts_same old new commands (λ units. start_named running (machine_of old.state units) called file) x (started_of new.state)
      (λ units h. ap (exec_operands running (machine_of old.state units) (line_from 1 line words) words) (sym is)
      ∙ ap (λ (text : Text). start_named running (machine_of old.state units) text file) (sym from)) a

  pub operand_refused : (refusal : Refusal) (r : Result declared.Course End) (x : Result came.Started End) → Err refusal ≡ exec_operand words
      → Does old.world new.world (saying (typed_line (message_text (message_of words refusal)))) r said → IfOk r (λ c. c ≡ course.Went (pos (code_of refusal)))
      → new.state ≡ old.state → x ≡ with_refused r → Acts old new commands x (started_of new.state)
  operand_refused refusal r x is does went same so =
      refused_so old new commands (message_of words refusal) (pos (code_of refusal)) r x does went same so
      (λ units h. ap (exec_operands running (machine_of old.state units) (line_from 1 line words) words) (sym is))

-- The procedure that LISTFILE writes.
use Rattle.std.proofs.Common.{◌≡◌, ℕ, Bool, true, false, List, ◌∷◌, Result, Ok, Err, codes, refl, sym, ap, subst}
use Rattle.std.specs.Prelude.{Option, Some, None}
use Rattle.cms_names.specs.declared.name.Name.{Name}
use Rattle.cms_names.specs.declared.name.Format.{Format}
use Rattle.cms_names.specs.declared.name.Format.TheVariants.{F}
use Rattle.cms_fields.specs.Moments.{stamp_of}
use Rattle.cms_fields.specs.declared.time.Stamp.{Stamp}
use Rattle.cms_text.specs.Texts.{coded}
use Rattle.cms_model.specs.Changes.{Add, Change, Put}
use Rattle.cms_model.specs.declared.file.FileData.{FileData}
use Rattle.cms_model.specs.Slots.{Slot}
use Rattle.cms_edf.specs.declared.held.FileInfo.{FileInfo}
use Rattle.cms_disk.specs.Drafts.{file_with, shape_of}
use Rattle.cms_files.specs.Files.{UnitFile, file_on}
use Rattle.cms_files.specs.Gathered.{AreData}
use Rattle.cms_files.specs.Told.{info_named}
use Rattle.cms_files.proofs.FileTold.{IsTold, file_told}
use Rattle.cms_files.proofs.LastUpdates.{acts_changed, last_tree}
use Rattle.cms_search.specs.Calls.{Acts, Spot, course_of, machine_of}
use Rattle.cms_search.specs.Machine.{Machine, letter_at}
use Rattle.cms_search.specs.declared.fault.SearchFault.{SearchFault}
use Rattle.cms_search.specs.declared.search.Found.{Found}
use Rattle.cms_search.specs.declared.state.Course as declared
use Rattle.cms_search.specs.declared.state.End.{End}
use Rattle.cms_search.proofs.LetterDisks.{holds_shows}
use Rattle.cms_listfile.specs.Lines.{lines_of}
use Rattle.cms_listfile.specs.Listfile.{added_lines, disk_a, new_procedure, procedure_lines, records_in, writing, written_change, written_length, written_name}
use Rattle.cms_listfile.specs.Told.{lines_told}
use Rattle.cms_listfile.specs.declared.columns.Columns.{Columns}
use Rattle.cms_listfile.proofs.Lines.{lines_shown}

-- ---- the file that is there

-- what is written then, where lines are added
abbrev change_told : Machine → List (List ℕ) → Option FileInfo → Change
change_told s lines None = Put (new_procedure s lines)
change_told s lines (Some info) = added_lines s info.format info.length lines

change_is : (s : Machine) (lines : List (List ℕ)) (x : Result UnitFile SearchFault) (i : Option FileInfo) → IsTold x i → written_change s true lines x ≡ change_told s lines i
change_is s lines (Ok x) (Some info) is = let format = is.format in let size = is.size in rw (format, size) refl
change_is s lines (Ok x) None is = absurd is
change_is s lines (Err why) (Some info) is = absurd is
change_is s lines (Err why) None is = refl

-- ---- the update

abbrev pub lines_at : Spot → Columns → List Found → List Slot → List (List ℕ)
lines_at old last found units = lines_of (machine_of old.state units) last found

-- a new procedure
put_is : (s : Machine) (lines : List (List ℕ)) (name : Name) (stamp : Stamp) (file : FileData) (records : List (List ℕ)) → name ≡ written_name → stamp ≡ stamp_of s.moment
    → records ≡ records_in F written_length (coded (codes "&TRACE OFF") ∷ procedure_lines lines) → AreData F written_length 1 stamp records file
    → Put (new_procedure s lines) ≡ Put (file_with name (shape_of file) records)
put_is s lines name stamp file records named when are whole =
    let number = whole.number_is in
    let format = whole.format_is in
    let size = whole.length_is in
    let stamp' = whole.stamp_is in
    rw (number, format, size, stamp', named, when, are) refl

pub acts_anew : (old new : Spot) (last : Columns) (found : List Found) (name : Name) (stamp : Stamp) (file : FileData) (r : Result declared.Course End) → name ≡ written_name
    → stamp ≡ stamp_of old.state.moment
    → AreData F written_length 1 stamp (records_in F written_length (coded (codes "&TRACE OFF") ∷ procedure_lines (lines_told last old.state.table found))) file
    → Acts old new (last_tree old disk_a
    (λ units. Put (file_with name (shape_of file) (records_in F written_length (coded (codes "&TRACE OFF") ∷ procedure_lines (lines_told last old.state.table found)))))) r (course_of new.state)
    → Acts old new (last_tree old disk_a (λ units. Put (new_procedure (machine_of old.state units) (lines_at old last found units)))) r (course_of new.state)
acts_anew old new last found name stamp file r named when whole a =
    let records = records_in F written_length (coded (codes "&TRACE OFF") ∷ procedure_lines (lines_told last old.state.table found)) in
    acts_changed old new disk_a (λ units. Put (new_procedure (machine_of old.state units) (lines_at old last found units))) (λ units. Put (file_with name (shape_of file) records)) r
    (λ units h. put_is (machine_of old.state units) (lines_at old last found units) name stamp file records named when
    (ap (λ (l : List (List ℕ)). records_in F written_length (coded (codes "&TRACE OFF") ∷ procedure_lines l))
    (sym (lines_shown last old.state.table (machine_of old.state units) found (holds_shows old units h)))) whole) a

-- more lines
pub acts_more : (old new : Spot) (last : Columns) (found : List Found) (name : Name) (stamp : Stamp) (format : Format) (size : ℕ) (more : FileData) (r : Result declared.Course End)
    → name ≡ written_name → stamp ≡ stamp_of old.state.moment → more.stamp ≡ stamp
    → Acts old new (last_tree old disk_a (λ units. Add name (records_in format size (procedure_lines (lines_told last old.state.table found))) more.stamp)) r (course_of new.state)
    → Acts old new (last_tree old disk_a (λ units. added_lines (machine_of old.state units) format size (lines_at old last found units))) r (course_of new.state)
acts_more old new last found name stamp format size more r named when stamped a =
    acts_changed old new disk_a (λ units. added_lines (machine_of old.state units) format size (lines_at old last found units))
    (λ units. Add name (records_in format size (procedure_lines (lines_told last old.state.table found))) more.stamp) r
    (λ units h. (let lines = lines_shown last old.state.table (machine_of old.state units) found (holds_shows old units h) in rw (lines, named, stamped, when) refl)) a

-- ---- the listing

pub writes_anew : (old new : Spot) (append : Bool) (last : Columns) (found : List Found) (r : Result declared.Course End) → append ≡ false
    → Acts old new (last_tree old disk_a (λ units. Put (new_procedure (machine_of old.state units) (lines_at old last found units)))) r (course_of new.state)
    → Acts old new (λ units. writing (machine_of old.state units) append (lines_at old last found units)) r (course_of new.state)
writes_anew old new append last found r off a = rw off a

pub writes_told : (old new : Spot) (append : Bool) (last : Columns) (found : List Found) (i : Option FileInfo) (r : Result declared.Course End) → append ≡ true
    → info_named old.state.table disk_a written_name ≡ i
    → Acts old new (last_tree old disk_a (λ units. change_told (machine_of old.state units) (lines_at old last found units) i)) r (course_of new.state)
    → Acts old new (λ units. writing (machine_of old.state units) append (lines_at old last found units)) r (course_of new.state)
writes_told old new append last found i r on told a =
    rw on (acts_changed old new disk_a
    (λ units. written_change (machine_of old.state units) true (lines_at old last found units)
    (file_on (machine_of old.state units) written_name (letter_at (machine_of old.state units) disk_a)))
    (λ units. change_told (machine_of old.state units) (lines_at old last found units) i) r
    (λ units h. change_is (machine_of old.state units) (lines_at old last found units)
    (file_on (machine_of old.state units) written_name (letter_at (machine_of old.state units) disk_a)) i
    (subst (λ (x : Option FileInfo). IsTold (file_on (machine_of old.state units) written_name (letter_at (machine_of old.state units) disk_a)) x) told
    (file_told old.state.table (machine_of old.state units) disk_a written_name (holds_shows old units h)))) a)

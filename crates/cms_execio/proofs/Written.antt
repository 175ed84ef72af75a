-- DISKW: lines are gathered, and written by one update.
use Rattle.std.proofs.Common.{◌≡◌, ◌∙◌, false, ℕ, List, Result, Ok, Err, pos, refl, sym, ap, subst}
use Rattle.std.specs.Prelude.{◌==◌, if◌then◌else◌, replicate, Option, Some, None}
use Rattle.std.proofs.lemmas.Bool.{ne_eqb}
use Rattle.cms_names.specs.declared.name.Name.{Name}
use Rattle.cms_names.specs.declared.name.Format.TheVariants.{V}
use Rattle.cms_fields.specs.Moments.{stamp_of}
use Rattle.cms_fields.specs.declared.time.Stamp.{Stamp}
use Rattle.cms_model.specs.Changes.{Add, Change, Put}
use Rattle.cms_model.specs.declared.file.FileData.{FileData}
use Rattle.cms_model.specs.Acts.{Act, Done, bind}
use Rattle.cms_model.specs.Slots.{Slot}
use Rattle.cms_edf.specs.declared.held.FileInfo.{FileInfo}
use Rattle.cms_disk.specs.Drafts.{file_with, shape_of}
use Rattle.cms_files.specs.Files.{UnitFile, file_on}
use Rattle.cms_files.specs.Gathered.{AreData}
use Rattle.cms_files.specs.Told.{info_named}
use Rattle.cms_files.specs.Updates.{went}
use Rattle.cms_files.proofs.FileTold.{IsTold, file_told}
use Rattle.cms_files.proofs.LastUpdates.{acts_changed, last_tree}
use Rattle.cms_search.specs.Calls.{Acts, Spot, course_of, machine_of}
use Rattle.cms_search.specs.Machine.{Course, Machine, letter_at}
use Rattle.cms_search.specs.Searches.{Shelf}
use Rattle.cms_search.specs.declared.fault.SearchFault.{SearchFault}
use Rattle.cms_search.specs.declared.state.Course as declared
use Rattle.cms_search.specs.declared.state.Course.TheVariants as course
use Rattle.cms_search.specs.declared.state.End.{End}
use Rattle.cms_search.specs.declared.state.State.{State}
use Rattle.cms_search.proofs.Acts.{acts_after, acts_done, acts_same, acts_stop, comes_in, comes_same}
use Rattle.cms_search.proofs.LetterDisks.{holds_shows}
use Rattle.cms_execio.specs.AskedLines.{asked_lines_of}
use Rattle.cms_execio.specs.Diskw.{lines_for, new_file, on_asked, write_lines, writing, written_change}
use Rattle.cms_execio.specs.Diskw as spec
use Rattle.cms_execio.specs.Records.{records_of}
use Rattle.cms_execio.specs.declared.asked_lines.AskedLines as declared_asked
use Rattle.cms_execio.specs.declared.asked_lines.AskedLines.TheVariants as asked
use Rattle.cms_execio.specs.declared.line.WriteTarget.{WriteTarget}

-- ---- the file that is there

-- what is written then
abbrev change_told : Machine → Name → List (List ℕ) → Option FileInfo → Change
change_told s name lines None = Put (new_file s name (records_of V 0 lines))
change_told s name lines (Some info) = Add name (records_of info.format info.length lines) (stamp_of s.moment)

change_is : (s : Machine) (name : Name) (lines : List (List ℕ)) (x : Result UnitFile SearchFault) (i : Option FileInfo) → IsTold x i → written_change s name lines x ≡ change_told s name lines i
change_is s name lines (Ok x) (Some info) is = let format = is.format in let size = is.size in rw (format, size) refl
change_is s name lines (Ok x) None is = absurd is
change_is s name lines (Err why) (Some info) is = absurd is
change_is s name lines (Err why) None is = refl

-- ---- the update

-- a new file
put_is : (s : Machine) (name : Name) (stamp : Stamp) (file : FileData) (records : List (List ℕ)) → stamp ≡ stamp_of s.moment → AreData V 0 1 stamp records file
    → Put (new_file s name records) ≡ Put (file_with name (shape_of file) records)
put_is s name stamp file records when whole =
    let number = whole.number_is in
    let format = whole.format_is in
    let size = whole.length_is in
    let stamp' = whole.stamp_is in
    rw (number, format, size, stamp', when) refl

pub acts_anew : (old new : Spot) (n : ℕ) (name : Name) (records : List (List ℕ)) (stamp : Stamp) (file : FileData) (r : Result declared.Course End) → stamp ≡ stamp_of old.state.moment
    → AreData V 0 1 stamp records file → Acts old new (last_tree old n (λ units. Put (file_with name (shape_of file) records))) r (course_of new.state)
    → Acts old new (last_tree old n (λ units. Put (new_file (machine_of old.state units) name records))) r (course_of new.state)
acts_anew old new n name records stamp file r when whole a =
    acts_changed old new n (λ units. Put (new_file (machine_of old.state units) name records)) (λ units. Put (file_with name (shape_of file) records)) r
    (λ units h. put_is (machine_of old.state units) name stamp file records when whole) a

-- more records
pub acts_more : (old new : Spot) (n : ℕ) (name : Name) (records : List (List ℕ)) (stamp : Stamp) (more : FileData) (r : Result declared.Course End) → stamp ≡ stamp_of old.state.moment
    → more.stamp ≡ stamp → Acts old new (last_tree old n (λ units. Add name records more.stamp)) r (course_of new.state)
    → Acts old new (last_tree old n (λ units. Add name records (stamp_of old.state.moment))) r (course_of new.state)
acts_more old new n name records stamp more r when stamped a =
    acts_changed old new n (λ units. Add name records (stamp_of old.state.moment)) (λ units. Add name records more.stamp) r
    (λ units h. ap (λ (x : Stamp). Add name records x) (sym (stamped ∙ when))) a

-- the file is there, or it isn't
pub writes_told : (old new : Spot) (target : WriteTarget) (lines : List (List ℕ)) (i : Option FileInfo) (r : Result declared.Course End)
    → info_named old.state.table target.mode.letter target.name ≡ i
    → Acts old new (last_tree old target.mode.letter (λ units. change_told (machine_of old.state units) target.name lines i)) r (course_of new.state)
    → Acts old new (λ units. writing target (machine_of old.state units) lines) r (course_of new.state)
writes_told old new target lines i r told a =
    let n = target.mode.letter in
    let name = target.name in
    acts_changed old new n (λ units. written_change (machine_of old.state units) name lines (file_on (machine_of old.state units) name (letter_at (machine_of old.state units) n)))
    (λ units. change_told (machine_of old.state units) name lines i) r
    (λ units h. change_is (machine_of old.state units) name lines (file_on (machine_of old.state units) name (letter_at (machine_of old.state units) n)) i
    (subst (λ (x : Option FileInfo). IsTold (file_on (machine_of old.state units) name (letter_at (machine_of old.state units) n)) x) told
    (file_told old.state.table (machine_of old.state units) n name (holds_shows old units h)))) a

-- ---- the lines

-- a text so many times
pub given_lines : (old : Spot) (target : WriteTarget) (o : Option (List ℕ)) (text : List ℕ) (lines : List (List ℕ)) → o ≡ Some text → lines ≡ replicate target.count text
    → Acts old old (λ units. lines_for (machine_of old.state units) target o) (Ok (asked.All lines)) (asked_lines_of old.state)
given_lines old target o text lines is are =
    acts_done old old (λ units. lines_for (machine_of old.state units) target o) (asked.All lines) (asked_lines_of old.state)
    (comes_same old (λ units. lines_for (machine_of old.state units) target o) (λ units. Done (asked_lines_of old.state units (asked.All lines))) (λ units h. rw (is, are) refl))

-- ---- the command

some_wanted : (count : ℕ) (x y : Act Course) → (count ≡ 0 → ⊥) → (if count == 0 then x else y) ≡ y
some_wanted count x y some =
    let no : (count == 0) ≡ false = ne_eqb count 0 some in
    rw no refl

-- none is wanted
pub writes_none : (old : Spot) (target : WriteTarget) (text : Option (List ℕ)) (shelf : Shelf) → target.count ≡ 0
    → Acts old old (λ units. write_lines (machine_of old.state units) target text shelf) (Ok (course.Went (pos 0))) (course_of old.state)
writes_none old target text shelf none =
    acts_done old old (λ units. write_lines (machine_of old.state units) target text shelf) (course.Went (pos 0)) (course_of old.state)
    (comes_same old (λ units. write_lines (machine_of old.state units) target text shelf) (λ units. went (machine_of old.state units)) (λ units h. rw none refl))

module _ (old : Spot) (target : WriteTarget) (text : Option (List ℕ)) (shelf : Shelf) (some : target.count ≡ 0 → ⊥) where
  abbrev asks : List Slot → Act spec.AskedLines
  asks units = lines_for (machine_of old.state units) target text

  abbrev all_tree : List Slot → Act Course
  all_tree units = write_lines (machine_of old.state units) target text shelf

  wanted : (new : Spot) (r : Result declared.Course End) → Acts old new (λ units. bind (asks units) (on_asked target)) r (course_of new.state)
      → Acts old new all_tree r (course_of new.state)
  wanted new r a =
      acts_same old new all_tree (λ units. bind (asks units) (on_asked target)) r (course_of new.state)
      (λ units h. some_wanted target.count (went (machine_of old.state units)) (bind (asks units) (on_asked target)) some) a

  -- they were given, and written
  pub writes_lines : (mid new : Spot) (x : declared_asked.AskedLines) (lines : List (List ℕ)) (r : Result declared.Course End) → Acts old mid asks (Ok x) (asked_lines_of mid.state)
      → x ≡ asked.All lines → Acts mid new (λ units. writing target (machine_of mid.state units) lines) r (course_of new.state) → Acts old new all_tree r (course_of new.state)
  writes_lines mid new x lines r a is b =
      wanted new r
      (acts_after old mid new (λ units. bind (asks units) (on_asked target)) (λ units. writing target (machine_of mid.state units) lines) r (course_of new.state)
      (comes_in old mid asks (on_asked target) (asked.All lines) (asked_lines_of mid.state)
      (subst (λ (y : declared_asked.AskedLines). Acts old mid asks (Ok y) (asked_lines_of mid.state)) is a)) b)

  -- no turn is left for one of them
  pub writes_spent : (mid : Spot) (x : declared_asked.AskedLines) → Acts old mid asks (Ok x) (asked_lines_of mid.state) → x ≡ asked.Spent
      → Acts old mid all_tree (Ok course.OutOfTurns) (course_of mid.state)
  writes_spent mid x a is =
      wanted mid (Ok course.OutOfTurns)
      (acts_done old mid (λ units. bind (asks units) (on_asked target)) course.OutOfTurns (course_of mid.state)
      (comes_in old mid asks (on_asked target) asked.Spent (asked_lines_of mid.state)
      (subst (λ (y : declared_asked.AskedLines). Acts old mid asks (Ok y) (asked_lines_of mid.state)) is a)))

  -- asking was cut off
  pub writes_stop : (mid : Spot) (e : End) → Acts {T = declared_asked.AskedLines} old mid asks (Err e) (asked_lines_of mid.state)
      → Acts {T = declared.Course} old mid all_tree (Err e) (course_of mid.state)
  writes_stop mid e a =
      wanted mid (Err e) (acts_stop old mid asks (on_asked target) e (asked_lines_of mid.state) (course_of mid.state) a)

-- the rest of the state stays over asking and writing
pub stays_written : (a b c : State) → b ≡ record a { stack = b.stack; console = b.console; left = b.left } → c ≡ record b { table = c.table; places = c.places }
    → c ≡ record a { table = c.table; stack = c.stack; console = c.console; places = c.places; left = c.left }
stays_written a b c e f =
    f ∙ (ap (λ (s : State). record s { table = c.table; places = c.places }) e
    ∙ ap (λ (x : State). record a { table = c.table; stack = x.stack; console = x.console; places = c.places; left = x.left }) (sym f))

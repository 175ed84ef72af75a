-- TYPE: records are typed as they are handed out.
use Rattle.std.proofs.Common.{◌≡◌, ◌⊎◌, ◌+◌, ◌-◌, ◌<◌, ◌≤◌, ◌∙◌, ℕ, suc, List, [], ◌∷◌, ◌++◌, length, drop, take, map, min, true, false, Option, Some, None, Result, Ok, Err, inl, inr, pos, refl, sym, ap, subst, add-one, Bool, arith}
use Rattle.std.specs.Prelude.{◌==◌, IfOk, nat_lt}
use Rattle.std.specs.Option.{option_map_or}
use Rattle.std.proofs.Math.Seq.{drop-nil}
use Rattle.std.proofs.lemmas.Bool.{cases_Bool, eq-eqb, le-ltb, lt-ltb, ltb-true, ltb-false, ne_eqb}
use Rattle.std.proofs.lemmas.List.{length-append}
use Rattle.cms_journal.specs.Causes.{Rose}
use Rattle.cms_model.specs.Minidisks.{File}
use Rattle.cms_model.specs.Acts.{Act, Done, bind, saying, typed_line}
use Rattle.cms_model.specs.Runs.{Ran, Broke}
use Rattle.cms_model.specs.Slots.{Slot}
use Rattle.cms_model.specs.Steps.{Outcome}
use Rattle.cms_model.proofs.Join.{ran_bind, broke_bind}
use Rattle.cms_disk.specs.Cursors.{Cursor, SameFile, text_of}
use Rattle.cms_disk.specs.declared.fault.DiskFault.{DiskFault}
use Rattle.cms_disk.specs.declared.fault.DiskFault.TheVariants as failed
use Rattle.cms_line.specs.Messages.{message_text}
use Rattle.cms_line.specs.declared.message.Message.TheVariants.{M105}
use Rattle.cms_line.specs.declared.token.Token.{Token}
use Rattle.cms_search.specs.Calls.{Acts, Comes, Does, Spot, after_world, course_of, itself, machine_of, refusal_tree, said}
use Rattle.cms_search.specs.Machine.{Course, Machine, letter_at, typing}
use Rattle.cms_operands.specs.Refusals.{code_of, message_of}
use Rattle.cms_operands.specs.declared.refusal.Refusal.TheVariants.{BadOperand}
use Rattle.cms_search.specs.DeviceSteps.{HasRead, handed, reading}
use Rattle.cms_search.specs.Refusals.{device_fault, unread_code, unread_message}
use Rattle.cms_search.specs.Shows.{Shows}
use Rattle.cms_search.specs.Texts.{device_text}
use Rattle.cms_search.specs.Units.{vdev_of}
use Rattle.cms_search.specs.declared.fault.SearchFault.{SearchFault}
use Rattle.cms_search.specs.declared.state.Course as declared
use Rattle.cms_search.specs.declared.state.Course.TheVariants as course
use Rattle.cms_search.specs.declared.state.End.{End}
use Rattle.cms_search.specs.declared.state.State.{State}
use Rattle.cms_search.proofs.Acts.{acts_after, acts_done, acts_same, comes_same, comes_then}
use Rattle.cms_search.proofs.HandedRecords.{AreAmong, Handed, Hands, IsEach, IsOpen, Reads, handed_more, handed_none, only_read, passes_does, passes_read, passes_then, read_stops, read_wanted, reads_none, unread_ends}
use Rattle.cms_search.proofs.LetterDisks.{holds_shows, letter_is}
use Rattle.cms_search.proofs.StateCalls.{acts_refused}
use Rattle.cms_world.specs.Seen.{OnlyReads, Seen}
use Rattle.cms_files.specs.Files.{UnitFile, file_on, on_found, word_refused}
use Rattle.cms_files.specs.ModeThree.{last_consuming}
use Rattle.cms_files.specs.OpenFiles.{HasRecords, IsOpened}
use Rattle.cms_files.specs.declared.open_files.OpenFile.{OpenFile}
use Rattle.cms_files.proofs.OpenedFiles.{opened_device, opened_reads}
use Rattle.cms_fileops.specs.TypeCommand.{record_text, type_ended, type_found, type_on, typed_nth, typing_from, wanted_of}
use Rattle.cms_fileops.specs.declared.type_command.TypeLine.{TypeLine}
use Rattle.cms_fileops.specs.declared.type_command.TypeRange.{TypeRange}

-- ---- what is done with records

-- with all from one on that has so many in front of it
abbrev pub typing_on : TypeLine → ℕ → List (List ℕ) → Act Course → Act Course
typing_on line k records next = typing (map (record_text line.style) (drop (line.range.first - suc k) records)) next

-- with one alone
abbrev pub typing_one : TypeLine → ℕ → List ℕ → Act Course → Act Course
typing_one line k text next = bind (typed_nth line (suc k) text) (λ x. next)

typing_more : (line : TypeLine) (k : ℕ) (text : List ℕ) (records : List (List ℕ)) (next : Act Course)
    → typing_on line k (text ∷ records) next ≡ typing_one line k text (typing_on line (suc k) records next)
unfolding typing
typing_more line k text records next = elim (cases_Bool (nat_lt (suc k) line.range.first)) [
  | inl front ↦
      let less = ltb-true (suc k) line.range.first front in
      let here : line.range.first - suc k ≡ suc (line.range.first - suc (suc k)) = omega arith in
      rw (here, front) refl
  | inr typed ↦
      let high = ltb-false (suc k) line.range.first typed in
      let here : line.range.first - suc k ≡ 0 = omega arith in
      let behind : line.range.first - suc (suc k) ≡ 0 = omega arith in
      rw (here, behind, typed) refl
]

pub typing_each : (line : TypeLine) → IsEach (typing_on line) (typing_one line)
unfolding typing
typing_each line = record {
  none = λ k next. ap (λ (rs : List (List ℕ)). typing (map (record_text line.style) rs) next) (drop-nil (line.range.first - suc k));
  more = typing_more line;
}

-- ---- how many are wanted

pub few_wanted : (range : TypeRange) (count : ℕ) → wanted_of range count ≤ count
few_wanted range count = cases range.last
  where
    cases : (last : Option ℕ) → option_map_or (λ (l : ℕ). min l count) last count ≤ count
    cases None = omega arith
    cases (Some l) = omega arith

-- ---- how far it has come

-- so many records were handed out, and those typed that are to be
pub record TypedSoFar (line : TypeLine) (before now : Seen) (first c : Cursor) (n : ℕ) : Type 0 where
  pub handed : Handed (typing_on line) before now first c
  pub count : n ≡ length handed.front
  pub left : n + c.left ≡ first.left

pub typed_none : (line : TypeLine) (s : Seen) (c : Cursor) → IsOpen s.told c → TypedSoFar line s s c c 0
unfolding handed_none
typed_none line s c has = record {
  handed = handed_none (typing_on line) (typing_one line) s c (typing_each line) has;
  count = refl;
  left = omega arith;
}

-- a record was handed out, and typed
nth_is : (line : TypeLine) (n k : ℕ) (text text' : List ℕ) → n ≡ k → text ≡ text' → typed_nth line (n + 1) text ≡ typed_nth line (suc k) text'
nth_is line n k text text' count is = rw (count, is, add-one) refl

pub typed_more : (line : TypeLine) (before mid read' now' : Seen) (first c d : Cursor) (n : ℕ) (text : List ℕ) (x : Unit {0}) (so : TypedSoFar line before mid first c n)
    → Hands mid.told c d (Ok true) → SameFile c d → c.left ≡ d.left + 1 → HasRead mid read' → text ≡ text_of d
    → Does read' now' (typed_nth line (n + 1) text) (Ok x) itself → TypedSoFar line before now' first d (n + 1)
unfolding handed_more
typed_more line before mid read' now' first c d n text x so hands same left read is does =
    let front = so.handed.front in
    let count = so.count in
    let so_left = so.left in
    let long : length (front ++ text_of d ∷ []) ≡ n + 1 = length-append front (text_of d ∷ []) ∙ (omega arith) in
    let nth = nth_is line n (length front) text (text_of d) count is in
    record {
      handed = handed_more (typing_on line) (typing_one line) before mid now' first c d (typing_each line) so.handed hands same
          (passes_then mid read' now' (passes_read mid read' read) (passes_does read' now' (typed_nth line (n + 1) text) (Ok x) itself does))
          (λ next p journal. subst (λ (t : Act (Unit {0})). Ran p (after_world p now') (bind t (λ y. next)) next) nth (ran_bind (λ y. next) (does.each p (journal ∙ sym read.told))));
      count = sym long;
      left = omega arith;
    }

-- ---- how it ends

abbrev failed_tree : State → ℕ → List Slot → Act Course
failed_tree s u units = device_fault (machine_of s units) (vdev_of (machine_of s units) u)

module _ (old : Spot) (words : List Token) (n : ℕ) (line : TypeLine) (file : OpenFile) (o : IsOpened old.state.table n line.range.input.name file) (there : line.range.first ≤ file.count)
    (last : ℕ) (last_is : last ≡ wanted_of line.range file.count) where
  abbrev tree : List Slot → Act Course
  tree units = type_on (machine_of old.state units) words line n

  abbrev wanted : File → ℕ
  wanted f = min last (length f.records)

  -- behind the last that is typed
  abbrev ended : List Slot → Act Course
  ended units = type_ended (machine_of old.state units) line n file.count

  abbrev type_then : List Slot → File → Outcome → Act Course
  type_then units f o' = handed (typing_from line) f (wanted f) (ended units) (failed_tree old.state o.seat.letter.unit units) o'

  -- it is no more than there are
  last_few : last ≤ file.count
  last_few = subst (λ (k : ℕ). k ≤ file.count) (sym last_is) (few_wanted line.range file.count)

  reads : Reads old file.cursor tree o.seat.letter.unit wanted type_then
  reads = opened_reads old n line.range.input.name file o tree wanted type_then (λ f. omega arith)
      (λ units m f slot named long.
      let s = machine_of old.state units in
      let u = o.seat.letter.unit in
      let few = last_few in
      let letter = letter_is old.state.table n o.seat o.there in
      let less : nat_lt (length f.records) line.range.first ≡ false = le-ltb (length f.records) line.range.first (omega arith) in
      let all : wanted_of line.range (length f.records) ≡ wanted f = ap (wanted_of line.range) long ∙ (sym last_is ∙ (omega arith)) in
      rw (letter, slot, named, less)
      (ap (λ (k : ℕ). reading (typing_from line) u f k (type_ended s line n (length f.records)) (failed_tree old.state u units)) all
      ∙ ap (λ (k : ℕ). reading (typing_from line) u f (wanted f) (type_ended s line n k) (failed_tree old.state u units)) long))

  -- so many were handed out, and they are among those that are wanted
  among : (mid : Spot) (c : Cursor) (k : ℕ) (so : TypedSoFar line old.world mid.world file.cursor c k) → k ≤ last → AreAmong wanted so.handed.front
  among mid c k so low f more is =
      let long : length f.records ≡ length so.handed.front + length more = ap length is ∙ length-append so.handed.front more in
      let count = so.count in
      omega arith

  -- a further record is there
  pub typed_left : (mid : Spot) (c : Cursor) (k : ℕ) → TypedSoFar line old.world mid.world file.cursor c k → k < last → 1 ≤ c.left
  typed_left mid c k so less =
      let few = last_few in
      let left = so.left in
      let count = o.count in
      omega arith

  pub typed_stops : (mid read' new : Spot) (c d : Cursor) (k : ℕ) (text : List ℕ) (e : End) → TypedSoFar line old.world mid.world file.cursor c k → k < last
      → Hands mid.world.told c d (Ok true) → HasRead mid.world read'.world → text ≡ text_of d → Does {T = Unit {0}} read'.world new.world (typed_nth line (k + 1) text) (Err e) itself
      → new.state ≡ old.state → Acts old new tree (Err e) (course_of new.state)
  typed_stops mid read' new c d k text e so less hands read is does same =
      let edges = read.edges in
      let front = so.handed.front in
      let count = so.count in
      let nth = nth_is line k (length front) text (text_of d) count is in
      let passes = passes_then mid.world read'.world new.world (passes_read mid.world read'.world read)
      (passes_does {T = Unit {0}} read'.world new.world (typed_nth line (k + 1) text) (Err e) itself does) in
      read_stops (typing_on line) (typing_one line) old mid new file.cursor c d tree o.seat.letter.unit wanted type_then
      ended e (course_of new.state) (typing_each line) reads so.handed hands passes same
      (λ f more is'.
      let long : length f.records ≡ length (front ++ text_of d ∷ []) + length more = ap length is' ∙ length-append (front ++ text_of d ∷ []) more in
      let one : length (front ++ text_of d ∷ []) ≡ length front + 1 = length-append front (text_of d ∷ []) in
      omega arith)
      (λ units f. refl)
      (λ next p journal. subst (λ (t : Act (Unit {0})). Broke p (after_world p new.world) (bind t (λ y. next))) nth (broke_bind (λ y. next) (does.each p (journal ∙ sym read.told))))
      (λ edge. subst (λ (j : ℕ). Rose j new.world.edges) edges (does.cause edge))

  -- all that are wanted were handed out
  pub typed_all : (mid : Spot) (c : Cursor) (k : ℕ) → TypedSoFar line old.world mid.world file.cursor c k → k ≡ last → mid.state ≡ old.state → Comes old mid tree ended
  typed_all mid c k so all same =
      read_wanted (typing_on line) old mid mid file.cursor c tree o.seat.letter.unit wanted type_then ended reads so.handed (reads_none mid.world) same
      (λ f more is.
      let long : length f.records ≡ length so.handed.front + length more = ap length is ∙ length-append so.handed.front more in
      let count = so.count in
      omega arith)
      (λ units f. refl)

  -- whether the last of them is the file's
  last_so : (whole : Bool) → (last == file.count) ≡ whole → (wanted_of line.range file.count == file.count) ≡ whole
  last_so whole is = ap (λ (k : ℕ). k == file.count) (sym last_is) ∙ is

  pub typed_part : (mid : Spot) (c : Cursor) (k : ℕ) → TypedSoFar line old.world mid.world file.cursor c k → k ≡ last → mid.state ≡ old.state → last < file.count
      → Acts old mid tree (Ok (course.Went (pos 0))) (course_of mid.state)
  typed_part mid c k so all same less =
      let e = last_so false (ne_eqb last file.count (λ (is : last ≡ file.count). omega (arith, is, less))) in
      acts_done old mid tree (course.Went (pos 0)) (course_of mid.state)
      (comes_then old mid mid tree ended (λ units. Done (course_of mid.state units (course.Went (pos 0)))) (typed_all mid c k so all same)
      (comes_same mid ended (λ units. Done (course_of mid.state units (course.Went (pos 0)))) (λ units h. rw (same, e) refl)))

  pub typed_whole : (mid new : Spot) (c : Cursor) (k : ℕ) (r : Result declared.Course End) → TypedSoFar line old.world mid.world file.cursor c k → k ≡ last → mid.state ≡ old.state
      → file.count ≤ last → Acts mid new (λ units. last_consuming (machine_of old.state units) n line.range.input.name) r (course_of new.state)
      → Acts old new tree r (course_of new.state)
  typed_whole mid new c k r so all same high a =
      let few = last_few in
      let whole : last ≡ file.count = omega arith in
      let e = last_so true (eq-eqb last file.count whole) in
      acts_after old mid new tree ended r (course_of new.state) (typed_all mid c k so all same)
      (acts_same mid new ended (λ units. last_consuming (machine_of old.state units) n line.range.input.name) r (course_of new.state) (λ units h. rw e refl) a)

  -- the file couldn't be read any further, which is typed
  pub typed_unread : (mid read' new : Spot) (c d : Cursor) (k : ℕ) (why : DiskFault) (r : Result declared.Course End) → TypedSoFar line old.world mid.world file.cursor c k → k < last
      → (why ≡ failed.Device) ⊎ (why ≡ failed.Altered) → Hands mid.world.told c d (Err why) → OnlyReads {T = Bool} mid.world read'.world failed.Device (Err why) → read'.state ≡ old.state
      → Does read'.world new.world (saying (typed_line (message_text (unread_message why file.vdev)))) r said → IfOk r (λ x. x ≡ course.Went (pos (unread_code why)))
      → new.state ≡ read'.state → Acts old new tree r (course_of new.state)
  typed_unread mid read' new c d k why r so less fault hands looks same does went kept =
      unread_ends (typing_on line) old mid read' new file.cursor c d tree o.seat.letter.unit wanted file.vdev type_then r
      reads so.handed (only_read {T = Bool} mid.world read'.world failed.Device (Err why) looks) same kept why fault hands looks.cause (among mid c k so (omega arith))
      (λ units f j. ap (typing_from line (take j f.records)) (device units)) does went
    where
      device : (units : List Slot) → failed_tree old.state o.seat.letter.unit units ≡ refusal_tree read'.state (M105 (device_text file.vdev)) (pos 100) units
      device units = ap (λ (v : ℕ). device_fault (machine_of old.state units) v) (opened_device old.state units n line.range.input.name file o)
          ∙ ap (λ (s : State). refusal_tree s (M105 (device_text file.vdev)) (pos 100) units) (sym same)

-- ---- the file that is typed

-- one that is too short
short_so : (s : Machine) (words : List Token) (line : TypeLine) (n count : ℕ) (found : Result UnitFile SearchFault) → HasRecords count found → count < line.range.first
    → on_found s words 1 (type_found s words line n) found ≡ word_refused s words (BadOperand 4)
short_so s words line n count (Ok x) long less =
    let short : nat_lt (length x.file.records) line.range.first ≡ true = lt-ltb (length x.file.records) line.range.first (omega arith) in
    rw short refl
short_so s words line n count (Err e) long less = absurd long

pub short_on : (old new : Spot) (words : List Token) (n : ℕ) (line : TypeLine) (count : ℕ) (r : Result declared.Course End)
    → ((s : Machine) → Shows old.state.table s → HasRecords count (file_on s line.range.input.name (letter_at s n))) → count < line.range.first
    → Does old.world new.world (saying (typed_line (message_text (message_of words (BadOperand 4))))) r said → IfOk r (λ c. c ≡ course.Went (pos (code_of (BadOperand 4))))
    → new.state ≡ old.state → Acts old new (λ units. type_on (machine_of old.state units) words line n) r (course_of new.state)
short_on old new words n line count r has less does went same =
    acts_refused old new (λ units. type_on (machine_of old.state units) words line n) (message_of words (BadOperand 4)) (pos (code_of (BadOperand 4))) r does went same
    (λ units h.
    let s = machine_of old.state units in
    short_so s words line n count (file_on s line.range.input.name (letter_at s n)) (has s (holds_shows old units h)) less)

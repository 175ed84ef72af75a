-- DISKR: records are taken as they are handed out, and their lines are stacked together.
use Rattle.std.proofs.Common.{◌≡◌, ◌⊎◌, ◌+◌, ◌-◌, ◌<◌, ◌≤◌, ◌∙◌, Bool, false, ℕ, zero, suc, negsuc, List, [], ◌∷◌, ◌++◌, length, drop, take, map, min, true, Option, Some, None, Result, Ok, Err, inl, inr, pos, refl, sym, ap, subst, slice_get, arith}
use Rattle.std.specs.Prelude.{◌==◌, ◌&&◌, IfOk, IfSome, nat_lt}
use Rattle.std.specs.Option.{ForSome, option_and_then}
use Rattle.std.proofs.Math.Seq.{drop-nil, take-append_seam}
use Rattle.std.proofs.lemmas.Bool.{cases_Bool, lt-ltb, ltb-true, ltb-false, ne_eqb}
use Rattle.std.proofs.lemmas.List.{drop-append-le, drop-take, drop_all, length-append, map-append}
use Rattle.std.proofs.lemmas.Option.{same_Some}
use Rattle.cms_journal.specs.Journal.{Journal, contents_of}
use Rattle.cms_journal.specs.Told.{Told}
use Rattle.cms_names.specs.declared.name.Name.{Name}
use Rattle.cms_model.specs.Trees.{image_of}
use Rattle.cms_model.specs.Changes.{Drop, file_named}
use Rattle.cms_model.specs.LawsUpdates.{now}
use Rattle.cms_model.specs.Minidisks.{File, Minidisk, Volume}
use Rattle.cms_model.specs.Acts.{Act, Done, saying, typed_line}
use Rattle.cms_model.specs.Runs.{Ran}
use Rattle.cms_model.specs.Slots.{Slot, Settled}
use Rattle.cms_model.specs.Steps.{Outcome}
use Rattle.cms_model.proofs.Join.{ran_none}
use Rattle.cms_disk.specs.Cursors.{HasLeft, Cursor, SameFile, text_of}
use Rattle.cms_edf.specs.OpeningSteps.{OfImage}
use Rattle.cms_disk.specs.declared.fault.DiskFault.{DiskFault}
use Rattle.cms_disk.specs.declared.fault.DiskFault.TheVariants as failed
use Rattle.cms_line.specs.Messages.{message_text}
use Rattle.cms_line.specs.declared.message.Message.TheVariants.{M105}
use Rattle.cms_line.specs.declared.token.Token.{Token}
use Rattle.cms_search.specs.Calls.{Acts, Comes, Spot, course_of, holds, machine_of, refusal_tree, said}
use Rattle.cms_search.specs.Calls as calls
use Rattle.cms_search.specs.DeviceSteps.{HasRead, Stepped, handed, reading, silently, unless_failed}
use Rattle.cms_search.specs.Machine.{Course, Machine, Places, Went}
use Rattle.cms_search.specs.Refusals.{device_fault, unread_code, unread_message}
use Rattle.cms_search.specs.Searches.{item_at}
use Rattle.cms_search.specs.Tables.{AccessTable, IsReadingOf, Seated, reading_on}
use Rattle.cms_search.specs.Texts.{device_text}
use Rattle.cms_search.specs.Units.{vdev_of}
use Rattle.cms_search.specs.declared.state.Course as declared
use Rattle.cms_search.specs.declared.state.Course.TheVariants as course
use Rattle.cms_search.specs.declared.state.End.{End}
use Rattle.cms_search.specs.declared.state.End.TheVariants.{Memory}
use Rattle.cms_search.specs.declared.state.State.{State}
use Rattle.cms_search.proofs.Acts.{acts_after, acts_done, acts_same, acts_stop, comes_in, comes_none, comes_same, comes_then, cut_off, no_memory}
use Rattle.cms_search.proofs.DiskReadings.{Behind, handed_behind, kept_behind, reading_same}
use Rattle.cms_search.proofs.HandedRecords.{AreAmong, Handed, Hands, IsOpen, Reads, handed_more, handed_none, handed_past, left_long, narrowed, only, only_read, open_same, passes_read, read_wanted, reads_none, reads_then, same_then, silent, silent_each, silent_one, unread_ends}
use Rattle.cms_search.proofs.LetterDisks.{letter_is, meets_at}
use Rattle.cms_search.proofs.StateCalls.{acts_stayed}
use Rattle.cms_world.specs.Seen.{OnlyReads, Seen}
use Rattle.cms_files.specs.Files.{UnitFile}
use Rattle.cms_files.specs.ModeThree.{is_consumed}
use Rattle.cms_files.specs.OpenFiles.{IsOpened}
use Rattle.cms_files.specs.StackedLines.{StacksSome, stacking}
use Rattle.cms_files.specs.Updates.{updated_of, updating_tree}
use Rattle.cms_files.specs.declared.update.Updated as declared_updated
use Rattle.cms_files.specs.declared.update.Updated.TheVariants as was
use Rattle.cms_files.specs.declared.open_files.OpenFile.{OpenFile}
use Rattle.cms_files.proofs.OpenedFiles.{opened_device, opened_reads}
use Rattle.cms_files.proofs.Stacked.{stacks_none}
use Rattle.cms_execio.specs.Diskr.{StacksRead, code_of_taken, erase_read, if_good, in_front, keep_place, line_of_nth, lines_found, lines_on, lines_taken, places_behind, read_done, read_ended, read_found, read_on, read_taken, stack_read, taken_of}
use Rattle.cms_execio.specs.Records.{stacked_line}
use Rattle.cms_execio.specs.Starts.{IsPast, reading_behind}
use Rattle.cms_execio.specs.declared.line.ReadLine.{ReadLine}
use Rattle.cms_execio.specs.declared.start.Start.{Start}

-- ---- how far it has come

line_added : (strips : Bool) (front : ℕ) (records : List (List ℕ)) (text : List ℕ) → map (stacked_line strips) (drop front (records ++ text ∷ []))
    ≡ map (stacked_line strips) (drop front records) ++ line_of_nth strips front (length records) text
line_added strips front records text = elim (cases_Bool (nat_lt (length records) front)) [
  | inl less ↦
      let low = ltb-true (length records) front less in
      let long : length (records ++ text ∷ []) ≡ length records + 1 = length-append records (text ∷ []) in
      let all : drop front (records ++ text ∷ []) ≡ [] = drop_all front (records ++ text ∷ []) (omega arith) in
      let some : drop front records ≡ [] = drop_all front records (omega arith) in
      rw (all, some, less) refl
  | inr high ↦
      let low : front ≤ length records = ltb-false (length records) front high in
      rw high (ap (map (stacked_line strips)) (drop-append-le front records (text ∷ []) low) ∙ map-append (stacked_line strips) (drop front records) (text ∷ []))
]

-- so many records were handed out or passed over, and units were read alone
pub record ReadTo (before now : Seen) (first c : Cursor) (n : ℕ) : Type 0 where
  pub left : n + c.left ≡ first.left
  pub file : SameFile first c
  pub opened : IsOpen now.told c
  pub read : HasRead before now

pub read_start : (s : Seen) (first c : Cursor) (n : ℕ) → n + c.left ≡ first.left → SameFile first c → IsOpen s.told first → ReadTo s s first c n
read_start s first c n left file has = record { left = left; file = file; opened = open_same s.told first c file has; read = reads_none s }

-- with a further one
pub read_more : (before mid now' : Seen) (first c d : Cursor) (n : ℕ) → ReadTo before mid first c n → SameFile c d → c.left ≡ d.left + 1 → HasRead mid now' → ReadTo before now' first d (n + 1)
read_more before mid now' first c d n so same left read =
    let so_left = so.left in
    record {
      left = omega (arith, so_left, left);
      file = same_then first c d so.file same;
      opened = subst (λ (t : Told). IsOpen t d) (sym read.told) (open_same mid.told c d same so.opened);
      read = reads_then before mid now' so.read read;
    }

-- they were handed out, and the lines of those that are stacked are kept
pub record TakenSoFar (line : ReadLine) (front : ℕ) (before now : Seen) (first c : Cursor) (n : ℕ) (lines : List (List ℕ)) : Type 0 where
  pub handed : Handed (silent {R = Course}) before now first c
  pub long : length handed.front ≡ n
  pub lines_are : lines ≡ map (stacked_line line.style.strips) (drop front handed.front)

taken_none : (line : ReadLine) (front : ℕ) (s : Seen) (c : Cursor) (lines : List (List ℕ)) → IsOpen s.told c → lines ≡ [] → TakenSoFar line front s s c c 0 lines
unfolding handed_none
taken_none line front s c lines has none = record {
  handed = handed_none silent silent_one s c silent_each has;
  long = refl;
  lines_are = none ∙ sym (ap (map (stacked_line line.style.strips)) (drop-nil front));
}

-- none was handed out yet, and some were passed over
taken_past : (line : ReadLine) (front n : ℕ) (s : Seen) (first c : Cursor) (lines : List (List ℕ)) → IsOpen s.told first → IsPast n first c → n ≤ front → lines ≡ []
    → TakenSoFar line front s s first c n lines
taken_past line front n s first c lines has past low none = begun past.some
  where
    begun : ((n ≡ 0) × (c ≡ first)) ⊎ ((size : ℕ) × (first.begun.fixed ≡ Some size)) → TakenSoFar line front s s first c n lines
    begun (inl same) =
        let zero = same.0 in
        let is = same.1 in
        rw (zero, is) (taken_none line front s first lines has none)
    begun (inr fixed) =
        let left = past.left in
        let h = handed_past s first c fixed.0 n fixed.1 (omega arith) past.rest past.file has in
        let long = h.1 in
        record {
          handed = h.0;
          long = long;
          lines_are = none ∙ sym (ap (map (stacked_line line.style.strips)) (drop_all front h.0.front (omega arith)));
        }

-- or they were handed out by earlier commands
taken_behind : (line : ReadLine) (front n : ℕ) (s : Seen) (first c : Cursor) (lines : List (List ℕ)) → Behind s.told first c n → SameFile first c → IsOpen s.told first → n ≤ front
    → lines ≡ [] → TakenSoFar line front s s first c n lines
taken_behind line front n s first c lines behind same has low none =
    let h = handed_behind s first c n behind same has in
    let long = h.1 in
    record {
      handed = h.0;
      long = long;
      lines_are = none ∙ sym (ap (map (stacked_line line.style.strips)) (drop_all front h.0.front (omega (arith, long, low))));
    }

-- a further record was handed out
pub taken_more : (line : ReadLine) (front : ℕ) (before mid now' : Seen) (first c d : Cursor) (n : ℕ) (lines lines' : List (List ℕ)) (text : List ℕ)
    → TakenSoFar line front before mid first c n lines → Hands mid.told c d (Ok true) → SameFile c d → HasRead mid now' → text ≡ text_of d
    → lines' ≡ lines ++ line_of_nth line.style.strips front n text → TakenSoFar line front before now' first d (n + 1) lines'
unfolding handed_more
taken_more line front before mid now' first c d n lines lines' text so hands same read is added =
    let records = so.handed.front in
    let strips = line.style.strips in
    let so_long = so.long in
    let long : length (records ++ text_of d ∷ []) ≡ n + 1 = length-append records (text_of d ∷ []) ∙ (omega arith) in
    record {
      handed = handed_more silent silent_one before mid now' first c d silent_each so.handed hands same (passes_read mid now' read)
          (λ next p journal. subst (λ (told : Told). Ran p (record p { journal = told }) next next) (journal ∙ sym read.told) (ran_none p next));
      long = long;
      lines_are = added ∙ (ap (λ (l : List (List ℕ)). l ++ line_of_nth strips front n text) so.lines_are
          ∙ (ap (λ (k : ℕ). map (stacked_line strips) (drop front records) ++ line_of_nth strips front k text) (sym so.long)
          ∙ (ap (λ (t : List ℕ). map (stacked_line strips) (drop front records) ++ line_of_nth strips front (length records) t) is ∙ sym (line_added strips front records (text_of d)))));
    }

-- ---- where it starts

-- so much is said of where the reading of a file starts, by the cursor that was kept
pub record IsStart (t : AccessTable) (n : ℕ) (name : Name) (first : Cursor) (front : ℕ) (kept : Option Cursor) (x : Start) : Type 0 where
  pub there : IfSome kept (λ c. reading_on t n ≡ Some (reading_behind name front c))
  pub sound : IfSome kept (λ c. ForSome (item_at t.seats n) (λ s. IsReadingOf s.disk (reading_behind name front c)))
  pub goes : IfSome kept (λ c. x ≡ record { cursor = c; behind = front })
  pub past : kept ≡ None → IsPast x.behind first x.cursor
  pub few : x.behind ≤ front

module _ (old : Spot) (n : ℕ) (name : Name) (file : OpenFile) (o : IsOpened old.state.table n name file) (has : IsOpen old.world.told file.cursor) where
  -- so many records are behind it
  pub start_read : (front : ℕ) (kept : Option Cursor) (x : Start) → IsStart old.state.table n name file.cursor front kept x → ReadTo old.world old.world file.cursor x.cursor x.behind
  start_read front kept x is = cases kept is.sound is.goes is.past
    where
      cases : (k : Option Cursor) → IfSome k (λ c. ForSome (item_at old.state.table.seats n) (λ s. IsReadingOf s.disk (reading_behind name front c)))
          → IfSome k (λ c. x ≡ record { cursor = c; behind = front }) → (k ≡ None → IsPast x.behind file.cursor x.cursor) → ReadTo old.world old.world file.cursor x.cursor x.behind
      cases None sound goes past = let p = past refl in read_start old.world file.cursor x.cursor x.behind p.left p.file has
      cases (Some c) sound goes past =
          let own = sound o.seat o.there in
          let same = reading_same o.seat.disk (reading_behind name front c) file.cursor own o.starts in
          rw goes (read_start old.world file.cursor c front same.1 same.0 has)

  -- and where the units are held it is as if they had been handed out
  pub start_taken : (line : ReadLine) (front : ℕ) (kept : Option Cursor) (x : Start) (lines : List (List ℕ)) → IsStart old.state.table n name file.cursor front kept x
      → front ≤ file.cursor.left → lines ≡ [] → (units : List Slot) → holds old units → TakenSoFar line front old.world old.world file.cursor x.cursor x.behind lines
  start_taken line front kept x lines is few none units h = cases kept is.there is.sound is.goes is.past
    where
      cases : (k : Option Cursor) → IfSome k (λ c. reading_on old.state.table n ≡ Some (reading_behind name front c))
          → IfSome k (λ c. ForSome (item_at old.state.table.seats n) (λ s. IsReadingOf s.disk (reading_behind name front c)))
          → IfSome k (λ c. x ≡ record { cursor = c; behind = front }) → (k ≡ None → IsPast x.behind file.cursor x.cursor)
          → TakenSoFar line front old.world old.world file.cursor x.cursor x.behind lines
      cases None there sound goes past = taken_past line front x.behind old.world file.cursor x.cursor lines has (past refl) is.few none
      cases (Some c) there sound goes past =
          let own = sound o.seat o.there in
          let same = reading_same o.seat.disk (reading_behind name front c) file.cursor own o.starts in
          let kept_is : o.seat.reading ≡ Some (reading_behind name front c) =
          sym (ap (λ (y : Option Seated). option_and_then (λ (z : Seated). z.reading) y) o.there) ∙ there in
          let behind = kept_behind old n o.seat name file.cursor o.there o.opens o.starts.first.unit (reading_behind name front c) kept_is refl few units h in
          rw goes (taken_behind line front front old.world file.cursor c lines behind same.0 has (omega arith) none)

-- ---- how it ends

pub taken_few : (count : Option ℕ) (left : ℕ) → taken_of count left ≤ left
taken_few None left = omega arith
taken_few (Some n) left = omega arith

-- no record is stacked, so the last isn't
pub last_none : (taken front count : ℕ) (last : Bool) → last ≡ (nat_lt 0 taken && (front + taken == count)) → taken ≡ 0 → last ≡ false
last_none taken front count last is none = is ∙ ap (λ (k : ℕ). nat_lt 0 k && (front + k == count)) none

-- it is where it is the file's
pub last_some : (taken front count : ℕ) (last : Bool) → last ≡ (nat_lt 0 taken && (front + taken == count)) → 1 ≤ taken → last ≡ (front + taken == count)
last_some taken front count last is some =
    let more : nat_lt 0 taken ≡ true = lt-ltb 0 taken some in
    is ∙ ap (λ (b : Bool). b && (front + taken == count)) more

-- there are some, so the file is read
some_read : (s : Machine) (line : ReadLine) (n : ℕ) (x : UnitFile) (vdev front taken t : ℕ) → taken ≡ suc t
    → read_taken s line n x vdev front taken
    ≡ reading silently x.unit x.file (front + taken)
    (stack_read s line n vdev (front + taken == length x.file.records) front taken (lines_taken line.style.strips front taken x.file.records)) (device_fault s vdev)
some_read s line n x vdev front taken t some =
    let no : (taken == 0) ≡ false = ne_eqb taken 0 (λ (none : taken ≡ 0). omega (arith, none, some)) in
    rw no refl

module _ (old : Spot) (words : List Token) (n : ℕ) (line : ReadLine) (file : OpenFile) (o : IsOpened old.state.table n line.range.input.name file) (front taken : ℕ)
    (front_is : front ≡ in_front old.state.places line.range file.vdev) (taken_is : taken ≡ taken_of line.range.count (file.count - front)) where
  abbrev pub tree : List Slot → Act Course
  tree units = read_on (machine_of old.state units) words line n

  abbrev wanted : File → ℕ
  wanted f = min (front + taken) (length f.records)

  -- behind all of them, whether the file's last is among them
  abbrev pub rest : Bool → List (List ℕ) → List Slot → Act Course
  rest last lines units = stack_read (machine_of old.state units) line n file.vdev last front taken lines

  abbrev pub behind : List (List ℕ) → List Slot → Act Course
  behind = rest (front + taken == file.count)

  abbrev then' : List Slot → File → Outcome → Act Course
  then' units f = handed silently f (wanted f) (behind (lines_taken line.style.strips front taken f.records) units) (device_fault (machine_of old.state units) file.vdev)

  few : taken ≤ file.count - front
  few = subst (λ (k : ℕ). k ≤ file.count - front) (sym taken_is) (taken_few line.range.count (file.count - front))

  -- so many may be passed over
  pub front_left : 1 ≤ taken → front ≤ file.cursor.left
  front_left some =
      let low = few in
      let count = o.count in
      omega arith

  found_so : (units : List Slot) (x : UnitFile) → vdev_of (machine_of old.state units) x.unit ≡ file.vdev → length x.file.records ≡ file.count
      → read_found (machine_of old.state units) line n x ≡ read_taken (machine_of old.state units) line n x file.vdev front taken
  found_so units x vdev long =
      let s = machine_of old.state units in
      let places = old.state.places in
      ap (λ (v : ℕ). read_taken s line n x v (in_front places line.range v) (taken_of line.range.count (length x.file.records - in_front places line.range v))) vdev
      ∙ (ap (λ (k : ℕ). read_taken s line n x file.vdev k (taken_of line.range.count (length x.file.records - k))) (sym front_is)
      ∙ (ap (λ (k : ℕ). read_taken s line n x file.vdev front (taken_of line.range.count (k - front))) long
      ∙ ap (λ (k : ℕ). read_taken s line n x file.vdev front k) (sym taken_is)))

  on_file : (units : List Slot) (m : Minidisk) (f : File) → slice_get units o.seat.letter.unit ≡ Some (Settled (Volume m)) → file_named line.range.input.name m.files ≡ Some f
      → length f.records ≡ file.count → tree units ≡ read_taken (machine_of old.state units) line n (record { unit = o.seat.letter.unit; file = f }) file.vdev front taken
  on_file units m f slot named long =
      let letter = letter_is old.state.table n o.seat o.there in
      rw (letter, slot, named)
      (found_so units (record { unit = o.seat.letter.unit; file = f }) (opened_device old.state units n line.range.input.name file o) long)

  reads : (t : ℕ) → taken ≡ suc t → Reads old file.cursor tree o.seat.letter.unit wanted then'
  reads t some = opened_reads old n line.range.input.name file o tree wanted then' (λ f. omega arith)
      (λ units m f slot named long.
      let s = machine_of old.state units in
      let u = o.seat.letter.unit in
      let low = few in
      let all : front + taken ≡ min (front + taken) (length f.records) = omega arith in
      on_file units m f slot named long
      ∙ (some_read s line n (record { unit = u; file = f }) file.vdev front taken t some
      ∙ (ap (λ (k : ℕ). reading silently u f (front + taken) (rest (front + taken == k) (lines_taken line.style.strips front taken f.records) units) (device_fault s file.vdev)) long
      ∙ ap (λ (k : ℕ). reading silently u f k (behind (lines_taken line.style.strips front taken f.records) units) (device_fault s file.vdev)) all)))

  -- no record is wanted
  pub taken_nothing : taken ≡ 0 → Comes old old tree (rest false [])
  taken_nothing none = comes_same old tree (rest false [])
      (λ units h.
      let k = meets_at old units n o.seat o.there h in
      let m = k.met.minidisk in
      let image = now k.journal o.seat.disk.volume.unit in
      let f = o.opens image m k.met.is.stands in
      let s = machine_of old.state units in
      let x : UnitFile = record { unit = o.seat.letter.unit; file = f.0 } in
      on_file units m f.0 k.met.slot f.1 (left_long image file.cursor f.0.records f.2 ∙ sym o.count)
      ∙ (ap (λ (k : ℕ). read_taken s line n x file.vdev front k) none ∙ ap (λ (k : ℕ). stack_read s line n file.vdev false front k []) (sym none)))

  among : (mid : Spot) (c : Cursor) (k : ℕ) (lines : List (List ℕ)) (so : TakenSoFar line front old.world mid.world file.cursor c k lines) → k ≤ front + taken
      → AreAmong wanted so.handed.front
  among mid c k lines so low f more is =
      let long : length f.records ≡ length so.handed.front + length more = ap length is ∙ length-append so.handed.front more in
      let so_long = so.long in
      omega arith

  -- a further record is there
  pub taken_left : 1 ≤ taken → (mid : Spot) (c : Cursor) (k : ℕ) → ReadTo old.world mid.world file.cursor c k → k < front + taken → 1 ≤ c.left
  taken_left some mid c k so less =
      let low = few in
      let left = so.left in
      let count = o.count in
      omega arith

  -- all that are wanted were handed out
  pub taken_all : (t : ℕ) → taken ≡ suc t → (mid : Spot) (c : Cursor) (k : ℕ) (lines : List (List ℕ)) → TakenSoFar line front old.world mid.world file.cursor c k lines → k ≡ front + taken
      → mid.state ≡ old.state → Comes old mid tree (behind lines)
  taken_all t some mid c k lines so all same =
      let so_long : length so.handed.front ≡ front + taken = so.long ∙ all in
      read_wanted silent old mid mid file.cursor c tree o.seat.letter.unit wanted (only (behind lines) then') (behind lines)
      (narrowed old mid file.cursor c tree o.seat.letter.unit wanted then' (behind lines) (reads t some) so.handed
      (λ units f more is. ap (λ (l : List (List ℕ)). behind l units)
      (ap (map (stacked_line line.style.strips)) (sym (drop-take front taken f.records)
      ∙ ap (drop front) (ap (λ (k : ℕ). take k f.records) (sym so_long) ∙ (ap (take (length so.handed.front)) is ∙ take-append_seam so.handed.front more)))
      ∙ sym so.lines_are)))
      so.handed (reads_none mid.world) same
      (λ f more is.
      let long : length f.records ≡ length so.handed.front + length more = ap length is ∙ length-append so.handed.front more in
      omega arith)
      (λ units f. refl)

  -- the file couldn't be read any further, which is typed
  pub taken_unread : (t : ℕ) → taken ≡ suc t → (mid read' new : Spot) (c d : Cursor) (k : ℕ) (lines : List (List ℕ)) (why : DiskFault) (r : Result declared.Course End)
      → TakenSoFar line front old.world mid.world file.cursor c k lines → k ≤ front + taken → (why ≡ failed.Device) ⊎ (why ≡ failed.Altered) → Hands mid.world.told c d (Err why)
      → OnlyReads {T = Bool} mid.world read'.world failed.Device (Err why) → read'.state ≡ old.state
      → calls.Does read'.world new.world (saying (typed_line (message_text (unread_message why file.vdev)))) r said → IfOk r (λ x. x ≡ course.Went (pos (unread_code why)))
      → new.state ≡ read'.state → Acts old new tree r (course_of new.state)
  taken_unread t some mid read' new c d k lines why r so low fault hands looks same does went kept =
      unread_ends silent old mid read' new file.cursor c d tree o.seat.letter.unit wanted file.vdev then' r (reads t some) so.handed
      (only_read {T = Bool} mid.world read'.world failed.Device (Err why) looks) same kept why fault hands looks.cause (among mid c k lines so low)
      (λ units f j. ap (λ (s : State). refusal_tree s (M105 (device_text file.vdev)) (pos 100) units) (sym same)) does went

  -- there was no memory to keep a line
  pub taken_starved : (mid new : Spot) (c : Cursor) (k : ℕ) → ReadTo old.world mid.world file.cursor c k
      → HasRead mid.world new.world → new.state.table ≡ old.state.table → Acts {T = declared.Course} old new tree (Err Memory) (course_of new.state)
  taken_starved mid new c k so read same =
      let all = reads_then old.world mid.world new.world so.read read in
      let edges = all.edges in
      cut_off old new tree (course_of new.state) all.told all.faults (omega arith) same

  -- the lines that are wanted are those of the file that is found
  lines_here : (units : List Slot) → holds old units
      → (records : List (List ℕ)) × OfImage old.world.told file.cursor.unit (λ image. HasLeft image file.cursor records)
      × (lines_on (machine_of old.state units) line n ≡ lines_taken line.style.strips front taken records)
  lines_here units h =
      let k = meets_at old units n o.seat o.there h in
      let m = k.met.minidisk in
      let image = now k.journal o.seat.disk.volume.unit in
      let f = o.opens image m k.met.is.stands in
      let s = machine_of old.state units in
      let x : UnitFile = record { unit = o.seat.letter.unit; file = f.0 } in
      let long : length f.0.records ≡ file.count = left_long image file.cursor f.0.records f.2 ∙ sym o.count in
      let letter = letter_is old.state.table n o.seat o.there in
      let slot = k.met.slot in
      let named = f.1 in
      let here : lines_on s line n ≡ lines_found s line x = rw (letter, slot, named) refl in
      let took = λ (j t : ℕ). lines_taken line.style.strips j t f.0.records in
      let left = λ (j : Journal) (is : old.world.told ≡ Some j).
      subst (λ (z : Journal). HasLeft (image_of (contents_of z file.cursor.unit)) file.cursor f.0.records) (same_Some k.journal j (sym k.told ∙ is))
      (subst (λ (u : ℕ). HasLeft (image_of (contents_of k.journal u)) file.cursor f.0.records) (sym o.starts.first.unit) f.2) in (
        f.0.records,
        left,
        here
            ∙ (ap (λ (v : ℕ). took (in_front old.state.places line.range v) (taken_of line.range.count (length f.0.records - in_front old.state.places line.range v)))
            (opened_device old.state units n line.range.input.name file o)
            ∙ (ap (λ (j : ℕ). took j (taken_of line.range.count (length f.0.records - j))) (sym front_is)
            ∙ (ap (λ (j : ℕ). took front (taken_of line.range.count (j - front))) long ∙ ap (took front) (sym taken_is)))),
      )

  -- none is wanted
  pub lines_none : taken ≡ 0 → (units : List Slot) → holds old units → [] ≡ lines_on (machine_of old.state units) line n
  lines_none none units h =
      let l = lines_here units h in
      sym (l.2 ∙ ap (λ (t : ℕ). lines_taken line.style.strips front t l.0) none)

  -- all that are wanted were handed out
  pub lines_all : (mid : Spot) (c : Cursor) (k : ℕ) (lines : List (List ℕ)) → TakenSoFar line front old.world mid.world file.cursor c k lines → k ≡ front + taken
      → (units : List Slot) → holds old units → lines ≡ lines_on (machine_of old.state units) line n
  lines_all mid c k lines so all units h =
      let l = lines_here units h in
      let j = meets_at old units n o.seat o.there h in
      let s = so.handed.left j.journal j.told l.0 (l.1 j.journal j.told) in
      let so_long : length so.handed.front ≡ front + taken = so.long ∙ all in
      so.lines_are
      ∙ sym (ap (map (stacked_line line.style.strips)) (sym (drop-take front taken l.0)
      ∙ ap (drop front) (ap (λ (i : ℕ). take i l.0) (sym so_long) ∙ (ap (take (length so.handed.front)) s.is ∙ take-append_seam so.handed.front s.more))))
      ∙ sym l.2

-- ---- the lines are stacked

-- these are the lines that the machine has
pub stacks_read : (old : Spot) (new : State) (line : ReadLine) (on : Machine → List (List ℕ)) (lines : List (List ℕ))
    → StacksSome line.style.end lines old.state.stack new.stack → ((units : List Slot) → holds old units → lines ≡ on (machine_of old.state units)) → StacksRead old new line on
stacks_read old new line on lines some is units h =
    subst (λ (l : List (List ℕ)). StacksSome line.style.end l old.state.stack new.stack) (is units h) some

-- none was stacked
pub stacks_nothing : (old : Spot) (line : ReadLine) (on : Machine → List (List ℕ)) → StacksRead old old.state line on
stacks_nothing old line on units h = stacks_none line.style.end (on (machine_of old.state units)) old.state.stack

-- another code than 0 ends the command
ends_so : (next : Machine → Act Course) (s : State) (units : List Slot) (x : declared.Course) → (x ≡ course.Went (pos 0) → ⊥) → if_good next (course_of s units x) ≡ Done (course_of s units x)
ends_so next s units (course.Went (pos zero)) other = absurd (other refl)
ends_so next s units (course.Went (pos (suc k))) other = refl
ends_so next s units (course.Went (negsuc k)) other = refl
ends_so next s units course.OutOfTurns other = refl

module _ (old mid : Spot) (line : ReadLine) (n vdev : ℕ) (last : Bool) (front taken : ℕ) (lines : List (List ℕ)) where
  abbrev stack_tree : List Slot → Act Course
  stack_tree units = stacking (machine_of old.state units) line.style.end lines

  abbrev read_tree : List Slot → Act Course
  read_tree units = stack_read (machine_of old.state units) line n vdev last front taken lines

  abbrev next : Machine → Act Course
  next = read_done line n vdev last front taken

  came : (x : declared.Course) → Acts old mid stack_tree (Ok x) (course_of mid.state) → Comes old mid read_tree (λ units. if_good next (course_of mid.state units x))
  came x a = comes_in {T = declared.Course} old mid stack_tree (if_good next) x (course_of mid.state) a

  -- not all of them had room
  pub stacked_ends : (x : declared.Course) → Acts old mid stack_tree (Ok x) (course_of mid.state) → (x ≡ course.Went (pos 0) → ⊥) → Acts old mid read_tree (Ok x) (course_of mid.state)
  stacked_ends x a other =
      acts_done old mid read_tree x (course_of mid.state)
      (comes_then old mid mid read_tree (λ units. if_good next (course_of mid.state units x)) (λ units. Done (course_of mid.state units x)) (came x a)
      (comes_same mid (λ units. if_good next (course_of mid.state units x)) (λ units. Done (course_of mid.state units x)) (λ units h. ends_so next mid.state units x other)))

  -- all had, and the command ended
  pub stacked_then : (new : Spot) (x : declared.Course) (r : Result declared.Course End) → Acts old mid stack_tree (Ok x) (course_of mid.state) → x ≡ course.Went (pos 0)
      → Acts mid new (λ units. next (machine_of mid.state units)) r (course_of new.state) → Acts old new read_tree r (course_of new.state)
  stacked_then new x r a is b =
      acts_after old mid new read_tree (λ units. next (machine_of mid.state units)) r (course_of new.state)
      (subst (λ (y : declared.Course). Comes old mid read_tree (λ units. if_good next (course_of mid.state units y))) is (came x a)) b

  pub stacked_stops : (e : End) → Acts {T = declared.Course} old mid stack_tree (Err e) (course_of mid.state)
      → Acts {T = declared.Course} old mid read_tree (Err e) (course_of mid.state)
  stacked_stops e a = acts_stop old mid stack_tree (if_good next) e (course_of mid.state) (course_of mid.state) a

-- ---- the command's end

module _ (old : Spot) (line : ReadLine) (n vdev : ℕ) (last : Bool) (front taken : ℕ) where
  abbrev done_tree : List Slot → Act Course
  done_tree units = read_done line n vdev last front taken (machine_of old.state units)

  -- whether the file goes
  abbrev pub Goes : Bool → Type 0
  Goes b = (units : List Slot) → holds old units → (last && is_consumed (machine_of old.state units) n line.range.input.name) ≡ b

  abbrev with_places : Places → Spot
  with_places p = record { world = old.world; state = record old.state { places = p } }

  stays : Goes false → Comes old old done_tree (λ units. keep_place line vdev front taken (machine_of old.state units))
  stays not = comes_same old done_tree (λ units. keep_place line vdev front taken (machine_of old.state units)) (λ units h. (let e = not units h in rw e refl))

  -- it stays, and its place is kept
  pub read_kept : (p : Places) (y : declared.Course) → Goes false → p ≡ places_behind line vdev (front + taken) old.state.places
      → y ≡ course.Went (pos (code_of_taken line.range.count taken)) → Acts old (with_places p) done_tree (Ok y) (course_of (with_places p).state)
  read_kept p y not places codes =
      acts_after old old (with_places p) done_tree (λ units. keep_place line vdev front taken (machine_of old.state units)) (Ok y) (course_of (with_places p).state) (stays not)
      (acts_stayed old (with_places p) (λ units. keep_place line vdev front taken (machine_of old.state units)) y (course_of (with_places p).state) refl refl
      (λ units h. (
        h,
        ap (λ (q : Places). Done (Went (record (machine_of old.state units) { places = q }) (pos (code_of_taken line.range.count taken)))) (sym places)
            ∙ ap (λ (z : declared.Course). Done (course_of (with_places p).state units z)) (sym codes),
      ))
      (λ usable. usable))

  -- there was no memory for it
  pub read_starved : (p : Places) → p ≡ old.state.places → Acts {T = declared.Course} old (with_places p) done_tree (Err Memory) (course_of (with_places p).state)
  read_starved p same =
      subst (λ (q : Places). Acts {T = declared.Course} old (with_places q) done_tree (Err Memory) (course_of (with_places q).state)) (sym same)
      (no_memory old old done_tree done_tree (course_of old.state) (comes_none old done_tree))

  -- it goes
  pub read_erases : (new : Spot) (r : Result declared.Course End) → Goes true → Acts old new (λ units. erase_read line n taken (machine_of old.state units)) r (course_of new.state)
      → Acts old new done_tree r (course_of new.state)
  read_erases new r goes a =
      acts_same old new done_tree (λ units. erase_read line n taken (machine_of old.state units)) r (course_of new.state) (λ units h. (let e = goes units h in rw e refl)) a

-- ---- the erasure

module _ (old new : Spot) (line : ReadLine) (n taken : ℕ) where
  abbrev update : List Slot → Act Stepped
  update = updating_tree old.state n (Drop line.range.input.name)

  abbrev erase_tree : List Slot → Act Course
  erase_tree units = erase_read line n taken (machine_of old.state units)

  pub erased : (x : declared_updated.Updated) (y : declared.Course) → Acts old new update (Ok x) (updated_of new.state) → x ≡ was.Done
      → y ≡ course.Went (pos (code_of_taken line.range.count taken)) → Acts old new erase_tree (Ok y) (course_of new.state)
  erased x y a is codes =
      rw codes
      (acts_done old new erase_tree (course.Went (pos (code_of_taken line.range.count taken))) (course_of new.state)
      (comes_in old new update (unless_failed (read_ended line taken)) was.Done (updated_of new.state)
      (subst (λ (z : declared_updated.Updated). Acts old new update (Ok z) (updated_of new.state)) is a)))

  pub erasure_ends : (x : declared_updated.Updated) (y : declared.Course) → Acts old new update (Ok x) (updated_of new.state) → x ≡ was.Stopped y
      → Acts old new erase_tree (Ok y) (course_of new.state)
  erasure_ends x y a is =
      acts_done old new erase_tree y (course_of new.state)
      (comes_in old new update (unless_failed (read_ended line taken)) (was.Stopped y) (updated_of new.state)
      (subst (λ (z : declared_updated.Updated). Acts old new update (Ok z) (updated_of new.state)) is a))

  pub erasure_cut : (e : End) → Acts {T = declared_updated.Updated} old new update (Err e) (updated_of new.state)
      → Acts {T = declared.Course} old new erase_tree (Err e) (course_of new.state)
  erasure_cut e a = acts_stop old new update (unless_failed (read_ended line taken)) e (updated_of new.state) (course_of new.state) a

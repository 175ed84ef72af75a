-- DISKR takes the reading that the disk of a letter keeps, hands out records, and leaves another reading.
use Rattle.std.proofs.Common.{◌≡◌, ◌⊎◌, ◌∙◌, ◌+◌, ◌-◌, ◌≤◌, ℕ, List, [], Bool, true, false, Option, Some, None, Result, Ok, Err, inl, inr, slice_get, refl, sym, ap, subst, pos, arith}
use Rattle.std.specs.Prelude.{◌==◌, IfOk}
use Rattle.std.specs.Option.{ForSome, option_and_then}
use Rattle.std.proofs.lemmas.Option.{same_Some}
use Rattle.cms_names.specs.declared.name.Name.{Name}
use Rattle.cms_model.specs.Acts.{Act, saying, typed_line}
use Rattle.cms_model.specs.Slots.{Slot}
use Rattle.cms_edf.specs.FilesTold.{infos_in}
use Rattle.cms_disk.specs.Cursors.{Cursor}
use Rattle.cms_disk.specs.Disks.{place_of}
use Rattle.cms_disk.specs.declared.fault.DiskFault.{DiskFault}
use Rattle.cms_disk.specs.declared.fault.DiskFault.TheVariants as failed
use Rattle.cms_line.specs.Messages.{message_text}
use Rattle.cms_line.specs.declared.token.Token.{Token}
use Rattle.cms_world.specs.Seen.{OnlyReads, Seen}
use Rattle.cms_search.specs.Calls.{Acts, Comes, IsLater, IsUsable, IsUsableTable, Spot, Usable, course_of, holds, machine_of, said}
use Rattle.cms_search.specs.Calls as calls
use Rattle.cms_search.specs.DeviceSteps.{HasRead}
use Rattle.cms_search.specs.Machine.{Course, Machine}
use Rattle.cms_search.specs.Refusals.{unread_code, unread_message}
use Rattle.cms_search.specs.Searches.{item_at}
use Rattle.cms_search.specs.Tables.{AccessTable, IsReadingOf, Seated, reading_on, with_reading}
use Rattle.cms_search.specs.declared.readings.KeptReading.{KeptReading}
use Rattle.cms_search.specs.declared.state.Course as declared
use Rattle.cms_search.specs.declared.state.Course.TheVariants as course
use Rattle.cms_search.specs.declared.state.End.{End}
use Rattle.cms_search.specs.declared.state.End.TheVariants.{Memory}
use Rattle.cms_search.specs.declared.state.State.{State}
use Rattle.cms_search.proofs.Acts.{acts_after, comes_none, comes_then, later_does, later_then, usable_later}
use Rattle.cms_search.proofs.DiskReadings.{acts_given, comes_given, comes_reading, left_behind, usable_reading}
use Rattle.cms_search.proofs.HandedRecords.{Hands, caused, later_read, only_read, reads_then}
use Rattle.cms_search.proofs.Seats.{item_here, item_within, seat_as, table_reading, with_reading_is}
use Rattle.cms_files.specs.OpenFiles.{IsOpened}
use Rattle.cms_files.specs.Told.{info_named}
use Rattle.cms_files.specs.declared.open_files.OpenFile.{OpenFile}
use Rattle.cms_files.proofs.OpenedFiles.{opened_open}
use Rattle.cms_execio.specs.Diskr.{in_front, lines_on, read_on, stack_read, taken_of}
use Rattle.cms_execio.specs.Starts.{GoesOnBehind, KeepsBehind, reading_behind, table_behind}
use Rattle.cms_execio.specs.declared.line.ReadLine.{ReadLine}
use Rattle.cms_execio.specs.declared.start.Start.{Start}
use Rattle.cms_execio.proofs.Takings.{IsStart, ReadTo, TakenSoFar, front_left, lines_all, start_taken, taken_all, taken_starved, taken_unread, tree}

-- the file is open as before where the disk keeps another reading
pub opened_reading : (t t' : AccessTable) (n : ℕ) (r : Option KeptReading) (name : Name) (file : OpenFile) → IsOpened t n name file → t' ≡ with_reading n r t → IsOpened t' n name file
opened_reading t t' n r name file o is =
    let table : t' ≡ table_reading t n o.seat r = is ∙ with_reading_is t n o.seat r o.there in
    subst (λ (x : AccessTable). IsOpened x n name file) (sym table) (record {
      seat = seat_as o.seat o.seat.disk r;
      there = item_here t.seats n (Some (seat_as o.seat o.seat.disk r)) (item_within t.seats n o.seat o.there);
      device = o.device;
      opens = o.opens;
      starts = o.starts;
      count = o.count;
      unread = o.unread;
    })

-- and the same is told of it
info_seated : (t : AccessTable) (n : ℕ) (name : Name) (s : Seated) → item_at t.seats n ≡ Some s
    → info_named t n name ≡ option_and_then (λ (k : ℕ). slice_get (infos_in s.disk.volume) k) (place_of name s.disk.volume)
info_seated t n name s there =
    ap (λ (x : Option Seated). option_and_then (λ (y : Seated). option_and_then (λ (k : ℕ). slice_get (infos_in y.disk.volume) k) (place_of name y.disk.volume)) x) there

pub told_reading : (t t' : AccessTable) (n : ℕ) (r : Option KeptReading) (name : Name) (file : OpenFile) → IsOpened t n name file → t' ≡ with_reading n r t → info_named t' n name ≡ info_named t n name
told_reading t t' n r name file o is =
    let table : t' ≡ table_reading t n o.seat r = is ∙ with_reading_is t n o.seat r o.there in
    let seat = seat_as o.seat o.seat.disk r in
    ap (λ (x : AccessTable). info_named x n name) table
    ∙ (info_seated (table_reading t n o.seat r) n name seat (item_here t.seats n (Some seat) (item_within t.seats n o.seat o.there)) ∙ sym (info_seated t n name o.seat o.there))

pub told_behind : (t t' : AccessTable) (n : ℕ) (name : Name) (file : OpenFile) (count : ℕ) (drops : Bool) (c : Cursor) → IsOpened t n name file → t' ≡ table_behind t n name count drops c
    → info_named t' n name ≡ info_named t n name
told_behind t t' n name file count true c o is = ap (λ (x : AccessTable). info_named x n name) is
told_behind t t' n name file count false c o is = told_reading t t' n (Some (reading_behind name count c)) name file o is

-- a command that ends so behind a file that couldn't be read
pub unread_behind : (t : AccessTable) (n : ℕ) (name : Name) (count : ℕ) (why : DiskFault) (x : declared.Course) → (why ≡ failed.Device) ⊎ (why ≡ failed.Altered)
    → x ≡ course.Went (pos (unread_code why)) → GoesOnBehind t n name count x
unread_behind t n name count why x (inl device) went = inl (went ∙ ap (λ (e : DiskFault). course.Went (pos (unread_code e))) device)
unread_behind t n name count why x (inr altered) went = inr (inl (went ∙ ap (λ (e : DiskFault). course.Went (pos (unread_code e))) altered))

-- what is said of each value is said of a result
pub ok_each : {T E : Type 0} (r : Result T E) (P : T → Type 0) → ((x : T) → P x) → IfOk r P
ok_each (Ok x) P all = all x
ok_each (Err e) P all = tt

-- a spot with this world and this table
abbrev pub with_table : Spot → Seen → AccessTable → Spot
with_table old w t = record { world = w; state = record old.state { table = t } }

module _ (old : Spot) (words : List Token) (n : ℕ) (line : ReadLine) (file : OpenFile) (o : IsOpened old.state.table n line.range.input.name file) (front taken : ℕ)
    (front_is : front ≡ in_front old.state.places line.range file.vdev) (taken_is : taken ≡ taken_of line.range.count (file.count - front)) (some : 1 ≤ taken)
    (usable : IsUsable old) (t : AccessTable) (dropped : t ≡ with_reading n None old.state.table) (kept : Option Cursor) (x : Start)
    (start : IsStart old.state.table n line.range.input.name file.cursor front kept x) where
  abbrev base : Spot
  base = with_table old old.world t

  opened : IsOpened t n line.range.input.name file
  opened = opened_reading old.state.table t n None line.range.input.name file o dropped

  abbrev old_tree : List Slot → Act Course
  old_tree = tree old words n line file o front taken front_is taken_is

  abbrev base_tree : List Slot → Act Course
  base_tree = tree base words n line file opened front taken front_is taken_is

  -- nothing is kept at first
  drops : Comes old base old_tree base_tree
  drops = comes_reading old base n o.seat None (λ (s : Machine). read_on s words line n) (record { there = o.there; table = dropped; state = refl; world = refl }) tt (λ units k. tt)

  -- what was handed out before is known where the units are held
  abbrev Begun : Type 0
  Begun = TakenSoFar line front old.world old.world file.cursor x.cursor x.behind []

  begun : (units : List Slot) → holds old units → Begun
  begun units h =
      start_taken old n line.range.input.name file o (opened_open old n line.range.input.name file o usable) line front kept x [] start
      (front_left old words n line file o front taken front_is taken_is some) refl units h

  module _ (mid : Seen) (c : Cursor) (k : ℕ) (lines : List (List ℕ)) (so : ReadTo old.world mid file.cursor c k) (come : Begun → TakenSoFar line front old.world mid file.cursor c k lines) where
    -- the file couldn't be read any further
    pub resumed_unread : (now' : Seen) (new : Spot) (d : Cursor) (why : DiskFault) (r : Result declared.Course End) → k ≤ front + taken → (why ≡ failed.Device) ⊎ (why ≡ failed.Altered)
        → Hands mid.told c d (Err why) → OnlyReads {T = Bool} mid now' failed.Device (Err why)
        → calls.Does now' new.world (saying (typed_line (message_text (unread_message why file.vdev)))) r said → IfOk r (λ y. y ≡ course.Went (pos (unread_code why)))
        → new.state ≡ base.state → Acts old new old_tree r (course_of new.state)
    resumed_unread now' new d why r low fault hands looks does went same =
        let read = reads_then old.world mid now' so.read (only_read {T = Bool} mid now' failed.Device (Err why) looks) in
        let edges = read.edges in
        let later = later_then old.world now' new.world (later_read old.world now' read)
        (later_does now' new.world (saying (typed_line (message_text (unread_message why file.vdev)))) r said does) in
        acts_given old new old_tree r (course_of new.state) Begun begun
        (λ b. acts_after old base new old_tree base_tree r (course_of new.state) drops
        (taken_unread base words n line file opened front taken front_is taken_is (taken - 1) (omega (arith, some)) (with_table old mid t) (with_table old now' t) new c d k lines why r (come b)
        low fault hands looks refl does went same))
        later (λ u. usable_later base new later (ap (λ (s : State). s.table) same) (drops.usable u)) (caused old.world.edges now'.edges new.world.edges r (omega (arith, edges)) does.cause)

    -- there was no memory to keep a line
    pub resumed_starved : (now' : Seen) → HasRead mid now'
        → Acts {T = declared.Course} old (with_table old now' t) old_tree (Err Memory) (course_of (with_table old now' t).state)
    resumed_starved now' read =
        let new = with_table old now' t in
        acts_after old base new old_tree base_tree (Err Memory) (course_of new.state) drops
        (taken_starved base words n line file opened front taken front_is taken_is (with_table old mid t) new c k so read refl)

    module _ (all : k ≡ front + taken) where
      -- the reading that is left
      abbrev left : KeptReading
      left = reading_behind line.range.input.name (front + taken) c

      own : IsReadingOf opened.seat.disk left
      own = record { first = file.cursor; starts = opened.starts; same = so.file; left = subst (λ (i : ℕ). i + c.left ≡ file.cursor.left) all so.left }

      -- it is one of the disk's
      pub left_sound : ForSome (item_at t.seats n) (λ s. IsReadingOf s.disk left)
      left_sound s at = subst (λ (z : Seated). IsReadingOf z.disk left) (same_Some opened.seat s (sym opened.there ∙ at)) own

      -- where it is kept
      pub left_kept : (forgets : Bool) (t' : AccessTable) → forgets ≡ false → t' ≡ table_behind t n line.range.input.name (front + taken) forgets c
          → KeepsBehind t' n line.range.input.name (front + taken)
      left_kept forgets t' none behind =
          let is : t' ≡ with_reading n (Some left) t = behind ∙ ap (λ (b : Bool). table_behind t n line.range.input.name (front + taken) b c) none in
          let table = is ∙ with_reading_is t n opened.seat (Some left) opened.there in
          let there = item_here t.seats n (Some (seat_as opened.seat opened.seat.disk (Some left))) (item_within t.seats n opened.seat opened.there) in
          (c, ap (λ (z : AccessTable). reading_on z n) table ∙ ap (λ (y : Option Seated). option_and_then (λ (z : Seated). z.reading) y) there)

      -- all that are wanted were handed out
      pub resumed_lines : (units : List Slot) → holds old units → lines ≡ lines_on (machine_of old.state units) line n
      resumed_lines units h = lines_all old words n line file o front taken front_is taken_is (with_table old mid t) c k lines (come (begun units h)) all units h

      module _ (last : Bool) (last_is : last ≡ (front + taken == file.count)) (forgets : Bool) (t' : AccessTable)
          (behind : t' ≡ table_behind t n line.range.input.name (front + taken) forgets c) where
        abbrev next : Machine → Act Course
        next s = stack_read s line n file.vdev last front taken lines

        abbrev at_mid : Spot
        at_mid = with_table old mid t

        abbrev then' : Spot
        then' = with_table old mid t'

        abbrev Leaves : AccessTable → Type 0
        Leaves z = Comes at_mid (with_table old mid z) (λ units. next (machine_of at_mid.state units)) (λ units. next (machine_of (with_table old mid z).state units))

        leaves : (b : Bool) → t' ≡ table_behind t n line.range.input.name (front + taken) b c → TakenSoFar line front old.world mid file.cursor c k lines → Leaves t'
        leaves true is so_far = subst (λ (z : AccessTable). Leaves z) (sym is) (comes_none at_mid (λ units. next (machine_of at_mid.state units)))
        leaves false is so_far =
            comes_reading at_mid then' n opened.seat (Some left) next (record { there = opened.there; table = is; state = refl; world = refl }) own
            (λ units m. left_behind at_mid n opened.seat line.range.input.name file.cursor opened.there opened.opens opened.starts.first.unit old.world c (front + taken) so_far.handed
            (so_far.long ∙ all) so.read.told units m)

        usable_left : (b : Bool) → t' ≡ table_behind t n line.range.input.name (front + taken) b c → Usable mid.told t → Usable mid.told t'
        usable_left true is u = subst (λ (z : AccessTable). Usable mid.told z) (sym is) u
        usable_left false is u =
            let table : t' ≡ table_reading t n opened.seat (Some left) = is ∙ with_reading_is t n opened.seat (Some left) opened.there in
            λ j told. subst (λ (z : AccessTable). IsUsableTable j z) (sym table) (usable_reading j t n opened.seat (Some left) opened.there (u j told))

        -- so the command goes on with the lines
        pub resumed_all : Comes old then' old_tree (λ units. next (machine_of then'.state units))
        resumed_all =
            let later : IsLater old.world mid = later_read old.world mid so.read in
            comes_given old then' old_tree (λ units. next (machine_of then'.state units)) Begun begun
            (λ b.
            let so_far = come b in
            let handed = subst (λ (z : Bool). Comes base at_mid base_tree (λ units. stack_read (machine_of base.state units) line n file.vdev z front taken lines)) (sym last_is)
            (taken_all base words n line file opened front taken front_is taken_is (taken - 1) (omega (arith, some)) at_mid c k lines so_far all refl) in
            comes_then old base then' old_tree base_tree (λ units. next (machine_of then'.state units)) drops
            (comes_then base at_mid then' base_tree (λ units. next (machine_of at_mid.state units)) (λ units. next (machine_of then'.state units)) handed (leaves forgets behind so_far)))
            later (λ u. usable_left forgets behind (usable_later base at_mid later refl (drops.usable u)))

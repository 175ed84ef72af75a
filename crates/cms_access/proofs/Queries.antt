-- QUERY's lines, as the table tells them.
use Rattle.std.proofs.Common.{◌≡◌, ◌≤◌, ◌<◌, ◌∙◌, ℕ, suc, ◌+◌, ◌-◌, List, [], ◌∷◌, ◌++◌, Result, Ok, Err, length, map, take, refl, sym, ap, subst, arith}
use Rattle.std.specs.Prelude.{Bool, true, false, cond, not, ◌&&◌, ◌==◌, Option, Some, None, IfOk, codes, count_by, is_some, pos, replicate, slice_get}
use Rattle.std.specs.List.{flat_map}
use Rattle.std.proofs.lemmas.List.Sums.{sum_by-cons, sum_by_more}
use Rattle.std.proofs.lemmas.Option.{get_or_from_slice_get, slice_get_within}
use Rattle.std.specs.Option.{option_map, option_map_or}
use Rattle.std.proofs.lemmas.List.{length-map}
use Rattle.cms_journal.specs.Journal.{Journal}
use Rattle.cms_journal.specs.Told.{Told}
use Rattle.cms_ebcdic.specs.CodePage.{code_of, code_page}
use Rattle.cms_text.specs.Texts.{ebcdic}
use Rattle.cms_map.specs.Bits.{free_blocks}
use Rattle.cms_model.specs.Minidisks.{File, Minidisk}
use Rattle.cms_model.specs.Sizes.{free_count}
use Rattle.cms_model.specs.LawsUpdates.{now}
use Rattle.cms_model.specs.Acts.{Act, Done, bind, saying, typed_line}
use Rattle.cms_model.specs.Slots.{Slot}
use Rattle.cms_held.specs.HeldVolumes.{HeldFile, HeldVolume}
use Rattle.cms_held.specs.LawsHeld.{HasRoomOf}
use Rattle.cms_held.proofs.HeldFiles.{opened_has_room}
use Rattle.cms_edf.specs.FilesTold.{info_of, infos_in}
use Rattle.cms_edf.specs.declared.held.FileInfo.{FileInfo}
use Rattle.cms_disk.specs.Disks.{Accessed, IsMinidisk}
use Rattle.cms_disk.specs.declared.unit.UnitInfo.{UnitInfo}
use Rattle.cms_disk.proofs.FilesFound.{stands_tells}
use Rattle.cms_line.specs.Messages.{message_text}
use Rattle.cms_line.specs.declared.message.Message.TheVariants.{M069}
use Rattle.cms_text.specs.Texts.{coded}
use Rattle.cms_search.specs.Calls.{Acts, Does, Holds, Spot, course_of, itself, machine_of, said}
use Rattle.cms_search.specs.Held.{HoldsTable}
use Rattle.cms_search.specs.Machine.{Course, Letter, Machine, Went, letter_at, minidisk_in, typing}
use Rattle.cms_search.specs.Refusals.{no_disk}
use Rattle.cms_search.specs.Searches.{item_at, places_from}
use Rattle.cms_search.specs.Shows.{device_of}
use Rattle.cms_search.specs.Tables.{AccessTable, Seated, letters_of}
use Rattle.cms_search.specs.Texts.{letter_text}
use Rattle.cms_search.specs.Units.{vdev_of}
use Rattle.cms_search.specs.declared.state.Course as declared
use Rattle.cms_search.specs.declared.state.Course.TheVariants as course
use Rattle.cms_search.specs.declared.state.Device.{Device}
use Rattle.cms_search.specs.declared.table.Seat.{Seat}
use Rattle.cms_search.specs.declared.state.End.{End}
use Rattle.cms_search.specs.declared.state.State.{State}
use Rattle.cms_world.specs.Seen.{Seen}
use Rattle.cms_search.proofs.Acts.{acts_same}
use Rattle.cms_search.proofs.LetterDisks.{meets}
use Rattle.cms_search.proofs.Lined.{acts_typed, nothing, reached_none, reached_off, reached_on, reached_to, typing_first, typing_more, typing_none, typing_then, Reached}
use Rattle.cms_search.proofs.Released.{get_map, letter_told}
use Rattle.cms_search.proofs.StateCalls.{acts_refused}
use Rattle.cms_search.proofs.Talks.{silent}
use Rattle.cms_access.specs.Query.{all_lines, disk_line, disk_text, header, line_of, query_letter, search_line, search_text, seen_count, status, with_parent}
use Rattle.cms_access.specs.Shown.{count_seen, device_in, lines_from, seat_lines, seat_text}
use Rattle.cms_access.specs.declared.shown.Shown.{Shown}
use Rattle.cms_access.specs.declared.shown.Shown.TheVariants.{Disk, Search}

-- ---- columns

pub status_coded : (read_only : Bool) → status read_only ≡ cond read_only (coded (codes "R/O")) (coded (codes "R/W"))
unfolding ebcdic code_of code_page
status_coded true = refl
status_coded false = refl

pub status_fills : (read_only : Bool) → status read_only ++ replicate (3 - length (status read_only)) 0x40 ≡ status read_only
unfolding ebcdic code_of code_page
status_fills true = refl
status_fills false = refl

pub parent_text : (n p : ℕ) → with_parent n (Some p) ≡ (letter_text n ++ 0x61 ∷ []) ++ letter_text p
unfolding ebcdic code_of code_page
parent_text n p = refl

-- ---- the files that are seen

abbrev weighs : Bool → ℕ → ℕ
weighs b number = cond (not (b && (number == 0))) 1 0

pub count_more : (b : Bool) (v : HeldVolume) (k : ℕ) (i : FileInfo) → slice_get (infos_in v) k ≡ Some i
    → count_by (λ i. not (b && (i.number == 0))) (take (k + 1) (infos_in v)) ≡ count_by (λ i. not (b && (i.number == 0))) (take k (infos_in v)) + cond (not (b && (i.number == 0))) 1 0
count_more b v k i is =
    let xs = infos_in v in
    sum_by_more (λ (i : FileInfo). weighs b i.number) xs k i (slice_get_within xs k i is)
    ∙ ap (λ (x : FileInfo). count_by (λ (i : FileInfo). not (b && (i.number == 0))) (take k xs) + weighs b x.number) (get_or_from_slice_get xs k i i is)

counts_told : (b : Bool) (hs : List HeldFile) (fs : List File) → length hs ≡ length fs
    → ((k : ℕ) (h : HeldFile) (f : File) → slice_get hs k ≡ Some h → slice_get fs k ≡ Some f → h.entry.number ≡ f.number)
    → count_by (λ (i : FileInfo). not (b && (i.number == 0))) (map info_of hs) ≡ count_by (λ (f : File). not (b && (f.number == 0))) fs
counts_told b [] [] long same = refl
counts_told b [] (f ∷ fs) long same = absurd (omega (arith, long))
counts_told b (h ∷ hs) [] long same = absurd (omega (arith, long))
counts_told b (h ∷ hs) (f ∷ fs) long same =
    let e = same 0 h f refl refl in
    let more = counts_told b hs fs (omega (arith, long)) (λ k x y is_x is_y. same (suc k) x y is_x is_y) in
    sum_by-cons (λ (i : FileInfo). weighs b i.number) (info_of h) (map info_of hs)
    ∙ ap (λ (n : ℕ). weighs b n + count_by (λ (i : FileInfo). not (b && (i.number == 0))) (map info_of hs)) e
    ∙ ap (λ (n : ℕ). weighs b f.number + n) more
    ∙ sym (sum_by-cons (λ (f : File). weighs b f.number) f fs)

-- ---- what a disk tells

-- of the minidisk that it is
record Told' (b : Bool) (v : HeldVolume) (m : Minidisk) : Type 0 where
  pub volid : v.label.volid ≡ m.volid
  pub bsize : v.disk.bsize ≡ m.bsize
  pub total : v.label.blocks ≡ m.total
  pub free : length (free_blocks v.bits) ≡ free_count m
  pub seen : count_seen b v ≡ count_by (λ (f : File). not (b && (f.number == 0))) m.files

told_of : (b : Bool) (j : Journal) (d : Accessed) (m : Minidisk) → IsMinidisk j d m → Told' b d.volume m
told_of b j d m is =
    let s = is.stands in
    let image = now j d.volume.unit in
    let held = (stands_tells image d m s).held in
    let room : HasRoomOf image d.volume m = subst (HasRoomOf image d.volume) (sym s.minidisk_is)
    (opened_has_room d.volume.unit d.volume.disk image s.opened d.volume s.whole s.opens s.volume_is) in
    record {
      volid = held.volid_is;
      bsize = held.bsize_is;
      total = held.total_is;
      free = room.free_is;
      seen = counts_told b d.volume.files m.files held.count_is (λ k h f is_h is_f. (held.files_are k h f is_h is_f).number_is);
    }

-- the device of a seat
vdev_same : (s : State) (units : List Slot) (seat : Seated) → vdev_of (machine_of s units) seat.letter.unit ≡ device_in s.table seat
vdev_same s units seat = ap (λ (x : Option Device). option_map_or (λ (d : Device). d.vdev) x 0) (get_map device_of s.table.units seat.letter.unit) ∙ cases (slice_get s.table.units seat.letter.unit)
  where
    cases : (x : Option UnitInfo) → option_map_or (λ (d : Device). d.vdev) (option_map device_of x) 0 ≡ option_map_or (λ (unit : UnitInfo). unit.vdev) x 0
    cases None = refl
    cases (Some unit) = refl

-- the lines of the machine
abbrev pub shown_line : Shown → Machine → ℕ → Letter → Minidisk → List ℕ
shown_line Disk s n disk m = disk_line s n disk m
shown_line Search s n disk m = search_line s n disk m

same_text : (n v w : ℕ) (b : Bool) (volid volid' : List ℕ) (bsize bsize' files files' free free' total total' : ℕ) → v ≡ w → volid ≡ volid' → bsize ≡ bsize' → files ≡ files'
    → free ≡ free' → total ≡ total' → disk_text n v b volid bsize files free total ≡ disk_text n w b volid' bsize' files' free' total'
same_text n v w b volid volid' bsize bsize' files files' free free' total total' a c d e f g =
    ap (λ (x : ℕ). disk_text n x b volid bsize files free total) a ∙ ap (λ (x : List ℕ). disk_text n w b x bsize files free total) c
    ∙ ap (λ (x : ℕ). disk_text n w b volid' x files free total) d ∙ ap (λ (x : ℕ). disk_text n w b volid' bsize' x free total) e
    ∙ ap (λ (x : ℕ). disk_text n w b volid' bsize' files' x total) f ∙ ap (λ (x : ℕ). disk_text n w b volid' bsize' files' free' x) g

text_told : (shown : Shown) (s : State) (units : List Slot) (n : ℕ) (seat : Seated) (m : Minidisk) → Told' seat.letter.read_only seat.disk.volume m
    → shown_line shown (machine_of s units) n seat.letter m ≡ seat_text shown n (device_in s.table seat) seat
text_told Disk s units n seat m told =
    let v = seat.disk.volume in
    let b = seat.letter.read_only in
    same_text n (vdev_of (machine_of s units) seat.letter.unit) (device_in s.table seat) b m.volid v.label.volid m.bsize v.disk.bsize
    (seen_count seat.letter m) (count_seen b v) (free_count m) (length (free_blocks v.bits)) m.total v.label.blocks
    (vdev_same s units seat) (sym told.volid) (sym told.bsize) (sym told.seen) (sym told.free) (sym told.total)
text_told Search s units n seat m told =
    ap (λ (x : ℕ). search_text n x seat.letter.parent seat.letter.read_only m.volid) (vdev_same s units seat)
    ∙ ap (λ (x : List ℕ). search_text n (device_in s.table seat) seat.letter.parent seat.letter.read_only x) (sym told.volid)

abbrev of_letter : Shown → State → List Slot → ℕ → Option Letter → List (List ℕ)
of_letter shown s units n x =
    option_map_or (λ disk. option_map_or (λ m. shown_line shown (machine_of s units) n disk m ∷ []) (minidisk_in (slice_get units disk.unit)) []) x []

line_held : (shown : Shown) (j : Journal) (s : State) (units : List Slot) (n : ℕ) → HoldsTable j units s.table
    → line_of (shown_line shown) (machine_of s units) n ≡ seat_lines shown s.table n
line_held shown j s units n h = cases (item_at s.table.seats n) refl
  where
    cases : (x : Option Seated) → item_at s.table.seats n ≡ x
        → of_letter shown s units n (item_at (letters_of s.table) n) ≡ option_map_or (λ seat. seat_text shown n (device_in s.table seat) seat ∷ []) x []
    cases None at = ap (λ (x : Option Letter). of_letter shown s units n x) (letter_told s.table.seats n ∙ ap (λ (y : Option Seated). option_map (λ s. s.letter) y) at)
    cases (Some seat) at =
        let m = meets j units s.table n seat h at in
        ap (λ (x : Option Letter). of_letter shown s units n x) (letter_told s.table.seats n ∙ ap (λ (y : Option Seated). option_map (λ s. s.letter) y) at)
        ∙ ap (λ (x : Option Slot). option_map_or (λ m. shown_line shown (machine_of s units) n seat.letter m ∷ []) (minidisk_in x) []) m.slot
        ∙ ap (λ (text : List ℕ). text ∷ []) (text_told shown s units n seat m.minidisk (told_of seat.letter.read_only j seat.disk m.minidisk m.is))

pub line_told : (shown : Shown) (told : Told) (s : State) (units : List Slot) (n : ℕ) → Holds told s.table units
    → line_of (shown_line shown) (machine_of s units) n ≡ seat_lines shown s.table n
line_told shown None s units n h = absurd h
line_told shown (Some j) s units n h = line_held shown j s units n h

pub table_long : (told : Told) (t : AccessTable) (units : List Slot) → Holds told t units → length t.seats ≡ 26
table_long None t units h = absurd h
table_long (Some j) t units h = h.table.letters

pub lines_more : (f : ℕ → List (List ℕ)) (n : ℕ) → n < 26 → lines_from f n (26 - n) ≡ f n ++ lines_from f (n + 1) (26 - (n + 1))
unfolding lines_from
lines_more f n less =
    let a : 26 - n ≡ suc (26 - (n + 1)) = omega (arith, less) in
    let b : n + 1 ≡ suc n = omega arith in
    rw (a, b) refl

pub lines_over : (f : ℕ → List (List ℕ)) (n : ℕ) → 26 ≤ n → lines_from f n (26 - n) ≡ []
unfolding lines_from
lines_over f n over = let a : 26 - n ≡ 0 = omega (arith, over) in rw a refl

-- places that are empty have none
pub lines_placed : {A : Type 0} (f : ℕ → List (List ℕ)) (n : ℕ) (xs : List (Option A)) → ((k : ℕ) → item_at xs k ≡ None → f (n + k) ≡ [])
    → flat_map f (places_from is_some n xs) ≡ lines_from f n (length xs)
unfolding places_from lines_from
lines_placed f n [] empty = refl
lines_placed f n (None ∷ xs) empty =
    let at : n + 0 ≡ n = omega arith in
    let none : f n ≡ [] = rw at at (empty 0 refl) in
    rw none (lines_placed f (suc n) xs (λ k is. (let e : suc n + k ≡ n + suc k = omega arith in rw e (empty (suc k) is))))
lines_placed f n (Some x ∷ xs) empty =
    ap (λ (more : List (List ℕ)). f n ++ more) (lines_placed f (suc n) xs (λ k is. (let e : suc n + k ≡ n + suc k = omega arith in rw e (empty (suc k) is))))

-- all of them
flat_same : (f g : ℕ → List (List ℕ)) (ns : List ℕ) → ((n : ℕ) → f n ≡ g n) → flat_map f ns ≡ flat_map g ns
flat_same f g [] same = refl
flat_same f g (n ∷ ns) same = let e = same n in rw (e, flat_same f g ns same) refl

pub all_told : (shown : Shown) (told : Told) (s : State) (units : List Slot) → Holds told s.table units
    → all_lines (shown_line shown) (machine_of s units) ≡ lines_from (λ n. seat_lines shown s.table n) 0 26
all_told shown told s units h =
    let f : ℕ → List (List ℕ) = λ n. seat_lines shown s.table n in
    let long : length (letters_of s.table) ≡ 26 = length-map s.table.seats (λ (x : Option Seated). option_map (λ s. s.letter) x) ∙ table_long told s.table units h in
    flat_same (λ n. line_of (shown_line shown) (machine_of s units) n) f (places_from is_some 0 (letters_of s.table)) (λ n. line_told shown told s units n h)
    ∙ lines_placed f 0 (letters_of s.table) (λ k none. (let e : 0 + k ≡ k = omega arith in rw e (cases k (item_at s.table.seats k) (sym (letter_told s.table.seats k) ∙ none))))
    ∙ ap (λ (n : ℕ). lines_from f 0 n) long
  where
    cases : (k : ℕ) (x : Option Seated) → option_map (λ s. s.letter) x ≡ None → option_map_or (λ seat. seat_text shown k (device_in s.table seat) seat ∷ []) x [] ≡ []
    cases k None none = refl
    cases k (Some seat) none = absurd (cc none)

-- ---- a line, and then others

tree_first : (before : Seen) (text : List ℕ) (lines : List (List ℕ)) → Reached before before (typing (text ∷ lines) nothing) (bind (saying (typed_line text)) (λ (x : Unit {0}). typing lines nothing))
tree_first before text lines = subst (λ (t : Act (Unit {0})). Reached before before (typing (text ∷ lines) nothing) t) (typing_first text lines) (reached_none before (typing (text ∷ lines) nothing))

first_said : (before mid : Seen) (text : List ℕ) (lines : List (List ℕ)) (x : Unit {0}) → Does before mid (saying (typed_line text)) (Ok x) itself
    → Reached before mid (typing (text ∷ lines) nothing) (bind (typing lines nothing) (λ (y : Unit {0}). nothing))
first_said before mid text lines x d =
    subst (λ (t : Act (Unit {0})). Reached before mid (typing (text ∷ lines) nothing) t) (typing_then lines nothing)
    (reached_on before before mid (typing (text ∷ lines) nothing) (saying (typed_line text)) (λ (y : Unit {0}). typing lines nothing) x itself (tree_first before text lines) d)

pub lines_done : {T : Type 0} (before mid now : Seen) (text : List ℕ) (lines : List (List ℕ)) (x y : Unit {0}) (z : T) → Does before mid (saying (typed_line text)) (Ok x) itself
    → Does mid now (typing lines nothing) (Ok y) said → Does before now (typing (text ∷ lines) nothing) (Ok z) said
lines_done before mid now text lines x y z a b =
    reached_to before now (typing (text ∷ lines) nothing) z said
    (reached_on before mid now (typing (text ∷ lines) nothing) (typing lines nothing) (λ (y : Unit {0}). nothing) y said (first_said before mid text lines x a) b)

pub first_stops : {T : Type 0} (before now : Seen) (text : List ℕ) (lines : List (List ℕ)) (e : End) → Does {T = Unit {0}} before now (saying (typed_line text)) (Err e) itself
    → Does {T = T} before now (typing (text ∷ lines) nothing) (Err e) said
first_stops before now text lines e d =
    reached_off before before now (typing (text ∷ lines) nothing) (saying (typed_line text)) (λ (y : Unit {0}). typing lines nothing) e itself said (tree_first before text lines) d

pub lines_stop : {T : Type 0} (before mid now : Seen) (text : List ℕ) (lines : List (List ℕ)) (x : Unit {0}) (e : End) → Does before mid (saying (typed_line text)) (Ok x) itself
    → Does {T = Unit {0}} mid now (typing lines nothing) (Err e) said → Does {T = T} before now (typing (text ∷ lines) nothing) (Err e) said
lines_stop before mid now text lines x e a b =
    reached_off before mid now (typing (text ∷ lines) nothing) (typing lines nothing) (λ (y : Unit {0}). nothing) e said said (first_said before mid text lines x a) b

-- ---- a letter's line

pub none_told : (shown : Shown) (w : Seen) (t : AccessTable) (n : ℕ) (x : Unit {0}) → item_at t.seats n ≡ None → Does w w (typing (seat_lines shown t n) nothing) (Ok x) said
none_told shown w t n x none =
    let lines : seat_lines shown t n ≡ [] = ap (λ (s : Option Seated). option_map_or (λ s. seat_text shown n (device_in t s) s ∷ []) s []) none in
    subst (λ (l : List (List ℕ)). Does w w (typing l nothing) (Ok x) said) (sym lines)
    (subst (λ (a : Act (Unit {0})). Does w w a (Ok x) said) (sym typing_none) (silent w x))

pub no_disk_told : (t : AccessTable) (n : ℕ) → None ≡ option_map (λ (s : Seated). s.disk) (item_at t.seats n) → item_at t.seats n ≡ None
no_disk_told t n is = cases (item_at t.seats n) is
  where
    cases : (x : Option Seated) → None ≡ option_map (λ (s : Seated). s.disk) x → x ≡ None
    cases None is = refl
    cases (Some s) is = absurd (cc is)

pub one_told : (shown : Shown) (t : AccessTable) (n : ℕ) (seat : Seat) (d : Accessed) (line : List ℕ)
    → ((s : Seated) → item_at t.seats n ≡ Some s → (seat.parent ≡ s.letter.parent) × (seat.read_only ≡ s.letter.read_only)
    × (option_map (λ (unit : UnitInfo). unit.vdev) (slice_get t.units s.letter.unit) ≡ Some seat.vdev))
    → Some d ≡ option_map (λ (s : Seated). s.disk) (item_at t.seats n)
    → ((s : Seated) → s.letter.parent ≡ seat.parent → s.letter.read_only ≡ seat.read_only → s.disk ≡ d → line ≡ seat_text shown n seat.vdev s)
    → seat_lines shown t n ≡ line ∷ []
one_told shown t n seat d line marks is text = cases (item_at t.seats n) refl is
  where
    device : (x : Option UnitInfo) → option_map (λ (unit : UnitInfo). unit.vdev) x ≡ Some seat.vdev → option_map_or (λ (unit : UnitInfo). unit.vdev) x 0 ≡ seat.vdev
    device None at = absurd (cc at)
    device (Some unit) at = cc at

    cases : (x : Option Seated) → item_at t.seats n ≡ x → Some d ≡ option_map (λ (s : Seated). s.disk) x
        → option_map_or (λ s. seat_text shown n (device_in t s) s ∷ []) x [] ≡ line ∷ []
    cases None at is = absurd (cc is)
    cases (Some s) at is =
        let m = marks s at in
        let e = text s (sym m.0) (sym m.1) (cc is) in
        let v = device (slice_get t.units s.letter.unit) m.2 in
        ap (λ (w : ℕ). seat_text shown n w s ∷ []) v ∙ ap (λ (l : List ℕ). l ∷ []) (sym e)

-- ---- letter after letter

abbrev pub IsAt : (ℕ → List (List ℕ)) → Seen → Seen → ℕ → Type 0
IsAt f before now n = Reached before now (typing (lines_from f 0 26) nothing) (typing (lines_from f n (26 - n)) nothing)

next_letter : (f : ℕ → List (List ℕ)) (before mid : Seen) (n : ℕ) → n < 26 → IsAt f before mid n
    → Reached before mid (typing (lines_from f 0 26) nothing) (bind (typing (f n) nothing) (λ (x : Unit {0}). typing (lines_from f (n + 1) (26 - (n + 1))) nothing))
next_letter f before mid n less a =
    subst (λ (t : Act (Unit {0})). Reached before mid (typing (lines_from f 0 26) nothing) t)
    (ap (λ (l : List (List ℕ)). typing l nothing) (lines_more f n less) ∙ typing_more (f n) (lines_from f (n + 1) (26 - (n + 1)))) a

pub letters_none : (f : ℕ → List (List ℕ)) (before : Seen) → IsAt f before before 0
letters_none f before = reached_none before (typing (lines_from f 0 26) nothing)

pub letters_on : (f : ℕ → List (List ℕ)) (before mid now : Seen) (n : ℕ) (x : Unit {0}) → n < 26 → IsAt f before mid n → Does mid now (typing (f n) nothing) (Ok x) said
    → IsAt f before now (n + 1)
letters_on f before mid now n x less a d =
    reached_on before mid now (typing (lines_from f 0 26) nothing) (typing (f n) nothing) (λ (x : Unit {0}). typing (lines_from f (n + 1) (26 - (n + 1))) nothing) x said
    (next_letter f before mid n less a) d

pub letters_off : (f : ℕ → List (List ℕ)) (before mid now : Seen) (n : ℕ) (e : End) → n < 26 → IsAt f before mid n
    → Does {T = Unit {0}} mid now (typing (f n) nothing) (Err e) said → Does {T = Unit {0}} before now (typing (lines_from f 0 26) nothing) (Err e) said
letters_off f before mid now n e less a d =
    reached_off before mid now (typing (lines_from f 0 26) nothing) (typing (f n) nothing) (λ (x : Unit {0}). typing (lines_from f (n + 1) (26 - (n + 1))) nothing) e said said
    (next_letter f before mid n less a) d

pub letters_done : (f : ℕ → List (List ℕ)) (before now : Seen) (n : ℕ) (x : Unit {0}) → 26 ≤ n → IsAt f before now n
    → Does before now (typing (lines_from f 0 26) nothing) (Ok x) said
letters_done f before now n x over a =
    reached_to before now (typing (lines_from f 0 26) nothing) x said
    (subst (λ (t : Act (Unit {0})). Reached before now (typing (lines_from f 0 26) nothing) t)
    (ap (λ (l : List (List ℕ)). typing l nothing) (lines_over f n over) ∙ typing_none) a)

-- ---- the command

pub disks_told : (old new : Spot) (r : Result declared.Course End)
    → Does old.world new.world (typing (header ∷ lines_from (λ n. seat_lines Disk old.state.table n) 0 26) nothing) r said → IfOk r (λ c. c ≡ course.Went (pos 0))
    → new.state ≡ old.state → Acts old new (λ units. typing (header ∷ all_lines disk_line (machine_of old.state units)) (Done (Went (machine_of old.state units) (pos 0)))) r (course_of new.state)
disks_told old new r does went same =
    let lines = lines_from (λ n. seat_lines Disk old.state.table n) 0 26 in
    acts_same old new (λ units. typing (header ∷ all_lines disk_line (machine_of old.state units)) (Done (Went (machine_of old.state units) (pos 0))))
    (λ units. typing (header ∷ lines) (Done (Went (machine_of old.state units) (pos 0)))) r (course_of new.state)
    (λ units h. ap (λ (l : List (List ℕ)). typing (header ∷ l) (Done (Went (machine_of old.state units) (pos 0)))) (all_told Disk old.world.told old.state units h))
    (acts_typed old new (header ∷ lines) r does went same)

pub searches_told : (old new : Spot) (r : Result declared.Course End)
    → Does old.world new.world (typing (lines_from (λ n. seat_lines Search old.state.table n) 0 26) nothing) r said → IfOk r (λ c. c ≡ course.Went (pos 0))
    → new.state ≡ old.state → Acts old new (λ units. typing (all_lines search_line (machine_of old.state units)) (Done (Went (machine_of old.state units) (pos 0)))) r (course_of new.state)
searches_told old new r does went same =
    let lines = lines_from (λ n. seat_lines Search old.state.table n) 0 26 in
    acts_same old new (λ units. typing (all_lines search_line (machine_of old.state units)) (Done (Went (machine_of old.state units) (pos 0))))
    (λ units. typing lines (Done (Went (machine_of old.state units) (pos 0)))) r (course_of new.state)
    (λ units h. ap (λ (l : List (List ℕ)). typing l (Done (Went (machine_of old.state units) (pos 0)))) (all_told Search old.world.told old.state units h))
    (acts_typed old new lines r does went same)

abbrev letter_tree : State → ℕ → List Slot → Act Course
letter_tree s n units = query_letter (machine_of s units) n (letter_at (machine_of s units) n)

pub letter_told' : (old new : Spot) (n : ℕ) (r : Result declared.Course End) → (item_at old.state.table.seats n ≡ None → ⊥)
    → Does old.world new.world (typing (header ∷ seat_lines Disk old.state.table n) nothing) r said → IfOk r (λ c. c ≡ course.Went (pos 0))
    → new.state ≡ old.state → Acts old new (letter_tree old.state n) r (course_of new.state)
letter_told' old new n r some does went same =
    let lines = header ∷ seat_lines Disk old.state.table n in
    acts_same old new (letter_tree old.state n) (λ units. typing lines (Done (Went (machine_of old.state units) (pos 0)))) r (course_of new.state)
    (λ units h. cases units (item_at old.state.table.seats n) refl
    ∙ ap (λ (l : List (List ℕ)). typing (header ∷ l) (Done (Went (machine_of old.state units) (pos 0)))) (line_told Disk old.world.told old.state units n h))
    (acts_typed old new lines r does went same)
  where
    cases : (units : List Slot) (x : Option Seated) → item_at old.state.table.seats n ≡ x
        → letter_tree old.state n units ≡ typing (header ∷ line_of disk_line (machine_of old.state units) n) (Done (Went (machine_of old.state units) (pos 0)))
    cases units None at = absurd (some at)
    cases units (Some seat) at =
        ap (λ (x : Option Letter). query_letter (machine_of old.state units) n x) (letter_told old.state.table.seats n ∙ ap (λ (y : Option Seated). option_map (λ s. s.letter) y) at)

pub letter_untold : (old new : Spot) (n : ℕ) (r : Result declared.Course End) → item_at old.state.table.seats n ≡ None
    → Does old.world new.world (saying (typed_line (message_text (M069 (letter_text n))))) r said → IfOk r (λ c. c ≡ course.Went (pos no_disk))
    → new.state ≡ old.state → Acts old new (letter_tree old.state n) r (course_of new.state)
letter_untold old new n r none does went same =
    acts_refused old new (letter_tree old.state n) (M069 (letter_text n)) (pos no_disk) r does went same
    (λ units h. ap (λ (x : Option Letter). query_letter (machine_of old.state units) n x)
    (letter_told old.state.table.seats n ∙ ap (λ (y : Option Seated). option_map (λ s. s.letter) y) none))

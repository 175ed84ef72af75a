-- A volume is held as the minidisk that it is.
use Rattle.std.proofs.Common.{◌≡◌, ◌≢◌, ⊎_elim, ℕ, zero, suc, ◌+◌, ◌-◌, ◌*◌, ◌≤◌, Bool, true, false, if◌then◌else◌, List, [], ◌∷◌, length, map, take, drop, slice_get, position, Some, None, Ok, refl, sym, ◌∙◌, ap, subst, arith}
use Rattle.std.specs.Prelude.{nat_le, nat_lt, ◌||◌}
use Rattle.std.specs.List.{range_with_len, position_from}
use Rattle.std.proofs.lemmas.Bool.{le-leb, lt-leb, cases_Bool}
use Rattle.std.proofs.lemmas.Iterator.Adapters.{position_from-zero}
use Rattle.cms_names.specs.declared.name.Name.{Name}
use Rattle.cms_names.specs.declared.name.Format.{Format}
use Rattle.cms_names.specs.declared.name.Format.TheVariants.{F, V}
use Rattle.cms_journal.proofs.Sizes.{block_bounds}
use Rattle.cms_text.specs.Bytes.{half, word}
use Rattle.cms_fields.specs.Entries.{entry_bytes, entry_fields, passes}
use Rattle.cms_fields.proofs.ReadEntry.{entry_is}
use Rattle.std.proofs.lemmas.List.Elements.{All-get_or}
use Rattle.std.proofs.lemmas.Option.{get_or_from_slice_get, slice_get_within}
use Rattle.cms_fields.specs.declared.entry.Entry.{Entry}
use Rattle.cms_fields.specs.declared.label.Label.{Label}
use Rattle.cms_map.specs.Bits.{bits_in, free_from, free_blocks}
use Rattle.cms_model.specs.Lists.{cut}
use Rattle.cms_model.specs.Maps.{is_used, is_marked}
use Rattle.cms_model.specs.Minidisks.{File, same_name}
use Rattle.cms_model.specs.Records.{HoldRecords, varying, records_of, stored, length_of}
use Rattle.cms_model.specs.Trees.{Image, Met, bytes_at}
use Rattle.cms_model.specs.Volumes.{Disk, Opened, IsOpened, minidisk_of, file_trees, contents_in, files_of}
use Rattle.cms_model.specs.LawsRecords.{AreBytes}
use Rattle.cms_model.specs.LawsSizes.{IsWhole, unmarked_count}
use Rattle.cms_model.specs.declared.fault.VarFault.TheVariants.{Zero, PastEnd, Left}
use Rattle.cms_model.specs.LawsChanges.{NoneNamed, IsPlace}
use Rattle.cms_model.proofs.ListChanges.{names_told, name_differs}
use Rattle.cms_model.proofs.FilesRead.{IsRead, each_read}
use Rattle.cms_model.proofs.FileSizes.{EntryFits, AllFit, Counted, file_of, entries_fit, are_cut, is_filled}
use Rattle.cms_model.proofs.InOrder.{in_order}
use Rattle.cms_model.proofs.MinidiskSizes.{blocks_are_shared}
use Rattle.cms_model.proofs.OpenedVolumes.{open_ok}
use Rattle.cms_model.proofs.Cuts.{length_cut}
use Rattle.cms_model.proofs.Records.{fixed_cut, varying_read}
use Rattle.cms_model.proofs.Results.{ok_same, want_ok, bind_then}
use Rattle.cms_held.specs.HeldVolumes.{HeldFile, names_in, size_of}
use Rattle.cms_held.specs.HeldAs.{IsHeldFile, AreHeld}
use Rattle.cms_held.specs.Kept.{IsKeptFile}
use Rattle.cms_held.specs.Written.{ReadsBack}
use Rattle.cms_held.specs.LawsHeld.{EntriesTellLengths, IsFileOf, IsStored, OpenedIsHeld, OpenedHasRoom, IsFound, PlaceIsTold}

-- ---- the records of a file

varying_count : (bsize n place : ℕ) (bytes : List ℕ) (rs : List (List ℕ)) → varying bsize n place bytes ≡ Ok rs → n ≡ length rs
unfolding varying
varying_count bsize zero place bytes rs e =
    let r = want_ok (nat_lt (length bytes) bsize) (Left place) (Ok []) rs e in
    ap length (ok_same [] rs r.1)
varying_count bsize (suc n) place bytes rs e =
    let len = half bytes 0 in
    let p1 = want_ok (nat_le 2 (length bytes)) (PastEnd place) _ rs e in
    let p2 = want_ok (nat_le 1 len) (Zero place) _ rs p1.1 in
    let p3 = want_ok (nat_le (2 + len) (length bytes)) (PastEnd place) _ rs p2.1 in
    bind_then (varying bsize n (place + (2 + len)) (drop (2 + len) bytes)) _ rs p3.1 (λ more is_more done.
    ap suc (varying_count bsize n (place + (2 + len)) (drop (2 + len) bytes) more is_more) ∙ ap length (ok_same (take len (drop 2 bytes) ∷ more) rs done))

-- what is told of records that are read from bytes
record Told (format : Format) (bsize len count : ℕ) (bytes : List ℕ) (rs : List (List ℕ)) : Type 0 where
  many : count ≡ length rs
  again : records_of bsize format (length_of format len rs) (length rs) bytes ≡ Ok rs

told : (format : Format) (bsize len count : ℕ) (bytes : List ℕ) (rs : List (List ℕ)) → records_of bsize format len count bytes ≡ Ok rs → Told format bsize len count bytes rs
unfolding records_of
told F bsize len count bytes rs e =
    let many : count ≡ length rs = sym (length_cut count len bytes) ∙ ap length (ok_same (cut count len bytes) rs e) in
    record { many = many; again = ap (λ (n : ℕ). records_of bsize F len n bytes) (sym many) ∙ e }
told V bsize len count bytes rs e =
    let many = varying_count bsize count 0 bytes rs e in
    record { many = many; again = ap (λ (n : ℕ). varying bsize n 0 bytes) (sym many) ∙ e }

-- and of bytes that fill so many blocks
record Fills (format : Format) (bsize len count : ℕ) (bytes : List ℕ) (rs : List (List ℕ)) : Type 0 where
  size : size_of format len count rs ≡ length (stored format rs)
  held : AreBytes bytes → HoldRecords bsize format (length_of format len rs) bytes rs

fills : (format : Format) (bsize len blocks count : ℕ) (bytes : List ℕ) (rs : List (List ℕ)) → 1 ≤ bsize → records_of bsize format len count bytes ≡ Ok rs → length bytes ≡ blocks * bsize
    → Counted format bsize len blocks count → Fills format bsize len count bytes rs
unfolding records_of
fills F bsize len blocks count bytes rs room e long c =
    let cuts = are_cut bsize len blocks count bytes rs room e long c in
    record { size = sym cuts.size; held = λ fits. (fixed_cut bsize len count bytes rs (sym cuts.many)).1 (e, cuts.enough, cuts.within) }
fills V bsize len blocks count bytes rs room e long c = record {
  size = refl;
  held = λ fits. ((varying_read bsize (length_of V len rs) count bytes rs fits).1 e).0;
}

-- ---- a file

one_file : (bsize : ℕ) (image : Image) (e : Entry) (m : Met) (rs : List (List ℕ)) (h : HeldFile) → IsHeldFile e m rs h → records_of bsize e.format e.length e.count (bytes_at image m.leaves) ≡ Ok rs
    → IsFileOf bsize image h (file_of e rs)
one_file bsize image e m rs h is is_rs =
    let t = told e.format bsize e.length e.count (bytes_at image m.leaves) rs is_rs in
    let entry = is.entry_is in
    record {
      name_is = ap (λ (x : Entry). x.name) entry;
      number_is = ap (λ (x : Entry). x.number) entry;
      format_is = ap (λ (x : Entry). x.format) entry;
      length_is = is.length_is;
      stamp_is = ap (λ (x : Entry). x.stamp) entry;
      count_is = ap (λ (x : Entry). x.count) entry ∙ t.many;
      are_read = subst (λ (ns : List ℕ). records_of bsize e.format (length_of e.format e.length rs) (length rs) (bytes_at image ns) ≡ Ok rs) (sym is.tree_is.leaves) t.again;
    }

one_stored : (disk : Disk) (image : Image) (total holder : ℕ) (e : Entry) (m : Met) (rs : List (List ℕ)) (h : HeldFile) → IsWhole disk image → total ≤ disk.count → EntryFits disk.bsize e
    → IsHeldFile e m rs h → IsRead disk total image holder e m rs → IsStored disk.bsize image h (file_of e rs)
one_stored disk image total holder e m rs h whole top fits is read =
    let low = (block_bounds disk.bsize whole.size).0 in
    let t = is_filled disk image total holder e m whole top fits read.met in
    let f = fills e.format disk.bsize e.length e.blocks e.count (bytes_at image m.leaves) rs (omega arith) read.records (t.long ∙ ap (λ (n : ℕ). n * disk.bsize) t.leaves) t.counted in
    record {
      size_is = is.size_is ∙ f.size;
      long = subst (λ (ns : List ℕ). length (bytes_at image ns) ≡ length ns * disk.bsize) (sym is.tree_is.leaves) t.long;
      are_held = subst (λ (ns : List ℕ). AreBytes (bytes_at image ns) → HoldRecords disk.bsize e.format (length_of e.format e.length rs) (bytes_at image ns) rs) (sym is.tree_is.leaves) f.held;
    }

-- ---- all files

abbrev Each : (HeldFile → File → Type 0) → List HeldFile → List File → Type 0
Each P [] [] = Unit {0}
Each P [] (f ∷ fs) = ⊥
Each P (h ∷ hs) [] = ⊥
Each P (h ∷ hs) (f ∷ fs) = P h f × Each P hs fs

-- what holds of each file that is held with its entry, its tree and its records
each_file : (P : HeldFile → File → Type 0) (disk : Disk) (image : Image) (total : ℕ) (dirs : List ℕ) (number : ℕ) (es : List Entry) (ms : List Met) (cs : List (List (List ℕ))) (hs : List HeldFile)
    → AllFit disk.bsize es → AreHeld es ms cs hs
    → ((holder : ℕ) (e : Entry) (m : Met) (rs : List (List ℕ)) (h : HeldFile) → EntryFits disk.bsize e → IsHeldFile e m rs h → IsRead disk total image holder e m rs → P h (file_of e rs))
    → file_trees disk.bsize total image dirs number es ≡ Ok ms → contents_in disk.bsize image number es ms ≡ Ok cs → Each P hs (files_of es cs)
unfolding files_of
each_file P disk image total dirs number es ms cs hs fits are go t c =
    each_read disk total image dirs (λ es ms cs. AllFit disk.bsize es → (hs : List HeldFile) → AreHeld es ms cs hs → Each P hs (files_of es cs)) (λ fits hs are. none hs are)
    (λ holder e m rs es ms cs read rest fits hs are. one holder e m rs es ms cs read fits.0 (λ others held. rest fits.1 others held) hs are) number es ms cs t c fits hs are
  where
    none : (hs : List HeldFile) → AreHeld [] [] [] hs → Each P hs []
    none [] are = tt
    none (h ∷ hs) are = absurd are

    one : (holder : ℕ) (e : Entry) (m : Met) (rs : List (List ℕ)) (es : List Entry) (ms : List Met) (cs : List (List (List ℕ))) → IsRead disk total image holder e m rs → EntryFits disk.bsize e
        → ((others : List HeldFile) → AreHeld es ms cs others → Each P others (files_of es cs)) → (hs : List HeldFile) → AreHeld (e ∷ es) (m ∷ ms) (rs ∷ cs) hs
        → Each P hs (files_of (e ∷ es) (rs ∷ cs))
    one holder e m rs es ms cs read fit deeper [] are = absurd are
    one holder e m rs es ms cs read fit deeper (h ∷ hs) are = (go holder e m rs h fit are.0 read, deeper hs are.1)

same_count : (P : HeldFile → File → Type 0) (hs : List HeldFile) (fs : List File) → Each P hs fs → length hs ≡ length fs
same_count P [] [] are = refl
same_count P [] (f ∷ fs) are = absurd are
same_count P (h ∷ hs) [] are = absurd are
same_count P (h ∷ hs) (f ∷ fs) are = ap suc (same_count P hs fs are.1)

same_names : (bsize : ℕ) (image : Image) (hs : List HeldFile) (fs : List File) → Each (IsFileOf bsize image) hs fs → names_in hs ≡ map (λ f. f.name) fs
same_names bsize image [] [] are = refl
same_names bsize image [] (f ∷ fs) are = absurd are
same_names bsize image (h ∷ hs) [] are = absurd are
same_names bsize image (h ∷ hs) (f ∷ fs) are = ap (λ (n : Name). n ∷ names_in hs) are.0.name_is ∙ ap (λ (ns : List Name). f.name ∷ ns) (same_names bsize image hs fs are.1)

at_place : (P : HeldFile → File → Type 0) (hs : List HeldFile) (fs : List File) → Each P hs fs → (k : ℕ) (h : HeldFile) (f : File) → slice_get hs k ≡ Some h → slice_get fs k ≡ Some f → P h f
at_place P [] fs are k h f is is' = absurd (cc is)
at_place P (x ∷ hs) [] are k h f is is' = absurd are
at_place P (x ∷ hs) (y ∷ fs) are zero h f is is' =
    let same : x ≡ h = some_same x h is in
    let same' : y ≡ f = some_same y f is' in
    subst (λ (z : File). P h z) same' (subst (λ (z : HeldFile). P z y) same are.0)
  where
    some_same : {A : Type 0} (a b : A) → Some a ≡ Some b → a ≡ b
    some_same a b e = cc e
at_place P (x ∷ hs) (y ∷ fs) are (suc k) h f is is' = at_place P hs fs are.1 k h f is is'

-- ---- the free blocks

one_bit : (bit : Bool) (n : ℕ) (bits : List Bool) → length (free_from n (bit ∷ bits)) ≡ (if bit then 0 else 1) + length (free_from (n + 1) bits)
unfolding free_from
one_bit true n bits = omega arith
one_bit false n bits = omega arith

-- from block 6 on they are those that aren't marked
free_late : (bytes : List ℕ) (n more : ℕ) → 6 ≤ n → length (free_from n (map (is_used bytes) (range_with_len n more))) ≡ unmarked_count bytes n more
unfolding free_from unmarked_count is_used
free_late bytes n zero late = refl
free_late bytes n (suc more) late =
    let same : is_used bytes n ≡ is_marked bytes n = ap (λ (b : Bool). b || is_marked bytes n) (lt-leb n 5 (omega arith)) in
    let rest = free_late bytes (n + 1) more (omega arith) in
    one_bit (is_used bytes n) n (map (is_used bytes) (range_with_len (n + 1) more))
    ∙ (ap (λ (b : Bool). (if b then 0 else 1) + length (free_from (n + 1) (map (is_used bytes) (range_with_len (n + 1) more)))) same
    ∙ ap (λ (m : ℕ). (if is_marked bytes n then 0 else 1) + m) rest)

-- the first five are in use
free_early : (bytes : List ℕ) (k n more : ℕ) → k + n ≡ 6 → length (free_from n (map (is_used bytes) (range_with_len n (k + more)))) ≡ unmarked_count bytes 6 more
unfolding is_used
free_early bytes zero n more is =
    let six : n ≡ 6 = omega arith in
    let none : 0 + more ≡ more = omega arith in
    rw (none, six) (free_late bytes 6 more (omega arith))
free_early bytes (suc k) n more is =
    let used : is_used bytes n ≡ true = ap (λ (b : Bool). b || is_marked bytes n) (le-leb n 5 (omega arith)) in
    let count : suc k + more ≡ suc (k + more) = omega arith in
    let rest = free_early bytes k (n + 1) more (omega arith) in
    rw count (one_bit (is_used bytes n) n (map (is_used bytes) (range_with_len (n + 1) (k + more)))
    ∙ (ap (λ (b : Bool). (if b then 0 else 1) + length (free_from (n + 1) (map (is_used bytes) (range_with_len (n + 1) (k + more))))) used
    ∙ omega (arith, rest)))

free_are : (bytes : List ℕ) (total : ℕ) → 5 ≤ total → length (free_blocks (bits_in total bytes)) ≡ unmarked_count bytes 6 (total - 5)
unfolding bits_in
free_are bytes total some =
    let is : 5 + (total - 5) ≡ total = omega arith in
    subst (λ (n : ℕ). length (free_from 1 (map (is_used bytes) (range_with_len 1 n))) ≡ unmarked_count bytes 6 (total - 5)) is (free_early bytes 5 1 (total - 5) refl)

-- ---- the whole

entries_of_all : (disk : Disk) (image : Image) (v : Opened) → IsOpened disk image v → AllFit disk.bsize v.entries
entries_of_all disk image v o = (entries_fit disk.bsize 2 (cut (v.directory.count - 2) 64 (drop 128 (bytes_at image v.directory_met.leaves))) v.entries o.system.entries).0

pub opened_is_held : OpenedIsHeld
unfolding minidisk_of
opened_is_held unit disk image v h opens is =
    let o = open_ok disk image v opens in
    let fs = files_of v.entries v.contents in
    let P = IsFileOf disk.bsize image in
    let are : Each P h.files fs = each_file P disk image v.label.blocks v.directory_met.leaves 2 v.entries v.mets v.contents h.files (entries_of_all disk image v o) is.files_are
    (λ holder e m rs one fits held read. one_file disk.bsize image e m rs one held read.records) o.mets o.contents in
    record {
      volid_is = ap (λ (l : Label). l.volid) is.label_is;
      bsize_is = ap (λ (d : Disk). d.bsize) is.disk_is;
      total_is = ap (λ (l : Label). l.blocks) is.label_is;
      lost_is = is.lost_is;
      count_is = same_count P h.files fs are;
      names_are = same_names disk.bsize image h.files fs are;
      files_are = at_place P h.files fs are;
    }

pub opened_has_room : OpenedHasRoom
unfolding minidisk_of
opened_has_room unit disk image v h whole opens is =
    let o = open_ok disk image v opens in
    let order = in_order disk image v opens in
    let shared = blocks_are_shared disk image v whole opens in
    let big = order.size.0 in
    let P = IsStored disk.bsize image in
    let are = each_file P disk image v.label.blocks v.directory_met.leaves 2 v.entries v.mets v.contents h.files (entries_of_all disk image v o) is.files_are
    (λ holder e m rs one fits held read. one_stored disk image v.label.blocks holder e m rs one whole order.size.1 fits held read) o.mets o.contents in
    record {
      free_is = ap (λ (bits : List Bool). length (free_blocks bits)) is.bits_are ∙ (free_are (bytes_at image v.map_met.leaves) v.label.blocks (omega arith) ∙ shared.free);
      files_are = at_place P h.files (files_of v.entries v.contents) are;
    }

-- ---- the lengths that the entries tell

length_again : (format : Format) (size : ℕ) (rs : List (List ℕ)) → length_of format size rs ≡ length_of format (length_of format size rs) rs
length_again F size rs = refl
length_again V size rs = refl

-- the bytes of an entry that spell it tell its length
spelled_length : (bsize : ℕ) (e : Entry) → ReadsBack e → passes bsize e ≡ true → word (entry_bytes e) 32 ≡ e.length
unfolding entry_fields
spelled_length bsize e back pass = ap (λ (x : Entry). x.length) (entry_is bsize (entry_bytes e) e (back.1 bsize pass)).fields

pub entries_tell_lengths : EntriesTellLengths
unfolding minidisk_of
entries_tell_lengths unit disk image v h k held f opens is keeps there there' =
    let o = open_ok disk image v opens in
    let P = λ (x : HeldFile) (y : File). x.entry.length ≡ length_of y.format y.length y.records in
    let are : Each P h.files (files_of v.entries v.contents) = each_file P disk image v.label.blocks v.directory_met.leaves 2 v.entries v.mets v.contents h.files (entries_of_all disk image v o) is.files_are
    (λ holder e m rs one fits held read. held.told_is ∙ (held.length_is ∙ length_again e.format e.length rs)) o.mets o.contents in
    let kept : IsKeptFile h.disk.bsize h.label.blocks held = subst (IsKeptFile h.disk.bsize h.label.blocks) (get_or_from_slice_get h.files k held held there)
    (All-get_or (IsKeptFile h.disk.bsize h.label.blocks) h.files k held (slice_get_within h.files k held there) keeps.each) in
    spelled_length h.disk.bsize held.entry kept.spells kept.entry ∙ at_place P h.files (files_of v.entries v.contents) are k held f there there'

-- ---- the place of a name

-- a name is found from a number on, or none of the files has it
data Finds (name : Name) (i : ℕ) (fs : List File) : Type 0 where
  absent : position_from (same_name name) i (map (λ f. f.name) fs) ≡ None → NoneNamed name fs → Finds name i fs
  there : (k : ℕ) → position_from (same_name name) i (map (λ f. f.name) fs) ≡ Some (i + k) → IsPlace name fs k → Finds name i fs

finds : (name : Name) (i : ℕ) (fs : List File) → Finds name i fs
finds name i [] = absent refl tt
finds name i (f ∷ fs) = ⊎_elim
    (λ (is : same_name name f.name ≡ true).
    there 0 (ap (λ (b : Bool). if b then Some i else position_from (same_name name) (i + 1) (map (λ f. f.name) fs)) is ∙ ap Some (omega arith))
    (record { within = omega arith; named = λ d. sym ((names_told name f.name).0 is); first = tt }))
    (λ (other : same_name name f.name ≡ false).
    let past : position_from (same_name name) i (map (λ f. f.name) (f ∷ fs)) ≡ position_from (same_name name) (i + 1) (map (λ f. f.name) fs) =
    ap (λ (b : Bool). if b then Some i else position_from (same_name name) (i + 1) (map (λ f. f.name) fs)) other in
    later (name_differs name f.name other) past (finds name (i + 1) fs))
    (cases_Bool (same_name name f.name))
  where
    later : f.name ≢ name → position_from (same_name name) i (map (λ f. f.name) (f ∷ fs)) ≡ position_from (same_name name) (i + 1) (map (λ f. f.name) fs) → Finds name (i + 1) fs
        → Finds name i (f ∷ fs)
    later ne past (absent none named) = absent (past ∙ none) (ne, named)
    later ne past (there k at p) = there (suc k) (past ∙ (at ∙ ap Some (omega arith))) (record { within = (let less = p.within in omega arith); named = p.named; first = (ne, p.first) })

pub place_is_told : PlaceIsTold
place_is_told name fs = told_so (finds name 0 fs)
  where
    told_so : Finds name 0 fs → IsFound name fs (position (same_name name) (map (λ f. f.name) fs))
    told_so (absent none named) = subst (IsFound name fs) (sym (position_from-zero (same_name name) (map (λ f. f.name) fs) ∙ none)) named
    told_so (there k at p) = subst (IsFound name fs) (sym (position_from-zero (same_name name) (map (λ f. f.name) fs) ∙ (at ∙ ap Some (omega arith)))) p

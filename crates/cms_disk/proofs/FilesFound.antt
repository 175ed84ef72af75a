-- The file of a name, and its records.
use Rattle.std.proofs.Common.{◌≡◌, ℕ, zero, suc, ◌*◌, ◌<◌, ◌≤◌, true, List, [], ◌∷◌, length, map, drop, position, slice_get, slice_index, slice_index_or, Some, None, Result, Ok, Err, refl, sym, ◌∙◌, ap, subst, arith}
use Rattle.std.specs.Prelude.{IfOk, not, ◌||◌}
use Rattle.std.proofs.lemmas.List.{drop_all}
use Rattle.std.proofs.lemmas.Option.{get_or_from_slice_get, same_Some, slice_get_cases, slice_get-get_or}
use Rattle.cms_journal.proofs.Sizes.{block_bounds}
use Rattle.cms_names.specs.Names.{is_between}
use Rattle.cms_names.specs.declared.name.Name.{Name}
use Rattle.cms_names.specs.declared.name.Format.{Format}
use Rattle.cms_names.specs.declared.name.Format.TheVariants.{F, V}
use Rattle.cms_fields.specs.Numbers.{up}
use Rattle.cms_fields.specs.Entries.{is_fixed, length_fits}
use Rattle.cms_fields.specs.declared.entry.Entry.{Entry}
use Rattle.cms_model.specs.Lists.{cut}
use Rattle.cms_model.specs.Trees.{Image, bytes_at}
use Rattle.cms_model.specs.Minidisks.{File, Minidisk, same_name}
use Rattle.cms_model.specs.Records.{records_of, length_of, stored}
use Rattle.cms_model.specs.Volumes.{Disk, Opened, files_of, minidisk_of}
use Rattle.cms_model.specs.Changes.{file_named}
use Rattle.cms_model.specs.LawsChanges.{IsPlace}
use Rattle.cms_model.proofs.FileSizes.{entry_counted, passing}
use Rattle.cms_model.proofs.ListChanges.{none_added, place_changed}
use Rattle.cms_model.proofs.Quotients.{up_spec}
use Rattle.cms_model.proofs.Results.{ok_same}
use Rattle.cms_model.proofs.TreeFrame.{between}
use Rattle.cms_records.specs.Pieces.{RecordState, bytes_so_far, next_place}
use Rattle.cms_held.specs.HeldVolumes.{HeldFile, HeldVolume}
use Rattle.cms_edf.specs.FilesTold.{info_of, infos_in, leaves_in, stored_in}
use Rattle.cms_edf.specs.declared.held.FileInfo.{FileInfo}
use Rattle.cms_held.specs.Kept.{IsKeptFile, Keeps}
use Rattle.cms_held.specs.LawsHeld.{HasRoomOf, IsFileOf, IsFound, IsMinidiskOf, IsStored}
use Rattle.cms_edf.proofs.Listings.{stands}
use Rattle.cms_held.proofs.HeldFiles.{opened_is_held, opened_has_room, place_is_told}
use Rattle.cms_disk.specs.Cursors.{AreOn, AreSized, Cursor, HasLeft, HoldLeft, IsFirst, fixed_of, unread}
use Rattle.cms_disk.specs.Disks.{Accessed, HasNone, OpensIn, StandsIn, StartsAt, place_of}
use Rattle.cms_disk.specs.LawsDisks.{StandsTells}

-- ---- the minidisk's files

pub stands_tells : StandsTells
stands_tells image d m s =
    let held : IsMinidiskOf image d.volume m = subst (IsMinidiskOf image d.volume) (sym s.minidisk_is) (opened_is_held d.volume.unit d.volume.disk image s.opened d.volume s.opens s.volume_is) in
    record {
      held = held;
      found = λ name. subst (λ (ns : List Name). IsFound name m.files (position (same_name name) ns)) (sym held.names_are) (place_is_told name m.files);
    }

pub stands_stored : (image : Image) (d : Accessed) (m : Minidisk) → StandsIn image d m → (k : ℕ) (h : HeldFile) (f : File) → slice_get d.volume.files k ≡ Some h → slice_get m.files k ≡ Some f
    → IsStored m.bsize image h f
stands_stored image d m s =
    let room : HasRoomOf image d.volume m = subst (HasRoomOf image d.volume) (sym s.minidisk_is) (opened_has_room d.volume.unit d.volume.disk image s.opened d.volume s.whole s.opens s.volume_is) in
    room.files_are

-- the file of which so many bytes are stored
sized_at : (hs : List HeldFile) (k bytes : ℕ) → slice_get (map (λ f. f.size) hs) k ≡ Some bytes → (h : HeldFile) × (slice_get hs k ≡ Some h) × (h.size ≡ bytes)
sized_at [] k bytes is = absurd (cc is)
sized_at (h ∷ hs) zero bytes is = (h, refl, same_Some h.size bytes is)
sized_at (h ∷ hs) (suc k) bytes is = sized_at hs k bytes is

-- those of its records
pub stored_told : (image : Image) (d : Accessed) (m : Minidisk) (f : File) (k bytes : ℕ) → StandsIn image d m → slice_get m.files k ≡ Some f → slice_get (stored_in d.volume) k ≡ Some bytes
    → bytes ≡ length (stored f.format f.records)
stored_told image d m f k bytes s at told =
    let h = sized_at d.volume.files k bytes told in
    sym h.2 ∙ (stands_stored image d m s k h.0 f h.1 at).size_is

-- the length of a file is that of its records
pub same_length : (format : Format) (size : ℕ) (records : List (List ℕ)) → length_of format size records ≡ length_of format (length_of format size records) records
same_length F size records = refl
same_length V size records = refl

files_lengths : (es : List Entry) (cs : List (List (List ℕ))) (k : ℕ) (f : File) → slice_get (files_of es cs) k ≡ Some f → f.length ≡ length_of f.format f.length f.records
unfolding files_of
files_lengths [] cs k f is = absurd (cc is)
files_lengths (e ∷ es) [] k f is = absurd (cc is)
files_lengths (e ∷ es) (records ∷ more) zero f is =
    let same = same_Some _ f is in
    subst (λ (x : File). x.length ≡ length_of x.format x.length x.records) same (same_length e.format e.length records)
files_lengths (e ∷ es) (records ∷ more) (suc k) f is = files_lengths es more k f is

lengths_in : (disk : Disk) (v : Opened) (m : Minidisk) (k : ℕ) (f : File) → m ≡ minidisk_of disk v → slice_get m.files k ≡ Some f → f.length ≡ length_of f.format f.length f.records
unfolding minidisk_of
lengths_in disk v m k f is at = files_lengths v.entries v.contents k f (subst (λ (x : Minidisk). slice_get x.files k ≡ Some f) is at)

-- no file is found
pub none_found : (d : Accessed) (name : Name) → place_of name d.volume ≡ None → HasNone d name
none_found d name none image m s = (none_added name m.files (subst (IsFound name m.files) none ((stands_tells image d m s).found name))).absent

-- ---- all records are left at first

left_first : (bsize : ℕ) (format : Format) (size count blocks : ℕ) (bytes : List ℕ) (records : List (List ℕ)) → 1 ≤ bsize → records_of bsize format size count bytes ≡ Ok records
    → size ≡ length_of format size records → length bytes ≡ blocks * bsize → (is_fixed format ≡ true → blocks ≡ up (count * size) bsize)
    → HoldLeft bsize (fixed_of format size) size count 0 bytes records
unfolding records_of
left_first bsize F size count blocks bytes records room read high long fixed =
    let is = fixed refl in
    let fit = up_spec (count * size) bsize room in
    let low = fit.0 in
    let same : blocks * bsize ≡ up (count * size) bsize * bsize = ap (λ (n : ℕ). n * bsize) is in
    (sym (ok_same (cut count size bytes) records read), omega arith)
left_first bsize V size count blocks bytes records room read high long fixed = (read, omega arith)

pub file_left : (bsize total : ℕ) (image : Image) (h : HeldFile) (f : File) → 1 ≤ bsize → IsFileOf bsize image h f → IsStored bsize image h f → IsKeptFile bsize total h
    → f.length ≡ length_of f.format f.length f.records
    → HoldLeft bsize (fixed_of h.entry.format h.length) h.length h.entry.count 0 (bytes_at image h.tree.leaves) f.records
file_left bsize total image h f room is stored kept high =
    let counted = entry_counted bsize h.entry room (passing bsize h.entry kept.entry).fits in
    let wide : length (bytes_at image h.tree.leaves) ≡ h.entry.blocks * bsize = stored.long ∙ ap (λ (n : ℕ). n * bsize) kept.count in
    let fixed : is_fixed f.format ≡ true → h.entry.blocks ≡ up (length f.records * f.length) bsize = λ all.
    (let size : h.entry.length ≡ f.length = kept.told ∙ is.length_is in
    counted.fixed (ap is_fixed is.format_is ∙ all) ∙ (ap (λ (n : ℕ). up (n * h.entry.length) bsize) is.count_is ∙ ap (λ (n : ℕ). up (length f.records * n) bsize) size)) in
    rw (is.format_is, is.length_is, is.count_is) (left_first bsize f.format f.length (length f.records) h.entry.blocks (bytes_at image h.tree.leaves) f.records room is.are_read high wide fixed)

pub first_has : (image : Image) (c : Cursor) (number most size : ℕ) (blocks : List ℕ) (format : Format) (high count : ℕ) (records : List (List ℕ))
    → IsFirst number most size blocks format high count c → AreSized image size blocks
    → HoldLeft size (fixed_of format high) high count 0 (bytes_at image blocks) records → HasLeft image c records
first_has image c number most size blocks format high count records s sized held =
    let long = s.held.block in
    let all = s.all in
    let one = s.bsize in
    let gone : drop c.from c.block ≡ [] = drop_all c.from c.block (omega arith) in
    let begun : bytes_so_far c.begun ≡ [] = ap bytes_so_far s.begun in
    let rest : drop c.done c.leaves ≡ blocks = ap (λ (n : ℕ). drop n c.leaves) s.done ∙ s.leaves in
    let bytes : unread image c ≡ bytes_at image blocks = rw (begun, gone, rest, s.over) refl in
    record {
      sound = s.altered;
      sizes = rw (s.leaves, s.bsize) sized;
      held = rw (s.bsize, s.left, bytes) (subst (λ (b : RecordState). HoldLeft size b.fixed b.longest count (next_place b) (bytes_at image blocks) records) (sym s.begun) held);
    }

-- ---- the file of a name

-- a file of the minidisk, as it is held
pub record Found (image : Image) (name : Name) (d : Accessed) (m : Minidisk) (h : HeldFile) : Type 0 where
  pub file : File
  pub named : file_named name m.files ≡ Some file
  pub is : IsFileOf d.volume.disk.bsize image h file
  pub high : file.length ≡ length_of file.format file.length file.records
  pub sized : AreSized image d.volume.disk.bsize h.tree.leaves
  pub left : HoldLeft d.volume.disk.bsize (fixed_of h.entry.format h.length) h.length h.entry.count 0 (bytes_at image h.tree.leaves) file.records

pub kept_at : (v : HeldVolume) (k : ℕ) (h : HeldFile) → Keeps v → slice_get v.files k ≡ Some h → IsKeptFile v.disk.bsize v.label.blocks h
kept_at v k h keeps at =
    let less : k < length v.files = grind (arith, slice_get_cases v.files k) in
    subst (IsKeptFile v.disk.bsize v.label.blocks) (get_or_from_slice_get v.files k h h at) (keeps.each k h less)

leaves_sized : (image : Image) (d : Accessed) (m : Minidisk) (h : HeldFile) → StandsIn image d m → Keeps d.volume → IsKeptFile d.volume.disk.bsize d.volume.label.blocks h
    → AreSized image d.volume.disk.bsize h.tree.leaves
leaves_sized image d m h s keeps kept k less =
    let top = keeps.within in
    let range = kept.within (slice_index h.tree.leaves k) (stands h.tree.leaves k less) in
    let low = range.0 in
    let high = range.1 in
    s.whole.each (slice_index h.tree.leaves k) (omega arith) (omega arith)

pub found : (image : Image) (name : Name) (d : Accessed) (m : Minidisk) (k : ℕ) (h : HeldFile) → StandsIn image d m → Keeps d.volume → place_of name d.volume ≡ Some k
    → slice_get d.volume.files k ≡ Some h → Found image name d m h
found image name d m k h s keeps at is_h =
    let tells = stands_tells image d m s in
    let place : IsPlace name m.files k = subst (IsFound name m.files) at (tells.found name) in
    let f = slice_index_or m.files k (any_file h) in
    let is_f : slice_get m.files k ≡ Some f = slice_get-get_or m.files k (any_file h) place.within in
    let bsize = tells.held.bsize_is in
    let bounds = block_bounds d.volume.disk.bsize s.whole.size in
    let low = bounds.0 in
    let is : IsFileOf d.volume.disk.bsize image h f = subst (λ (n : ℕ). IsFileOf n image h f) (sym bsize) (tells.held.files_are k h f is_h is_f) in
    let kept = kept_at d.volume k h keeps is_h in
    let stored = subst (λ (n : ℕ). IsStored n image h f) (sym bsize) (stands_stored image d m s k h f is_h is_f) in
    let high = lengths_in d.volume.disk s.opened m k f s.minidisk_is is_f in
    record {
      file = f;
      named = (place_changed name m.files k place).found (any_file h);
      is = is;
      high = high;
      sized = leaves_sized image d m h s keeps kept;
      left = file_left d.volume.disk.bsize d.volume.label.blocks image h f (omega arith) is stored kept high;
    }
  where
    any_file : HeldFile → File
    any_file h = record { name = h.entry.name; number = h.entry.number; format = h.entry.format; length = h.length; stamp = h.entry.stamp; records = [] }

pub opens_in : (d : Accessed) (name : Name) (c : Cursor) → Keeps d.volume → StartsAt name d.volume c → OpensIn d name c
opens_in d name c keeps s image m stands =
    let it = found image name d m s.place s.file stands keeps s.place_is s.file_is in (
      it.file,
      it.named,
      first_has image c d.volume.unit d.volume.disk.count d.volume.disk.bsize s.file.tree.leaves s.file.entry.format s.file.length s.file.entry.count
          it.file.records s.first it.sized it.left,
    )

-- ---- the file at a place

-- what is told of the file at a place is the file's
pub record HasFile (v : HeldVolume) (k : ℕ) (info : FileInfo) (leaves : List ℕ) : Type 0 where
  pub file : HeldFile
  pub file_is : slice_get v.files k ≡ Some file
  pub info_is : info ≡ info_of file
  pub leaves_are : leaves ≡ file.tree.leaves

file_at : (files : List HeldFile) (k : ℕ) (info : FileInfo) (leaves : List ℕ) → slice_get (map info_of files) k ≡ Some info → slice_get (map (λ f. f.tree.leaves) files) k ≡ Some leaves
    → (file : HeldFile) × (slice_get files k ≡ Some file) × (info ≡ info_of file) × (leaves ≡ file.tree.leaves)
file_at [] k info leaves a b = absurd (cc a)
file_at (f ∷ fs) zero info leaves a b = (f, refl, cc a, cc b)
file_at (f ∷ fs) (suc k) info leaves a b = file_at fs k info leaves a b

pub has_file : (v : HeldVolume) (k : ℕ) (info : FileInfo) (leaves : List ℕ) → slice_get (infos_in v) k ≡ Some info → slice_get (leaves_in v) k ≡ Some leaves → HasFile v k info leaves
has_file v k info leaves a b = let t = file_at v.files k info leaves a b in record { file = t.0; file_is = t.1; info_is = t.2; leaves_are = t.3 }

-- it may be read
pub record CanRead (total bsize : ℕ) (info : FileInfo) (leaves : List ℕ) : Type 0 where
  pub on : AreOn total leaves
  pub few : length leaves * bsize ≤ 67108864
  pub short : info.length ≤ 65535
  pub fixed : info.format ≡ F → 1 ≤ info.length

pub fixed_some : (bsize : ℕ) (e : Entry) → length_fits e ≡ true → e.format ≡ F → 1 ≤ e.length
unfolding length_fits
fixed_some bsize e fits fix =
    let range : (not (is_fixed F) || is_between 1 65535 e.length) ≡ true = subst (λ (format : Format). (not (is_fixed format) || is_between 1 65535 e.length) ≡ true) fix fits in
    (between 1 65535 e.length range).0

pub can_read : (v : HeldVolume) (k total bsize : ℕ) (info : FileInfo) (leaves : List ℕ) → Keeps v → v.disk.count ≡ total → v.disk.bsize ≡ bsize → HasFile v k info leaves
    → CanRead total bsize info leaves
can_read v k total bsize info leaves keeps count size h =
    let kept = kept_at v k h.file keeps h.file_is in
    let top = keeps.within in
    let p = passing v.disk.bsize h.file.entry kept.entry in
    record {
      on = rw h.leaves_are (λ n less. (let range = kept.within (slice_index h.file.tree.leaves n) (stands h.file.tree.leaves n less) in let low = range.0 in let high = range.1 in
          (omega arith, omega arith)));
      few = rw (h.leaves_are, ← size) kept.room;
      short = rw h.info_is kept.short;
      fixed = rw h.info_is (λ fix. (let some = fixed_some v.disk.bsize h.file.entry p.fits.long fix in let same = kept.told in omega arith));
    }

pub first_is : (v : HeldVolume) (k number total bsize : ℕ) (info : FileInfo) (leaves : List ℕ) (c : Cursor) → v.unit ≡ number → v.disk.count ≡ total → v.disk.bsize ≡ bsize → HasFile v k info leaves
    → IsFirst number total bsize leaves info.format info.length info.count c
    → (file : HeldFile) × (slice_get v.files k ≡ Some file) × IsFirst v.unit v.disk.count v.disk.bsize file.tree.leaves file.entry.format file.length file.entry.count c
first_is v k number total bsize info leaves c at count size h first =
    (h.file, h.file_is, rw (at, count, size, ← h.leaves_are) (subst (λ (i : FileInfo). IsFirst number total bsize leaves i.format i.length i.count c) h.info_is first))

-- ---- what holds of an answer

pub ok_maps : {A E : Type 0} (P Q : A → Type 0) (r : Result A E) → ((x : A) → P x → Q x) → IfOk r P → IfOk r Q
ok_maps P Q (Ok x) go h = go x h
ok_maps P Q (Err e) go h = tt

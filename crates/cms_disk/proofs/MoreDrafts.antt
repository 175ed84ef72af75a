-- Records that are added to the file of a name: what is asked of it, and how their draft begins.
use Rattle.std.proofs.Common.{◌≡◌, ℕ, zero, suc, ◌+◌, ◌/◌, ◌≤◌, List, [], ◌∷◌, length, map, max, take, Option, Some, None, refl, sym, ◌∙◌, ap, subst, arith, slice_get, slice_index_or, length-append}
use Rattle.std.specs.Prelude.{All, IsSome, option_map}
use Rattle.std.proofs.lemmas.Bool.{false≢true}
use Rattle.std.proofs.lemmas.List.{length-take-le}
use Rattle.std.proofs.lemmas.List.Elements.{All-cons, All-head, All-nil, All-tail}
use Rattle.std.proofs.lemmas.Option.{same_Some, slice_get-get_or, slice_get-map}
use Rattle.cms_journal.specs.Journal.{HasBlocks, Journal}
use Rattle.cms_journal.specs.Told.{Told}
use Rattle.cms_names.specs.declared.name.Format.{Format}
use Rattle.cms_names.specs.declared.name.Format.TheVariants.{F, V}
use Rattle.cms_names.specs.declared.name.Name.{Name}
use Rattle.cms_fields.specs.Entries.{pointer_size}
use Rattle.cms_fields.specs.declared.time.Stamp.{Stamp}
use Rattle.cms_model.specs.Changes.{Add, file_named}
use Rattle.cms_model.specs.LawsChanges.{IsPlace}
use Rattle.cms_model.specs.LawsUpdates.{now}
use Rattle.cms_model.specs.Minidisks.{File, Minidisk}
use Rattle.cms_model.specs.Records.{Fits, StandsFor, length_of, longest, stored}
use Rattle.cms_model.specs.declared.file.FileData.{FileData}
use Rattle.cms_model.specs.Settled.{Write}
use Rattle.cms_model.specs.Trees.{Image, bytes_at}
use Rattle.cms_model.proofs.ListChanges.{place_changed}
use Rattle.cms_model.proofs.Records.{stored_append}
use Rattle.cms_tree.specs.Resumes.{kept_of}
use Rattle.cms_held.specs.Drafts.{Front, HasDraft, stored_on}
use Rattle.cms_held.specs.Growths.{last_leaf, length_with}
use Rattle.cms_held.specs.LawsHeld.{IsFileOf as IsHeldFileOf, IsFound, IsStored}
use Rattle.cms_held.specs.Kept.{Keeps}
use Rattle.cms_held.specs.HeldVolumes.{HeldFile, HeldVolume}
use Rattle.cms_held.specs.Systems.{HasWritten}
use Rattle.cms_held.proofs.DraftBlocks.{none_written}
use Rattle.cms_held.specs.BegunFiles.{HaveShapeOn}
use Rattle.cms_held.specs.FileWriters.{FileWriter, Drafts, marks_in}
use Rattle.cms_held.specs.declared.shape.DraftShape.{DraftShape}
use Rattle.cms_edf.specs.FileDrafts.{Draft, tree_of}
use Rattle.cms_edf.specs.FilesTold.{info_of, infos_in, stored_in}
use Rattle.cms_edf.specs.Growths.{CanGrow, IsBehind, IsFileOf, IsFrontOf, IsMoreFor, kept_in}
use Rattle.cms_edf.specs.declared.held.FileInfo.{FileInfo}
use Rattle.cms_edf.proofs.Planned.{named_at as named_in}
use Rattle.cms_disk.specs.Additions.{BeginsMore, CanExtend, FitsFile, HaveShapeBehind, IsBehindFile, IsTold, MayExtend, StandsBehind, shape_with}
use Rattle.cms_disk.specs.Disks.{Accessed, IsMinidisk, IsReadable, place_of}
use Rattle.cms_disk.specs.Drafts.{AreLast, GoesOn}
use Rattle.cms_disk.proofs.DraftSteps.{none_aside, none_written_yet}
use Rattle.cms_disk.proofs.FirstStarts.{bytes_low, file_stands, leaves_long, start_in}
use Rattle.cms_disk.proofs.FilesFound.{kept_at, stands_stored, stands_tells}
use Rattle.cms_disk.proofs.DisksTold.{minidisk_same, named_at}

-- ---- what is asked

mapped_at : {A B : Type 0} (f : A → B) (xs : List A) (k : ℕ) (y : B) → slice_get (map f xs) k ≡ Some y → (x : A) × (slice_get xs k ≡ Some x) × (f x ≡ y)
mapped_at f [] k y is = absurd (cc is)
mapped_at f (x ∷ xs) zero y is = (x, refl, same_Some (f x) y is)
mapped_at f (x ∷ xs) (suc k) y is = mapped_at f xs k y is

-- the file of which this is told
pub record HasTold (v : HeldVolume) (name : Name) (info : FileInfo) (bytes : ℕ) : Type 0 where
  pub file : HeldFile
  pub is : IsFileOf v name file
  pub info_is : info_of file ≡ info
  pub bytes_are : file.size ≡ bytes

pub told_file : (v : HeldVolume) (name : Name) (info : FileInfo) (bytes : ℕ) → IsTold v name info bytes → HasTold v name info bytes
told_file v name info bytes t =
    let a = mapped_at info_of v.files t.place info t.info_is in
    let b = mapped_at (λ (f : HeldFile). f.size) v.files t.place bytes t.bytes_are in
    let same : a.0 ≡ b.0 = same_Some a.0 b.0 (sym a.1 ∙ b.1) in
    record {
      file = a.0;
      is = record { place = t.place; there = t.place_is; is = a.1 };
      info_is = a.2;
      bytes_are = ap (λ (f : HeldFile). f.size) same ∙ b.2;
    }

abbrev pub told_of : (v : HeldVolume) (name : Name) (f : HeldFile) → IsFileOf v name f → IsTold v name (info_of f) f.size
told_of v name f at = record {
  place = at.place;
  place_is = at.there;
  info_is = slice_get-map info_of v.files at.place ∙ ap (option_map info_of) at.is;
  bytes_are = slice_get-map (λ (g : HeldFile). g.size) v.files at.place ∙ ap (option_map (λ (g : HeldFile). g.size)) at.is;
}

-- where the name is a file's there is one
pub file_there : (v : HeldVolume) (name : Name) → IsSome (place_of name v) → (f : HeldFile) × IsFileOf v name f
file_there v name some =
    let at = some_place (place_of name v) some in
    let n = named_in v.files name at.0 at.1 in
    (n.file, record { place = at.0; there = at.1; is = n.there })
  where
    some_place : (o : Option ℕ) → IsSome o → (k : ℕ) × (o ≡ Some k)
    some_place None is = absurd (false≢true is)
    some_place (Some k) is = (k, refl)

pub can_grow : (v : HeldVolume) (name : Name) (shape : DraftShape) → MayExtend v name shape → (place : ℕ) → place_of name v ≡ Some place → CanGrow v name place shape
can_grow v name shape may place there = record {
  there = there;
  grows = λ f at.
      let x = may (info_of f) f.size (told_of v name f (record { place = place; there = there; is = at })) in
      record { can = x.can; format_is = x.format_is; number_is = x.number_is; fixed = x.fixed; longer = x.longer; records = x.records; bytes = x.more };
}

pub behind_file : (v : HeldVolume) (name : Name) (shape : DraftShape) (stamp : Stamp) (draft : Draft) → ((f : HeldFile) → IsFileOf v name f → IsMoreFor v name f shape stamp draft)
    → ((f : HeldFile) → IsFileOf v name f → IsBehind f shape draft) → IsBehindFile v name shape draft
behind_file v name shape stamp draft planned behind info bytes told =
    let t = told_file v name info bytes told in
    let b = behind t.file t.is in
    record {
      shape_is = (planned t.file t.is).shape_is;
      put = b.put ∙ ap (λ (i : FileInfo). i.count) t.info_is;
      came_is = b.came_is ∙ t.bytes_are;
      size_is = b.size_is;
    }

-- ---- the file of the name

-- the file of the name, as it is held and as the minidisk has it
pub record FoundIn (image : Image) (d : Accessed) (m : Minidisk) (name : Name) (file : File) (k : ℕ) (h : HeldFile) : Type 0 where
  pub is : IsHeldFileOf m.bsize image h file
  pub stored_is : IsStored m.bsize image h file

pub found_in : (j : Journal) (d : Accessed) (m : Minidisk) (name : Name) (file : File) (k : ℕ) (h : HeldFile) → IsMinidisk j d m → file_named name m.files ≡ Some file → place_of name d.volume ≡ Some k
    → slice_get d.volume.files k ≡ Some h → FoundIn (now j d.volume.unit) d m name file k h
found_in j d m name file k h x named at is_h =
    let image = now j d.volume.unit in
    let s = x.stands in
    let tells = stands_tells image d m s in
    let place : IsPlace name m.files k = subst (IsFound name m.files) at (tells.found name) in
    let f = slice_index_or m.files k file in
    let is_f : slice_get m.files k ≡ Some f = slice_get-get_or m.files k file place.within in
    let same : f ≡ file = same_Some f file (sym ((place_changed name m.files k place).found file) ∙ named) in
    let is : slice_get m.files k ≡ Some file = is_f ∙ ap (λ (g : File). Some g) same in
    record { is = tells.held.files_are k h file is_h is; stored_is = stands_stored image d m s k h file is_h is }

-- ---- records that are added at once

-- the shape of the file with them, and what is told of the file
pub record Shaped (v : HeldVolume) (name : Name) (more : FileData) (shape : DraftShape) : Type 0 where
  pub file : HeldFile
  pub is : IsFileOf v name file
  pub told : IsTold v name (info_of file) file.size
  pub shape_is : shape ≡ shape_with (info_of file) file.size more
  pub can : CanExtend (info_of file) file.size shape

pub shaped_at : (v : HeldVolume) (name : Name) (place : ℕ) (more : FileData) (shape : DraftShape) → place_of name v ≡ Some place
    → ((info : FileInfo) (bytes : ℕ) → slice_get (infos_in v) place ≡ Some info → slice_get (stored_in v) place ≡ Some bytes → shape ≡ shape_with info bytes more)
    → ((info : FileInfo) (bytes : ℕ) → slice_get (infos_in v) place ≡ Some info → slice_get (stored_in v) place ≡ Some bytes → CanExtend info bytes shape) → Shaped v name more shape
shaped_at v name place more shape at is can =
    let n = named_in v.files name place at in
    let f = n.file in
    let here : IsFileOf v name f = record { place = place; there = at; is = n.there } in
    let told = told_of v name f here in
    record {
      file = f;
      is = here;
      told = told;
      shape_is = is (info_of f) f.size told.info_is told.bytes_are;
      can = can (info_of f) f.size told.info_is told.bytes_are;
    }

-- whatever is told of the file is told of that one
told_same : (v : HeldVolume) (name : Name) (more : FileData) (shape : DraftShape) (info : FileInfo) (bytes : ℕ) → (s : Shaped v name more shape) → IsTold v name info bytes
    → (info_of s.file ≡ info) × (s.file.size ≡ bytes)
told_same v name more shape info bytes s told =
    let t = told_file v name info bytes told in
    let place : t.is.place ≡ s.is.place = same_Some t.is.place s.is.place (sym t.is.there ∙ s.is.there) in
    let same : t.file ≡ s.file = same_Some t.file s.file (sym (subst (λ (k : ℕ). slice_get v.files k ≡ Some t.file) place t.is.is) ∙ s.is.is) in
    (ap info_of (sym same) ∙ t.info_is, ap (λ (f : HeldFile). f.size) (sym same) ∙ t.bytes_are)

-- so is it extended
pub may_extend : (v : HeldVolume) (name : Name) (more : FileData) (shape : DraftShape) → Shaped v name more shape → MayExtend v name shape
may_extend v name more shape s info bytes told =
    let same = told_same v name more shape info bytes s told in
    subst (λ (i : FileInfo). CanExtend i bytes shape) same.0 (subst (λ (n : ℕ). CanExtend (info_of s.file) n shape) same.1 s.can)

pub shape_told : (v : HeldVolume) (name : Name) (more : FileData) (shape : DraftShape) (info : FileInfo) (bytes : ℕ) → Shaped v name more shape → IsTold v name info bytes
    → shape ≡ shape_with info bytes more
shape_told v name more shape info bytes s told =
    let same = told_same v name more shape info bytes s told in
    s.shape_is ∙ ap (λ (i : FileInfo). shape_with i s.file.size more) same.0 ∙ ap (λ (n : ℕ). shape_with info n more) same.1

-- the longest of all
long_so : (format : Format) (mine told most : ℕ) (records : List (List ℕ)) → told ≡ mine → (format ≡ F → most ≡ told) → most ≡ length_of format most records
    → length_with format mine records ≡ max told most
long_so F mine told most records is fixed long = let same = fixed refl in omega (arith, is, same)
long_so V mine told most records is fixed long = ap (λ (n : ℕ). max n (longest records)) (sym is) ∙ ap (max told) (sym long)

each_so : (format : Format) (told most : ℕ) (records : List (List ℕ)) → (format ≡ F → most ≡ told) → All (Fits format most) records → All (Fits format (max told most)) records
each_so F told most records fixed each = subst (λ (n : ℕ). All (Fits F n) records) (let same = fixed refl in omega (arith, same)) each
each_so V told most [] fixed each = All-nil (Fits V (max told most))
each_so V told most (r ∷ rs) fixed each =
    let here = All-head (Fits V most) r rs each in
    let long = here.1 in
    All-cons (Fits V (max told most)) r rs (here.0, omega (arith, long)) (each_so V told most rs fixed (All-tail (Fits V most) r rs each))

-- records that fit the file have the shape behind its own
pub has_behind : (file : File) (f : HeldFile) (more : FileData) (records : List (List ℕ)) (shape : DraftShape) → shape ≡ shape_with (info_of f) f.size more → StandsFor more records
    → more.format ≡ f.entry.format → (f.entry.format ≡ F → more.length ≡ f.length) → f.entry.format ≡ file.format → f.length ≡ file.length → f.entry.count ≡ length file.records
    → f.size ≡ length (stored file.format file.records) → HaveShapeBehind file shape records
has_behind file f more records shape is stands format fixed format_is length_is count_is size_is =
    let all = length-append file.records records in
    let count = stands.count_is in
    let shape_count : shape.count ≡ f.entry.count + more.count = ap (λ (s : DraftShape). s.count) is in
    let shape_bytes : shape.bytes ≡ f.size + length more.bytes = ap (λ (s : DraftShape). s.bytes) is in
    let kind : shape.format ≡ f.entry.format = ap (λ (s : DraftShape). s.format) is in
    let long : shape.length ≡ max f.length more.length = ap (λ (s : DraftShape). s.length) is in
    let parts = ap length (stored_append shape.format file.records records) ∙ length-append (stored shape.format file.records) (stored shape.format records) in
    let own : length (stored shape.format file.records) ≡ f.size = ap (λ (k : Format). length (stored k file.records)) (kind ∙ format_is) ∙ sym size_is in
    let added : length (stored shape.format records) ≡ length more.bytes = ap (λ (k : Format). length (stored k records)) (kind ∙ sym format) ∙ sym (ap length stands.bytes_are) in
    record {
      counts = record { count = omega (arith, all, count, count_is, shape_count); bytes = omega (arith, parts, own, added, shape_bytes) };
      each = subst (λ (n : ℕ). All (Fits shape.format n) records) (sym long)
          (subst (λ (k : Format). All (Fits k (max f.length more.length)) records) (sym kind)
          (each_so f.entry.format f.length more.length records fixed (subst (λ (k : Format). All (Fits k more.length) records) format stands.each)));
      long = ap (λ (k : Format). length_with k file.length records) kind
          ∙ (long_so f.entry.format file.length f.length more.length records length_is fixed
          (stands.length_is ∙ ap (λ (k : Format). length_of k more.length records) format) ∙ sym long);
    }

-- so it is with the file of the name, as the minidisk has it
pub record Behind (m : Minidisk) (name : Name) (shape : DraftShape) (records : List (List ℕ)) : Type 0 where
  pub file : File
  pub named : file_named name m.files ≡ Some file
  pub have : HaveShapeBehind file shape records

pub behind_at : (j : Journal) (d : Accessed) (m : Minidisk) (name : Name) (more : FileData) (records : List (List ℕ)) (shape : DraftShape) → IsMinidisk j d m → StandsFor more records
    → FitsFile d.volume name more → Shaped d.volume name more shape → Behind m name shape records
behind_at j d m name more records shape x stands fits s =
    let n = named_at (now j d.volume.unit) name d m s.is.place s.file x.stands s.is.there s.is.is in
    let found = found_in j d m name n.file s.is.place s.file x n.named s.is.there s.is.is in
    let told = s.told in
    let fit = fits told.place (info_of s.file) told.place_is told.info_is in
    record {
      file = n.file;
      named = n.named;
      have = has_behind n.file s.file more records shape s.shape_is stands fit.0 fit.1 found.is.format_is found.is.length_is found.is.count_is found.stored_is.size_is;
    }

-- they are the last of the draft
pub last_behind : (more : FileData) (records : List (List ℕ)) (info : FileInfo) (bytes : ℕ) (shape : DraftShape) (draft : FileWriter) → StandsFor more records → shape ≡ shape_with info bytes more
    → more.format ≡ info.format → (info.format ≡ F → more.length ≡ info.length) → StandsBehind info bytes shape draft → AreLast draft more
last_behind more records info bytes shape draft stands is format fixed b =
    let same : draft.shape ≡ shape_with info bytes more = b.shape_is ∙ is in
    let put = b.put in
    let came_is = b.came_is in
    let count : draft.shape.count ≡ info.count + more.count = ap (λ (s : DraftShape). s.count) same in
    let size : draft.writer.size ≡ bytes + length more.bytes = b.size_is ∙ ap (λ (s : DraftShape). s.bytes) is in
    let kind : draft.shape.format ≡ info.format = ap (λ (s : DraftShape). s.format) same in
    let long : draft.shape.length ≡ max info.length more.length = ap (λ (s : DraftShape). s.length) same in
    record {
      format = format ∙ sym kind;
      fixed = λ at. (let one = fixed (sym kind ∙ at) in omega (arith, one, long));
      count = omega (arith, put, count);
      bytes = omega (arith, came_is, size);
    }

-- ---- how the draft begins

-- what comes in front of the added records
abbrev front_of : Image → ℕ → HeldFile → ℕ → Front
front_of image bsize f leaves = record {
  bytes = take f.size (bytes_at image f.tree.leaves);
  count = f.entry.count;
  place = f.start;
  nodes = kept_of (bsize / pointer_size f.entry.format) (pointer_size f.entry.format) image (length f.tree.leaves) f.tree.pointers (last_leaf f.tree)
      (record { last = f.entry.count; place = f.start }) (kept_in bsize f) leaves;
}

-- the added records have the shape behind those
shape_on : (image : Image) (bsize : ℕ) (h : HeldFile) (file : File) (shape : DraftShape) (more : List (List ℕ)) (leaves : ℕ) → h.entry.count ≡ length file.records → h.entry.format ≡ file.format
    → h.size ≡ length (stored file.format file.records) → h.size ≤ length (bytes_at image h.tree.leaves) → shape.format ≡ h.entry.format → HaveShapeBehind file shape more
    → HaveShapeOn shape (front_of image bsize h leaves) more
shape_on image bsize h file shape more leaves count format size low shaped have =
    let all = have.counts.count in
    let both = length-append file.records more in
    let front = length-take-le h.size (bytes_at image h.tree.leaves) low in
    let here = length-append (take h.size (bytes_at image h.tree.leaves)) (stored shape.format more) in
    let parts = ap length (stored_append shape.format file.records more) ∙ length-append (stored shape.format file.records) (stored shape.format more) in
    let own : length (stored shape.format file.records) ≡ h.size = ap (λ (k : Format). length (stored k file.records)) (shaped ∙ format) ∙ sym size in
    let bytes = have.counts.bytes in
    record { count = omega (arith, all, both, count); bytes = omega (arith, front, here, parts, own, bytes); each = have.each }

-- nothing of it stands yet but what is kept
nothing_more : (image : Image) (draft : Draft) (front : Front) (more : List (List ℕ)) → draft.writer.writer.whole ≡ draft.writer.writer.kept
    → HasDraft image draft.writer.writer.bsize draft.writer.writer.psize draft.writer.writer.tree.leaves (marks_in draft.writer front more) draft.writer.writer.tree.pointers draft.writer.writer.kept
    front.nodes (stored_on draft.writer.shape.format front more) draft.writer.writer.whole
nothing_more image draft front more whole =
    let w = draft.writer.writer in
    subst (HasWritten image) (sym (none_written w.bsize w.psize w.tree.leaves (marks_in draft.writer front more) w.tree.pointers w.kept front.nodes (stored_on draft.writer.shape.format front more) w.whole
    (omega (arith, whole)))) tt

pub begins_more : (old new : Told) (d e : Accessed) (name : Name) (shape : DraftShape) (stamp : Stamp) (draft : Draft) (k : ℕ) (h : HeldFile) → new ≡ old → e.volume ≡ d.volume → Keeps d.volume
    → place_of name d.volume ≡ Some k → slice_get d.volume.files k ≡ Some h → IsMoreFor d.volume name h shape stamp draft → IsBehind h shape draft → shape.format ≡ h.entry.format
    → ((j : Journal) → old ≡ Some j → IsReadable j d)
    → ((j : Journal) (front : Front) (records : List (List ℕ)) → old ≡ Some j → IsFrontOf j d.volume h (tree_of draft) front → HaveShapeOn shape front records → Drafts draft.writer front [] records)
    → BeginsMore old new d e name shape stamp draft
begins_more old new d e name shape stamp draft k h same volume keeps at is_h planned behind shaped reads drafts j m file more is x named have =
    let image = now j d.volume.unit in
    let bsize = d.volume.disk.bsize in
    let has = reads j is in
    let tells = stands_tells image d m x.stands in
    let size : m.bsize ≡ bsize = sym tells.held.bsize_is in
    let in_file = found_in j d m name file k h x named at is_h in
    let facts = in_file.is in
    let kept = kept_at d.volume k h keeps is_h in
    let long = leaves_long image d m h x.stands keeps kept in
    let begins = start_in bsize d.volume.label.blocks image h file (file_stands d.volume image k h x.trees is_h)
    (subst (λ (n : ℕ). IsHeldFileOf n image h file) size facts) (subst (λ (n : ℕ). IsStored n image h file) size in_file.stored_is) in
    let front = front_of image bsize h (length (tree_of draft).leaves) in
    let front_is : IsFrontOf j d.volume h (tree_of draft) front =
    record { long = long; begins = begins; bytes_are = refl; count_is = refl; place_is = refl; nodes_are = refl } in
    let on = shape_on image bsize h file shape more (length (tree_of draft).leaves) facts.count_is facts.format_is in_file.stored_is.size_is
    (bytes_low bsize d.volume.label.blocks image h kept long) shaped have in
    let there = minidisk_same j d e m volume x in
    let readable = subst (λ (v : HeldVolume). HasBlocks j.units v.unit v.disk.count v.disk.bsize) (sym volume) has in
    let w = draft.writer.writer in
    let nothing = none_written_yet j old e m is there readable in
    subst (λ (t : Told). GoesOn old t e m draft (Add name more shape.stamp) stamp [] more) (sym same) (record {
      stands = record { at = j; told_is = is; minidisk = there; readable = readable };
      aside = none_aside j old e m is there readable;
      front = front;
      is_for = (
        refl,
        record {
          file = h;
          shape = shape;
          planned = subst (λ (v : HeldVolume). IsMoreFor v name h shape stamp draft) (sym volume) planned;
          added_is = refl;
          front_is = subst (λ (v : HeldVolume). IsFrontOf j v h (tree_of draft) front) (sym volume) front_is;
          long = ap (λ (n : ℕ). length_with shape.format n more) facts.length_is ∙ have.long;
        },
      );
      drafts = drafts j front more is front_is on;
      written = nothing_more (now j draft.writer.writer.unit) draft front more behind.whole;
      count = nothing ∙ sym (ap (λ (ws : List Write). length ws)
          (none_written w.bsize w.psize w.tree.leaves (marks_in draft.writer front more) w.tree.pointers w.kept front.nodes (stored_on draft.writer.shape.format front more) w.whole (omega (arith, behind.whole))));
      few = omega (arith, nothing);
    })

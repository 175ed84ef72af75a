-- What is planned for an edit is ready, and the volume after it is held.
use Rattle.std.proofs.Common.{◌≡◌, ◌⊎◌, ⊎_elim, inl, inr, ℕ, zero, suc, ◌+◌, ◌-◌, ◌*◌, ◌/◌, ◌^◌, ◌<◌, ◌≤◌, Bool, true, List, [], ◌∷◌, ◌++◌, length, map, take, drop, slice_get, get_or, All, None, Some, Result, Ok, Err, refl, sym, ◌∙◌, ap, subst, arith}
use Rattle.std.proofs.lemmas.List.{get_or-set_same, length-map, length-set, map-set, nil_from_length}
use Rattle.std.proofs.lemmas.List.Elements.{All-nil, All-cons, All-get_or, All-head, All-tail, All-set, All-append, All-take}
use Rattle.std.proofs.lemmas.Option.{get_or_from_slice_get, same_Some, slice_get-get_or, slice_get-map, slice_get_within}
use Rattle.cms_journal.proofs.Sizes.{block_bounds}
use Rattle.cms_names.specs.declared.name.Name.{Name}
use Rattle.cms_fields.specs.Entries.{passes}
use Rattle.cms_fields.specs.Numbers.{up}
use Rattle.cms_fields.specs.Stamps.{is_stamp}
use Rattle.cms_fields.specs.declared.entry.Entry.{Entry}
use Rattle.cms_fields.specs.declared.label.Label.{Label}
use Rattle.cms_fields.specs.declared.time.Stamp.{Stamp}
use Rattle.cms_model.specs.DirectoryParts.{blocks_made, directory_count}
use Rattle.cms_model.specs.Lists.{In}
use Rattle.cms_model.specs.SharedTrees.{MayBeWritten}
use Rattle.cms_model.specs.Sizes.{map_size, pointer_count}
use Rattle.cms_map.specs.Bits.{free_blocks, with_marked}
use Rattle.cms_map.proofs.Free.{free_are_unused, length-with_marked}
use Rattle.cms_held.specs.HeldVolumes.{HeldFile, HeldTree, HeldVolume, names_in}
use Rattle.cms_model.specs.Changes.{Century, Change, Drop, Rename, Relabel}
use Rattle.cms_model.specs.Minidisks.{same_name}
use Rattle.cms_model.proofs.ListChanges.{name_from}
use Rattle.std.proofs.lemmas.List.Quantifiers.{position-Some}
use Rattle.cms_held.specs.Kept.{IsKeptFile, Keeps}
use Rattle.cms_held.specs.Allotments.{IsPartAllotted, part_fresh, part_released, parts_of}
use Rattle.cms_held.specs.SharedBlocks.{fresh_of}
use Rattle.cms_held.specs.Systems.{Systems, TreePart}
use Rattle.cms_held.specs.Written.{CanWrite, ReadsBack}
use Rattle.cms_held.proofs.KeptTrees.{nodes_are}
use Rattle.cms_held.specs.MapShares.{turned}
use Rattle.cms_edf.specs.Allotments.{IsAllottedFor, all_fresh, all_released, given_back, need_of, own_fresh, own_released, numbers_made}
use Rattle.cms_edf.specs.BlockWrites.{IsBlockOf}
use Rattle.cms_edf.specs.Doubts.{AreAt, IsReady}
use Rattle.cms_held.specs.Renewals.{Edit, blocks_in, dropping, entries_held, moved_entry, moved_file, moving, renamed, renaming, renewed}
use Rattle.cms_held.specs.MinidiskUpdates.{IsEditOf, IsReadyFor, drops, moves, renames}
use Rattle.cms_edf.specs.ChangePlans.{AreEnoughFor, DoesTo, Edited, IsEditFor, IsFilled, IsPlanFor, IsPrepared, IsReadyAt, IsRelabelOf, IsStepOf, MayEdit, count_after, made_by, place_in}
use Rattle.cms_edf.specs.ChangePlans as edits
use Rattle.cms_edf.specs.declared.allotment.Allotment.{Allotment}
use Rattle.cms_edf.specs.declared.allotment.Exchange.{Exchange}
use Rattle.cms_edf.specs.declared.change.FileEdit.{FileEdit}
use Rattle.cms_edf.specs.declared.change.FileEdit.TheVariants as does
use Rattle.cms_edf.specs.declared.step.Step.{Step}
use Rattle.cms_edf.specs.declared.step.Step.TheVariants as planned
use Rattle.std.specs.Prelude.{IfOk, option_map, slice_set, swap_remove}
use Rattle.cms_held.proofs.Allotted.{directory_small, directory_some, map_some}
use Rattle.cms_held.proofs.Centuries.{kept_all_moved}
use Rattle.cms_held.proofs.Edits.{passes_renamed}
use Rattle.cms_held.proofs.MapMarks.{length_freed}
use Rattle.cms_held.proofs.SwapRemoved.{All-removed, length-removed, map-removed}
use Rattle.cms_edf.proofs.AllottedParts.{planned_of}
use Rattle.cms_edf.proofs.PartsReady.{IsAt, at_fresh, fresh_first, map_may}
use Rattle.cms_edf.proofs.PlanParts.{one_more}
use Rattle.cms_model.proofs.FileSizes.{passing}
use Rattle.cms_model.proofs.Quotients.{up_below, up_some, up_spec}

-- ---- entries

-- an entry that passes may be written
pub can_write : (bsize : ℕ) (e : Entry) → passes bsize e ≡ true → CanWrite e
can_write bsize e is = let p = passing bsize e is in (p.number, p.stamp)

-- the entries of files that are kept
pub can_write_all : (bsize total : ℕ) (fs : List HeldFile) → All (IsKeptFile bsize total) fs → All CanWrite (entries_held fs)
can_write_all bsize total [] all = All-nil CanWrite
can_write_all bsize total (f ∷ fs) all =
    All-cons CanWrite f.entry (entries_held fs) (can_write bsize f.entry (All-head (IsKeptFile bsize total) f fs all).entry)
    (can_write_all bsize total fs (All-tail (IsKeptFile bsize total) f fs all))

-- entries that spell themselves, one more
pub more_back : (es : List Entry) (k : ℕ) (e : Entry) → slice_get es k ≡ Some e → All ReadsBack (take k es) → ReadsBack e → All ReadsBack (take (k + 1) es)
more_back es k e there all one =
    subst (All ReadsBack) (sym (one_more es k e there))
    (All-append ReadsBack (take k es) (e ∷ []) all (All-cons ReadsBack e [] one (All-nil ReadsBack)))

-- the entries of files that are kept spell themselves
pub back_all : (bsize total : ℕ) (fs : List HeldFile) → All (IsKeptFile bsize total) fs → All ReadsBack (entries_held fs)
back_all bsize total [] all = All-nil ReadsBack
back_all bsize total (f ∷ fs) all =
    All-cons ReadsBack f.entry (entries_held fs) (All-head (IsKeptFile bsize total) f fs all).spells
    (back_all bsize total fs (All-tail (IsKeptFile bsize total) f fs all))

-- these files are left by an edit
abbrev pub FilesLeft : List HeldFile → FileEdit → List HeldFile → Type 0
FilesLeft fs (does.Drop place) new = (f : HeldFile) → new ≡ swap_remove fs place f
FilesLeft fs (does.Rename place to number) new = (f : HeldFile) → slice_get fs place ≡ Some f → new ≡ slice_set fs place (renamed to number f)
FilesLeft fs (does.Century pivot) new = new ≡ map (moved_file pivot) fs

pub files_left : (fs : List HeldFile) (e : FileEdit) (new : List HeldFile) (x : Edit) → DoesTo fs e x → FilesLeft fs e new → new ≡ x.files
files_left fs e new x (edits.drops place f is) had = had f
files_left fs e new x (edits.renames place f to number is) had = had f is
files_left fs e new x (edits.moves pivot) had = had

-- these entries are left by an edit, as the entry at its place tells
abbrev pub Leaves : List HeldFile → FileEdit → List Entry → Type 0
Leaves fs (does.Drop place) entries = (x : Entry) → slice_get (entries_held fs) place ≡ Some x → entries ≡ swap_remove (entries_held fs) place x
Leaves fs (does.Rename place to number) entries =
    (x : Entry) → slice_get (entries_held fs) place ≡ Some x → entries ≡ slice_set (entries_held fs) place (record x { name = to; number = number })
Leaves fs (does.Century pivot) entries = entries ≡ map (moved_entry pivot) (entries_held fs)

-- the file's entry at a place
pub entry_at : (fs : List HeldFile) (k : ℕ) (f : HeldFile) → slice_get fs k ≡ Some f → slice_get (entries_held fs) k ≡ Some f.entry
entry_at fs k f is = slice_get-map (λ (g : HeldFile). g.entry) fs k ∙ ap (option_map (λ (g : HeldFile). g.entry)) is

-- the entries of files whose stamps are moved
pub entries_moved : (pivot : ℕ) (fs : List HeldFile) → entries_held (map (moved_file pivot) fs) ≡ map (moved_entry pivot) (entries_held fs)
entries_moved pivot [] = refl
entries_moved pivot (f ∷ fs) = ap (λ (l : List Entry). moved_entry pivot f.entry ∷ l) (entries_moved pivot fs)

-- the entries of the edited files are those that are left
pub edited_are : (fs : List HeldFile) (e : FileEdit) (x : Edit) (entries : List Entry) → DoesTo fs e x → Leaves fs e entries → entries_held x.files ≡ entries
edited_are fs e x entries (edits.drops place f is) had = map-removed (λ (g : HeldFile). g.entry) fs place f f.entry (slice_get_within fs place f is) ∙ sym (had f.entry (entry_at fs place f is))
edited_are fs e x entries (edits.renames place f to number is) had = map-set (λ (g : HeldFile). g.entry) fs place (renamed to number f) ∙ sym (had f.entry (entry_at fs place f is))
edited_are fs e x entries (edits.moves pivot) had = entries_moved pivot fs ∙ sym had

-- they are as many
pub count_is : (fs : List HeldFile) (e : FileEdit) (x : Edit) → DoesTo fs e x → length x.files ≡ count_after fs e
count_is fs e x (edits.drops place f is) = length-removed fs place f
count_is fs e x (edits.renames place f to number is) = length-set fs place (renamed to number f)
count_is fs e x (edits.moves pivot) = length-map fs (moved_file pivot)

pub entries_count : (fs : List HeldFile) → length (entries_held fs) ≡ length fs
entries_count fs = length-map fs (λ (g : HeldFile). g.entry)

-- a file with another name is kept
kept_renamed : (bsize total : ℕ) (f : HeldFile) (to : Name) (number : ℕ) → number ≤ 6 → ReadsBack (renamed to number f).entry → IsKeptFile bsize total f
    → IsKeptFile bsize total (renamed to number f)
kept_renamed bsize total f to number small back k = record {
  entry = passes_renamed bsize f.entry to number small k.entry;
  spells = back;
  count = k.count;
  within = k.within;
  nodes_within = k.nodes_within;
  room = k.room;
  some = k.some;
  short = k.short;
  told = k.told;
  size = k.size;
  sized = k.sized;
  shape = k.shape;
  low = k.low;
  high = k.high;
}

kept_at : (P : HeldFile → Type 0) (fs : List HeldFile) (k : ℕ) (f : HeldFile) → slice_get fs k ≡ Some f → All P fs → P f
kept_at P fs k f is all = subst P (get_or_from_slice_get fs k f f is) (All-get_or P fs k f (slice_get_within fs k f is) all)

-- the entry of the file at a place spells itself where all do
pub back_at : (fs : List HeldFile) (k : ℕ) (f : HeldFile) → slice_get fs k ≡ Some f → All ReadsBack (entries_held fs) → ReadsBack f.entry
back_at fs k f is back =
    let there = entry_at fs k f is in
    subst ReadsBack (get_or_from_slice_get (entries_held fs) k f.entry f.entry there)
    (All-get_or ReadsBack (entries_held fs) k f.entry (slice_get_within (entries_held fs) k f.entry there) back)

-- the one that stands in the place of another
pub set_there : (fs : List HeldFile) (k : ℕ) (f : HeldFile) → k < length fs → slice_get (slice_set fs k f) k ≡ Some f
set_there fs k f less =
    slice_get-get_or (slice_set fs k f) k f (omega (arith, length-set fs k f)) ∙ ap (λ (g : HeldFile). Some g) (get_or-set_same fs k f f less)

-- the files after an edit are kept, where their entries spell themselves
pub edited_kept : (bsize total : ℕ) (fs : List HeldFile) (e : FileEdit) (x : Edit) → DoesTo fs e x → MayEdit fs e → All ReadsBack (entries_held x.files) → All (IsKeptFile bsize total) fs
    → All (IsKeptFile bsize total) x.files
edited_kept bsize total fs e x (edits.drops place f is) may back all = All-removed (IsKeptFile bsize total) fs place f may all
edited_kept bsize total fs e x (edits.renames place f to number is) may back all =
    let own = back_at (slice_set fs place (renamed to number f)) place (renamed to number f) (set_there fs place (renamed to number f) may.0) back in
    All-set (IsKeptFile bsize total) fs place (renamed to number f) (kept_renamed bsize total f to number may.1 own (kept_at (IsKeptFile bsize total) fs place f is all)) all
edited_kept bsize total fs e x (edits.moves pivot) may back all = kept_all_moved bsize total pivot fs may back all

-- the entries that an edit makes anew spell themselves
abbrev pub SpellsNew : List HeldFile → FileEdit → Type 0
SpellsNew fs (does.Drop place) = Unit {0}
SpellsNew fs (does.Rename place to number) = (x : Entry) → slice_get (entries_held fs) place ≡ Some x → ReadsBack (record x { name = to; number = number })
SpellsNew fs (does.Century pivot) = All ReadsBack (map (moved_entry pivot) (entries_held fs))

-- those after it do
back_edited : (fs : List HeldFile) (e : FileEdit) (x : Edit) → DoesTo fs e x → SpellsNew fs e → All ReadsBack (entries_held fs) → All ReadsBack (entries_held x.files)
back_edited fs e x (edits.drops place f is) new back =
    let within = slice_get_within fs place f is in
    subst (All ReadsBack) (sym (map-removed (λ (g : HeldFile). g.entry) fs place f f.entry within))
    (All-removed ReadsBack (entries_held fs) place f.entry (omega (arith, entries_count fs)) back)
back_edited fs e x (edits.renames place f to number is) new back =
    subst (All ReadsBack) (sym (map-set (λ (g : HeldFile). g.entry) fs place (renamed to number f)))
    (All-set ReadsBack (entries_held fs) place (renamed to number f).entry (new f.entry (entry_at fs place f is)) back)
back_edited fs e x (edits.moves pivot) new back = subst (All ReadsBack) (sym (entries_moved pivot fs)) new

-- ---- the edited entries

-- the file at a place
pub file_at : (fs : List HeldFile) (k : ℕ) → k < length fs → (f : HeldFile) × (slice_get fs k ≡ Some f)
file_at [] k less = absurd (omega arith)
file_at (f ∷ fs) zero less = (f, refl)
file_at (f ∷ fs) (suc k) less = file_at fs k (omega arith)

-- an edit does one thing to the files
pub some_edit : (fs : List HeldFile) (e : FileEdit) → MayEdit fs e → (x : Edit) × DoesTo fs e x
some_edit fs (does.Drop place) may = let at = file_at fs place may in (dropping fs place at.0, edits.drops place at.0 at.1)
some_edit fs (does.Rename place to number) may = let at = file_at fs place may.0 in (renaming fs place at.0 to number, edits.renames place at.0 to number at.1)
some_edit fs (does.Century pivot) may = (moving fs pivot, edits.moves pivot)

pub one_edit : (fs : List HeldFile) (e : FileEdit) (x y : Edit) → DoesTo fs e x → DoesTo fs e y → x ≡ y
one_edit fs e x y (edits.drops place f is) (edits.drops place' g at) = ap (dropping fs place) (same_Some f g (sym is ∙ at))
one_edit fs e x y (edits.renames place f to number is) (edits.renames place' g to' number' at) = ap (λ (h : HeldFile). renaming fs place h to number) (same_Some f g (sym is ∙ at))
one_edit fs e x y (edits.moves pivot) (edits.moves pivot') = refl

count_few : (fs : List HeldFile) (e : FileEdit) → length fs ≤ 16384 → count_after fs e ≤ 16384
count_few fs (does.Drop place) few = omega arith
count_few fs (does.Rename place to number) few = few
count_few fs (does.Century pivot) few = few

pub edited_of : (v : HeldVolume) (e : FileEdit) (entries : List Entry) → Keeps v → MayEdit v.files e → Leaves v.files e entries → SpellsNew v.files e → Edited v e entries
edited_of v e entries kept may had new =
    let at = some_edit v.files e may in
    let x = at.0 in
    let are : entries_held x.files ≡ entries = edited_are v.files e x entries at.1 had in
    let count : length entries ≡ count_after v.files e = ap length (sym are) ∙ (entries_count x.files ∙ count_is v.files e x at.1) in
    let few = count_few v.files e kept.few in
    let back = back_edited v.files e x at.1 new (back_all v.disk.bsize v.label.blocks v.files kept.each) in
    record {
      edit = x;
      done = at.1;
      are = are;
      count = count;
      few = omega arith;
      each = subst (All CanWrite) are
          (can_write_all v.disk.bsize v.label.blocks x.files (edited_kept v.disk.bsize v.label.blocks v.files e x at.1 may back kept.each));
      back = subst (All ReadsBack) are back;
    }

-- ---- the volume after an edit

pub new_bits : (v : HeldVolume) (edit : Edit) (s : Systems) → IsPartAllotted v edit s (parts_of s) → length s.bits ≡ length v.bits
new_bits v edit s a =
    ap length a.marks ∙ (length_freed (part_released v edit s (parts_of s)) (with_marked (part_fresh v edit s (parts_of s)) v.bits) ∙ length-with_marked (part_fresh v edit s (parts_of s)) v.bits)

-- the map that was allotted has as many
pub allotted_bits : (v : HeldVolume) (x : Exchange) (a : Allotment) → IsAllottedFor v x a → length a.map ≡ length v.bits
allotted_bits v x a al = ap length al.marks ∙ (length_freed (all_released v x a) (with_marked (all_fresh v a) v.bits) ∙ length-with_marked (all_fresh v a) v.bits)

-- in place of the files that were made ready as many other such files may stand
pub ready_keeps : (v : HeldVolume) (edit ready : Edit) (stamp : Stamp) (s : Systems) → IsReadyFor v ready stamp s → length s.label_bytes ≡ v.disk.bsize → length ready.files ≤ 16384
    → length edit.files ≡ length ready.files → All (IsKeptFile v.disk.bsize v.label.blocks) edit.files → Keeps (renewed v edit s)
ready_keeps v edit ready stamp s r long most same each =
    let k = r.kept in
    let low = k.origin_low in let high = k.origin_high in
    let blocks : s.label.blocks ≡ v.label.blocks = ap (λ (l : Label). l.blocks) r.planned.label in
    let origin : s.label.origin ≡ 9 - v.label.origin = ap (λ (l : Label). l.origin) r.planned.label in
    let total = k.within in let some = k.size in
    let small = k.small in
    let room = (block_bounds v.disk.bsize k.sized).0 in
    let fan : 1 ≤ v.disk.bsize / 4 = omega arith in
    let a = r.planned.blocks in
    let count = length ready.files in
    let d = a.directory_is in
    let m = a.map_is in
    let d_some = up_some (64 * (count + 2)) v.disk.bsize (omega arith) (omega arith) in
    let d_few = up_below (64 * (count + 2)) v.disk.bsize (omega arith) in
    let bytes_some = up_some v.label.blocks 8 (omega arith) (omega arith) in
    let bytes_few = up_below v.label.blocks 8 (omega arith) in
    let m_some = up_some (up v.label.blocks 8) v.disk.bsize (omega arith) bytes_some in
    let m_few = up_below (up v.label.blocks 8) v.disk.bsize (omega arith) in
    record {
      within = omega arith;
      size = omega arith;
      small = omega arith;
      sized = k.sized;
      origin_low = omega arith;
      origin_high = omega arith;
      label_long = long;
      directory_shape = record { some = omega arith; few = omega arith; nodes = nodes_are (v.disk.bsize / 4) s.directory_part.leaves v.directory s.directory fan a.directory };
      directory_is = a.directory_is ∙ ap (directory_count v.disk.bsize) (sym same);
      map_shape = record { some = omega arith; few = omega arith; nodes = nodes_are (v.disk.bsize / 4) s.map_part.leaves v.map s.map fan a.map };
      map_is = a.map_is ∙ ap (λ (n : ℕ). up (up n 8) v.disk.bsize) (sym blocks);
      bits_are = new_bits v ready s r.planned.blocks ∙ (k.bits_are ∙ sym blocks);
      few = omega arith;
      each = subst (λ (n : ℕ). All (IsKeptFile v.disk.bsize n) edit.files) (sym blocks) each;
    }

pub renewed_keeps : (v : HeldVolume) (e : FileEdit) (x : Edit) (stamp : Stamp) (s : Systems) → MayEdit v.files e → DoesTo v.files e x → IsReadyFor v x stamp s → length s.label_bytes ≡ v.disk.bsize
    → Keeps (renewed v x s)
renewed_keeps v e x stamp s may done r long =
    let count = count_is v.files e x done in
    let few = count_few v.files e r.kept.few in
    ready_keeps v x x stamp s r long (omega arith) refl (edited_kept v.disk.bsize v.label.blocks v.files e x done may r.back r.kept.each)

-- ---- what is prepared

-- what is prepared for the entries of an edit is ready
pub ready_for : (v : HeldVolume) (edit : Edit) (entries : List Entry) (x : Exchange) (stamp : Stamp) (s : Systems) → Keeps v → is_stamp stamp ≡ true → IsPrepared v entries x stamp s
    → entries_held edit.files ≡ entries → edit.made ≡ numbers_made x → edit.given ≡ given_back x → edit.taken ≡ [] → IsReadyFor v edit stamp s
ready_for v edit entries x stamp s kept stamped p are made gives takes =
    record { kept = kept; stamped = stamped; planned = p.planned edit are made gives takes; back = subst (All ReadsBack) (sym are) p.back }

-- what is written in the blocks that are allotted is prepared
pub prepared_of : (v : HeldVolume) (x : Exchange) (a : Allotment) (entries : List Entry) (stamp : Stamp) (s : Systems) → IsAllottedFor v x a → IsFilled v entries a stamp s → x.files ≡ length entries → x.file ≡ 0
    → AreEnoughFor v entries x → need_of v x ≤ length (free_blocks v.bits) → IsPrepared v entries x stamp s
prepared_of v x a entries stamp s allotted filled count none enough room = record {
  label_long = filled.systems.label_long;
  back = filled.systems.back;
  planned = λ edit are made gives takes. planned_of v x a entries edit stamp s allotted filled
      (record { entries_are = are; files = count; made = made; given = gives; taken = takes ∙ sym (nil_from_length a.file.items (allotted.file ∙ none)) }) enough room;
}

none_taken : (fs : List HeldFile) (e : FileEdit) (x : Edit) → DoesTo fs e x → x.taken ≡ []
none_taken fs e x (edits.drops place f is) = refl
none_taken fs e x (edits.renames place f to number is) = refl
none_taken fs e x (edits.moves pivot) = refl

-- the entries that it makes anew
pub made_is : (fs : List HeldFile) (e : FileEdit) (x : Edit) → DoesTo fs e x → x.made ≡ made_by fs e
made_is fs e x (edits.drops place f is) = refl
made_is fs e x (edits.renames place f to number is) = refl
made_is fs e x (edits.moves pivot) = refl

-- what a drop gives back, and a renaming
pub given_drop : (v : HeldVolume) (e : FileEdit) (place : ℕ) (x : Edit) (y : Exchange) → e ≡ does.Drop place → DoesTo v.files e x
    → ((f : HeldFile) → slice_get v.files place ≡ Some f → given_back y ≡ blocks_in f.tree) → x.given ≡ given_back y
given_drop v e place x y is (edits.drops k f at) gives =
    let same : k ≡ place = cc is in
    sym (gives f (subst (λ (n : ℕ). slice_get v.files n ≡ Some f) same at))
given_drop v e place x y is (edits.renames k f to number at) gives = absurd (cc is)
given_drop v e place x y is (edits.moves pivot) gives = absurd (cc is)

pub given_rename : (v : HeldVolume) (e : FileEdit) (place : ℕ) (to : Name) (number : ℕ) (x : Edit) → e ≡ does.Rename place to number → DoesTo v.files e x → x.given ≡ []
given_rename v e place to number x is (edits.drops k f at) = absurd (cc is)
given_rename v e place to number x is (edits.renames k f to' number' at) = refl
given_rename v e place to number x is (edits.moves pivot) = absurd (cc is)

pub given_century : (v : HeldVolume) (e : FileEdit) (pivot : ℕ) (x : Edit) → e ≡ does.Century pivot → DoesTo v.files e x → x.given ≡ []
given_century v e pivot x is (edits.drops k f at) = absurd (cc is)
given_century v e pivot x is (edits.renames k f to number at) = absurd (cc is)
given_century v e pivot x is (edits.moves pivot') = refl

-- what is prepared for the edited entries is ready
pub ready_at : (v : HeldVolume) (e : FileEdit) (stamp : Stamp) (s : Systems) (entries : List Entry) (x : Exchange) → Keeps v → is_stamp stamp ≡ true → (y : Edited v e entries)
    → made_by v.files e ≡ numbers_made x → y.edit.given ≡ given_back x → IsPrepared v entries x stamp s → IsReadyAt v e stamp s
ready_at v e stamp s entries x kept stamped y made gives p = (
  p.label_long,
  λ z done. subst (λ (w : Edit). IsReadyFor v w stamp s) (one_edit v.files e y.edit z y.done done)
      (ready_for v y.edit entries x stamp s kept stamped p y.are (made_is v.files e y.edit y.done ∙ made) gives (none_taken v.files e y.edit y.done)),
)

pub ready_ok : {E : Type 0} (v : HeldVolume) (e : FileEdit) (stamp : Stamp) (entries : List Entry) (r : Result Systems E) (x : Exchange) → Keeps v → is_stamp stamp ≡ true → (y : Edited v e entries)
    → IfOk r (IsPrepared v entries x stamp) → made_by v.files e ≡ numbers_made x → y.edit.given ≡ given_back x → IfOk r (IsReadyAt v e stamp)
ready_ok v e stamp entries (Ok s) x kept stamped y p made gives = ready_at v e stamp s entries x kept stamped y made gives p
ready_ok v e stamp entries (Err why) x kept stamped y p made gives = tt

-- ---- what is prepared can be written

pub free_within : (bits : List Bool) → All (IsBlockOf (length bits)) (free_blocks bits)
free_within bits = each (free_blocks bits) (λ n met. let f = (free_are_unused bits n).0 met in (f.0, f.1))
  where
    each : (ns : List ℕ) → ((n : ℕ) → In n ns → IsBlockOf (length bits) n) → All (IsBlockOf (length bits)) ns
    each [] has = All-nil (IsBlockOf (length bits))
    each (n ∷ ns) has = All-cons (IsBlockOf (length bits)) n ns (has n (inl refl)) (each ns (λ k met. has k (inr met)))

pub all_in : (P : ℕ → Type 0) (ns : List ℕ) → All P ns → (n : ℕ) → In n ns → P n
all_in P [] all n met = absurd met
all_in P (m ∷ ns) all n (inl here) = subst P (sym here) (All-head P m ns all)
all_in P (m ∷ ns) all n (inr later) = all_in P ns (All-tail P m ns all) n later

pub left_of : (P : ℕ → Type 0) (xs ys : List ℕ) → All P (xs ++ ys) → All P xs
left_of P [] ys all = All-nil P
left_of P (x ∷ xs) ys all = All-cons P x xs (All-head P x (xs ++ ys) all) (left_of P xs ys (All-tail P x (xs ++ ys) all))

pub right_of : (P : ℕ → Type 0) (xs ys : List ℕ) → All P (xs ++ ys) → All P ys
right_of P [] ys all = all
right_of P (x ∷ xs) ys all = right_of P xs ys (All-tail P x (xs ++ ys) all)

-- a volume of so many blocks of this size, with what is allotted for files with these entries
pub record Fills (v : HeldVolume) (x : Exchange) (a : Allotment) (entries : List Entry) (s : Systems) : Type 0 where
  pub kept : Keeps v
  pub few : length entries ≤ 16384
  pub files : x.files ≡ length entries
  pub enough : AreEnoughFor v entries x
  pub allotted : IsAllottedFor v x a
  pub label : s.label.blocks ≡ v.label.blocks
  pub label_long : length s.label_bytes ≡ v.disk.bsize
  pub directory_is : s.directory ≡ a.directory.tree
  pub directory_part_is : s.directory_part ≡ a.directory.part
  pub map_is : s.map ≡ a.map_tree
  pub map_part_is : s.map_part ≡ a.map_part
  pub directory_long : length s.directory_bytes ≡ length s.directory_part.leaves * v.disk.bsize

-- the data blocks of the directory that are written may be
pub directory_may : (v : HeldVolume) (x : Exchange) (a : Allotment) (entries : List Entry) → Keeps v → IsAllottedFor v x a → x.files ≡ length entries → AreEnoughFor v entries x
    → MayBeWritten (length v.directory.leaves) (length a.directory.tree.leaves) a.directory.part.leaves
directory_may v x a entries kept al files enough =
    let bsize = v.disk.bsize in
    let old_is : length v.directory.leaves ≡ directory_count bsize (length (entries_held v.files)) = kept.directory_is ∙ ap (directory_count bsize) (sym (entries_count v.files)) in
    let new_is : length a.directory.tree.leaves ≡ directory_count bsize (length entries) = al.directory_is ∙ ap (directory_count bsize) files in
    let written : a.directory.part.leaves ≡ blocks_made bsize (length entries) (numbers_made x) = al.written ∙ ap (λ (n : ℕ). blocks_made bsize n (numbers_made x)) files in
    subst (λ (n : ℕ). MayBeWritten n (length a.directory.tree.leaves) a.directory.part.leaves) (sym old_is)
    (subst (λ (n : ℕ). MayBeWritten (directory_count bsize (length (entries_held v.files))) n a.directory.part.leaves) (sym new_is)
    (subst (MayBeWritten (directory_count bsize (length (entries_held v.files))) (directory_count bsize (length entries))) (sym written) enough.may))

some_in : (n : ℕ) (xs : List ℕ) → In n xs → 1 ≤ length xs
some_in n [] there = absurd there
some_in n (x ∷ xs) there = omega arith

pub is_ready : (v : HeldVolume) (x : Exchange) (a : Allotment) (entries : List Entry) (s : Systems) → Fills v x a entries s → IsReady v.disk.bsize s
is_ready v x a entries s f =
    let al = f.allotted in
    let k = f.kept in
    let bsize = v.disk.bsize in
    let fan = bsize / 4 in
    let b = block_bounds bsize k.sized in
    let low = b.0 in let high = b.1 in
    let P = IsBlockOf v.label.blocks in
    let total = k.size in
    let origin_low = k.origin_low in let origin_high = k.origin_high in
    let small = k.small in
    let some : 1 ≤ fan = omega arith in
    let free : All P (free_blocks v.bits) = subst (λ (n : ℕ). All (IsBlockOf n) (free_blocks v.bits)) k.bits_are (free_within v.bits) in
    let own : All P (all_fresh v a) = subst (All P) (sym al.lowest) (All-take P (length (all_fresh v a)) (free_blocks v.bits) free) in
    let of_map = fresh_of fan a.map_part.leaves v.map a.map_tree in
    let of_directory = fresh_of fan a.directory.part.leaves v.directory a.directory.tree in
    let behind : All P (drop 1 of_directory) = right_of P a.file.items (drop 1 of_directory) (left_of P (own_fresh v a) of_map own) in
    let written : a.directory.part.leaves ≡ blocks_made bsize (length entries) (numbers_made x) = al.written ∙ ap (λ (n : ℕ). blocks_made bsize n (numbers_made x)) f.files in
    let zero' : In 0 a.directory.part.leaves = subst (In 0) (sym written) f.enough.first in
    let first : P (9 - v.label.origin) = (omega arith, omega arith) in
    let directory_fresh : All P of_directory = subst (All P) (sym (fresh_first fan (9 - v.label.origin) a.directory.part.leaves v.directory a.directory.tree al.origin zero'))
    (All-cons P (9 - v.label.origin) (drop 1 of_directory) first behind) in
    let map_is : length v.map.leaves ≡ length a.map_tree.leaves = k.map_is ∙ sym al.map_is in
    let map_written : MayBeWritten (length v.map.leaves) (length a.map_tree.leaves) a.map_part.leaves =
    subst (λ (n : ℕ). MayBeWritten n (length a.map_tree.leaves) a.map_part.leaves) (sym map_is) (map_may bsize v.label.blocks (length a.map_tree.leaves) (turned (length (own_fresh v a) + map_size bsize v.label.blocks) v.bits (own_fresh v a) (own_released v x a) v.map) a.map_part.leaves
    (omega arith) al.map_is al.touched) in
    let at_directory = at_fresh v.label.blocks bsize a.directory.part v.directory a.directory.tree some (directory_may v x a entries k al f.files f.enough) al.directory al.directory_nodes directory_fresh in
    let at_map = at_fresh v.label.blocks bsize a.map_part v.map a.map_tree some map_written al.map al.map_nodes (right_of P (own_fresh v a) of_map own) in
    let files_few = directory_small x.files bsize (omega arith) (let e = f.files in let n = f.few in omega arith) in
    let some_files = directory_some x.files bsize low in
    let some_map = map_some v.label.blocks bsize low total in
    let d = al.directory_is in let m = al.map_is in
    let wide = (up_spec (up v.label.blocks 8) bsize (omega arith)).1 in
    let bytes = (up_spec v.label.blocks 8 (omega arith)).1 in
    let same : up (up v.label.blocks 8) bsize * bsize ≡ length a.map_tree.leaves * bsize = ap (λ (n : ℕ). n * bsize) (sym m) in
    let Parts : HeldTree → TreePart → HeldTree → TreePart → Type 0 = λ directory dp map' mp. (1 ≤ length directory.leaves) × (length directory.leaves < 2 ^ 32) × (1 ≤ length dp.leaves)
    × (length directory.pointers ≡ pointer_count fan (length directory.leaves)) × IsAt v.label.blocks directory dp × (1 ≤ length map'.leaves) × (length map'.leaves * bsize < 2 ^ 32)
    × (length map'.pointers ≡ pointer_count fan (length map'.leaves)) × IsAt v.label.blocks map' mp in
    let own_parts : Parts a.directory.tree a.directory.part a.map_tree a.map_part = (
      omega arith,
      omega arith,
      some_in 0 a.directory.part.leaves zero',
      nodes_are fan a.directory.part.leaves v.directory a.directory.tree some al.directory,
      at_directory,
      omega arith,
      short (length a.map_tree.leaves * bsize) (up v.label.blocks 8) bsize (omega arith) (omega arith) high,
      nodes_are fan a.map_part.leaves v.map a.map_tree some al.map,
      at_map,
    ) in
    let parts : Parts s.directory s.directory_part s.map s.map_part =
    subst (λ (t : HeldTree). Parts t s.directory_part s.map s.map_part) (sym f.directory_is)
    (subst (λ (p : TreePart). Parts a.directory.tree p s.map s.map_part) (sym f.directory_part_is)
    (subst (λ (t : HeldTree). Parts a.directory.tree a.directory.part t s.map_part) (sym f.map_is)
    (subst (λ (p : TreePart). Parts a.directory.tree a.directory.part a.map_tree p) (sym f.map_part_is) own_parts))) in
    let label = f.label in
    record {
      size = k.sized;
      label_long = f.label_long;
      label_within = omega arith;
      directory_some = parts.0;
      directory_few = parts.1;
      directory_first = parts.2;
      directory_long = f.directory_long;
      directory_nodes = parts.3;
      directory_at = subst (λ (n : ℕ). AreAt n s.directory.leaves s.directory_part.leaves) (sym label) parts.4.leaves;
      directory_nodes_at = subst (λ (n : ℕ). AreAt n s.directory.pointers s.directory_part.nodes) (sym label) parts.4.nodes;
      map_some = parts.5;
      map_few = parts.6;
      map_nodes = parts.7;
      map_at = subst (λ (n : ℕ). AreAt n s.map.leaves s.map_part.leaves) (sym label) parts.8.leaves;
      map_nodes_at = subst (λ (n : ℕ). AreAt n s.map.pointers s.map_part.nodes) (sym label) parts.8.nodes;
    }
  where
    short : (wide a b : ℕ) → wide < a + b → a ≤ 536870912 → b ≤ 4096 → wide < 2 ^ 32
    short wide a b less most small = omega arith

-- ---- the edit of a change

name_at : (fs : List HeldFile) (k : ℕ) (f : HeldFile) → slice_get fs k ≡ Some f → get_or (names_in fs) k f.entry.name ≡ f.entry.name
name_at fs k f is =
    get_or_from_slice_get (names_in fs) k f.entry.name f.entry.name (slice_get-map (λ (g : HeldFile). g.entry.name) fs k ∙ ap (option_map (λ (g : HeldFile). g.entry.name)) is)

-- the file in the place of a name
pub record Named (fs : List HeldFile) (name : Name) (k : ℕ) : Type 0 where
  pub within : k < length fs
  pub file : HeldFile
  pub there : slice_get fs k ≡ Some file
  pub named : file.entry.name ≡ name

pub named_at : (fs : List HeldFile) (name : Name) (k : ℕ) → place_in name fs ≡ Some k → Named fs name k
named_at fs name k is =
    let within : k < length fs = omega (arith, (position-Some (same_name name) (names_in fs) k name is).0, length-map fs (λ (g : HeldFile). g.entry.name)) in
    let f = file_at fs k within in
    let same : same_name name (get_or (names_in fs) k f.0.entry.name) ≡ true = (position-Some (same_name name) (names_in fs) k f.0.entry.name is).1 in
    record {
      within = within;
      file = f.0;
      there = f.1;
      named = sym (name_from name f.0.entry.name (ap (same_name name) (sym (name_at fs k f.0 f.1)) ∙ same));
    }

-- a drop, and a renaming, by their names
pub drop_for : (v : HeldVolume) (name : Name) (k : ℕ) (stamp : Stamp) (s : Systems) → place_in name v.files ≡ Some k → IsReadyAt v (does.Drop k) stamp s → IsEditFor v (Drop name) stamp (does.Drop k) s
drop_for v name k stamp s is ready =
    let n = named_at v.files name k is in
    record {
      may = n.within;
      edit = dropping v.files k n.file;
      done = edits.drops k n.file n.there;
      is = subst (λ (x : Name). IsEditOf v (dropping v.files k n.file) (Drop x)) n.named (drops k n.file n.there);
      ready = ready.1 (dropping v.files k n.file) (edits.drops k n.file n.there);
      label_long = ready.0;
    }

pub may_rename : (fs : List HeldFile) (from to : Name) (number k : ℕ) → place_in from fs ≡ Some k → number ≤ 6 → (place_in to fs ≡ None) ⊎ (to ≡ from) → MayEdit fs (does.Rename k to number)
may_rename fs from to number k is small free =
    let n = named_at fs from k is in
    (n.within, small, ⊎_elim (λ none. inl none) (λ own. inr (λ f there. own ∙ (sym n.named ∙ ap (λ (x : HeldFile). x.entry.name) (same_Some n.file f (sym n.there ∙ there))))) free)

pub rename_for : (v : HeldVolume) (from to : Name) (number k : ℕ) (stamp : Stamp) (s : Systems) → place_in from v.files ≡ Some k → number ≤ 6 → (place_in to v.files ≡ None) ⊎ (to ≡ from)
    → IsReadyAt v (does.Rename k to number) stamp s → IsEditFor v (Rename from to number) stamp (does.Rename k to number) s
rename_for v from to number k stamp s is small free ready =
    let n = named_at v.files from k is in
    let own : (place_in to v.files ≡ None) ⊎ (to ≡ n.file.entry.name) = ⊎_elim (λ none. inl none) (λ same. inr (same ∙ sym n.named)) free in
    record {
      may = may_rename v.files from to number k is small free;
      edit = renaming v.files k n.file to number;
      done = edits.renames k n.file to number n.there;
      is = subst (λ (x : Name). IsEditOf v (renaming v.files k n.file to number) (Rename x to number)) n.named (renames k n.file to number n.there small own);
      ready = ready.1 (renaming v.files k n.file to number) (edits.renames k n.file to number n.there);
      label_long = ready.0;
    }

-- the stamps of all
pub century_for : (v : HeldVolume) (pivot : ℕ) (stamp : Stamp) (s : Systems) → pivot ≤ 100 → IsReadyAt v (does.Century pivot) stamp s → IsEditFor v (Century pivot) stamp (does.Century pivot) s
century_for v pivot stamp s small ready = record {
  may = small;
  edit = moving v.files pivot;
  done = edits.moves pivot;
  is = moves pivot small;
  ready = ready.1 (moving v.files pivot) (edits.moves pivot);
  label_long = ready.0;
}

-- a step for a change
pub step_for : (v : HeldVolume) (change : Change) (e : FileEdit) (stamp : Stamp) (step : Step) → ((s : Systems) → IsReadyAt v e stamp s → IsEditFor v change stamp e s) → IsStepOf v e stamp step
    → IsPlanFor v change stamp step
step_for v change e stamp (planned.Edit edit s) for (same, ready) = subst (λ (x : FileEdit). IsEditFor v change stamp x s) (sym same) (for s ready)
step_for v change e stamp (planned.Relabel label bytes) for is = absurd is

pub relabel_for : (v : HeldVolume) (volid : List ℕ) (stamp : Stamp) (step : Step) → IsRelabelOf v volid step → IsPlanFor v (Relabel volid) stamp step
relabel_for v volid stamp (planned.Edit e s) is = absurd is
relabel_for v volid stamp (planned.Relabel label bytes) is = (volid, refl, is)

-- What is answered to records that are added to a file of a volume as it is held.
use Rattle.std.proofs.Common.{◌≡◌, ℕ, ◌+◌, ◌*◌, List, [], ◌∷◌, ◌++◌, length, map, Some, refl, sym, ◌∙◌, ap, subst, length-append}
use Rattle.std.proofs.lemmas.List.{length-set}
use Rattle.std.proofs.lemmas.Option.{slice_get-get_or}
use Rattle.std.specs.Prelude.{slice_get}
use Rattle.cms_journal.specs.Journal.{Journal}
use Rattle.cms_names.specs.declared.name.Name.{Name}
use Rattle.cms_names.specs.declared.name.Format.{Format}
use Rattle.cms_fields.specs.declared.entry.Entry.{Entry}
use Rattle.cms_fields.specs.declared.label.Label.{Label}
use Rattle.cms_fields.specs.declared.time.Stamp.{Stamp}
use Rattle.cms_model.specs.Changes.{Add, added_to, answer_of, changed, changed_files, directory_fresh, entries_made, file_named, limit, need, written_file}
use Rattle.cms_model.specs.Growth.{growth_taken}
use Rattle.cms_model.specs.LawsChanges.{IsPlace}
use Rattle.cms_model.specs.LawsUpdates.{now}
use Rattle.cms_model.specs.Minidisks.{File, Minidisk}
use Rattle.cms_model.specs.Records.{stored}
use Rattle.cms_model.specs.Sizes.{free_count, map_size, stored_size}
use Rattle.cms_model.specs.Stands.{Layout, file_of, minidisk_in, opened}
use Rattle.cms_model.specs.Trees.{bytes_at}
use Rattle.cms_model.specs.Volumes.{Disk, minidisk_of}
use Rattle.cms_model.proofs.DirectoryNeed.{place_is_named}
use Rattle.cms_model.proofs.ListChanges.{place_changed}
use Rattle.cms_model.proofs.Lookup.{changed_is_found}
use Rattle.cms_model.proofs.Records.{length_stored, stored_append}
use Rattle.cms_model.proofs.Renewed.{minidisk_is}
use Rattle.cms_map.specs.Bits.{free_blocks}
use Rattle.cms_held.specs.Additions.{AddIsAnswered, need_add}
use Rattle.cms_held.specs.HeldVolumes.{HeldFile, HeldVolume}
use Rattle.cms_held.specs.LawsRenewals.{IsHeldAt}
use Rattle.cms_held.specs.Puts.{answer_put, limit_put}
use Rattle.cms_held.specs.Renewals.{made_at}
use Rattle.cms_held.proofs.Edits.{at_place, found_at, names_distinct}
use Rattle.cms_held.proofs.HeldFiles.{opened_has_room, opened_is_held}
use Rattle.cms_held.proofs.OldBlocks.{old_opens}
use Rattle.cms_held.proofs.PutAsides.{answers, files_count}

-- ---- the file at a place

pub record FileAt (j : Journal) (v : HeldVolume) (old : Layout) (place : ℕ) (f : HeldFile) : Type 0 where
  pub file : File
  pub at : IsPlace f.entry.name (map file_of old.files) place
  pub named : file_named f.entry.name (map file_of old.files) ≡ Some file
  pub format_is : file.format ≡ f.entry.format
  pub count_is : length file.records ≡ f.entry.count
  pub size_is : stored_size file.format file.records ≡ f.size
  pub long : length (bytes_at (now j v.unit) f.tree.leaves) ≡ length f.tree.leaves * v.disk.bsize

pub file_at : (j : Journal) (v : HeldVolume) (old : Layout) (place : ℕ) (f : HeldFile) → IsHeldAt j v old → slice_get v.files place ≡ Some f → FileAt j v old place f
file_at j v old place f x there =
    let h = at_place old.files v.files x.held.files_are place f there in
    let g = file_of h.file in
    let files = map file_of old.files in
    let found = found_at old.files place h.file f.entry.name (names_distinct old.files x.stands.names) h.within (h.is h.file) (ap (λ (e : Entry). e.name) (sym h.held.entry_is)) in
    let here : slice_get files place ≡ Some g = slice_get-get_or files place g found.place.within ∙ ap (λ (y : File). Some y) found.in_map in
    let there' : slice_get (minidisk_of v.disk (opened old)).files place ≡ Some g = ap (λ (m : Minidisk). slice_get m.files place) (minidisk_is v.disk old) ∙ here in
    let is = (opened_is_held v.unit v.disk (now j v.unit) (opened old) v (old_opens j v old x) x.held).files_are place f g there there' in
    let kept = (opened_has_room v.unit v.disk (now j v.unit) (opened old) v x.whole (old_opens j v old x) x.held).files_are place f g there there' in
    record {
      file = g;
      at = found.place;
      named = (place_changed f.entry.name files place found.place).found g ∙ ap (λ (y : File). Some y) found.in_map;
      format_is = sym is.format_is;
      count_is = sym is.count_is;
      size_is = sym (length_stored g.format g.records) ∙ sym kept.size_is;
      long = kept.long ∙ ap (λ (m : Minidisk). length f.tree.leaves * m.bsize) (minidisk_is v.disk old);
    }

-- with more records behind its own
pub more_size : (j : Journal) (v : HeldVolume) (old : Layout) (place : ℕ) (f : HeldFile) (a : FileAt j v old place f) (more : List (List ℕ))
    → stored_size a.file.format (a.file.records ++ more) ≡ f.size + length (stored f.entry.format more)
more_size j v old place f a more =
    let g = a.file in
    sym (length_stored g.format (g.records ++ more)) ∙ ap (λ (l : List ℕ). length l) (stored_append g.format g.records more)
    ∙ length-append (stored g.format g.records) (stored g.format more)
    ∙ ap (λ (n : ℕ). n + length (stored g.format more)) (length_stored g.format g.records ∙ a.size_is)
    ∙ ap (λ (k : Format). f.size + length (stored k more)) a.format_is

more_count : (j : Journal) (v : HeldVolume) (old : Layout) (place : ℕ) (f : HeldFile) (a : FileAt j v old place f) (more : List (List ℕ)) → length (a.file.records ++ more) ≡ f.entry.count + length more
more_count j v old place f a more = length-append a.file.records more ∙ ap (λ (n : ℕ). n + length more) a.count_is

-- ---- the files then

count_same : (files : List File) (name : Name) (more : List (List ℕ)) (stamp : Stamp) (k : ℕ) (d : File) → IsPlace name files k → length (changed_files files (Add name more stamp)) ≡ length files
unfolding changed_files
count_same files name more stamp k d at =
    ap (λ (l : List File). length l) ((place_changed name files k at).changed (added_to more stamp) d) ∙ length-set files k _

pub add_made : (files : List File) (name : Name) (more : List (List ℕ)) (stamp : Stamp) (k : ℕ) → IsPlace name files k → entries_made files (Add name more stamp) ≡ made_at k
unfolding entries_made
add_made files name more stamp k at = ap (λ (n : ℕ). 0 ∷ (n + 2) ∷ []) ((place_is_named name files).found k at)

-- ---- the answer

limit_is : (m : Minidisk) (name : Name) (more : List (List ℕ)) (stamp : Stamp) (new : File) (files records bytes : ℕ) → length (changed_files m.files (Add name more stamp)) ≡ files
    → file_named name (changed_files m.files (Add name more stamp)) ≡ Some new → length new.records ≡ records → stored_size new.format new.records ≡ bytes
    → limit m (Add name more stamp) ≡ limit_put files records bytes
unfolding limit written_file
limit_is m name more stamp new files records bytes count named some size = rw (count, named, some, size) refl

-- what the change needs, and of that what the file needs
pub need_parts : (disk : Disk) (old : Layout) (name : Name) (more : List (List ℕ)) (stamp : Stamp) (f : HeldFile) (g : File) (bytes : ℕ) → file_named name (map file_of old.files) ≡ Some g
    → stored_size g.format g.records ≡ f.size → stored_size g.format (g.records ++ more) ≡ f.size + bytes → g.format ≡ f.entry.format
    → need (minidisk_in disk old) (Add name more stamp) ≡ growth_taken disk.bsize f.entry.format f.size (f.size + bytes)
    + (directory_fresh (minidisk_in disk old) (Add name more stamp) + map_size disk.bsize old.label.blocks)
unfolding need
need_parts disk old name more stamp f g bytes named size after format = rw (named, size, after, format) refl

need_is : (v : HeldVolume) (old : Layout) (name : Name) (more : List (List ℕ)) (stamp : Stamp) (place : ℕ) (f : HeldFile) (g : File) (bytes : ℕ) → v.label.blocks ≡ old.label.blocks
    → file_named name (map file_of old.files) ≡ Some g → stored_size g.format g.records ≡ f.size → stored_size g.format (g.records ++ more) ≡ f.size + bytes → g.format ≡ f.entry.format
    → length (changed_files (map file_of old.files) (Add name more stamp)) ≡ length v.files → length (map file_of old.files) ≡ length v.files
    → entries_made (map file_of old.files) (Add name more stamp) ≡ made_at place
    → need (minidisk_in v.disk old) (Add name more stamp) ≡ need_add v place f bytes
need_is v old name more stamp place f g bytes same named size after format count files made =
    need_parts v.disk old name more stamp f g bytes named size after format ∙ rw (count, files, made, same) refl

pub add_is_answered : AddIsAnswered
add_is_answered j v m place f more stamp is_held there =
    let old = is_held.layout in
    let x = is_held.at in
    let name = f.entry.name in
    let change = Add name more stamp in
    let a = file_at j v old place f x there in
    let bytes = length (stored f.entry.format more) in
    let records = f.entry.count + length more in
    let new = (changed_is_found (map file_of old.files) name).added a.file more stamp a.named in
    let files = files_count j v old x in
    let count : length (changed_files (map file_of old.files) change) ≡ length v.files = count_same (map file_of old.files) name more stamp place a.file a.at ∙ files in
    let blocks : v.label.blocks ≡ old.label.blocks = ap (λ (l : Label). l.blocks) x.held.label_is in
    let after = more_size j v old place f a more in
    let some : length new.0.records ≡ records = ap (λ (l : List (List ℕ)). length l) new.1.records_are ∙ more_count j v old place f a more in
    let long : stored_size new.0.format new.0.records ≡ f.size + bytes =
    ap (λ (k : Format). stored_size k new.0.records) new.1.format_same ∙ (ap (stored_size a.file.format) new.1.records_are ∙ after) in
    let room = opened_has_room v.unit v.disk (now j v.unit) (opened old) v x.whole (old_opens j v old x) x.held in
    let free : free_count (minidisk_in v.disk old) ≡ length (free_blocks v.bits) = sym (room.free_is ∙ ap free_count (minidisk_is v.disk old)) in
    subst (λ (k : Minidisk). answer_of k change ≡ answer_put (limit_put (length v.files) records (f.size + bytes)) (need_add v place f bytes) (length (free_blocks v.bits)) (changed k change))
    (sym is_held.minidisk_is)
    (answers (limit_put (length v.files) records (f.size + bytes)) (minidisk_in v.disk old) change (need_add v place f bytes) (length (free_blocks v.bits))
    (limit_is (minidisk_in v.disk old) name more stamp new.0 (length v.files) records (f.size + bytes) count new.2 some long)
    (need_is v old name more stamp place f a.file bytes blocks a.named a.size_is after a.format_is count files (add_made (map file_of old.files) name more stamp place a.at)) free)

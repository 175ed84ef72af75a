-- The data blocks of the directory that a change writes are enough, and what is taken for it is what the change needs.
use Rattle.std.proofs.Common.{◌≡◌, ℕ, ◌+◌, ◌-◌, ◌/◌, ◌<◌, List, [], ◌∷◌, length, map, drop, slice_get, Some, refl, sym, ◌∙◌, ap, subst, arith, length-append}
use Rattle.std.proofs.lemmas.List.{length-map, length-set}
use Rattle.std.proofs.lemmas.Option.{slice_get_within}
use Rattle.cms_journal.specs.Journal.{Journal}
use Rattle.cms_names.specs.declared.name.Name.{Name}
use Rattle.cms_fields.specs.declared.entry.Entry.{Entry}
use Rattle.cms_model.specs.Changes.{Century, Change, Put, Add, Drop, Rename, added_to, moved_to, change_file, changed_files, put_file, directory_written, entries_made}
use Rattle.cms_model.specs.LawsChanges.{IsPlace, NoneNamed}
use Rattle.cms_model.specs.Minidisks.{File}
use Rattle.cms_model.specs.SharedTrees.{fresh_count}
use Rattle.cms_model.specs.Stands.{Kept, Layout, file_of, minidisk_in}
use Rattle.cms_model.proofs.ListChanges.{none_added, place_changed}
use Rattle.cms_held.specs.EntryPlaces.{IsChangedAt, IsEnoughFor}
use Rattle.cms_held.specs.HeldVolumes.{HeldFile, HeldVolume}
use Rattle.cms_held.specs.LawsHeld.{IsFound}
use Rattle.cms_held.specs.LawsRenewals.{IsHeldAt}
use Rattle.cms_held.specs.Puts.{adding, replacing}
use Rattle.cms_held.specs.Renewals.{dropping, entries_held, moved_file, moving, renamed, renaming}
use Rattle.cms_held.specs.SharedBlocks.{fresh_of}
use Rattle.cms_held.specs.SharedNeed.{AreEnough, TakesTheNeed, WrittenIsEnough}
use Rattle.cms_held.proofs.Edits.{at_place, found_at, names_distinct}
use Rattle.cms_held.proofs.EntryPlaces.{all_are_enough, edits_have_places, places_are_enough}
use Rattle.cms_held.proofs.PutAsides.{files_count, found_in}
use Rattle.cms_held.proofs.SwapRemoved.{length-removed}
use Rattle.cms_held.proofs.Renewals.{entries_many}
use Rattle.cms_held.proofs.SharedBlocks.{fresh_is_counted}
use Rattle.cms_held.proofs.PartCases.{Case, case_of, directory_may, fresh_begins, held_count}
use Rattle.cms_held.proofs.PartTrees.{directory_shape}
use Rattle.cms_held.proofs.SystemsHeld.{held_has_systems}
use Rattle.cms_model.specs.DirectoryParts.{all_entries, blocks_with, directory_count, directory_taken}
use Rattle.cms_model.proofs.DirectoryNeed.{place_is_named}

-- ---- the place of a file

pub record Stands (v : HeldVolume) (old : Layout) (place : ℕ) (f : HeldFile) : Type 0 where
  pub within : place < length v.files
  pub at : IsPlace f.entry.name (map file_of old.files) place
  pub file : File

pub stands_at : (j : Journal) (v : HeldVolume) (old : Layout) (place : ℕ) (f : HeldFile) → IsHeldAt j v old → slice_get v.files place ≡ Some f → Stands v old place f
stands_at j v old place f x there =
    let at = at_place old.files v.files x.held.files_are place f there in
    let g = at.file in
    let distinct = names_distinct old.files x.stands.names in
    record {
      within = slice_get_within v.files place f there;
      at = (found_at old.files place g f.entry.name distinct at.within (at.is g) (ap (λ (e : Entry). e.name) (sym at.held.entry_is))).place;
      file = file_of g;
    }

-- these data blocks are those of a place
enough_at : (v : HeldVolume) (old : Layout) (files : List HeldFile) (change : Change) (place : ℕ) (more : List ℕ) (j : Journal) → IsHeldAt j v old
    → IsChangedAt (entries_held v.files) (entries_held files) place
    → length (changed_files (map file_of old.files) change) ≡ length (entries_held files) → entries_made (map file_of old.files) change ≡ 0 ∷ (place + 2) ∷ more
    → AreEnough v old files change
enough_at v old files change place more j x at count made =
    subst (IsEnoughFor v.disk.bsize (entries_held v.files) (entries_held files))
    (ap (λ (n : ℕ). blocks_with v.disk.bsize (directory_count v.disk.bsize n) (0 ∷ (place + 2) ∷ more)) (sym count)
    ∙ ap (blocks_with v.disk.bsize (directory_count v.disk.bsize (length (changed_files (map file_of old.files) change)))) (sym made))
    (places_are_enough v.disk.bsize (entries_held v.files) (entries_held files) place more x.whole.size at)

-- as many files
same_count : (j : Journal) (v : HeldVolume) (old : Layout) (files : List HeldFile) (later : List File) → IsHeldAt j v old → length files ≡ length v.files → length later ≡ length (map file_of old.files)
    → length later ≡ length (entries_held files)
same_count j v old files later x same same' = same' ∙ (files_count j v old x ∙ (sym same ∙ sym (held_count files)))

-- all data blocks are written where stamps are moved
enough_moved : (v : HeldVolume) (old : Layout) (pivot : ℕ) (j : Journal) → IsHeldAt j v old → AreEnough v old (moving v.files pivot).files (Century pivot)
unfolding changed_files entries_made
enough_moved v old pivot j x =
    let files = map file_of old.files in
    let news = entries_held (moving v.files pivot).files in
    let count : length files ≡ length v.files = files_count j v old x in
    let olds : length v.files ≡ length (entries_held v.files) = sym (held_count v.files) in
    let moved : length news ≡ length v.files = held_count (moving v.files pivot).files ∙ length-map v.files (moved_file pivot) in
    let later : length news ≡ length (map (moved_to pivot) files) = moved ∙ (sym count ∙ sym (length-map files (moved_to pivot))) in
    subst (IsEnoughFor v.disk.bsize (entries_held v.files) news)
    (ap (λ (n : ℕ). blocks_with v.disk.bsize (directory_count v.disk.bsize n) (all_entries (length (entries_held v.files)))) later
    ∙ ap (λ (n : ℕ). blocks_with v.disk.bsize (directory_count v.disk.bsize (length (map (moved_to pivot) files))) (all_entries n)) (sym (count ∙ olds)))
    (all_are_enough v.disk.bsize (entries_held v.files) news x.whole.size (moved ∙ olds))

pub written_is_enough : WrittenIsEnough
unfolding changed_files entries_made
written_is_enough j v old x = record {
  dropped = λ place f there.
      let st = stands_at j v old place f x there in
      let files = map file_of old.files in
      let gone = (place_changed f.entry.name files place st.at).dropped st.file in
      let a = length-removed files place st.file in
      let b = length-removed v.files place f in
      let total = files_count j v old x in
      let less = st.within in
      enough_at v old (dropping v.files place f).files (Drop f.entry.name) place ((length files - 1 + 2) ∷ []) j x (edits_have_places v.files place f f).gone
      (ap (λ (l : List File). length l) gone ∙ (omega (arith, held_count (dropping v.files place f).files)))
      (ap (λ (n : ℕ). 0 ∷ (n + 2) ∷ (length files - 1 + 2) ∷ []) ((place_is_named f.entry.name files).found place st.at));
  renamed = λ place f to number there.
      let st = stands_at j v old place f x there in
      let files = map file_of old.files in
      let edit : File → File = λ g. record g { name = to; number = number } in
      let other = (place_changed f.entry.name files place st.at).changed edit st.file in
      enough_at v old (renaming v.files place f to number).files (Rename f.entry.name to number) place [] j x (edits_have_places v.files place f (renamed to number f)).other
      (same_count j v old (renaming v.files place f to number).files (change_file f.entry.name edit files) x (length-set v.files place (renamed to number f)) (ap (λ (l : List File). length l) other ∙ length-set files place _))
      (ap (λ (n : ℕ). 0 ∷ (n + 2) ∷ []) ((place_is_named f.entry.name files).found place st.at));
  replaced = λ place f g new there named.
      let st = stands_at j v old place f x there in
      let files = map file_of old.files in
      let at : IsPlace new.name files place = subst (λ (n : Name). IsPlace n files place) named st.at in
      let other = (place_changed new.name files place at).put new refl in
      enough_at v old (replacing v.files place f g).files (Put new) place [] j x (edits_have_places v.files place f g).other
      (same_count j v old (replacing v.files place f g).files (put_file new files) x (length-set v.files place g) (ap (λ (l : List File). length l) other ∙ length-set files place new))
      (ap (λ (n : ℕ). 0 ∷ (n + 2) ∷ []) ((place_is_named new.name files).found place at));
  grown = λ place f g more stamp there.
      let st = stands_at j v old place f x there in
      let files = map file_of old.files in
      let other = (place_changed f.entry.name files place st.at).changed (added_to more stamp) st.file in
      enough_at v old (replacing v.files place f g).files (Add f.entry.name more stamp) place [] j x (edits_have_places v.files place f g).other
      (same_count j v old (replacing v.files place f g).files (change_file f.entry.name (added_to more stamp) files) x (length-set v.files place g) (ap (λ (l : List File). length l) other ∙ length-set files place _))
      (ap (λ (n : ℕ). 0 ∷ (n + 2) ∷ []) ((place_is_named f.entry.name files).found place st.at));
  added = λ g new none.
      let files = map file_of old.files in
      let free : NoneNamed new.name files = subst (IsFound new.name files) none (found_in j v old new.name x) in
      let last = (none_added new.name files free).put new refl in
      let total = files_count j v old x in
      enough_at v old (adding v.files g).files (Put new) (length v.files) [] j x (edits_have_places v.files 0 g g).added
      (ap (λ (l : List File). length l) last ∙ (omega (arith, length-append files (new ∷ []), length-append v.files (g ∷ []), held_count (adding v.files g).files)))
      (ap (λ (n : ℕ). 0 ∷ (n + 2) ∷ []) ((place_is_named new.name files).none free ∙ total));
  moved = λ pivot. enough_moved v old pivot j x;
}

-- ---- what is taken

pub takes_the_need : TakesTheNeed
unfolding directory_taken case_of
takes_the_need j v edit stamp s parts old files change x changed written =
    let c : Case = case_of j v edit stamp s parts old files x in
    let bsize = v.disk.bsize in
    let first = ap (λ (l : List ℕ). length l) (fresh_begins c) in
    let counted = fresh_is_counted (bsize / 4) parts.directory v.directory s.directory (directory_may c) (directory_shape c).nodes in
    let old_is : length v.directory.leaves ≡ directory_count bsize (length (map file_of old.files)) =
    (held_has_systems j v old x.at).directory_is ∙ ap (directory_count bsize) (held_count v.files ∙ sym (files_count j v old x.at)) in
    let new_count : length edit.files ≡ length (changed_files (map file_of old.files) change) =
    sym (held_count edit.files) ∙ (entries_many files edit.files x.leaves.held ∙ (length-map files (λ (f : Kept). f.entry) ∙ (sym (length-map files file_of) ∙ ap (λ (l : List File). length l) changed))) in
    let new_is : length s.directory.leaves ≡ directory_count bsize (length (changed_files (map file_of old.files) change)) = x.planned.blocks.directory_is ∙ ap (directory_count bsize) new_count in
    let same : fresh_count (bsize / 4) (length v.directory.leaves) (length s.directory.leaves) parts.directory
    ≡ fresh_count (bsize / 4) (directory_count bsize (length (map file_of old.files))) (directory_count bsize (length (changed_files (map file_of old.files) change))) (directory_written (minidisk_in v.disk old) change) =
    ap (λ (n : ℕ). fresh_count (bsize / 4) n (length s.directory.leaves) parts.directory) old_is
    ∙ (ap (λ (n : ℕ). fresh_count (bsize / 4) (directory_count bsize (length (map file_of old.files))) n parts.directory) new_is
    ∙ ap (fresh_count (bsize / 4) (directory_count bsize (length (map file_of old.files))) (directory_count bsize (length (changed_files (map file_of old.files) change)))) written) in
    omega (arith, length-append edit.taken (drop 1 (fresh_of (bsize / 4) parts.directory v.directory s.directory)))

-- The data blocks of the directory in which the entries stand that an edit makes anew are enough.
use Rattle.std.proofs.Common.{◌≡◌, ℕ, ◌+◌, ◌-◌, List, [], ◌∷◌, ◌++◌, length, None, Option, Some, subst, ◌∙◌, sym}
use Rattle.std.proofs.lemmas.List.{length-map, map-append, map-set}
use Rattle.cms_journal.specs.Journal.{IsBlockSize}
use Rattle.cms_fields.specs.declared.entry.Entry.{Entry}
use Rattle.cms_model.specs.DirectoryParts.{all_entries, blocks_made}
use Rattle.cms_held.specs.EntryPlaces.{IsEnoughFor}
use Rattle.cms_held.specs.HeldVolumes.{HeldFile, HeldVolume}
use Rattle.cms_held.specs.Puts.{made_with}
use Rattle.cms_held.specs.Renewals.{Edit, dropping, entries_held, moved_file, moving, renamed, renaming}
use Rattle.cms_held.proofs.EntryPlaces.{all_are_enough, edits_have_places, places_are_enough}
use Rattle.cms_edf.specs.ChangePlans.{DoesTo, Edited, made_by}
use Rattle.cms_edf.specs.ChangePlans as edits
use Rattle.cms_edf.specs.FileDrafts.{list_with}
use Rattle.cms_edf.proofs.Planned.{entries_count}
use Rattle.cms_edf.specs.declared.change.FileEdit.{FileEdit}

enough_of : (v : HeldVolume) (e : FileEdit) (x : Edit) → IsBlockSize v.disk.bsize → DoesTo v.files e x
    → IsEnoughFor v.disk.bsize (entries_held v.files) (entries_held x.files) (blocks_made v.disk.bsize (length (entries_held x.files)) (made_by v.files e))
enough_of v e x size (edits.drops place f is) =
    places_are_enough v.disk.bsize (entries_held v.files) (entries_held (dropping v.files place f).files) place ((length v.files - 1 + 2) ∷ []) size (edits_have_places v.files place f f).gone
enough_of v e x size (edits.renames place f to number is) =
    places_are_enough v.disk.bsize (entries_held v.files) (entries_held (renaming v.files place f to number).files) place [] size (edits_have_places v.files place f (renamed to number f)).other
enough_of v e x size (edits.moves pivot) =
    let olds = entries_held v.files in
    let news = entries_held (moving v.files pivot).files in
    let old : length olds ≡ length v.files = entries_count v.files in
    let new : length news ≡ length v.files = entries_count (moving v.files pivot).files ∙ length-map v.files (moved_file pivot) in
    subst (λ (n : ℕ). IsEnoughFor v.disk.bsize olds news (blocks_made v.disk.bsize (length news) (all_entries n))) old
    (all_are_enough v.disk.bsize olds news size (new ∙ sym old))

pub edit_enough : (v : HeldVolume) (e : FileEdit) (entries : List Entry) (numbers : List ℕ) → IsBlockSize v.disk.bsize → Edited v e entries → made_by v.files e ≡ numbers
    → IsEnoughFor v.disk.bsize (entries_held v.files) entries (blocks_made v.disk.bsize (length entries) numbers)
edit_enough v e entries numbers size y made =
    subst (λ (l : List ℕ). IsEnoughFor v.disk.bsize (entries_held v.files) entries (blocks_made v.disk.bsize (length entries) l)) made
    (subst (λ (es : List Entry). IsEnoughFor v.disk.bsize (entries_held v.files) es (blocks_made v.disk.bsize (length es) (made_by v.files e))) y.are (enough_of v e y.edit size y.done))

-- ---- a file that is put

-- a file with this entry
abbrev file_with : Entry → HeldFile
file_with e = record { entry = e; tree = record { leaves = []; pointers = [] }; length = 0; size = 0; start = 0 }

pub put_enough : (v : HeldVolume) (place : Option ℕ) (entry : Entry) → IsBlockSize v.disk.bsize
    → IsEnoughFor v.disk.bsize (entries_held v.files) (list_with (entries_held v.files) place entry)
    (blocks_made v.disk.bsize (length (list_with (entries_held v.files) place entry)) (made_with place (length v.files)))
put_enough v None entry size =
    subst (λ (es : List Entry). IsEnoughFor v.disk.bsize (entries_held v.files) es (blocks_made v.disk.bsize (length es) (0 ∷ (length v.files + 2) ∷ [])))
    (map-append (λ (f : HeldFile). f.entry) v.files (file_with entry ∷ []))
    (places_are_enough v.disk.bsize (entries_held v.files) (entries_held (v.files ++ file_with entry ∷ [])) (length v.files) [] size
    (edits_have_places v.files 0 (file_with entry) (file_with entry)).added)
put_enough v (Some place) entry size =
    subst (λ (es : List Entry). IsEnoughFor v.disk.bsize (entries_held v.files) es (blocks_made v.disk.bsize (length es) (0 ∷ (place + 2) ∷ [])))
    (map-set (λ (f : HeldFile). f.entry) v.files place (file_with entry))
    (places_are_enough v.disk.bsize (entries_held v.files) _ place [] size (edits_have_places v.files place (file_with entry) (file_with entry)).other)

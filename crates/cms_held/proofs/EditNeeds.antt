-- What an edit needs is what the change needs that it is, and how much its update writes.
use Rattle.std.proofs.Common.{◌≡◌, ℕ, ◌+◌, ◌-◌, ◌≤◌, List, [], ◌∷◌, length, map, None, sym, ◌∙◌, ap, subst, arith}
use Rattle.std.proofs.lemmas.List.{length-map}
use Rattle.cms_fields.specs.declared.time.Stamp.{Stamp}
use Rattle.cms_journal.specs.Journal.{Journal}
use Rattle.cms_names.specs.declared.name.Name.{Name}
use Rattle.cms_model.specs.Changes.{Change, Put, changed_files, directory_fresh, directory_written, entries_made}
use Rattle.cms_model.specs.DirectoryParts.{all_entries, blocks_made}
use Rattle.cms_model.specs.LawsChanges.{IsPlace}
use Rattle.cms_model.specs.Minidisks.{File}
use Rattle.cms_model.specs.Sizes.{map_size}
use Rattle.cms_model.specs.Stands.{Kept, Layout, file_of, minidisk_in}
use Rattle.cms_model.proofs.DirectoryNeed.{place_is_named}
use Rattle.cms_held.specs.Allotments.{parts_of}
use Rattle.cms_held.specs.HeldVolumes.{HeldFile, HeldVolume}
use Rattle.cms_held.specs.LawsHeld.{IsFound}
use Rattle.cms_held.specs.LawsRenewals.{IsHeldAt, IsRenewal, writes_of}
use Rattle.cms_held.specs.MinidiskUpdates.{IsEditOf, drops, moves, renames}
use Rattle.cms_held.specs.Puts.{IsPutOf, adds, replaces}
use Rattle.cms_held.specs.Renewals.{Edit}
use Rattle.cms_held.specs.Systems.{Systems}
use Rattle.cms_held.proofs.PlannedWrites.{part_renewal, update_writes_few}
use Rattle.cms_held.proofs.PutAsides.{files_count, found_in}
use Rattle.cms_held.proofs.Renewals.{entries_many}
use Rattle.cms_held.proofs.SharedNeed.{stands_at, takes_the_need}
use Rattle.cms_held.proofs.PartCases.{held_count}

-- ---- the entries that are made anew

pub edit_made : (j : Journal) (v : HeldVolume) (old : Layout) (edit : Edit) (change : Change) → IsHeldAt j v old → IsEditOf v edit change → edit.made ≡ entries_made (map file_of old.files) change
unfolding entries_made
edit_made j v old edit change x (drops place f there) =
    let st = stands_at j v old place f x there in
    let named = (place_is_named f.entry.name (map file_of old.files)).found place st.at in
    let count = files_count j v old x in
    ap (λ (n : ℕ). 0 ∷ (place + 2) ∷ (n - 1 + 2) ∷ []) (sym count) ∙ ap (λ (n : ℕ). 0 ∷ (n + 2) ∷ (length (map file_of old.files) - 1 + 2) ∷ []) (sym named)
edit_made j v old edit change x (renames place f to number there small free) =
    let st = stands_at j v old place f x there in
    ap (λ (n : ℕ). 0 ∷ (n + 2) ∷ []) (sym ((place_is_named f.entry.name (map file_of old.files)).found place st.at))
edit_made j v old edit change x (moves pivot small) = ap all_entries (sym (files_count j v old x))

pub edit_put : (j : Journal) (v : HeldVolume) (old : Layout) (g : HeldFile) (edit : Edit) (new : File) → IsHeldAt j v old → g.entry.name ≡ new.name → IsPutOf v g edit
    → edit.made ≡ entries_made (map file_of old.files) (Put new)
unfolding entries_made
edit_put j v old g edit new x same (replaces place f there named) =
    let st = stands_at j v old place f x there in
    let at = subst (λ (n : Name). IsPlace n (map file_of old.files) place) (named ∙ same) st.at in
    ap (λ (n : ℕ). 0 ∷ (n + 2) ∷ []) (sym ((place_is_named new.name (map file_of old.files)).found place at))
edit_put j v old g edit new x same (adds none) =
    let free = subst (λ (n : Name). IsFound n (map file_of old.files) None) same (subst (IsFound g.entry.name (map file_of old.files)) none (found_in j v old g.entry.name x)) in
    ap (λ (n : ℕ). 0 ∷ (n + 2) ∷ []) (sym ((place_is_named new.name (map file_of old.files)).none free ∙ files_count j v old x))

-- ---- how much an update writes

pub writes_need : (j : Journal) (v : HeldVolume) (edit : Edit) (stamp : Stamp) (s : Systems) (old : Layout) (files : List Kept) (change : Change) → IsRenewal j v edit stamp s old files
    → map file_of files ≡ changed_files (map file_of old.files) change → edit.made ≡ entries_made (map file_of old.files) change
    → length (writes_of v s) ≤ directory_fresh (minidisk_in v.disk old) change + map_size v.disk.bsize v.label.blocks + 1
writes_need j v edit stamp s old files change x changed made =
    let count : length edit.files ≡ length (changed_files (map file_of old.files) change) =
    sym (held_count edit.files) ∙ (entries_many files edit.files x.leaves.held
    ∙ (length-map files (λ (f : Kept). f.entry) ∙ (sym (length-map files file_of) ∙ ap (λ (l : List File). length l) changed))) in
    let written : s.directory_part.leaves ≡ directory_written (minidisk_in v.disk old) change =
    x.planned.written ∙ (ap (λ (n : ℕ). blocks_made v.disk.bsize n edit.made) count ∙ ap (blocks_made v.disk.bsize (length (changed_files (map file_of old.files) change))) made) in
    let taken = takes_the_need j v edit stamp s (parts_of s) old files change (part_renewal j v edit stamp s old files x) changed written in
    let few = update_writes_few j v edit stamp s old files x in
    omega arith

-- The records of a file that grew: those that it had, and behind them those that were added.
use Rattle.std.proofs.Common.{◌≡◌, ⊎_elim, ℕ, zero, suc, ◌+◌, ◌*◌, ◌/◌, ◌%◌, ◌<◌, List, [], ◌∷◌, ◌++◌, length, map, set, get_or, All, Some, Ok, refl, sym, ◌∙◌, ap, subst, arith, div-add-mod', mod-lt}
use Rattle.std.specs.Prelude.{slice_get, slice_set}
use Rattle.std.proofs.lemmas.List.{get_or-map, get_or-set_same, length-map, length-set}
use Rattle.std.proofs.lemmas.Option.{slice_get-get_or, slice_get_within}
use Rattle.cms_journal.specs.Journal.{IsBlockSize, Journal}
use Rattle.cms_journal.proofs.Sizes.{block_bounds}
use Rattle.cms_names.specs.declared.name.Format.{Format}
use Rattle.cms_names.specs.declared.name.Format.TheVariants.{F, V}
use Rattle.cms_fields.specs.declared.entry.Entry.{Entry}
use Rattle.cms_fields.specs.declared.time.Stamp.{Stamp}
use Rattle.cms_model.specs.Changes.{Add, added_to, changed_files}
use Rattle.cms_model.specs.LawsUpdates.{now}
use Rattle.cms_model.specs.Minidisks.{File}
use Rattle.cms_model.specs.Records.{records_of, stored}
use Rattle.cms_model.specs.Stands.{HoldsFile, Kept, Layout, file_of}
use Rattle.cms_model.specs.Trees.{Image, bytes_at}
use Rattle.cms_model.specs.Volumes.{Disk}
use Rattle.cms_model.proofs.EntriesRead.{records_so}
use Rattle.cms_model.proofs.ListChanges.{place_changed}
use Rattle.cms_tree.specs.declared.types.Mark.{Mark}
use Rattle.cms_held.specs.Drafts.{Front, mark_with, stored_on}
use Rattle.cms_held.specs.Growths.{GrowsHeld, growing}
use Rattle.cms_held.specs.HeldVolumes.{HeldFile, HeldVolume}
use Rattle.cms_held.specs.Kept.{Keeps}
use Rattle.cms_held.specs.LawsRenewals.{ComesFrom, IsHeldAt}
use Rattle.cms_held.specs.Marks.{start_of}
use Rattle.cms_held.specs.Renewals.{entries_held}
use Rattle.cms_held.specs.Written.{ReadsBack}
use Rattle.cms_held.proofs.Edits.{AtPlace, FoundAt, Moved, at_place, found_at, names_distinct}
use Rattle.cms_held.proofs.GrownEdits.{grow_moves}
use Rattle.cms_held.proofs.GrownStarts.{grown_starts}
use Rattle.cms_held.specs.BlockWriters.{came}
use Rattle.cms_held.specs.FileWriters.{IsMarkedSo, start_on}
use Rattle.cms_held.specs.declared.block_writer.BlockWriter.{BlockWriter}
use Rattle.cms_edf.proofs.RecordStarts.{same_quotient}

-- where all files of an image come from itself, each is held by it
come_at : (disk : Disk) (total : ℕ) (image : Image) (blocks : List ℕ) (fs : List Kept) (k : ℕ) (d : Kept) → k < length fs → ComesFrom disk total image image blocks fs
    → HoldsFile disk total image (get_or fs k d)
come_at disk total image blocks [] k d less come = absurd (omega arith)
come_at disk total image blocks (f ∷ fs) zero d less come = ⊎_elim (λ old. old.0) (λ (new : HoldsFile disk total image f). new) come.0
come_at disk total image blocks (f ∷ fs) (suc k) d less come = come_at disk total image blocks fs k d (omega arith) come.1

-- the file in the place of one to which records are added
added_there : (old : Layout) (fs : List Kept) (k : ℕ) (h n : Kept) (f : HeldFile) (more : List (List ℕ)) (stamp : Stamp) → FoundAt old.files k h f.entry.name → k < length old.files → k < length fs
    → get_or fs k n ≡ n → map file_of fs ≡ changed_files (map file_of old.files) (Add f.entry.name more stamp) → file_of n ≡ added_to more stamp (file_of h)
unfolding changed_files
added_there old fs k h n f more stamp found less less' is changed =
    let files = map file_of old.files in
    let long = length-map old.files file_of in
    sym (get_or-map file_of fs k n (file_of n) less' ∙ ap file_of is)
    ∙ ap (λ (l : List File). get_or l k (file_of n)) (changed ∙ (place_changed f.entry.name files k found.place).changed (added_to more stamp) (file_of h)
    ∙ ap (λ (y : File). set files k (added_to more stamp y)) found.in_map)
    ∙ get_or-set_same files k (added_to more stamp (file_of h)) (file_of n) (omega arith)

-- they are read from its blocks
pub grown_records : (j : Journal) (v : HeldVolume) (old : Layout) (place : ℕ) (f g : HeldFile) (marks : List Mark) (front : Front) (mark : Mark) (more : List (List ℕ)) (stamp : Stamp)
    → (x : IsHeldAt j v old) → Keeps v → (there : slice_get v.files place ≡ Some f) → GrowsHeld v (now j v.unit) (now j v.unit) f g marks front mark more stamp
    → All ReadsBack (entries_held (slice_set v.files place g))
    → records_of v.disk.bsize g.entry.format g.entry.length g.entry.count (bytes_at (now j v.unit) g.tree.leaves) ≡ Ok ((at_place old.files v.files x.held.files_are place f there).file.records ++ more)
grown_records j v old place f g marks front mark more stamp x kept there q back =
    sym (records_so v.disk.bsize g.entry.format g.entry.length g.entry.count (bytes_at image g.tree.leaves))
    ∙ ap (λ (e : Entry). records_of v.disk.bsize e.format e.length e.count (bytes_at image g.tree.leaves)) new.held.entry_is
    ∙ ap (λ (l : List ℕ). records_of v.disk.bsize n.entry.format n.entry.length n.entry.count (bytes_at image l)) new.held.tree_is.leaves
    ∙ holds.records ∙ ap (λ (l : List (List ℕ)). Ok l) (ap (λ (y : File). y.records) is_added)
  where
    image : Image
    image = now j v.unit

    at : AtPlace old.files place f
    at = at_place old.files v.files x.held.files_are place f there

    h : Kept
    h = at.file

    moves : Moved image image v (growing v.disk.bsize v.files place f g) old (Add f.entry.name more stamp)
    moves = grow_moves j v old image place f g marks front mark more stamp x kept there q

    within : place < length v.files
    within = slice_get_within v.files place f there

    there_now : slice_get (slice_set v.files place g) place ≡ Some g
    there_now = slice_get-get_or (slice_set v.files place g) place g (let e = length-set v.files place g in omega (arith, within))
        ∙ ap (λ (y : HeldFile). Some y) (get_or-set_same v.files place g g within)

    new : AtPlace moves.files place g
    new = at_place moves.files (slice_set v.files place g) moves.held place g there_now

    n : Kept
    n = new.file

    holds : HoldsFile v.disk v.label.blocks image n
    holds = subst (HoldsFile v.disk v.label.blocks image) (new.is n) (come_at v.disk v.label.blocks image _ moves.files place n new.within (moves.leaves back).come)

    is_added : file_of n ≡ added_to more stamp (file_of h)
    is_added = added_there old moves.files place h n f more stamp
        (found_at old.files place h f.entry.name (names_distinct old.files x.stands.names) at.within (at.is h) (ap (λ (e : Entry). e.name) (sym at.held.entry_is)))
        at.within new.within (new.is n) moves.files_are

-- ---- where they begin

-- the start of a file all of whose new records were put, behind those that it had
pub start_behind : (format : Format) (w : BlockWriter) (front : Front) (old more : List (List ℕ)) → IsBlockSize w.bsize → IsMarkedSo format w front more → came w ≡ length (stored_on format front more)
    → w.filled < w.bsize → (format ≡ V → length front.bytes ≡ length (stored V old)) → (format ≡ V → front.place ≡ start_of w.bsize V old)
    → start_on format w ≡ start_of w.bsize format (old ++ more)
start_behind F w front old more size mark came_is less long place = refl
start_behind V w front old more size mark came_is less long place =
    let s = length (stored_on V front more) in
    let low = (block_bounds w.bsize size).0 in
    let split : s / w.bsize * w.bsize + s % w.bsize ≡ s = div-add-mod' s w.bsize in
    let small : s % w.bsize < w.bsize = mod-lt s (omega arith) in
    let whole : w.whole ≡ s / w.bsize = same_quotient w.bsize w.whole (s / w.bsize) s w.filled (s % w.bsize) came_is less split small in
    ap (λ (m : Mark). m.place) mark ∙ ap (λ (k : ℕ). (mark_with w.bsize front more k).place) whole ∙ sym (grown_starts w.bsize front old more size (long refl) (place refl))

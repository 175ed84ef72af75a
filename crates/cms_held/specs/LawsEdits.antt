-- What the edits of an update are for the minidisk.
use Rattle.std.specs.Prelude.{◌≡◌, ◌⊎◌, ℕ, ◌^◌, ◌<◌, ◌≤◌, List, length, map, slice_get, All, Some, ⊤}
use Rattle.cms_journal.specs.Journal.{Journal}
use Rattle.cms_names.specs.declared.name.Name.{Name}
use Rattle.cms_model.specs.Trees.{Image}
use Rattle.cms_fields.specs.Labels.{with_label}
use Rattle.cms_fields.specs.declared.label.Label.{Label}
use Rattle.cms_fields.specs.Limits.{most_files}
use Rattle.cms_model.specs.Minidisks.{Minidisk}
use Rattle.cms_model.specs.Changes.{Change, Put, Add, Drop, Rename, Relabel, Century, Changed, Full, answer_of, changed, changed_files, entries_made}
use Rattle.cms_model.specs.Stands.{Kept, Layout, file_of, minidisk_in, opened}
use Rattle.cms_model.specs.LawsChanges.{NoneNamed}
use Rattle.cms_model.specs.LawsUpdates.{Relabels, after, now, relabel}
use Rattle.cms_map.specs.Bits.{free_blocks}
use Rattle.cms_held.specs.HeldVolumes.{HeldFile, HeldVolume}
use Rattle.cms_held.specs.Kept.{Keeps}
use Rattle.cms_held.specs.Written.{ReadsBack}
use Rattle.cms_held.specs.Renewals.{Edit, dropping, entries_held, moving, needed, renaming}
use Rattle.cms_held.specs.Systems.{Systems}
use Rattle.cms_held.specs.LawsRenewals.{IsHeldAt, LeavesFiles, Renews}

-- an edit leaves files that are those of the minidisk after a change
pub record Edits (before later : Image) (v : HeldVolume) (edit : Edit) (old : Layout) (change : Change) : Type 0 where
  pub files : List Kept
  pub files_are : map file_of files ≡ changed_files (map file_of old.files) change
  pub leaves : LeavesFiles before later v edit old files

-- the changes that these are
abbrev pub IsEdit : Change → Type 0
IsEdit (Drop name) = ⊤
IsEdit (Rename from to number) = ⊤
IsEdit (Century pivot) = ⊤
IsEdit (Put new) = ⊥
IsEdit (Add name more stamp) = ⊥
IsEdit (Relabel volid) = ⊥

-- where the file at a place goes, it is dropped by its name
abbrev pub DropEdits : Type 0
DropEdits =
    (j : Journal) (v : HeldVolume) (old : Layout) (later : Image) (place : ℕ) (f : HeldFile) → IsHeldAt j v old → Keeps v
    → slice_get v.files place ≡ Some f → All ReadsBack (entries_held (dropping v.files place f).files)
    → Edits (now j v.unit) later v (dropping v.files place f) old (Drop f.entry.name)

-- where it has another name, which no file has or is its own, it is renamed
abbrev pub RenameEdits : Type 0
RenameEdits =
    (j : Journal) (v : HeldVolume) (old : Layout) (later : Image) (place : ℕ) (f : HeldFile) (to : Name) (number : ℕ) → IsHeldAt j v old
    → Keeps v → slice_get v.files place ≡ Some f → number ≤ 6 → NoneNamed to (map file_of old.files) ⊎ (to ≡ f.entry.name)
    → All ReadsBack (entries_held (renaming v.files place f to number).files)
    → Edits (now j v.unit) later v (renaming v.files place f to number) old (Rename f.entry.name to number)

-- where the stamps of all files are moved, they are those after a Century
abbrev pub CenturyEdits : Type 0
CenturyEdits =
    (j : Journal) (v : HeldVolume) (old : Layout) (later : Image) (pivot : ℕ) → IsHeldAt j v old → Keeps v → pivot ≤ 100
    → All ReadsBack (entries_held (moving v.files pivot).files) → Edits (now j v.unit) later v (moving v.files pivot) old (Century pivot)

-- the new volume is the minidisk after the change
abbrev pub RenewedIsChanged : Type 0
RenewedIsChanged =
    (j : Journal) (before later : Image) (v : HeldVolume) (edit : Edit) (s : Systems) (old : Layout) (change : Change)
    → (e : Edits before later v edit old change) → IsEdit change → (r : Renews j v edit s old e.files)
    → minidisk_in v.disk r.new ≡ changed (minidisk_in v.disk old) change

-- ---- room

-- the answer to a change that needs so many blocks, where so many are free
pub record IsAnswered (m : Minidisk) (change : Change) (need free : ℕ) : Type 0 where
  pub made : need ≤ free → answer_of m change ≡ Changed (changed m change)
  pub full : free < need → answer_of m change ≡ Full need free

-- where a file goes or has another name, or stamps are moved, the change is made exactly where the new directory and map have room
abbrev pub EditIsAnswered : Type 0
EditIsAnswered =
    (j : Journal) (v : HeldVolume) (old : Layout) (change : Change) → IsHeldAt j v old → IsEdit change
    → length (changed_files (map file_of old.files) change) ≤ most_files
    → IsAnswered (minidisk_in v.disk old) change
    (needed v (length (changed_files (map file_of old.files) change)) (entries_made (map file_of old.files) change))
    (length (free_blocks v.bits))

-- ---- another volume id

-- the label with another volume id
abbrev pub with_volid : Label → List ℕ → Label
with_volid label volid = record label { volid = volid }

-- the volume with it
abbrev pub relabelled : HeldVolume → List ℕ → HeldVolume
relabelled v volid = record v { label = with_volid v.label volid; label_bytes = with_label (with_volid v.label volid) v.label_bytes }

-- a relabelling: a crash leaves the old volume or the new one at every moment, and in the end the new, which is held so
pub record RelabelsHeld (j : Journal) (v : HeldVolume) (old : Layout) (volid : List ℕ) : Type 0 where
  pub updates : Relabels v.disk j v.unit (relabelled v volid).label_bytes (opened old) (with_volid v.label volid)
  pub at : IsHeldAt (after j (relabel v.unit (relabelled v volid).label_bytes)) (relabelled v volid)
      (record old { label = with_volid v.label volid })
  pub answered : answer_of (minidisk_in v.disk old) (Relabel volid)
      ≡ Changed (minidisk_in v.disk (record old { label = with_volid v.label volid }))

-- with a new volume id written the volume is held as before but for its label
abbrev pub RelabelIsHeld : Type 0
RelabelIsHeld = (j : Journal) (v : HeldVolume) (old : Layout) (volid : List ℕ) → IsHeldAt j v old → Keeps v → length volid ≡ 6
    → v.label.in_use < 2 ^ 32 → RelabelsHeld j v old volid

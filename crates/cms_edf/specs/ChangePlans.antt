-- A change of a volume as it is held: what is asked for, and its plan.
use Rattle.std.specs.Prelude.{◌≡◌, ◌⊎◌, ℕ, ◌-◌, ◌^◌, ◌<◌, ◌≤◌, List, [], length, map, position, slice_get, All, Option, None, Some, IsSome, ⊤}
use Rattle.std.specs.List.{concat}
use Rattle.cms_names.specs.declared.name.Name.{Name}
use Rattle.cms_fields.specs.declared.entry.Entry.{Entry}
use Rattle.cms_fields.specs.declared.time.Stamp.{Stamp}
use Rattle.cms_fields.specs.Labels.{with_label}
use Rattle.cms_fields.specs.declared.label.Label.{Label}
use Rattle.cms_fields.specs.Limits.{most_files}
use Rattle.cms_model.specs.Minidisks.{same_name}
use Rattle.cms_model.specs.Changes.{Change}
use Rattle.cms_model.specs.Changes as model
use Rattle.cms_held.specs.HeldVolumes.{HeldFile, HeldVolume, names_in}
use Rattle.cms_held.specs.Kept.{Keeps}
use Rattle.cms_model.specs.DirectoryParts.{all_entries, blocks_made}
use Rattle.cms_held.specs.Allotments.{IsPlanned}
use Rattle.cms_held.specs.EntryPlaces.{IsEnoughFor}
use Rattle.cms_held.specs.Renewals.{Edit, dropping, entries_held, label_for, made_at, made_without, moving, needed, renaming}
use Rattle.cms_edf.specs.Allotments.{given_back, numbers_made}
use Rattle.cms_edf.specs.declared.allotment.Allotment.{Allotment}
use Rattle.cms_edf.specs.declared.allotment.Exchange.{Exchange}
use Rattle.cms_edf.specs.NoRoom.{LacksRoom}
use Rattle.cms_held.specs.Systems.{Systems, directory_piece}
use Rattle.cms_held.specs.Written.{CanWrite, ReadsBack}
use Rattle.cms_held.specs.MinidiskUpdates.{IsEditOf, IsReadyFor}
use Rattle.cms_held.specs.LawsEdits.{relabelled}
use Rattle.cms_edf.specs.declared.allotment.PlanFault.{PlanFault}
use Rattle.cms_edf.specs.declared.allotment.PlanFault.TheVariants as failed
use Rattle.cms_edf.specs.declared.step.Step.{Step}
use Rattle.cms_edf.specs.declared.step.Step.TheVariants as step
use Rattle.cms_edf.specs.declared.change.Change as asked
use Rattle.cms_edf.specs.declared.change.Change.TheVariants as ask
use Rattle.cms_edf.specs.declared.change.FileEdit.{FileEdit}
use Rattle.cms_edf.specs.declared.change.FileEdit.TheVariants as does

-- ---- what is asked for

-- the change of a minidisk that is asked for
abbrev pub change_of : asked.Change → Change
change_of (ask.Drop name) = model.Drop name.now
change_of (ask.Rename from to number) = model.Rename from.now to.now number
change_of (ask.Relabel volid) = model.Relabel volid
change_of (ask.Century pivot) = model.Century pivot

-- the place of the file of a name
abbrev pub place_in : Name → List HeldFile → Option ℕ
place_in name files = position (same_name name) (names_in files)

-- a file that is to be changed is there, and its new name is no other file's; a pivot is at most 100
abbrev pub CanChange : List HeldFile → asked.Change → Type 0
CanChange files (ask.Drop name) = IsSome (place_in name.now files)
CanChange files (ask.Rename from to number) = IsSome (place_in from.now files) × (number ≤ 6)
    × ((place_in to.now files ≡ None) ⊎ (to.now ≡ from.now))
CanChange files (ask.Relabel volid) = ⊤
CanChange files (ask.Century pivot) = pivot ≤ 100

-- ---- the edit of files, of one by its place or of all

-- what it does to the files
pub data DoesTo (files : List HeldFile) : FileEdit → Edit → Type 0 where
  drops : (place : ℕ) (f : HeldFile) → slice_get files place ≡ Some f → DoesTo files (does.Drop place) (dropping files place f)
  renames : (place : ℕ) (f : HeldFile) (to : Name) (number : ℕ) → slice_get files place ≡ Some f
      → DoesTo files (does.Rename place to number) (renaming files place f to number)
  moves : (pivot : ℕ) → DoesTo files (does.Century pivot) (moving files pivot)

-- a new name is no other file's
abbrev pub IsFree : List HeldFile → ℕ → Name → Type 0
IsFree files place to = (place_in to files ≡ None) ⊎ ((f : HeldFile) → slice_get files place ≡ Some f → to ≡ f.entry.name)

-- its place is that of a file, its mode number is one, and its new name is free; its pivot is at most 100
abbrev pub MayEdit : List HeldFile → FileEdit → Type 0
MayEdit files (does.Drop place) = place < length files
MayEdit files (does.Rename place to number) = (place < length files) × (number ≤ 6) × IsFree files place to
MayEdit files (does.Century pivot) = pivot ≤ 100

-- the numbers of the directory's entries that it makes anew
abbrev pub made_by : List HeldFile → FileEdit → List ℕ
made_by files (does.Drop place) = made_without place (length files)
made_by files (does.Rename place to number) = made_at place
made_by files (does.Century pivot) = all_entries (length files)

-- how many files it leaves
abbrev pub count_after : List HeldFile → FileEdit → ℕ
count_after files (does.Drop place) = length files - 1
count_after files (does.Rename place to number) = length files
count_after files (does.Century pivot) = length files

-- these are the entries after an edit of the files that are held
pub record Edited (v : HeldVolume) (e : FileEdit) (entries : List Entry) : Type 0 where
  pub edit : Edit
  pub done : DoesTo v.files e edit
  pub are : entries_held edit.files ≡ entries
  pub count : length entries ≡ count_after v.files e
  pub few : length entries ≤ most_files
  pub each : All CanWrite entries
  pub back : All ReadsBack entries

-- ---- what is planned

-- the label and the directory that are written for files with these entries
pub record AreSystemsFor (v : HeldVolume) (entries : List Entry) (stamp : Stamp) (s : Systems) : Type 0 where
  pub label : s.label ≡ label_for v.label s.bits
  pub label_bytes : s.label_bytes ≡ with_label s.label v.label_bytes
  pub label_long : length s.label_bytes ≡ v.disk.bsize
  pub directory_bytes : s.directory_bytes
      ≡ concat (map (directory_piece v.disk.bsize s entries stamp) s.directory_part.leaves)
  pub back : All ReadsBack entries

-- what is written for files with these entries in the blocks that are allotted
pub record IsFilled (v : HeldVolume) (entries : List Entry) (a : Allotment) (stamp : Stamp) (s : Systems) : Type 0 where
  pub directory_is : s.directory ≡ a.directory.tree
  pub directory_part_is : s.directory_part ≡ a.directory.part
  pub map_is : s.map ≡ a.map_tree
  pub map_part_is : s.map_part ≡ a.map_part
  pub bits_are : s.bits ≡ a.map
  pub systems : AreSystemsFor v entries stamp s

-- these data blocks of the directory are enough for files with these entries
abbrev pub AreEnoughFor : HeldVolume → List Entry → Exchange → Type 0
AreEnoughFor v entries x = IsEnoughFor v.disk.bsize (entries_held v.files) entries
    (blocks_made v.disk.bsize (length entries) (numbers_made x))

-- what is written for an edit after which the files have these entries, and which takes no blocks for a file
pub record IsPrepared (v : HeldVolume) (entries : List Entry) (x : Exchange) (stamp : Stamp) (s : Systems) : Type 0 where
  pub label_long : length s.label_bytes ≡ v.disk.bsize
  pub back : All ReadsBack entries
  pub planned : (edit : Edit) → entries_held edit.files ≡ entries → edit.made ≡ numbers_made x → edit.given ≡ given_back x
      → edit.taken ≡ [] → IsPlanned v edit stamp s

-- what is written for an edit
abbrev pub IsReadyAt : HeldVolume → FileEdit → Stamp → Systems → Type 0
IsReadyAt v e stamp s = (length s.label_bytes ≡ v.disk.bsize)
    × ((x : Edit) → DoesTo v.files e x → IsReadyFor v x stamp s)

-- a step that does this edit
abbrev pub IsStepOf : HeldVolume → FileEdit → Stamp → Step → Type 0
IsStepOf v e stamp (step.Edit edit s) = (edit ≡ e) × IsReadyAt v e stamp s
IsStepOf v e stamp (step.Relabel label bytes) = ⊥

-- the label with another volume id, and its block's bytes
pub record IsReadyLabel (v : HeldVolume) (volid : List ℕ) (label : Label) (bytes : List ℕ) : Type 0 where
  pub kept : Keeps v
  pub label_is : label ≡ (relabelled v volid).label
  pub bytes_are : bytes ≡ (relabelled v volid).label_bytes
  pub bytes_long : length bytes ≡ v.disk.bsize
  pub long : length volid ≡ 6
  pub small : v.label.in_use < 2 ^ 32

-- the step writes the label with this volume id
abbrev pub IsRelabelOf : HeldVolume → List ℕ → Step → Type 0
IsRelabelOf v volid (step.Edit e s) = ⊥
IsRelabelOf v volid (step.Relabel label bytes) = IsReadyLabel v volid label bytes.items

-- the edit is that of the change, and what it writes is ready
pub record IsEditFor (v : HeldVolume) (change : Change) (stamp : Stamp) (e : FileEdit) (s : Systems) : Type 0 where
  pub may : MayEdit v.files e
  pub edit : Edit
  pub done : DoesTo v.files e edit
  pub is : IsEditOf v edit change
  pub ready : IsReadyFor v edit stamp s
  pub label_long : length s.label_bytes ≡ v.disk.bsize

-- a step is planned for a change
abbrev pub IsPlanFor : HeldVolume → Change → Stamp → Step → Type 0
IsPlanFor v change stamp (step.Edit e s) = IsEditFor v change stamp e s
IsPlanFor v change stamp (step.Relabel label bytes) = (volid : List ℕ) × (change ≡ model.Relabel volid)
    × IsReadyLabel v volid label bytes.items

-- why a change isn't planned: there is no room for the new directory and the new map, or no memory
abbrev pub IsFullFor : HeldVolume → asked.Change → PlanFault → Type 0
IsFullFor v (ask.Drop name) why = (place : ℕ) → place_in name.now v.files ≡ Some place
    → LacksRoom v (needed v (length v.files - 1) (made_without place (length v.files))) why
IsFullFor v (ask.Rename from to number) why = (place : ℕ) → place_in from.now v.files ≡ Some place
    → LacksRoom v (needed v (length v.files) (made_at place)) why
IsFullFor v (ask.Relabel volid) why = why ≡ failed.Memory
IsFullFor v (ask.Century pivot) why = LacksRoom v (needed v (length v.files) (all_entries (length v.files))) why

-- What a change needs for the directory is what an update that writes a part of it takes.
use Rattle.std.specs.Prelude.{◌≡◌, ℕ, ◌+◌, List, length, map, position, slice_get, slice_set, Some, None}
use Rattle.cms_journal.specs.Journal.{Journal}
use Rattle.cms_names.specs.declared.name.Name.{Name}
use Rattle.cms_fields.specs.declared.time.Stamp.{Stamp}
use Rattle.cms_model.specs.Changes.{Century, Change, Put, Add, Drop, Rename, changed_files, directory_fresh, directory_written}
use Rattle.cms_model.specs.Minidisks.{File, same_name}
use Rattle.cms_model.specs.Stands.{Kept, Layout, file_of, minidisk_in}
use Rattle.cms_held.specs.Allotments.{Parts, files_fresh}
use Rattle.cms_held.specs.EntryPlaces.{IsChangedAt, IsEnoughFor}
use Rattle.cms_held.specs.HeldVolumes.{HeldFile, HeldVolume, names_in}
use Rattle.cms_held.specs.LawsRenewals.{IsHeldAt}
use Rattle.cms_held.specs.Puts.{adding, replacing}
use Rattle.cms_held.specs.Renewals.{Edit, dropping, entries_held, moving, renaming}
use Rattle.cms_held.specs.SharedRenewals.{IsPartRenewal}
use Rattle.cms_held.specs.Systems.{Systems}

-- a list of entries is changed in one place where a file goes, where one takes its place, and where one is added
pub record EditsAt (files : List HeldFile) (place : ℕ) (old new : HeldFile) : Type 0 where
  pub gone : IsChangedAt (entries_held files) (entries_held (dropping files place old).files) place
  pub other : IsChangedAt (entries_held files) (entries_held (slice_set files place new)) place
  pub added : IsChangedAt (entries_held files) (entries_held (adding files new).files)
      (length files)

-- so it is of any files, and at any place
abbrev pub EditsHavePlaces : Type 0
EditsHavePlaces =
    (files : List HeldFile) (place : ℕ) (old new : HeldFile) → EditsAt files place old new

-- the data blocks of the directory that a change writes are enough for these files
abbrev pub AreEnough : HeldVolume → Layout → List HeldFile → Change → Type 0
AreEnough v old files change = IsEnoughFor v.disk.bsize (entries_held v.files) (entries_held files)
    (directory_written (minidisk_in v.disk old) change)

-- so they are where a file goes, has another name, is put or added to in its place, or is put
-- last, and where the stamps of all are moved
pub record WritesEnough (v : HeldVolume) (old : Layout) : Type 0 where
  pub dropped : (place : ℕ) (f : HeldFile) → slice_get v.files place ≡ Some f
      → AreEnough v old (dropping v.files place f).files (Drop f.entry.name)
  pub renamed : (place : ℕ) (f : HeldFile) (to : Name) (number : ℕ)
      → slice_get v.files place ≡ Some f
      → AreEnough v old (renaming v.files place f to number).files (Rename f.entry.name to number)
  pub replaced : (place : ℕ) (f g : HeldFile) (new : File) → slice_get v.files place ≡ Some f
      → f.entry.name ≡ new.name → AreEnough v old (replacing v.files place f g).files (Put new)
  pub grown : (place : ℕ) (f g : HeldFile) (more : List (List ℕ)) (stamp : Stamp)
      → slice_get v.files place ≡ Some f
      → AreEnough v old (replacing v.files place f g).files (Add f.entry.name more stamp)
  pub added : (g : HeldFile) (new : File) → position (same_name new.name) (names_in v.files) ≡ None
      → AreEnough v old (adding v.files g).files (Put new)
  pub moved : (pivot : ℕ) → AreEnough v old (moving v.files pivot).files (Century pivot)

-- so it is of each volume that is held with this layout
abbrev pub WrittenIsEnough : Type 0
WrittenIsEnough =
    (j : Journal) (v : HeldVolume) (old : Layout) → IsHeldAt j v old → WritesEnough v old

-- with these data blocks the update takes for the directory what the change needs
abbrev pub TakesTheNeed : Type 0
TakesTheNeed =
    (j : Journal) (v : HeldVolume) (edit : Edit) (stamp : Stamp) (s : Systems) (parts : Parts)
    (old : Layout) (files : List Kept) (change : Change)
    → IsPartRenewal j v edit stamp s parts old files
    → map file_of files ≡ changed_files (map file_of old.files) change
    → parts.directory ≡ directory_written (minidisk_in v.disk old) change
    → length (files_fresh v edit s parts)
    ≡ length edit.taken + directory_fresh (minidisk_in v.disk old) change

-- Files that are opened, so that their records are handed out from the first on.
use Rattle.std.specs.Prelude.{◌≡◌, ℕ, slice_get, length, Some, Result, Ok, Err}
use Rattle.std.specs.Option.{option_map}
use Rattle.cms_names.specs.declared.name.Format.TheVariants.{F}
use Rattle.cms_names.specs.declared.name.Name.{Name}
use Rattle.cms_disk.specs.Cursors.{IsUnread}
use Rattle.cms_disk.specs.Disks.{OpensIn, StartsAt}
use Rattle.cms_search.specs.Searches.{item_at}
use Rattle.cms_search.specs.Tables.{AccessTable, Seated}
use Rattle.cms_search.specs.declared.fault.SearchFault.{SearchFault}
use Rattle.cms_files.specs.Files.{UnitFile}
use Rattle.cms_files.specs.declared.open_files.OpenFile.{OpenFile}

-- nothing of the file of a name on the disk of letter n was handed out yet; its device, whether its records have one length, and their
-- number are told
pub record IsOpened (t : AccessTable) (n : ℕ) (name : Name) (file : OpenFile) : Type 0 where
  pub seat : Seated
  pub there : item_at t.seats n ≡ Some seat
  pub device : option_map (λ unit. unit.vdev) (slice_get t.units seat.letter.unit) ≡ Some file.vdev
  pub opens : OpensIn seat.disk name file.cursor
  pub starts : StartsAt name seat.disk.volume file.cursor
  pub count : file.count ≡ file.cursor.left
  pub unread : file.format ≡ F → IsUnread file.cursor

-- a file is found, and has so many records
abbrev pub HasRecords : ℕ → Result UnitFile SearchFault → Type 0
HasRecords count (Ok x) = length x.file.records ≡ count
HasRecords count (Err e) = ⊥

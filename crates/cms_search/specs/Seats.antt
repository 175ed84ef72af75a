-- A change of the disk of a letter, as a table makes it.
use Rattle.std.specs.Prelude.{◌≡◌, ℕ, true, slice_get, Some, IfSome, Result, ⊤}
use Rattle.std.specs.Option.{ForSome, option_map}
use Rattle.cms_journal.specs.Journal.{Journal, IsWritable}
use Rattle.cms_journal.specs.Told.{Told}
use Rattle.cms_fields.specs.declared.time.Stamp.{Stamp}
use Rattle.cms_model.specs.Changes.{Change}
use Rattle.cms_model.specs.Minidisks.{Minidisk}
use Rattle.cms_world.specs.Seen.{Seen}
use Rattle.cms_edf.specs.ChangePlans.{CanChange}
use Rattle.cms_edf.specs.declared.change.Change as asked
use Rattle.cms_disk.specs.Changes.{Alters, ChangesDisk}
use Rattle.cms_disk.specs.Disks.{Accessed, IsMinidisk, IsReadable}
use Rattle.cms_disk.specs.declared.fault.DiskFault.{DiskFault}
use Rattle.cms_search.specs.Searches.{item_at}
use Rattle.cms_search.specs.Tables.{AccessTable, Seated, with_disk}

-- the file that is changed is there, its new name is no other file's, and the disk's blocks may be read, and written where the disk may be
pub record MayChange (told : Told) (d : Accessed) (change : asked.Change) : Type 0 where
  pub there : CanChange d.volume.files change
  pub blocks : ForSome told (λ j. IsReadable j d)
  pub writable : d.writable ≡ true → ForSome told (λ j. IsWritable j.units d.volume.unit)

-- what a change of a minidisk said, where d is the disk before it and e the disk then
pub record ChangesTo (before now : Seen) (d e : Accessed) (change : Change) (stamp : Stamp) (result : Result ⊤ DiskFault) : Type 0 where
  pub alters : (j : Journal) (m : Minidisk) → before.told ≡ Some j → IsMinidisk j d m
      → Alters before.told now.told d e m change stamp result
  pub changes : ChangesDisk before now d e result

-- the disk of letter n is that of this device
abbrev pub HasDevice : AccessTable → ℕ → ℕ → Type 0
HasDevice t n vdev = IfSome (item_at t.seats n) (λ s. option_map (λ unit. unit.vdev) (slice_get t.units s.letter.unit) ≡ Some vdev)

-- letter n has another disk, of which this holds
pub record HasDisk (t t' : AccessTable) (n : ℕ) (IsSo : Accessed → Type 0) : Type 0 where
  pub disk : Accessed
  pub table : t' ≡ with_disk n disk t
  pub does : IsSo disk

-- the disk of letter n, which is that of s, was changed so
abbrev pub ChangesSeat : Seen → Seen → AccessTable → AccessTable → ℕ → Seated → Change → Stamp → Result ⊤ DiskFault → Type 0
ChangesSeat before now t t' n s change stamp result = HasDisk t t' n (λ e. ChangesTo before now s.disk e change stamp result)

-- A minidisk that stands on the unit of an image.
use Rattle.std.specs.Prelude.{◌≡◌, Some}
use Rattle.cms_journal.specs.Journal.{Journal}
use Rattle.cms_journal.specs.Told.{Told}
use Rattle.cms_model.specs.Minidisks.{Minidisk}
use Rattle.cms_disk.specs.Disks.{Accessed, IsLookedAt, IsMinidisk, IsReadable}

-- the minidisk stands: its unit is settled at it, and may be read; the disk has all blocks of the unit that are looked at
pub record Stands (told : Told) (d : Accessed) (m : Minidisk) : Type 0 where
  pub at : Journal
  pub told_is : told ≡ Some at
  pub minidisk : IsMinidisk at d m
  pub readable : IsReadable at d
  pub looked : IsLookedAt at d

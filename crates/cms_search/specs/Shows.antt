-- A table and the machine that it is.
use Rattle.std.specs.Prelude.{◌≡◌, ℕ, List, map, slice_get, Some}
use Rattle.cms_model.specs.Minidisks.{Minidisk}
use Rattle.cms_model.specs.Trees.{Image}
use Rattle.cms_disk.specs.Disks.{StandsIn}
use Rattle.cms_disk.specs.declared.unit.UnitInfo.{UnitInfo}
use Rattle.cms_search.specs.Machine.{Machine, minidisk_in}
use Rattle.cms_search.specs.Searches.{item_at}
use Rattle.cms_search.specs.Tables.{AccessTable, Seated, letters_of}
use Rattle.cms_search.specs.declared.state.Device.{Device}

-- the device of a unit
abbrev pub device_of : UnitInfo → Device
device_of unit = record { vdev = unit.vdev; bsize = unit.bsize; blocks = unit.unit.blocks; writable = unit.writable }

-- the devices of a table's units
abbrev pub devices_of : AccessTable → List Device
devices_of t = map device_of t.units

-- the table's letters are the machine's, and each accessed disk is, in an image of its unit, the minidisk that the machine has there
pub record Shows (t : AccessTable) (s : Machine) : Type 0 where
  pub letters : letters_of t ≡ s.letters
  pub each : (n : ℕ) (seat : Seated) → item_at t.seats n ≡ Some seat
      → (image : Image) × (m : Minidisk) × (minidisk_in (slice_get s.units seat.letter.unit) ≡ Some m) × StandsIn image seat.disk m

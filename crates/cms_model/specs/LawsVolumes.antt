-- What follows for the volume in an image.
use Rattle.std.specs.Prelude.{◌≡◌, ◌↔◌, ◌⊎◌, ℕ, ◌≤◌, true, false, Ok, length}
use Rattle.cms_journal.specs.declared.event.Attached.{Attached}
use Rattle.cms_fields.specs.Labels.{has_identifier}
use Rattle.cms_model.specs.Lists.{In, times}
use Rattle.cms_model.specs.Trees.{Image, bytes_at}
use Rattle.cms_model.specs.Maps.{is_marked}
use Rattle.cms_model.specs.Minidisks.{Minidisk, Volume, Not}
use Rattle.cms_model.specs.Volumes.{Disk, Opened, IsOpened, disk_of, open_of, minidisk_of, state_of, all_blocks}
use Rattle.cms_model.specs.Settled.{frame, Agree}

-- an image opens as a volume exactly where it holds that volume, test by test
abbrev pub OpensWhereHeld : Type 0
OpensWhereHeld = (disk : Disk) (image : Image) (v : Opened) → (open_of disk image ≡ Ok v) ↔ IsOpened disk image v

-- a volume rests on its label, its origin and the blocks of its trees
abbrev pub RestsOnFrame : Type 0
RestsOnFrame = (disk : Disk) (before later : Image) (v : Opened) → open_of disk before ≡ Ok v → Agree (frame v) before later
    → open_of disk later ≡ Ok v

-- an image has the state of a minidisk exactly where it opens as a volume that is this minidisk
abbrev pub StateIsMinidisk : Type 0
StateIsMinidisk = (disk : Disk) (image : Image) (m : Minidisk) → (state_of disk image ≡ Volume m)
    ↔ ((v : Opened) × (open_of disk image ≡ Ok v) × (minidisk_of disk v ≡ m))

-- an image without a label is none for the second reason
abbrev pub NoLabelIsNone : Type 0
NoLabelIsNone = (disk : Disk) (image : Image) → has_identifier (image 3) ≡ false → state_of disk image ≡ Not 2

-- where an open volume's blocks lie, each of them once, and marked
pub record IsInOrder (disk : Disk) (image : Image) (v : Opened) : Type 0 where
  pub size : (6 ≤ v.label.blocks) × (v.label.blocks ≤ disk.count)
  pub origin : (v.label.origin ≡ 4) ⊎ (v.label.origin ≡ 5)
  pub within : (n : ℕ) → In n (all_blocks v) → ((6 ≤ n) × (n ≤ v.label.blocks)) ⊎ (n ≡ v.label.origin)
  pub once : (n : ℕ) → times n (all_blocks v) ≤ 1
  pub marked : (n : ℕ) → 6 ≤ n → In n (all_blocks v) → is_marked (bytes_at image v.map_met.leaves) n ≡ true

-- what opens passes the tests one after another
abbrev pub OpenedIsInOrder : Type 0
OpenedIsInOrder = (disk : Disk) (image : Image) (v : Opened) → open_of disk image ≡ Ok v → IsInOrder disk image v

-- this is looked at of a unit: all its blocks, or the first 1,048,576 where it has more
pub record LooksAt (unit : Attached) (disk : Disk) : Type 0 where
  pub size : disk.bsize ≡ unit.bsize
  pub all : length unit.start ≤ 1048576 → disk.count ≡ length unit.start
  pub first : 1048576 ≤ length unit.start → disk.count ≡ 1048576

-- so is what a session looks at of each unit
abbrev pub DiskIsLookedAt : Type 0
DiskIsLookedAt = (unit : Attached) → LooksAt unit (disk_of unit)

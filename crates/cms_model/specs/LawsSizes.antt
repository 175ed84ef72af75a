-- What follows for the sizes of a minidisk.
use Rattle.std.specs.Prelude.{◌≡◌, ℕ, zero, suc, ◌+◌, ◌-◌, ◌^◌, ◌<◌, ◌≤◌, if◌then◌else◌, List, length, Ok}
use Rattle.cms_journal.specs.Journal.{IsBlockSize}
use Rattle.cms_model.specs.Trees.{Image, bytes_at}
use Rattle.cms_model.specs.Maps.{is_marked}
use Rattle.cms_model.specs.Volumes.{Disk, Opened, open_of, minidisk_of, all_blocks}
use Rattle.cms_model.specs.Sizes.{used_count, free_count}

-- a disk has one of the block sizes, fewer than 2^32 blocks, and in this image each block has its size
pub record IsWhole (disk : Disk) (image : Image) : Type 0 where
  pub size : IsBlockSize disk.bsize
  pub small : disk.count < 2 ^ 32
  pub each : (n : ℕ) → 1 ≤ n → n ≤ disk.count → length (image n) ≡ disk.bsize

-- how many blocks aren't marked, of so many from this on
unfoldable pub unmarked_count : List ℕ → ℕ → ℕ → ℕ
unmarked_count bytes n zero = 0
unmarked_count bytes n (suc more) = (if is_marked bytes n then 0 else 1) + unmarked_count bytes (n + 1) more

-- the blocks of a minidisk are in use, free or lost; those in use are blocks 1 to 5 and those of its trees but the origin,
-- and the free ones are those that its map doesn't mark
pub record AreShared (disk : Disk) (image : Image) (v : Opened) : Type 0 where
  pub whole : used_count (minidisk_of disk v) + free_count (minidisk_of disk v) + (minidisk_of disk v).lost ≡ (minidisk_of disk v).total
  pub used : used_count (minidisk_of disk v) ≡ 4 + length (all_blocks v)
  pub free : unmarked_count (bytes_at image v.map_met.leaves) 6 (v.label.blocks - 5) ≡ free_count (minidisk_of disk v)

-- blocks in use, free and lost are all blocks of an open volume
abbrev pub BlocksAreShared : Type 0
BlocksAreShared = (disk : Disk) (image : Image) (v : Opened) → IsWhole disk image → open_of disk image ≡ Ok v → AreShared disk image v

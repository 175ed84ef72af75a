-- What a volume that is held always is, also in a world that tells nothing.
use Rattle.std.specs.Prelude.{◌≡◌, ◌<◌, ◌≤◌, ℕ, ◌-◌, ◌*◌, ◌/◌, ◌^◌, Bool, true, List, length, All}
use Rattle.cms_journal.specs.Journal.{IsBlockSize}
use Rattle.cms_names.specs.declared.name.Format.{Format}
use Rattle.cms_names.specs.declared.name.Format.TheVariants.{F, V}
use Rattle.cms_fields.specs.Limits.{longest_record, most_bytes, most_files}
use Rattle.cms_fields.specs.Entries.{fan_of, passes}
use Rattle.cms_fields.specs.declared.label.Label.{Label}
use Rattle.cms_fields.specs.Numbers.{up}
use Rattle.cms_model.specs.DirectoryParts.{directory_count}
use Rattle.cms_model.specs.Lists.{In}
use Rattle.cms_held.specs.HeldVolumes.{HeldFile, HeldTree, HeldVolume}
use Rattle.cms_held.specs.SharedTrees.{HasShape}
use Rattle.cms_held.specs.Written.{ReadsBack}

-- so many records of this format and length can have so many stored bytes
abbrev pub IsSized : Format → ℕ → ℕ → ℕ → Type 0
IsSized F size count bytes = bytes ≡ size * count
IsSized V size count bytes = 3 * count ≤ bytes

-- a file: its entry passes the tests of an entry, what is written for the entry spells it, it has as many data blocks as that says, which hold at most 67,108,864 bytes, its blocks
-- lie from 6 to the last block of the volume, and its tree has its shape; the longest of its records has 1 to 65,535 bytes, as many as the entry
-- says; the stored bytes can be those of its records, and end in its last data block
pub record IsKeptFile (bsize total : ℕ) (f : HeldFile) : Type 0 where
  pub entry : passes bsize f.entry ≡ true
  pub spells : ReadsBack f.entry
  pub count : length f.tree.leaves ≡ f.entry.blocks
  pub within : (n : ℕ) → In n f.tree.leaves → (6 ≤ n) × (n ≤ total)
  pub nodes_within : (n : ℕ) → In n f.tree.pointers → (6 ≤ n) × (n ≤ total)
  pub room : length f.tree.leaves * bsize ≤ most_bytes
  pub some : 1 ≤ f.length
  pub short : f.length ≤ longest_record
  pub told : f.entry.length ≡ f.length
  pub size : f.size ≤ most_bytes
  pub sized : IsSized f.entry.format f.length f.entry.count f.size
  pub shape : HasShape (fan_of bsize f.entry.format) f.tree
  pub low : (length f.tree.leaves - 1) * bsize < f.size
  pub high : f.size ≤ length f.tree.leaves * bsize

-- a volume on a unit of so many blocks of a size that blocks have: its label is that of a volume, in the bytes of a block, its map has a
-- bit for each of its blocks, the trees of its directory and of its map have their shapes and as many data blocks as they need, and it
-- has at most 16,384 files
pub record IsKept (bsize count : ℕ) (label : Label) (long : ℕ) (directory map : HeldTree) (bits : List Bool) (files : List HeldFile) :
    Type 0 where
  pub within : label.blocks ≤ count
  pub size : 6 ≤ label.blocks
  pub small : label.blocks < 2 ^ 32
  pub sized : IsBlockSize bsize
  pub origin_low : 4 ≤ label.origin
  pub origin_high : label.origin ≤ 5
  pub label_long : long ≡ bsize
  pub directory_shape : HasShape (bsize / 4) directory
  pub directory_is : length directory.leaves ≡ directory_count bsize (length files)
  pub map_shape : HasShape (bsize / 4) map
  pub map_is : length map.leaves ≡ up (up label.blocks 8) bsize
  pub bits_are : length bits ≡ label.blocks
  pub few : length files ≤ most_files
  pub each : All (IsKeptFile bsize label.blocks) files

-- the same of a held volume
abbrev pub Keeps : HeldVolume → Type 0
Keeps v = IsKept v.disk.bsize v.disk.count v.label (length v.label_bytes) v.directory v.map v.bits v.files

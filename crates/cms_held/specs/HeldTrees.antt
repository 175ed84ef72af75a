-- The trees of a volume as it is held, in an image of its unit.
use Rattle.std.specs.Prelude.{◌≡◌, ◌⊎◌, ℕ, List, ◌++◌, All, Ok}
use Rattle.cms_names.specs.declared.name.Format.TheVariants.{F}
use Rattle.cms_model.specs.LawsSizes.{IsWhole}
use Rattle.cms_model.specs.Lists.{In}
use Rattle.cms_model.specs.Records.{records_of}
use Rattle.cms_model.specs.Trees.{Image, bytes_at, form_of}
use Rattle.cms_model.specs.Volumes.{Disk, Opened, open_of}
use Rattle.cms_held.specs.HeldVolumes.{HeldFile, HeldVolume, held_of}
use Rattle.cms_held.specs.Marks.{start_of}
use Rattle.cms_held.specs.SharedTrees.{IsStanding}

-- the start of a file is that of the records that are read from its data blocks
abbrev pub StartsSo : ℕ → Image → HeldFile → Type 0
StartsSo bsize image f = (records : List (List ℕ))
    → records_of bsize f.entry.format f.entry.length f.entry.count (bytes_at image f.tree.leaves) ≡ Ok records
    → f.start ≡ start_of bsize f.entry.format records

-- a file stands in an image of a volume of so many blocks
pub record FileStands (bsize total : ℕ) (image : Image) (f : HeldFile) : Type 0 where
  pub tree : IsStanding (form_of bsize total f.entry.format) image f.tree
  pub start : StartsSo bsize image f

-- the trees of a volume stand in an image: the directory's, the map's and those of its files
pub record TreesStand (v : HeldVolume) (image : Image) : Type 0 where
  pub directory : IsStanding (form_of v.disk.bsize v.label.blocks F) image v.directory
  pub map : IsStanding (form_of v.disk.bsize v.label.blocks F) image v.map
  pub files : All (FileStands v.disk.bsize v.label.blocks image) v.files

-- so do those of a volume that opens, where the blocks of the image have their size
abbrev pub OpenedTreesStand : Type 0
OpenedTreesStand =
    (unit : ℕ) (disk : Disk) (image : Image) (v : Opened) → IsWhole disk image
    → open_of disk image ≡ Ok v → TreesStand (held_of unit disk image v) image

-- a file stands in the old image, with blocks among these, or in the new one
abbrev pub TreeComes : ℕ → ℕ → Image → Image → List ℕ → HeldFile → Type 0
TreeComes bsize total before later blocks f =
    (FileStands bsize total before f × ((n : ℕ) → In n (f.tree.leaves ++ f.tree.pointers) → In n blocks))
    ⊎ FileStands bsize total later f

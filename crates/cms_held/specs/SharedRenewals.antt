-- An update of a volume as it is held that writes a part of its directory and of its map.
use Rattle.std.specs.Prelude.{◌≡◌, ◌+◌, ◌/◌, ◌≤◌, List, ◌++◌, length, take, drop}
use Rattle.cms_journal.specs.Journal.{Journal}
use Rattle.cms_names.specs.declared.name.Format.TheVariants.{F}
use Rattle.cms_fields.specs.Labels.{with_label}
use Rattle.cms_fields.specs.declared.time.Stamp.{Stamp}
use Rattle.cms_model.specs.LawsUpdates.{Updates, after, now}
use Rattle.cms_model.specs.Settled.{Apart, Write, frame, update}
use Rattle.cms_model.specs.Sizes.{map_size}
use Rattle.cms_model.specs.Stands.{Kept, Layout, opened}
use Rattle.cms_model.specs.Trees.{Image, form_of}
use Rattle.cms_held.specs.LawsRenewals.{IsHeldAt, LeavesFiles}
use Rattle.cms_held.specs.Allotments.{IsPartAllotted, Parts, files_fresh}
use Rattle.cms_held.specs.HeldVolumes.{HeldVolume}
use Rattle.cms_held.specs.Renewals.{Edit, entries_held, label_for, renewed}
use Rattle.cms_held.specs.SharedTrees.{HasShape, StandsByLevels}
use Rattle.cms_held.specs.SharedWrites.{shared_node_writes}
use Rattle.cms_held.specs.Systems.{Systems, directory_piece, leaf_writes, map_piece}

-- what is written for an edit, with the label of the new volume
pub record IsPartPlanned (v : HeldVolume) (edit : Edit) (s : Systems) (parts : Parts) : Type 0 where
  pub blocks : IsPartAllotted v edit s parts
  pub label : s.label ≡ label_for v.label s.bits
  pub label_bytes : s.label_bytes ≡ with_label s.label v.label_bytes

-- ---- the writes

-- the writes before the label's: the directory's data blocks but its first, its pointer blocks,
-- the map's data blocks, its pointer blocks, and the directory's first block; of each those that
-- aren't kept
abbrev pub part_writes : HeldVolume → Edit → Stamp → Systems → Parts → List Write
part_writes v edit stamp s parts =
    leaf_writes s.directory.leaves (directory_piece v.disk.bsize s (entries_held edit.files) stamp)
    (drop 1 parts.directory)
    ++ (shared_node_writes v.disk.bsize parts.directory v.directory s.directory
    ++ (leaf_writes s.map.leaves (map_piece v.disk.bsize s.bits) parts.map
    ++ (shared_node_writes v.disk.bsize parts.map v.map s.map
    ++ leaf_writes s.directory.leaves
    (directory_piece v.disk.bsize s (entries_held edit.files) stamp)
    (take 1 parts.directory))))

-- the journal after the update
abbrev pub part_later : Journal → HeldVolume → Edit → Stamp → Systems → Parts → Journal
part_later j v edit stamp s parts =
    after j (update v.unit (part_writes v edit stamp s parts) s.label_bytes)

-- ---- the law

-- the trees of a volume as it is held stand level by level in an image, each in its shape
pub record HasLevels (v : HeldVolume) (image : Image) : Type 0 where
  pub directory_shape : HasShape (v.disk.bsize / 4) v.directory
  pub directory : StandsByLevels (form_of v.disk.bsize v.label.blocks F) image v.directory
  pub map_shape : HasShape (v.disk.bsize / 4) v.map
  pub map : StandsByLevels (form_of v.disk.bsize v.label.blocks F) image v.map

-- what an update finds
pub record IsPartRenewal (j : Journal) (v : HeldVolume) (edit : Edit) (stamp : Stamp) (s : Systems)
    (parts : Parts) (old : Layout) (files : List Kept) :
    Type 0 where
  pub at : IsHeldAt j v old
  pub trees : HasLevels v (now j v.unit)
  pub planned : IsPartPlanned v edit s parts
  pub leaves : LeavesFiles (now j v.unit) (now (part_later j v edit stamp s parts) v.unit) v edit
      old files

-- what it does: a crash leaves the old volume or the new one at every moment, and in the end the
-- new; this is held as the renewed one, its trees stand level by level, and it is the old minidisk
-- with these files
pub record PartRenews (j : Journal) (v : HeldVolume) (edit : Edit) (stamp : Stamp) (s : Systems)
    (parts : Parts) (old : Layout) (files : List Kept) :
    Type 0 where
  pub new : Layout
  pub files_are : new.files ≡ files
  pub volid_is : new.label.volid ≡ old.label.volid
  pub blocks_are : new.label.blocks ≡ old.label.blocks
  pub lost_is : new.lost ≡ old.lost
  pub apart : Apart (part_writes v edit stamp s parts) (frame (opened old))
  pub updates : Updates v.disk j v.unit (part_writes v edit stamp s parts) s.label_bytes
      (opened old) (opened new)
  pub at : IsHeldAt (part_later j v edit stamp s parts) (renewed v edit s) new
  pub trees : HasLevels (renewed v edit s) (now (part_later j v edit stamp s parts) v.unit)

-- so it is
abbrev pub PartUpdateRenews : Type 0
PartUpdateRenews =
    (j : Journal) (v : HeldVolume) (edit : Edit) (stamp : Stamp) (s : Systems) (parts : Parts)
    (old : Layout) (files : List Kept) → IsPartRenewal j v edit stamp s parts old files
    → PartRenews j v edit stamp s parts old files

-- and it writes at most one block more than it needs, with those that were taken for a file: the
-- directory's first
abbrev pub PartUpdateIsSmall : Type 0
PartUpdateIsSmall =
    (j : Journal) (v : HeldVolume) (edit : Edit) (stamp : Stamp) (s : Systems) (parts : Parts)
    (old : Layout) (files : List Kept) → IsPartRenewal j v edit stamp s parts old files
    → length edit.taken + length (part_writes v edit stamp s parts)
    ≤ length (files_fresh v edit s parts) + map_size v.disk.bsize v.label.blocks + 1

-- A file that is written on behind what stands of it.
use Rattle.std.specs.Prelude.{◌≡◌, ◌⊎◌, ℕ, ◌+◌, ◌*◌, ◌/◌, ◌<◌, ◌≤◌, List, [], length, drop, All}
use Rattle.cms_journal.specs.Journal.{IsBlockSize}
use Rattle.cms_names.specs.declared.name.Format.TheVariants.{V}
use Rattle.cms_fields.specs.Entries.{pointer_size}
use Rattle.cms_model.specs.Records.{Fits}
use Rattle.cms_model.specs.Sizes.{levels}
use Rattle.cms_tree.specs.declared.types.Mark.{Mark}
use Rattle.cms_tree.specs.Builds.{IsBuildable}
use Rattle.cms_tree.specs.Climbs.{ClimbsOn, HoldsLittle}
use Rattle.cms_tree.specs.Tiers.{AllKeep, lowest}
use Rattle.cms_held.specs.Drafts.{Front, filled, nowhere, stored_on}
use Rattle.cms_held.specs.HeldVolumes.{HeldTree}
use Rattle.cms_held.specs.BlockWriters.{came}
use Rattle.cms_held.specs.FileWriters.{FileWriter, Drafts}
use Rattle.cms_held.specs.declared.begun.Begun.{Begun}
use Rattle.cms_held.specs.declared.shape.DraftShape.{DraftShape}

-- what stands fits the tree that the file is to have
pub record IsBegun (bsize psize : ℕ) (tree : HeldTree) (b : Begun) : Type 0 where
  pub size : IsBlockSize bsize
  pub held : HoldsLittle b.climb
  pub climb_size : b.climb.bsize ≡ bsize
  pub climb_pointer : b.climb.psize ≡ psize
  pub climb_count : b.climb.count ≡ length tree.leaves
  pub climb_added : b.climb.added ≡ b.kept
  pub within : b.kept ≤ length tree.leaves
  pub block : length b.block.items ≡ bsize
  pub unfilled : b.filled < bsize

-- how many bytes stand
abbrev pub bytes_before : ℕ → Begun → ℕ
bytes_before bsize b = b.kept * bsize + b.filled

-- it is this that stands
pub record IsInFront (bsize : ℕ) (shape : DraftShape) (tree : HeldTree) (b : Begun) (front : Front) : Type 0 where
  pub size : length front.bytes ≡ bytes_before bsize b
  pub block : b.block.items ≡ filled bsize (drop (b.kept * bsize) front.bytes)
  pub mark : shape.format ≡ V → b.mark ≡ record { last = front.count; place = front.place }
  pub place : (front.place ≡ nowhere) ⊎ (front.place < b.filled)
  pub climbs : (marks : List Mark) → IsBuildable bsize (pointer_size shape.format) tree.leaves marks tree.pointers
      → ClimbsOn b.climb b.kept front.nodes tree.leaves marks tree.pointers
  pub keeps : AllKeep (pointer_size shape.format) (bsize / pointer_size shape.format) tree.pointers (lowest b.kept tree.leaves) front.nodes
      (levels (bsize / pointer_size shape.format) (length tree.leaves))

-- with these records behind what comes in front it is such a file
pub record HaveShapeOn (shape : DraftShape) (front : Front) (records : List (List ℕ)) : Type 0 where
  pub count : front.count + length records ≡ shape.count
  pub bytes : length (stored_on shape.format front records) ≡ shape.bytes
  pub each : All (Fits shape.format shape.length) records

-- a file of which so many records stand and none was put, whatever they are
pub record IsContinued (unit bsize put : ℕ) (shape : DraftShape) (tree : HeldTree) (b : Begun) (d : FileWriter) : Type 0 where
  pub shape_is : d.shape ≡ shape
  pub unit_is : d.writer.unit ≡ unit
  pub bsize_is : d.writer.bsize ≡ bsize
  pub tree_is : d.writer.tree ≡ tree
  pub kept : d.writer.kept ≡ b.kept
  pub put_is : d.put ≡ put
  pub came_is : came d.writer ≡ bytes_before bsize b
  pub drafts : (front : Front) (records : List (List ℕ)) → front.count ≡ put → IsInFront bsize shape tree b front
      → HaveShapeOn shape front records → Drafts d front [] records

-- A file that is written on behind its records.
use Rattle.std.specs.Prelude.{◌≡◌, ◌⊎◌, ℕ, ◌+◌, ◌*◌, ◌/◌, ◌%◌, ◌<◌, ◌≤◌, true, length, position, slice_get, take, All, None, Some, ⊤}
use Rattle.std.specs.Option.{ForSome}
use Rattle.cms_journal.specs.Journal.{Journal, contents_of}
use Rattle.cms_journal.specs.Told.{Told}
use Rattle.cms_names.specs.declared.name.Name.{Name}
use Rattle.cms_names.specs.declared.name.Format.TheVariants.{F}
use Rattle.cms_fields.specs.Entries.{fan_of, passes, pointer_size}
use Rattle.cms_fields.specs.Limits.{most_bytes, most_files}
use Rattle.cms_fields.specs.Numbers.{up}
use Rattle.cms_fields.specs.declared.time.Stamp.{Stamp}
use Rattle.cms_model.specs.Minidisks.{same_name}
use Rattle.cms_model.specs.SharedTrees.{fresh_count}
use Rattle.cms_model.specs.Sizes.{levels, pointer_count}
use Rattle.cms_model.specs.Trees.{Image, bytes_at, image_of}
use Rattle.cms_map.specs.Bits.{free_blocks}
use Rattle.cms_tree.specs.declared.types.ResumeFault.{ResumeFault}
use Rattle.cms_tree.specs.declared.types.ResumeFault.TheVariants as resume
use Rattle.cms_tree.specs.Resumes.{kept_of}
use Rattle.cms_world.specs.declared.block.ReadFault.{ReadFault}
use Rattle.cms_world.specs.declared.block.ReadFault.TheVariants as unread
use Rattle.cms_held.specs.MinidiskUpdates.{IsReadyFor}
use Rattle.cms_held.specs.Drafts.{Front}
use Rattle.cms_held.specs.Marks.{nowhere}
use Rattle.cms_held.specs.Growths.{KeepsFront, growing, last_leaf, places_behind}
use Rattle.cms_held.specs.HeldVolumes.{HeldFile, HeldTree, HeldVolume, names_in}
use Rattle.cms_held.specs.Puts.{AreFree, limit_put}
use Rattle.cms_held.specs.Renewals.{blocks_in, made_at, needed}
use Rattle.cms_held.specs.SharedBlocks.{AreLong, fresh_of}
use Rattle.cms_held.specs.Systems.{Systems}
use Rattle.cms_held.specs.BegunFiles.{IsBegun, IsInFront}
use Rattle.cms_held.specs.BlockWriters.{came, its_blocks}
use Rattle.cms_held.specs.declared.begun.Begun.{Begun}
use Rattle.cms_held.specs.declared.shape.DraftShape.{DraftShape}
use Rattle.cms_edf.specs.declared.allotment.PlanFault.{PlanFault}
use Rattle.cms_edf.specs.declared.allotment.PlanFault.TheVariants as failed
use Rattle.cms_edf.specs.declared.growth.Growth.{Growth}
use Rattle.cms_edf.specs.declared.growth.GrownPlan.{GrownPlan}
use Rattle.cms_edf.specs.declared.growth.MoreFault.{MoreFault}
use Rattle.cms_edf.specs.declared.growth.MoreFault.TheVariants as more
use Rattle.cms_edf.specs.FileDrafts.{CanDraft, Draft, entry_for, file_for, tree_of}

-- ---- what is asked for

-- a file can become one of this shape, with more records
pub record GrowsAs (f : HeldFile) (asked : DraftShape) : Type 0 where
  pub can : CanDraft asked
  pub format_is : asked.format ≡ f.entry.format
  pub number_is : asked.number ≡ f.entry.number
  pub fixed : asked.format ≡ F → asked.length ≡ f.length
  pub longer : f.length ≤ asked.length
  pub records : f.entry.count < asked.count
  pub bytes : f.size < asked.bytes

-- so can the file at a place, which has this name
pub record CanGrow (v : HeldVolume) (name : Name) (place : ℕ) (asked : DraftShape) : Type 0 where
  pub there : position (same_name name) (names_in v.files) ≡ Some place
  pub grows : (f : HeldFile) → slice_get v.files place ≡ Some f → GrowsAs f asked

-- the file of a name
pub record IsFileOf (v : HeldVolume) (name : Name) (f : HeldFile) : Type 0 where
  pub place : ℕ
  pub there : position (same_name name) (names_in v.files) ≡ Some place
  pub is : slice_get v.files place ≡ Some f

-- ---- the blocks that it takes

-- how many of its data blocks are kept
abbrev pub kept_in : ℕ → HeldFile → ℕ
kept_in bsize f = f.size / bsize

-- the numbers of its growth
pub record IsGrowthOf (bsize : ℕ) (f : HeldFile) (asked : DraftShape) (g : Growth) : Type 0 where
  pub fan_is : g.fan ≡ fan_of bsize asked.format
  pub wide : 2 ≤ g.fan
  pub before_is : g.before ≡ length f.tree.leaves
  pub some : 1 ≤ g.before
  pub kept_is : g.kept ≡ kept_in bsize f
  pub count_is : g.count ≡ up asked.bytes bsize
  pub old : g.kept ≤ g.before
  pub more : g.before ≤ g.count
  pub less : g.kept < g.count
  pub few : g.count * bsize ≤ most_bytes
  pub levels_are : g.levels ≡ levels g.fan g.count

-- the blocks of it that are taken: its data blocks behind the kept ones, and its pointer blocks that aren't kept
abbrev pub fresh_in : ℕ → HeldFile → DraftShape → ℕ
fresh_in bsize f asked = fresh_count (fan_of bsize asked.format) (length f.tree.leaves) (up asked.bytes bsize)
    (places_behind (kept_in bsize f) (up asked.bytes bsize))

-- the free blocks that it needs in this place: these, and those of the directory and the map
abbrev pub need_more : HeldVolume → ℕ → HeldFile → DraftShape → ℕ
need_more v place f asked = fresh_in v.disk.bsize f asked + needed v (length v.files) (made_at place)

-- ---- what is planned

-- the file of a name is planned to grow in the volume, with this tree and this start: it fits in, and this is written for it then
pub record IsGrowthPlanned (v : HeldVolume) (name : Name) (f : HeldFile) (asked : DraftShape) (stamp : Stamp) (tree : HeldTree) (s : Systems)
    (start : ℕ) :
    Type 0 where
  pub grows : GrowsAs f asked
  pub place : ℕ
  pub there : position (same_name name) (names_in v.files) ≡ Some place
  pub is : slice_get v.files place ≡ Some f
  pub few : length v.files ≤ most_files
  pub keeps : KeepsFront (fan_of v.disk.bsize asked.format) (kept_in v.disk.bsize f) f.tree tree
  pub ready : IsReadyFor v (growing v.disk.bsize v.files place f (file_for v.disk.bsize name asked tree start)) stamp s
  pub label_long : length s.label_bytes ≡ v.disk.bsize
  pub passes_all : passes v.disk.bsize (entry_for v.disk.bsize name asked tree) ≡ true
  pub leaves_are : length tree.leaves ≡ up asked.bytes v.disk.bsize
  pub pointers_are : length tree.pointers ≡ pointer_count (fan_of v.disk.bsize asked.format) (length tree.leaves)
  pub free : AreFree v (fresh_of (fan_of v.disk.bsize asked.format) (places_behind (kept_in v.disk.bsize f) (length tree.leaves)) f.tree tree)
  pub within : All (λ n. (6 ≤ n) × (n ≤ v.label.blocks)) (blocks_in tree)
  pub unlimited : limit_put (length v.files) asked.count asked.bytes ≡ None
  pub room : need_more v place f asked ≤ length (free_blocks v.bits)

-- all of it that what is held tells
pub record IsGrownPlan (v : HeldVolume) (name : Name) (place : ℕ) (asked : DraftShape) (stamp : Stamp) (p : GrownPlan) : Type 0 where
  pub growth : (f : HeldFile) → slice_get v.files place ≡ Some f → IsGrowthOf v.disk.bsize f asked p.growth
  pub entry_is : p.entry ≡ entry_for v.disk.bsize name asked p.tree
  pub file : (f : HeldFile) → slice_get v.files place ≡ Some f → (start : ℕ)
      → IsGrowthPlanned v name f asked stamp p.tree p.systems start

-- a draft is of such a file, wherever its records begin
pub record IsMoreFor (v : HeldVolume) (name : Name) (f : HeldFile) (asked : DraftShape) (stamp : Stamp) (d : Draft) : Type 0 where
  pub entry_is : d.entry ≡ entry_for v.disk.bsize name asked (tree_of d)
  pub shape_is : d.writer.shape ≡ asked
  pub unit_is : d.writer.writer.unit ≡ v.unit
  pub bsize_is : d.writer.writer.bsize ≡ v.disk.bsize
  pub kept : d.writer.writer.kept ≡ kept_in v.disk.bsize f
  pub own : AreFree v (its_blocks d.writer.writer)
  pub file : (start : ℕ) → IsGrowthPlanned v name f asked stamp (tree_of d) d.systems start

-- none of its new records is put yet: those that the file has count as put
pub record IsBehind (f : HeldFile) (asked : DraftShape) (d : Draft) : Type 0 where
  pub put : d.writer.put ≡ f.entry.count
  pub came_is : came d.writer.writer ≡ f.size
  pub size_is : d.writer.writer.size ≡ asked.bytes
  pub whole : d.writer.writer.whole ≡ d.writer.writer.kept

-- why it isn't planned in this place: it passes a limit; it passes none, and needs more blocks than are free; it does neither, and the device failed; or
-- there is no memory
abbrev pub IsMoreRefused : HeldVolume → ℕ → HeldFile → DraftShape → MoreFault → Type 0
IsMoreRefused v place f asked (more.Limit which) = limit_put (length v.files) asked.count asked.bytes ≡ Some which
IsMoreRefused v place f asked (more.Full needs free) = (limit_put (length v.files) asked.count asked.bytes ≡ None)
    × (needs ≡ need_more v place f asked) × (free ≡ length (free_blocks v.bits)) × (free < needs)
IsMoreRefused v place f asked more.Device = (limit_put (length v.files) asked.count asked.bytes ≡ None)
    × (need_more v place f asked ≤ length (free_blocks v.bits))
IsMoreRefused v place f asked more.Memory = ⊤

-- why it isn't planned where no update is
abbrev pub more_fault : PlanFault → MoreFault
more_fault (failed.Limit which) = more.Limit which
more_fault (failed.Full needs free) = more.Full needs free
more_fault failed.Memory = more.Memory

-- why it isn't where a block wasn't read
abbrev pub unread_fault : ReadFault → MoreFault
unread_fault unread.Device = more.Device
unread_fault unread.Memory = more.Memory

-- why it isn't where the climb of its tree wasn't resumed
abbrev pub resume_fault : ResumeFault → MoreFault
resume_fault resume.Device = more.Device
resume_fault resume.Memory = more.Memory

-- the device failed, or there is no memory
abbrev pub IsReadFault : MoreFault → Type 0
IsReadFault (more.Limit which) = ⊥
IsReadFault (more.Full needs free) = ⊥
IsReadFault more.Device = ⊤
IsReadFault more.Memory = ⊤

-- ---- what is read

-- this comes in front of its new records, by an image that has its data blocks
pub record IsFront (image : Image) (bsize : ℕ) (f : HeldFile) (leaves : ℕ) (front : Front) : Type 0 where
  pub long : AreLong bsize image f.tree.leaves
  pub begins : (f.start ≡ nowhere) ⊎ (f.start < f.size % bsize)
  pub bytes_are : front.bytes ≡ take f.size (bytes_at image f.tree.leaves)
  pub count_is : front.count ≡ f.entry.count
  pub place_is : front.place ≡ f.start
  pub nodes_are : front.nodes ≡ kept_of (bsize / pointer_size f.entry.format) (pointer_size f.entry.format) image
      (length f.tree.leaves) f.tree.pointers (last_leaf f.tree) (record { last = f.entry.count; place = f.start }) (kept_in bsize f) leaves

-- and that is what the unit has
abbrev pub IsFrontOf : Journal → HeldVolume → HeldFile → HeldTree → Front → Type 0
IsFrontOf j v f tree front = IsFront (image_of (contents_of j v.unit)) v.disk.bsize f (length tree.leaves) front

-- what stands of the file was read: it fits any tree of so many data blocks, and what comes in front of its new records
pub record IsBegunOf (told : Told) (v : HeldVolume) (f : HeldFile) (g : Growth) (b : Begun) : Type 0 where
  pub kept : b.kept ≡ g.kept
  pub filled : b.filled ≡ f.size % v.disk.bsize
  pub mark : b.mark ≡ record { last = f.entry.count; place = f.start }
  pub fits : (tree : HeldTree) → length tree.leaves ≡ g.count → IsBegun v.disk.bsize (pointer_size f.entry.format) tree b
  pub front : ForSome told (λ j. (asked : DraftShape) (tree : HeldTree) (front : Front) → asked.format ≡ f.entry.format
      → length tree.leaves ≡ g.count → length tree.pointers ≡ pointer_count g.fan g.count
      → IsFrontOf j v f tree front → IsInFront v.disk.bsize asked tree b front)

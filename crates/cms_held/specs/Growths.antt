-- A file that grows: of its tree the full data blocks and the pointer blocks over these alone are kept.
use Rattle.std.specs.Prelude.{◌≡◌, ℕ, zero, suc, ◌+◌, ◌-◌, ◌*◌, ◌/◌, ◌^◌, ◌<◌, ◌≤◌, max, true, List, ◌++◌, length, take, slice_get, slice_index, slice_set, All, None, Some}
use Rattle.std.specs.List.{concat, range_with_len}
use Rattle.cms_journal.specs.Journal.{IsBlockSize, Journal}
use Rattle.cms_names.specs.declared.name.Format.{Format}
use Rattle.cms_names.specs.declared.name.Format.TheVariants.{F, V}
use Rattle.cms_fields.specs.Entries.{fan_of, passes, pointer_size}
use Rattle.cms_fields.specs.Limits.{most_bytes, most_records}
use Rattle.cms_fields.specs.Numbers.{up}
use Rattle.cms_fields.specs.declared.entry.Entry.{Entry}
use Rattle.cms_fields.specs.declared.time.Stamp.{Stamp}
use Rattle.cms_model.specs.Changes.{Add}
use Rattle.cms_model.specs.LawsUpdates.{now}
use Rattle.cms_model.specs.Lists.{In}
use Rattle.cms_model.specs.SharedTrees.{fresh_to}
use Rattle.cms_model.specs.Sizes.{levels, pointer_count}
use Rattle.cms_model.specs.Built.{AllAllowed}
use Rattle.cms_model.specs.Records.{Fits, longest, stored}
use Rattle.cms_model.specs.Stands.{HoldsFile, Kept, Layout}
use Rattle.cms_model.specs.Trees.{Form, Image, bytes_at}
use Rattle.cms_model.specs.Volumes.{Disk}
use Rattle.cms_tree.specs.declared.types.Mark.{Mark}
use Rattle.cms_tree.specs.Builds.{IsBuildable, root_of}
use Rattle.cms_tree.specs.Kept.{Kept as KeptNode}
use Rattle.cms_tree.specs.Paths.{path_levels}
use Rattle.cms_tree.specs.Resumes.{kept_of}
use Rattle.cms_tree.specs.Tiers.{AllKeep, lowest}
use Rattle.cms_held.specs.Drafts.{Drafted, Front, HasDraft, mark_with, own_blocks, stored_on}
use Rattle.cms_held.specs.HeldTrees.{StartsSo}
use Rattle.cms_held.specs.Kept.{Keeps}
use Rattle.cms_held.specs.LawsEdits.{Edits}
use Rattle.cms_held.specs.LawsRenewals.{IsHeldAt}
use Rattle.cms_held.specs.Puts.{AreFree}
use Rattle.cms_held.specs.Renewals.{Edit, blocks_in, entries_held, made_at}
use Rattle.cms_held.specs.Written.{ReadsBack}
use Rattle.cms_held.specs.Marks.{start_of}
use Rattle.cms_held.specs.HeldVolumes.{HeldFile, HeldTree, HeldVolume, size_of}
use Rattle.cms_held.specs.SharedBlocks.{AreLong, fresh_of, released_of}
use Rattle.cms_held.specs.SharedTrees.{HasShape, SharesTree, StandsByLevels}

-- the places of the data blocks that are written: those behind the kept ones
abbrev pub places_behind : ℕ → ℕ → List ℕ
places_behind kept count = range_with_len kept (count - kept)

-- how many pointer blocks over a level of `count` blocks, in so many levels, don't end within the first `kept` of that level
unfoldable pub nodes_behind : ℕ → ℕ → ℕ → ℕ → ℕ
nodes_behind fan zero count kept = 0
nodes_behind fan (suc levels) count kept = up count fan - kept / fan + nodes_behind fan levels (up count fan) (kept / fan)

-- the form of trees whose pointers have so many bytes
abbrev pub form_on : ℕ → ℕ → ℕ → Form
form_on bsize psize last = record { fan = bsize / psize; stride = psize; last = last }

-- the last data block of a tree
abbrev pub last_leaf : HeldTree → ℕ
last_leaf t = slice_index t.leaves (length t.leaves - 1)

-- a tree keeps the first data blocks of the one before, and the pointer blocks that end within these; each other pointer block has
-- the next of the fresh numbers
pub record KeepsFront (fan kept : ℕ) (old new : HeldTree) : Type 0 where
  pub kept_old : kept ≤ length old.leaves
  pub less : kept < length new.leaves
  pub more : length old.leaves ≤ length new.leaves
  pub leaves : (j : ℕ) → j < kept → slice_index new.leaves j ≡ slice_index old.leaves j
  pub nodes : List ℕ
  pub count : length nodes ≡ fresh_to fan (length old.leaves) (length new.leaves) (places_behind kept (length new.leaves))
      (levels fan (length new.leaves))
  pub path : new.pointers ≡ concat (path_levels fan (length old.leaves) old.pointers (length new.leaves)
      (places_behind kept (length new.leaves)) nodes)

-- a tree that grows: the tree before stood in an earlier image, and all that is written of the new one stands in a later one, with
-- the pointer blocks of the tree before as they were
pub record IsGrown (bsize psize last : ℕ) (earlier later : Image) (old new : HeldTree) (marks : List Mark) (kept : ℕ) (es : List KeptNode)
    (mark : Mark) (bytes : List ℕ) :
    Type 0 where
  pub plan : IsBuildable bsize psize new.leaves marks new.pointers
  pub old_shape : HasShape (bsize / psize) old
  pub shape : HasShape (bsize / psize) new
  pub keeps : KeepsFront (bsize / psize) kept old new
  pub words : All (λ n. n < 2 ^ 32) new.leaves
  pub node_words : All (λ n. n < 2 ^ 32) new.pointers
  pub root_word : root_of old.leaves old.pointers < 2 ^ 32
  pub stands : StandsByLevels (form_on bsize psize last) earlier old
  pub same : (n : ℕ) → In n old.pointers → earlier n ≡ later n
  pub es_is : es ≡ kept_of (bsize / psize) psize earlier (length old.leaves) old.pointers (last_leaf old) mark kept
      (length new.leaves)
  pub fits : AllKeep psize (bsize / psize) new.pointers (lowest kept new.leaves) es
      (levels (bsize / psize) (length new.leaves))
  pub has : HasDraft later bsize psize new.leaves marks new.pointers kept es bytes (length new.leaves)

-- it shares its blocks with the tree before
abbrev pub GrownIsShared : Type 0
GrownIsShared =
    (bsize psize last : ℕ) (earlier later : Image) (old new : HeldTree) (marks : List Mark) (kept : ℕ) (es : List KeptNode) (mark : Mark)
    (bytes : List ℕ) → IsGrown bsize psize last earlier later old new marks kept es mark bytes
    → SharesTree (form_on bsize psize last) earlier later (places_behind kept (length new.leaves)) old new

-- ---- the file

-- a file that grows: all that is written of it stands in a later image, and what is kept of the file before as it was in an
-- earlier one; so many bytes are stored of that, and records stand behind these
pub record GrowsFile (disk : Disk) (total : ℕ) (earlier later : Image) (h : Kept) (old : HeldTree) (e : Entry) (new : HeldTree)
    (marks : List Mark) (front : Front) (mark : Mark) (size : ℕ) (more : List (List ℕ)) :
    Type 0 where
  pub tree : IsGrown disk.bsize (pointer_size e.format) total earlier later old new marks (size / disk.bsize) front.nodes mark
      (stored_on e.format front more)
  pub holds : HoldsFile disk total earlier h
  pub leaves_is : h.met.leaves ≡ old.leaves
  pub same : (n : ℕ) → In n old.leaves → earlier n ≡ later n
  pub long : AreLong disk.bsize earlier old.leaves
  pub format_is : e.format ≡ h.entry.format
  pub length_is : e.format ≡ F → e.length ≡ h.entry.length
  pub count_is : e.count ≡ h.entry.count + length more
  pub root : e.root ≡ root_of new.leaves new.pointers
  pub blocks : e.blocks ≡ length new.leaves
  pub levels_are : e.levels ≡ levels (fan_of disk.bsize e.format) (length new.leaves)
  pub size_is : size ≡ size_of h.entry.format h.entry.length h.entry.count h.records
  pub size_room : size ≤ length old.leaves * disk.bsize
  pub front_is : front.bytes ≡ take size (bytes_at earlier old.leaves)
  pub each : All (Fits e.format e.length) more
  pub leaves_are : length new.leaves ≡ up (length (stored_on e.format front more)) disk.bsize
  pub small : total < 2 ^ 32
  pub data_allowed : AllAllowed total None new.leaves
  pub nodes_allowed : AllAllowed total None new.pointers

-- the volume holds it, with the records of the file before and these behind them
abbrev pub GrownHolds : Type 0
GrownHolds =
    (disk : Disk) (total : ℕ) (earlier later : Image) (h : Kept) (old : HeldTree) (e : Entry) (new : HeldTree) (marks : List Mark)
    (front : Front) (mark : Mark) (size : ℕ) (more : List (List ℕ))
    → GrowsFile disk total earlier later h old e new marks front mark size more
    → Drafted disk total later e new.leaves new.pointers (h.records ++ more)

-- ---- among the files of a volume

-- the length of its records, at V of the longest, with these behind those of that length
abbrev pub length_with : Format → ℕ → List (List ℕ) → ℕ
length_with F size more = size
length_with V size more = max size (longest more)

-- the edit of a file that grows: it takes the place of what it was, gives back the blocks that it doesn't keep, and takes the
-- others
abbrev pub growing : ℕ → List HeldFile → ℕ → HeldFile → HeldFile → Edit
growing bsize files place f g = record {
  files = slice_set files place g;
  made = made_at place;
  given = released_of (bsize / pointer_size g.entry.format)
      (places_behind (f.size / bsize) (length g.tree.leaves)) f.tree g.tree;
  taken = fresh_of (bsize / pointer_size g.entry.format)
      (places_behind (f.size / bsize) (length g.tree.leaves)) f.tree g.tree;
}

-- a file as it is held is to be another one with these records behind its own, and this stamp
pub record IsGrownAs (bsize : ℕ) (f g : HeldFile) (more : List (List ℕ)) (stamp : Stamp) : Type 0 where
  pub name_is : g.entry.name ≡ f.entry.name
  pub number_is : g.entry.number ≡ f.entry.number
  pub format_is : g.entry.format ≡ f.entry.format
  pub fixed : g.entry.format ≡ F → g.entry.length ≡ f.entry.length
  pub stamp_is : g.entry.stamp ≡ stamp
  pub count_is : g.entry.count ≡ f.entry.count + length more
  pub root_is : g.entry.root ≡ root_of g.tree.leaves g.tree.pointers
  pub blocks_are : g.entry.blocks ≡ length g.tree.leaves
  pub levels_are : g.entry.levels ≡ levels (fan_of bsize g.entry.format) (length g.tree.leaves)
  pub length_is : g.length ≡ length_with g.entry.format f.length more
  pub told_is : g.entry.length ≡ g.length
  pub size_is : g.size ≡ f.size + length (stored g.entry.format more)
  pub few : g.entry.count ≤ most_records
  pub small : g.size ≤ most_bytes
  pub each : All (Fits g.entry.format g.entry.length) more
  pub passes_all : passes bsize g.entry ≡ true

-- it grows in a volume as it is held: what it keeps stood in an earlier image and stands as it was in a later one, where all that
-- is written of it stands, in blocks that were free
pub record GrowsHeld (v : HeldVolume) (earlier later : Image) (f g : HeldFile) (marks : List Mark) (front : Front) (mark : Mark)
    (more : List (List ℕ)) (stamp : Stamp) :
    Type 0 where
  pub file : IsGrownAs v.disk.bsize f g more stamp
  pub plan : IsBuildable v.disk.bsize (pointer_size g.entry.format) g.tree.leaves marks g.tree.pointers
  pub old_shape : HasShape (v.disk.bsize / pointer_size g.entry.format) f.tree
  pub keeps : KeepsFront (v.disk.bsize / pointer_size g.entry.format) (f.size / v.disk.bsize) f.tree g.tree
  pub stands : StandsByLevels (form_on v.disk.bsize (pointer_size g.entry.format) v.label.blocks) earlier f.tree
  pub same : (n : ℕ) → In n (blocks_in f.tree) → earlier n ≡ later n
  pub es_is : front.nodes ≡ kept_of (v.disk.bsize / pointer_size g.entry.format) (pointer_size g.entry.format) earlier
      (length f.tree.leaves) f.tree.pointers (last_leaf f.tree) mark (f.size / v.disk.bsize) (length g.tree.leaves)
  pub fits : AllKeep (pointer_size g.entry.format) (v.disk.bsize / pointer_size g.entry.format) g.tree.pointers
      (lowest (f.size / v.disk.bsize) g.tree.leaves) front.nodes
      (levels (v.disk.bsize / pointer_size g.entry.format) (length g.tree.leaves))
  pub has : HasDraft later v.disk.bsize (pointer_size g.entry.format) g.tree.leaves marks g.tree.pointers
      (f.size / v.disk.bsize) front.nodes (stored_on g.entry.format front more) (length g.tree.leaves)
  pub size_room : f.size ≤ length f.tree.leaves * v.disk.bsize
  pub front_is : front.bytes ≡ take f.size (bytes_at earlier f.tree.leaves)
  pub leaves_are : length g.tree.leaves ≡ up (length (stored_on g.entry.format front more)) v.disk.bsize
  pub free : AreFree v (growing v.disk.bsize v.files 0 f g).taken
  pub start_is : StartsSo v.disk.bsize later g

-- the edit is the addition of the records
abbrev pub GrowEdits : Type 0
GrowEdits =
    (j : Journal) (v : HeldVolume) (old : Layout) (later : Image) (place : ℕ) (f g : HeldFile) (marks : List Mark) (front : Front)
    (mark : Mark) (more : List (List ℕ)) (stamp : Stamp) → IsHeldAt j v old → Keeps v → slice_get v.files place ≡ Some f
    → GrowsHeld v (now j v.unit) later f g marks front mark more stamp
    → All ReadsBack (entries_held (growing v.disk.bsize v.files place f g).files)
    → Edits (now j v.unit) later v (growing v.disk.bsize v.files place f g) old (Add f.entry.name more stamp)

-- the blocks that a draft of it writes are those that it takes
abbrev pub OwnIsFresh : Type 0
OwnIsFresh =
    (fan kept : ℕ) (old new : HeldTree) → 2 ≤ fan → HasShape fan old → length new.pointers ≡ pointer_count fan (length new.leaves)
    → KeepsFront fan kept old new
    → own_blocks fan new.leaves new.pointers kept ≡ fresh_of fan (places_behind kept (length new.leaves)) old new

-- what a tree keeps of the one before is the same in each image that has that one's pointer blocks as they were
abbrev pub FrontStays : Type 0
FrontStays =
    (fan psize : ℕ) (earlier later : Image) (old : HeldTree) (mark : Mark) (kept leaves : ℕ) → 2 ≤ fan → HasShape fan old
    → kept ≤ length old.leaves → ((n : ℕ) → In n old.pointers → earlier n ≡ later n)
    → kept_of fan psize earlier (length old.leaves) old.pointers (last_leaf old) mark kept leaves
    ≡ kept_of fan psize later (length old.leaves) old.pointers (last_leaf old) mark kept leaves

-- where its last data block is filled in part, its records begin there as they do behind what comes in front
abbrev pub GrownStarts : Type 0
GrownStarts =
    (bsize : ℕ) (front : Front) (old more : List (List ℕ)) → IsBlockSize bsize → length front.bytes ≡ length (stored V old)
    → front.place ≡ start_of bsize V old
    → start_of bsize V (old ++ more) ≡ (mark_with bsize front more (length (stored_on V front more) / bsize)).place

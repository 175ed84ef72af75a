-- Data blocks that are written one after another while their bytes come, and the pointer blocks over them.
use Rattle.std.specs.Prelude.{◌≡◌, ◌⊎◌, ◌==◌, ℕ, ◌+◌, ◌*◌, ◌/◌, ◌<◌, ◌≤◌, if◌then◌else◌, List, [], ◌∷◌, ◌++◌, length, take, drop, Result, Ok, Err, ⊤}
use Rattle.cms_journal.specs.Journal.{IsBlockSize, IsWritable}
use Rattle.cms_journal.specs.Told.{Told, plus}
use Rattle.cms_journal.specs.declared.event.Attached.{Attached}
use Rattle.cms_journal.specs.declared.event.Failed.{Failed}
use Rattle.cms_fields.specs.Limits.{most_bytes}
use Rattle.cms_fields.specs.Numbers.{up}
use Rattle.cms_model.specs.Sizes.{levels, pointer_count}
use Rattle.cms_model.specs.Settled.{Write, writes}
use Rattle.cms_tree.specs.declared.types.Mark.{Mark}
use Rattle.cms_tree.specs.Builds.{IsBuildable}
use Rattle.cms_tree.specs.Kept.{Kept}
use Rattle.cms_tree.specs.Tiers.{AllKeep, lowest}
use Rattle.cms_tree.specs.Climbs.{AddsOwn, ClimbsOn, HasEach, HoldsLittle, climb_writes_on}
use Rattle.cms_tree.specs.Levels.{mark_at}
use Rattle.cms_model.specs.LawsUpdates.{AddsFront}
use Rattle.cms_held.specs.HeldVolumes.{HeldTree}
use Rattle.cms_held.specs.Drafts.{filled, data_block, data_write, draft_writes, nowhere, own_blocks}
use Rattle.cms_held.specs.declared.block_writer.BlockWriter.{BlockWriter}

-- what always holds: beside the numbers of its blocks it holds the bytes of one data block, and those of one block for each level; the data
-- blocks have room for all bytes that there are to be
pub record IsWriter (w : BlockWriter) : Type 0 where
  pub size : IsBlockSize w.bsize
  pub pointer : (w.psize ≡ 4) ⊎ (w.psize ≡ 12)
  pub block : length w.block.items ≡ w.bsize
  pub count : length w.tree.leaves ≡ up w.size w.bsize
  pub nodes : length w.tree.pointers ≡ pointer_count (w.bsize / w.psize) (length w.tree.leaves)
  pub climb_held : HoldsLittle w.climb
  pub climb_size : w.climb.bsize ≡ w.bsize
  pub climb_pointer : w.climb.psize ≡ w.psize
  pub climb_count : w.climb.count ≡ length w.tree.leaves
  pub climb_kept : w.kept ≤ w.climb.added
  pub climb_added : w.climb.added ≤ w.whole
  pub within : w.whole ≤ length w.tree.leaves
  pub filled : w.filled ≤ w.bsize
  pub few : w.size ≤ most_bytes

-- how many bytes came
abbrev pub came : BlockWriter → ℕ
came w = w.whole * w.bsize + w.filled

-- the unit has its blocks and can be written
pub record CanWrite (units : List Attached) (w : BlockWriter) : Type 0 where
  pub leaves : HasEach units w.unit w.bsize w.tree.leaves
  pub nodes : HasEach units w.unit w.bsize w.tree.pointers
  pub writable : IsWritable units w.unit

-- the blocks that it writes: the data blocks behind those that it keeps, and the pointer blocks that don't end within these
abbrev pub its_blocks : BlockWriter → List ℕ
its_blocks w = own_blocks (w.bsize / w.psize) w.tree.leaves w.tree.pointers w.kept

-- writes of its own blocks were added, and nothing else
abbrev pub AddsOwnBlocks : Told → Told → BlockWriter → Type 0
AddsOwnBlocks old new w = AddsOwn old new w.unit w.bsize (its_blocks w)

-- the first of these bytes came; the data blocks are to have these marks, and so much is kept of the pointer blocks
pub record Streams (w : BlockWriter) (es : List Kept) (bytes : List ℕ) (marks : List Mark) : Type 0 where
  pub climbs : ClimbsOn w.climb w.kept es w.tree.leaves marks w.tree.pointers
  pub keeps : AllKeep w.psize (w.bsize / w.psize) w.tree.pointers (lowest w.kept w.tree.leaves) es
      (levels (w.bsize / w.psize) (length w.tree.leaves))
  pub kept : w.kept ≤ w.whole
  pub added : w.climb.added ≡ w.whole
  pub size : length bytes ≡ w.size
  pub block : w.block.items ≡ filled w.bsize (take w.filled (drop (w.whole * w.bsize) bytes))

-- these bytes come next
pub record ComesNext (at : ℕ) (text bytes : List ℕ) : Type 0 where
  pub more : List ℕ
  pub is : drop at bytes ≡ text ++ more

-- the data block that is filled is as it is to be, and has its mark
pub record IsDone (w : BlockWriter) (bytes : List ℕ) (marks : List Mark) : Type 0 where
  pub block : w.block.items ≡ data_block w.bsize bytes w.whole
  pub mark : w.psize ≡ 12 → w.mark ≡ mark_at marks w.whole

-- what is written with it
abbrev pub block_done : BlockWriter → List Kept → List ℕ → List Mark → List Write
block_done w es bytes marks = data_write w.bsize w.tree.leaves bytes w.whole
    ∷ climb_writes_on w.bsize w.psize w.tree.leaves marks w.tree.pointers w.kept es w.whole

-- it was written, with the pointer blocks that are complete with it, or some of them and it failed
abbrev pub WritesBlock : Told → Told → BlockWriter → BlockWriter → List Kept → List ℕ → List Mark → Result ⊤ Failed → Type 0
WritesBlock old new w w' es bytes marks (Ok x) =
    (new ≡ plus old (writes w.unit (block_done w es bytes marks)))
    × ClimbsOn w'.climb w.kept es w.tree.leaves marks w.tree.pointers × (w'.climb.added ≡ w.whole + 1)
WritesBlock old new w w' es bytes marks (Err e) = AddsFront old new (writes w.unit (block_done w es bytes marks))

-- its place, its shape and its blocks are as they were
pub record IsSame (w w' : BlockWriter) : Type 0 where
  pub unit : w'.unit ≡ w.unit
  pub bsize : w'.bsize ≡ w.bsize
  pub psize : w'.psize ≡ w.psize
  pub tree : w'.tree ≡ w.tree
  pub size : w'.size ≡ w.size
  pub kept : w'.kept ≡ w.kept

-- the mark that data block k is to have, from the one that comes next on, as long as no record begins
abbrev pub mark_on : BlockWriter → ℕ → Mark
mark_on w k = if k == w.whole then w.mark else record { last = w.mark.last; place = nowhere }

-- the mark of the data block that comes next, where a record begins with the next byte
abbrev pub with_start : BlockWriter → Mark
with_start w = record { last = w.mark.last + 1; place = if w.mark.place == nowhere then w.filled else w.mark.place }

-- these are the marks of the data blocks that are whole with so many bytes
abbrev pub AreMarked : BlockWriter → ℕ → List Mark → Type 0
AreMarked w upto marks = w.psize ≡ 12 → (k : ℕ) → w.whole ≤ k → (k + 1) * w.bsize ≤ upto → mark_on w k ≡ mark_at marks k

-- what is written with the first data blocks
abbrev pub written_with : BlockWriter → List Kept → List ℕ → List Mark → ℕ → List Write
written_with w es bytes marks k = draft_writes w.bsize w.psize w.tree.leaves marks w.tree.pointers w.kept es bytes k

-- what is written with the next data blocks was written
pub record Wrote (old new : Told) (w w' : BlockWriter) (es : List Kept) (bytes : List ℕ) (marks : List Mark) : Type 0 where
  pub part : List Write
  pub told : new ≡ plus old (writes w.unit part)
  pub is : written_with w es bytes marks w.whole ++ part ≡ written_with w es bytes marks w'.whole
  pub streams : Streams w' es bytes marks

-- some of what is written with the data blocks that are whole with so many bytes was written
pub record Stops (old new : Told) (w : BlockWriter) (es : List Kept) (bytes : List ℕ) (marks : List Mark) (upto : ℕ) : Type 0 where
  pub to : ℕ
  pub within : to * w.bsize ≤ upto
  pub part : List Write
  pub is : written_with w es bytes marks w.whole ++ part ≡ written_with w es bytes marks to
  pub front : AddsFront old new (writes w.unit part)

-- bytes came up to so many, or a write failed
abbrev pub Writes : {A : Type 0} → Told → Told → BlockWriter → BlockWriter → List Kept → List ℕ → List Mark → ℕ → Result A Failed → Type 0
Writes old new w w' es bytes marks upto (Ok x) = Wrote old new w w' es bytes marks
Writes old new w w' es bytes marks upto (Err e) = Stops old new w es bytes marks upto

-- these bytes were taken behind those that came, whatever the others are, or a write failed
abbrev pub TakesBytes : {A : Type 0} → Told → Told → BlockWriter → BlockWriter → List ℕ → Result A Failed → Type 0
TakesBytes old new w w' bytes result = (es : List Kept) (whole : List ℕ) (marks : List Mark) → Streams w es whole marks → ComesNext (came w) bytes whole
    → AreMarked w (came w + length bytes) marks → Writes old new w w' es whole marks (came w + length bytes) result

-- the same writer later, in which no record began: at most so many bytes came, and its data block has room
pub record IsLater (w w' : BlockWriter) (upto : ℕ) : Type 0 where
  pub is : IsWriter w'
  pub same : IsSame w w'
  pub unfilled : w'.filled < w'.bsize
  pub within : came w' ≤ upto
  pub last : w'.mark.last ≡ w.mark.last
  pub later : w.whole ≤ w'.whole

-- all that was left to be written was, or a front of it
abbrev pub Finishes : {A : Type 0} → Told → Told → BlockWriter → List Kept → List ℕ → List Mark → Result A Failed → Type 0
Finishes old new w es bytes marks (Ok x) = (part : List Write) × (new ≡ plus old (writes w.unit part))
    × (written_with w es bytes marks w.whole ++ part ≡ written_with w es bytes marks (length w.tree.leaves))
Finishes old new w es bytes marks (Err e) = (part : List Write) × AddsFront old new (writes w.unit part)
    × (written_with w es bytes marks w.whole ++ part ≡ written_with w es bytes marks (length w.tree.leaves))

-- so many bytes are to come into these blocks, and none came yet
pub record IsAtStart (unit bsize psize size : ℕ) (tree : HeldTree) (w : BlockWriter) : Type 0 where
  pub unit_is : w.unit ≡ unit
  pub bsize_is : w.bsize ≡ bsize
  pub psize_is : w.psize ≡ psize
  pub size_is : w.size ≡ size
  pub tree_is : w.tree ≡ tree
  pub kept : w.kept ≡ 0
  pub whole : w.whole ≡ 0
  pub filled : w.filled ≡ 0
  pub mark : w.mark ≡ record { last = 0; place = nowhere }

-- a writer to which no byte came yet, whatever they are
pub record IsNewWriter (unit bsize psize size : ℕ) (tree : HeldTree) (w : BlockWriter) : Type 0 where
  pub is : IsWriter w
  pub start : IsAtStart unit bsize psize size tree w
  pub streams : (bytes : List ℕ) (marks : List Mark) → IsBuildable bsize psize tree.leaves marks tree.pointers → length bytes ≡ size
      → Streams w [] bytes marks

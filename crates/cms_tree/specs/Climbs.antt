-- A tree whose pointer blocks are written while its leaves are.
use Rattle.std.specs.Prelude.{◌≡◌, ◌⊎◌, ℕ, zero, suc, ◌/◌, ◌^◌, ◌<◌, ◌≤◌, List, [], ◌∷◌, ◌++◌, length, take, drop, slice_index, map, All, Result, Ok, Err, ⊤}
use Rattle.cms_journal.specs.Journal.{HasBlock, IsBlockSize}
use Rattle.cms_journal.specs.Told.{Told, plus}
use Rattle.cms_journal.specs.declared.event.Attached.{Attached}
use Rattle.cms_journal.specs.declared.event.Failed.{Failed}
use Rattle.cms_fields.specs.Numbers.{up}
use Rattle.cms_model.specs.Lists.{In, times}
use Rattle.cms_model.specs.Trees.{Image}
use Rattle.cms_model.specs.Sizes.{levels}
use Rattle.cms_model.specs.Settled.{Write, writes}
use Rattle.cms_model.specs.LawsUpdates.{AddsFront, put_blocks}
use Rattle.cms_tree.specs.declared.types.Mark.{Mark}
use Rattle.cms_tree.specs.declared.climb.Level.{Level}
use Rattle.cms_tree.specs.Builds.{IsBuildable, HasNodes}
use Rattle.cms_tree.specs.Levels.{mark_at}
use Rattle.cms_tree.specs.Kept.{Kept}
use Rattle.cms_tree.specs.Tiers.{complete_from, node_on, node_write, put_node, lowest, Stand}

-- a climb: the bytes of a block and of a pointer, how many leaves there are to be and how many were added, and the open pointer
-- block of each level, bottom level first
pub record Climb : Type 0 where
  pub bsize : ℕ
  pub psize : ℕ
  pub count : ℕ
  pub added : ℕ
  pub levels : List Level

-- an open pointer block has so many bytes
abbrev pub HasSize : ℕ → Level → Type 0
HasSize bsize level = length level.bytes.items ≡ bsize

-- it holds one block for each level
pub record HoldsLittle (c : Climb) : Type 0 where
  pub levels : length c.levels ≡ levels (c.bsize / c.psize) c.count
  pub blocks : All (HasSize c.bsize) c.levels

-- what always holds
pub record IsClimbing (c : Climb) : Type 0 where
  pub size : IsBlockSize c.bsize
  pub pointer : (c.psize ≡ 4) ⊎ (c.psize ≡ 12)
  pub some : 1 ≤ c.count
  pub few : c.count < 2 ^ 32
  pub added : c.added ≤ c.count
  pub held : HoldsLittle c

-- ---- what is written

-- each is a write to one of these blocks, of so many bytes
abbrev pub AreOwn : ℕ → List ℕ → List Write → Type 0
AreOwn size blocks [] = ⊤
AreOwn size blocks (w ∷ ws) = In w.block blocks × (length w.bytes ≡ size) × AreOwn size blocks ws

-- such writes were added, and nothing else
pub record AddsOwn (old new : Told) (u size : ℕ) (blocks : List ℕ) : Type 0 where
  pub part : List Write
  pub told : new ≡ plus old (writes u part)
  pub own : AreOwn size blocks part

-- of the numbers of the pointer blocks over a level of `count` blocks, in so many levels, those of the blocks that don't end
-- within the first `kept` of that level
unfoldable pub numbers_behind : ℕ → ℕ → ℕ → ℕ → List ℕ → List ℕ
numbers_behind fan zero count kept fresh = []
numbers_behind fan (suc levels) count kept fresh = drop (kept / fan) (take (up count fan) fresh)
    ++ numbers_behind fan levels (up count fan) (kept / fan) (drop (up count fan) fresh)

-- the pointer blocks that leaf i completes, from 0, bottom level first, as they are written
abbrev pub climb_writes : ℕ → ℕ → List ℕ → List Mark → List ℕ → ℕ → List Write
climb_writes bsize psize leaves marks fresh i = map (node_write bsize psize leaves marks fresh)
    (complete_from (bsize / psize) (levels (bsize / psize) (length leaves)) 0 (length leaves) i)

-- the same of a tree that keeps so many leaves of the tree before, and so much of the pointer blocks
-- of each level
abbrev pub climb_writes_on : ℕ → ℕ → List ℕ → List Mark → List ℕ → ℕ → List Kept → ℕ → List Write
climb_writes_on bsize psize leaves marks fresh kept es i =
    map (put_node fresh (node_on bsize psize leaves marks fresh kept es))
    (complete_from (bsize / psize) (levels (bsize / psize) (length leaves)) 0 (length leaves) i)

-- the climb has kept or added the first of these leaves, with these marks, and its pointer blocks
-- have these numbers
pub record ClimbsOn (c : Climb) (kept : ℕ) (es : List Kept) (leaves : List ℕ) (marks : List Mark)
    (fresh : List ℕ) : Type 0 where
  pub plan : IsBuildable c.bsize c.psize leaves marks fresh
  pub count : c.count ≡ length leaves
  pub stand : c.added < c.count
      → Stand c.bsize c.psize marks (length leaves) fresh (lowest kept leaves) es c.added c.levels

-- where nothing is kept
abbrev pub Climbs : Climb → List ℕ → List Mark → List ℕ → Type 0
Climbs c leaves marks fresh = ClimbsOn c 0 [] leaves marks fresh

-- the leaf and its mark are the next
pub record IsNext (c : Climb) (leaves : List ℕ) (marks : List Mark) (leaf : ℕ) (mark : Mark) : Type 0 where
  pub leaf_is : leaf ≡ slice_index leaves c.added
  pub mark_is : c.psize ≡ 12 → mark ≡ mark_at marks c.added

-- a leaf was added, and the pointer blocks that it completes were written, or some of them and it failed
abbrev pub Adds : Told → Told → ℕ → Climb → Climb → List ℕ → List Mark → List ℕ → Result ⊤ Failed → Type 0
Adds old new u c c' leaves marks fresh (Ok x) =
    (new ≡ plus old (writes u (climb_writes c.bsize c.psize leaves marks fresh c.added))) × Climbs c' leaves marks fresh
Adds old new u c c' leaves marks fresh (Err e) = AddsFront old new (writes u (climb_writes c.bsize c.psize leaves marks fresh c.added))

-- the same of a tree that keeps some of the tree before
abbrev pub AddsOn : Told → Told → ℕ → Climb → Climb → ℕ → List Kept → List ℕ → List Mark
    → List ℕ → Result ⊤ Failed → Type 0
AddsOn old new u c c' kept es leaves marks fresh (Ok x) =
    (new ≡ plus old
    (writes u (climb_writes_on c.bsize c.psize leaves marks fresh kept es c.added)))
    × ClimbsOn c' kept es leaves marks fresh
AddsOn old new u c c' kept es leaves marks fresh (Err e) =
    AddsFront old new
    (writes u (climb_writes_on c.bsize c.psize leaves marks fresh kept es c.added))

-- none is added of so many leaves, whatever these are
pub record IsNew (bsize psize count : ℕ) (c : Climb) : Type 0 where
  pub bsize_is : c.bsize ≡ bsize
  pub psize_is : c.psize ≡ psize
  pub count_is : c.count ≡ count
  pub added_is : c.added ≡ 0
  pub climbs : (leaves : List ℕ) (marks : List Mark) (fresh : List ℕ) → IsBuildable bsize psize leaves marks fresh → length leaves ≡ count
      → Climbs c leaves marks fresh
  pub held : HoldsLittle c

-- the unit has each of these blocks
abbrev pub HasEach : List Attached → ℕ → ℕ → List ℕ → Type 0
HasEach units u size blocks = All (λ n. HasBlock units u n size) blocks

-- ---- all leaves

-- the pointer blocks that the first leaves complete, in the order in which they are written
unfoldable pub climbed : ℕ → ℕ → List ℕ → List Mark → List ℕ → ℕ → List Write
climbed bsize psize leaves marks fresh zero = []
climbed bsize psize leaves marks fresh (suc i) = climbed bsize psize leaves marks fresh i ++ climb_writes bsize psize leaves marks fresh i

-- with all leaves each pointer block was written once, so that an image has them all where they were put
pub record IsClimbed (bsize psize : ℕ) (leaves : List ℕ) (marks : List Mark) (fresh : List ℕ) : Type 0 where
  pub places : List ℕ
  pub writes_are : climbed bsize psize leaves marks fresh (length leaves) ≡ map (node_write bsize psize leaves marks fresh) places
  pub within : All (λ nth. nth < length fresh) places
  pub once : (nth : ℕ) → nth < length fresh → times nth places ≡ 1
  pub nodes : ((n : ℕ) → times n fresh ≤ 1) → (image : Image)
      → HasNodes (put_blocks image (climbed bsize psize leaves marks fresh (length leaves))) bsize psize leaves marks fresh

-- with all leaves added, each pointer block was written once, as building gives it
abbrev pub ClimbsAll : Type 0
ClimbsAll = (bsize psize : ℕ) (leaves : List ℕ) (marks : List Mark) (fresh : List ℕ) → IsBuildable bsize psize leaves marks fresh
    → IsClimbed bsize psize leaves marks fresh

-- What an update writes of a tree of which it keeps blocks.
use Rattle.std.specs.Prelude.{◌≡◌, ℕ, suc, ◌*◌, ◌/◌, ◌^◌, ◌<◌, Bool, true, false, if◌then◌else◌, List, [], ◌∷◌, ◌++◌, length, map, slice_index, All}
use Rattle.std.specs.List.{concat}
use Rattle.cms_journal.specs.Journal.{IsBlockSize}
use Rattle.cms_names.specs.declared.name.Format.TheVariants.{F}
use Rattle.cms_model.specs.Lists.{In}
use Rattle.cms_model.specs.Settled.{Write}
use Rattle.cms_model.specs.SharedTiers.{group}
use Rattle.cms_model.specs.Trees.{Image, form_of}
use Rattle.cms_tree.specs.Builds.{marked, node_bytes}
use Rattle.cms_tree.specs.Paths.{path_levels}
use Rattle.cms_held.specs.HeldVolumes.{HeldTree}
use Rattle.cms_model.specs.SharedTrees.{MayBeWritten, is_kept}
use Rattle.cms_held.specs.SharedBlocks.{SharesBlocks, fresh_of, levels_in}
use Rattle.cms_held.specs.SharedTrees.{HasShape, SharesTree}
use Rattle.cms_held.specs.Systems.{HasWritten, leaf_writes}

-- ---- the writes

-- those of the pointer blocks of a level, from a place on, that aren't kept: each points to its
-- group of the level below
unfoldable pub tier_writes : ℕ → ℕ → (ℕ → Bool) → List ℕ → ℕ → List ℕ → List Write
tier_writes bsize fan kept below k [] = []
tier_writes bsize fan kept below k (n ∷ ns) =
    if kept k then tier_writes bsize fan kept below (suc k) ns
    else record { block = n; bytes = node_bytes bsize 4 (marked (group fan below k) []) }
    ∷ tier_writes bsize fan kept below (suc k) ns

-- of all levels, the bottom level first
unfoldable pub fresh_writes : ℕ → ℕ → ℕ → ℕ → ℕ → List ℕ → List (List ℕ) → List ℕ → List (List ℕ)
    → List Write
fresh_writes bsize fan size before count written olds below [] = []
fresh_writes bsize fan size before count written [] below (tier ∷ more) =
    tier_writes bsize fan (is_kept false (size * fan) before count written) below 0 tier
    ++ fresh_writes bsize fan (size * fan) before count written [] tier more
fresh_writes bsize fan size before count written (old_tier ∷ olds) below (tier ∷ more) =
    tier_writes bsize fan (is_kept true (size * fan) before count written) below 0 tier
    ++ fresh_writes bsize fan (size * fan) before count written olds tier more

-- of a tree of fixed records
abbrev pub shared_node_writes : ℕ → List ℕ → HeldTree → HeldTree → List Write
shared_node_writes bsize written old new =
    fresh_writes bsize (bsize / 4) 1 (length old.leaves) (length new.leaves) written
    (levels_in (bsize / 4) old) new.leaves (levels_in (bsize / 4) new)

-- they are to the blocks that are taken for it
abbrev pub FreshAreWritten : Type 0
FreshAreWritten =
    (bsize : ℕ) (written : List ℕ) (old new : HeldTree) (piece : ℕ → List ℕ)
    → MayBeWritten (length old.leaves) (length new.leaves) written
    → map (λ w. w.block)
    (leaf_writes new.leaves piece written ++ shared_node_writes bsize written old new)
    ≡ fresh_of (bsize / 4) written old new

-- ---- what stands behind them

-- a tree of an update: its data blocks that are kept and its pointer blocks that are kept have
-- their numbers, the others take fresh ones; in the image behind it stand the old tree's blocks as
-- they were and what was written
pub record WritesTree (bsize : ℕ) (before later : Image) (written : List ℕ) (old new : HeldTree)
    (piece : ℕ → List ℕ) (fresh : List ℕ) :
    Type 0 where
  pub size : IsBlockSize bsize
  pub may : MayBeWritten (length old.leaves) (length new.leaves) written
  pub old_shape : HasShape (bsize / 4) old
  pub shape : HasShape (bsize / 4) new
  pub words : All (λ n. n < 2 ^ 32) new.leaves
  pub node_words : All (λ n. n < 2 ^ 32) new.pointers
  pub leaves : (j : ℕ) → j < length new.leaves → (In j written → ⊥)
      → slice_index new.leaves j ≡ slice_index old.leaves j
  pub pointers : new.pointers
      ≡ concat (path_levels (bsize / 4) (length old.leaves) old.pointers (length new.leaves) written
      fresh)
  pub same_leaves : (n : ℕ) → In n old.leaves → before n ≡ later n
  pub same_nodes : (n : ℕ) → In n old.pointers → before n ≡ later n
  pub has_leaves : HasWritten later (leaf_writes new.leaves piece written)
  pub has_nodes : HasWritten later (shared_node_writes bsize written old new)

-- it shares its blocks
abbrev pub WrittenIsShared : Type 0
WrittenIsShared =
    (bsize last : ℕ) (before later : Image) (written : List ℕ) (old new : HeldTree)
    (piece : ℕ → List ℕ) (fresh : List ℕ)
    → WritesTree bsize before later written old new piece fresh
    → SharesBlocks before later old.leaves new.leaves written piece
    × SharesTree (form_of bsize last F) before later written old new

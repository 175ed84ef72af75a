-- The blocks of a tree that an update writes in part: those that it writes and those that it keeps.
use Rattle.std.specs.Prelude.{◌≡◌, ℕ, ◌<◌, true, List, ◌++◌, length, slice_index, All}
use Rattle.cms_model.specs.Lists.{In}
use Rattle.cms_model.specs.SharedTrees.{MayBeWritten, fresh_count, is_kept}
use Rattle.cms_model.specs.SharedTimes.{came, gone, without}
use Rattle.cms_model.specs.Sizes.{pointer_count}
use Rattle.cms_model.specs.Trees.{Image}
use Rattle.cms_tree.specs.Paths.{tree_levels}
use Rattle.cms_held.specs.HeldVolumes.{HeldTree}

-- ---- in an image

-- each of these blocks has so many bytes
abbrev pub AreLong : ℕ → Image → List ℕ → Type 0
AreLong bsize image ns = All (λ n. length (image n) ≡ bsize) ns

-- after an update the data blocks with the numbers `written` have these pieces, and each other is
-- the one of the tree before, with its bytes
pub record SharesBlocks (before later : Image) (olds leaves written : List ℕ) (piece : ℕ → List ℕ) :
    Type 0 where
  pub anew : (j : ℕ) → j < length leaves → In j written → later (slice_index leaves j) ≡ piece j
  pub had : (j : ℕ) → j < length leaves → (In j written → ⊥) → j < length olds
  pub same : (j : ℕ) → j < length leaves → (In j written → ⊥)
      → later (slice_index leaves j) ≡ before (slice_index olds j)

-- ---- what is taken and given back

-- the levels of a tree's pointer blocks, by their numbers
abbrev pub levels_in : ℕ → HeldTree → List (List ℕ)
levels_in fan t = tree_levels fan (length t.leaves) t.pointers

-- the blocks that are taken for a tree: its data blocks that are written, and its pointer blocks
-- that aren't kept
abbrev pub fresh_of : ℕ → List ℕ → HeldTree → HeldTree → List ℕ
fresh_of fan written old new =
    without (is_kept true 1 (length old.leaves) (length new.leaves) written) 0 new.leaves
    ++ came fan 1 (length old.leaves) (length new.leaves) written
    (levels_in fan old) (levels_in fan new)

-- the blocks of the tree before that are given back
abbrev pub released_of : ℕ → List ℕ → HeldTree → HeldTree → List ℕ
released_of fan written old new =
    without (is_kept true 1 (length old.leaves) (length new.leaves) written) 0 old.leaves
    ++ gone fan 1 (length old.leaves) (length new.leaves) written
    (levels_in fan old) (levels_in fan new)

-- as many blocks are taken as the numbers of data blocks tell
abbrev pub FreshIsCounted : Type 0
FreshIsCounted =
    (fan : ℕ) (written : List ℕ) (old new : HeldTree)
    → MayBeWritten (length old.leaves) (length new.leaves) written
    → length new.pointers ≡ pointer_count fan (length new.leaves)
    → length (fresh_of fan written old new)
    ≡ fresh_count fan (length old.leaves) (length new.leaves) written

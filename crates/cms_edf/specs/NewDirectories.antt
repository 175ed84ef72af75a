-- The directory that an update leaves, over the one that is held.
use Rattle.std.specs.Prelude.{◌≡◌, ℕ, ◌+◌, ◌^◌, ◌<◌, ◌≤◌, true, List, length, slice_index}
use Rattle.cms_model.specs.Lists.{In}
use Rattle.cms_model.specs.SharedTrees.{MayBeWritten}
use Rattle.cms_tree.specs.Paths.{numbered}
use Rattle.cms_held.specs.HeldVolumes.{HeldTree}
use Rattle.cms_held.specs.Systems.{Systems, TreePart}

-- the tree of a new directory, and what is written of it
pub record NewDirectory : Type 0 where
  pub tree : HeldTree
  pub part : TreePart

-- so many data blocks, of which those at these places take the first of these numbers, and the others are the old ones
abbrev pub leaves_over : List ℕ → ℕ → List ℕ → List ℕ → List ℕ
leaves_over old count written numbers = numbered true 1 (length old) count written old numbers count

-- what is written may be, and there is a number for each; the count has 32 bits
pub record HasNumbers (old : List ℕ) (count : ℕ) (part : TreePart) (numbers : List ℕ) : Type 0 where
  pub may : MayBeWritten (length old) count part.leaves
  pub enough : length part.leaves ≤ length numbers
  pub small : count < 2 ^ 32

-- a new directory over these data blocks: those that aren't written are the old ones, and there is at most one more
pub record GoesOn (held : List ℕ) (d : NewDirectory) : Type 0 where
  pub may : MayBeWritten (length held) (length d.tree.leaves) d.part.leaves
  pub same : (j : ℕ) → j < length d.tree.leaves → (In j d.part.leaves → ⊥)
      → slice_index d.tree.leaves j ≡ slice_index held j
  pub few : length d.tree.leaves ≤ length held + 1

-- the directory of what an update writes
abbrev pub directory_in : Systems → NewDirectory
directory_in s = record { tree = s.directory; part = s.directory_part }

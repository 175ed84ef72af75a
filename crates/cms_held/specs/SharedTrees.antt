-- Trees that share blocks with those before, level by level, and how they are read.
use Rattle.std.specs.Prelude.{◌≡◌, ℕ, ◌^◌, ◌<◌, ◌≤◌, true, List, [], ◌∷◌, length, Option, None, Ok}
use Rattle.std.specs.List.{concat}
use Rattle.cms_fields.specs.Numbers.{is_shape}
use Rattle.cms_model.specs.Built.{AllAllowed, ReadsAs}
use Rattle.cms_model.specs.ByLevels.{Heaped, tiers}
use Rattle.cms_model.specs.SharedTiers.{SameLeaves, Shared}
use Rattle.cms_model.specs.Sizes.{levels, pointer_count}
use Rattle.cms_model.specs.Trees.{Form, Image, Met, tree}
use Rattle.cms_tree.specs.Builds.{root_of}
use Rattle.cms_held.specs.HeldVolumes.{HeldTree}
use Rattle.cms_held.specs.SharedBlocks.{levels_in}

-- a tree as it is held stands in an image level by level, up to its root
abbrev pub StandsByLevels : Form → Image → HeldTree → Type 0
StandsByLevels form image t =
    Heaped form image t.leaves (levels_in form.fan t) (root_of t.leaves t.pointers ∷ [])

-- it has at least one data block, fewer than 2^32, and as many pointer blocks as its shape
pub record HasShape (fan : ℕ) (t : HeldTree) : Type 0 where
  pub some : 1 ≤ length t.leaves
  pub few : length t.leaves < 2 ^ 32
  pub nodes : length t.pointers ≡ pointer_count fan (length t.leaves)

-- a tree as it is held has its shape, and stands so
pub record IsStanding (form : Form) (image : Image) (t : HeldTree) : Type 0 where
  pub shape : HasShape form.fan t
  pub stands : StandsByLevels form image t

-- a tree that is read, with its pointer blocks level by level
abbrev pub read_tree : Form → Image → ℕ → ℕ → ℕ → Met → HeldTree
read_tree form image k root count met =
    record { leaves = met.leaves; pointers = concat (tiers form image k root count) }

-- it stands
abbrev pub ReadStandsByLevels : Type 0
ReadStandsByLevels =
    (form : Form) (image : Image) (k : ℕ) (first : Option ℕ) (holder root count : ℕ) (met : Met)
    → 2 ≤ form.fan → 1 ≤ count → count < 2 ^ 32 → is_shape form.fan count k ≡ true
    → tree form image k first holder root count ≡ Ok met
    → IsStanding form image (read_tree form image k root count met)

-- and one that stands so is read, where its blocks are allowed
abbrev pub LevelsAreRead : Type 0
LevelsAreRead =
    (form : Form) (image : Image) (first : Option ℕ) (holder : ℕ) (t : HeldTree) → 2 ≤ form.fan
    → HasShape form.fan t → AllAllowed form.last first t.leaves
    → AllAllowed form.last None t.pointers
    → StandsByLevels form image t
    → ReadsAs form image (levels form.fan (length t.leaves)) first holder
    (root_of t.leaves t.pointers) t.leaves t.pointers

-- a tree shares blocks with the one before, of which these data blocks are written
pub record SharesTree (form : Form) (before later : Image) (written : List ℕ) (old new : HeldTree) :
    Type 0 where
  pub leaves : SameLeaves (length old.leaves) (length new.leaves) written old.leaves new.leaves
  pub pointers : Shared form before later 1 (length old.leaves) (length new.leaves) written
      (levels_in form.fan old) new.leaves (levels_in form.fan new)

-- where that one stood before it stands later
abbrev pub SharedTreeStands : Type 0
SharedTreeStands =
    (form : Form) (before later : Image) (written : List ℕ) (old new : HeldTree) → 2 ≤ form.fan
    → HasShape form.fan new → StandsByLevels form before old
    → SharesTree form before later written old new
    → StandsByLevels form later new

-- Trees as they are read from a unit.
use Rattle.std.specs.Prelude.{◌≡◌, ◌⊎◌, ℕ, ◌/◌, ◌≤◌, List, ◌++◌, Option, Some, None, Result, Ok, Err, ⊤}
use Rattle.std.specs.List.{concat}
use Rattle.cms_journal.specs.Journal.{Journal, contents_of}
use Rattle.cms_model.specs.Lists.{In}
use Rattle.cms_model.specs.Trees.{Image, Form, Met, image_of, tree}
use Rattle.cms_model.specs.ByLevels.{tiers}
use Rattle.cms_model.specs.Sizes.{levels}
use Rattle.cms_model.specs.declared.fault.OpenFault.{OpenFault}
use Rattle.cms_model.specs.declared.fault.OpenFault.TheVariants as fault
use Rattle.cms_tree.specs.declared.types.TreeAt.{TreeAt}
use Rattle.cms_tree.specs.declared.types.TreeFault.{TreeFault}
use Rattle.cms_tree.specs.declared.types.TreeFault.TheVariants.{Device, Pointer, Memory}
use Rattle.cms_tree.specs.declared.types.Walked.{Walked}

-- the form of the trees among which this one is
abbrev pub form_at : TreeAt → Form
form_at at = record { fan = at.bsize / at.psize; stride = at.psize; last = at.volume }

-- the levels of the tree: as few as have room for its data blocks
abbrev pub levels_at : TreeAt → ℕ
levels_at at = levels (at.bsize / at.psize) at.count

-- the tree in an image, or its first pointer, in preorder, that isn't allowed
abbrev pub tree_at : Image → TreeAt → Result Met OpenFault
tree_at image at = tree (form_at at) image (levels_at at) at.first at.holder at.root at.count

-- the pointer blocks, bottom level first and each from left to right, of a tree of so many levels over so many data blocks
unfoldable pub nodes : Form → Image → ℕ → ℕ → ℕ → List ℕ
nodes form image k root count = concat (tiers form image k root count)

-- the pointer blocks of a tree at a place of an image
abbrev pub nodes_at : Image → TreeAt → List ℕ
nodes_at image at = nodes (form_at at) image (levels_at at) at.root at.count

-- a walk that went well met the tree's blocks; one that was refused met the tree's first pointer that isn't allowed
abbrev pub Reads : Image → TreeAt → Result Walked TreeFault → Type 0
Reads image at (Ok walked) =
    (tree_at image at ≡ Ok (record { blocks = walked.blocks.items; leaves = walked.leaves.items }))
    × (walked.pointers.items ≡ nodes_at image at)
Reads image at (Err (Pointer holder value)) = tree_at image at ≡ Err (fault.Pointer holder value)
Reads image at (Err Device) = ⊤
Reads image at (Err Memory) = ⊤

-- the same of a walk that appends the pointer blocks to one list and the data blocks to another
abbrev pub Appends : Image → TreeAt → List ℕ → List ℕ → List ℕ → List ℕ → Result ⊤ TreeFault → Type 0
Appends image at pointers pointers' leaves leaves' (Ok x) =
    (met : Met) × (tree_at image at ≡ Ok met) × (pointers' ≡ pointers ++ nodes_at image at) × (leaves' ≡ leaves ++ met.leaves)
Appends image at pointers pointers' leaves leaves' (Err (Pointer holder value)) = tree_at image at ≡ Err (fault.Pointer holder value)
Appends image at pointers pointers' leaves leaves' (Err Device) = ⊤
Appends image at pointers pointers' leaves leaves' (Err Memory) = ⊤

-- the unit's image at a journal
abbrev pub image_at : Journal → TreeAt → Image
image_at j at = image_of (contents_of j at.unit)

-- each block lies from 6 to the last, but for a first data block with a fixed place
abbrev pub AreWithin : ℕ → Option ℕ → List ℕ → Type 0
AreWithin last first blocks = (n : ℕ) → In n blocks → ((6 ≤ n) × (n ≤ last)) ⊎ (first ≡ Some n)

-- the blocks of a tree that was read lie so; its pointer blocks have no fixed place
pub record IsWithin (last : ℕ) (first : Option ℕ) (walked : Walked) : Type 0 where
  pub blocks : AreWithin last first walked.blocks.items
  pub pointers : AreWithin last None walked.pointers.items
  pub leaves : AreWithin last first walked.leaves.items

-- so do those that are appended to a list
pub record AppendsWithin (last : ℕ) (first : Option ℕ) (old new : List ℕ) : Type 0 where
  pub more : List ℕ
  pub items : new ≡ old ++ more
  pub within : AreWithin last first more

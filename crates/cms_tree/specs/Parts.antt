-- Parts of a walk: what it appends to what was met before.
use Rattle.std.specs.Prelude.{◌≡◌, ◌⊎◌, ℕ, ◌+◌, Bool, true, false, List, [], ◌∷◌, ◌++◌, length, map, Option, None, Result, Ok, Err, ⊤}
use Rattle.std.specs.List.{concat}
use Rattle.cms_fields.specs.Numbers.{up}
use Rattle.cms_fields.specs.Steps.{◌>>=◌}
use Rattle.cms_model.specs.Trees.{Image, Form, Met, joined, is_allowed, tree}
use Rattle.cms_model.specs.ByLevels.{beside, tiers}
use Rattle.cms_model.specs.declared.fault.OpenFault.{OpenFault}
use Rattle.cms_model.specs.declared.fault.OpenFault.TheVariants as fault
use Rattle.cms_tree.specs.declared.types.TreeFault.{TreeFault}
use Rattle.cms_tree.specs.declared.types.TreeFault.TheVariants.{Device, Pointer, Memory}
use Rattle.cms_tree.specs.declared.read.MetBlocks.{MetBlocks}
use Rattle.cms_tree.specs.declared.read.Layout.{Layout}
use Rattle.cms_tree.specs.declared.read.Subtree.{Subtree}
use Rattle.cms_tree.specs.declared.read.Tier.{Tier}
use Rattle.cms_tree.specs.Walks.{AreWithin}

-- the form of a tree, of how it is laid out
abbrev pub form_of : Layout → Form
form_of layout = record { fan = layout.fan; stride = layout.stride; last = layout.last }

-- the blocks and leaves of a tree that was read
abbrev pub met_of : MetBlocks → Met
met_of met = record { blocks = met.blocks.items; leaves = met.leaves.items }

-- what the reading of a tree comes to: what was met, or the first test that fails
abbrev pub Reading : Type 0
Reading = Result Met OpenFault

-- what is read, behind what was met before
abbrev pub onto : Met → Result Met OpenFault → Result Met OpenFault
onto old read = read >>= λ met. Ok (joined old met)

-- a fault that reading gives too, or that isn't of the tree
abbrev pub IsFaultOf : TreeFault → Result Met OpenFault → Type 0
IsFaultOf Device read = ⊤
IsFaultOf Memory read = ⊤
IsFaultOf (Pointer holder value) read = read ≡ Err (fault.Pointer holder value)

-- a data block is behind what was met before, or the fault is that of reading
abbrev pub JoinsLeaf : MetBlocks → MetBlocks → Result ⊤ TreeFault → Reading → Type 0
JoinsLeaf old new (Ok x) read = onto (met_of old) read ≡ Ok (met_of new)
JoinsLeaf old new (Err why) read = IsFaultOf why read

-- the pointer blocks of each level
abbrev pub blocks_in : List Tier → List (List ℕ)
blocks_in ts = map (λ t. t.blocks.items) ts

-- what was met of a tree of so many levels, or of the part of one below a pointer, is behind what was met before, its pointer
-- blocks behind those of their levels
abbrev pub JoinsPart : Image → Layout → ℕ → Subtree → List Tier → List Tier → MetBlocks → MetBlocks → Result ⊤ TreeFault → Type 0
JoinsPart image layout levels part ts ts' old new (Ok x) =
    (onto (met_of old) (tree (form_of layout) image levels part.first part.holder part.root part.count) ≡ Ok (met_of new))
    × (blocks_in ts' ≡ beside (blocks_in ts) (tiers (form_of layout) image levels part.root part.count))
JoinsPart image layout levels part ts ts' old new (Err why) =
    IsFaultOf why (tree (form_of layout) image levels part.first part.holder part.root part.count)

-- each level has as many pointer blocks more as stand there over so many blocks of the level below the first
abbrev pub AreMore : ℕ → ℕ → List (List ℕ) → List (List ℕ) → Type 0
AreMore fan count [] [] = ⊤
AreMore fan count [] (y ∷ ys) = ⊥
AreMore fan count (x ∷ xs) [] = ⊥
AreMore fan count (x ∷ xs) (y ∷ ys) = (length y ≡ length x + up count fan) × AreMore fan (up count fan) xs ys

-- the levels have those of a tree of so many data blocks more, each of which lies within the volume
pub record Grows (fan last count : ℕ) (ts ts' : List Tier) : Type 0 where
  pub more : AreMore fan count (blocks_in ts) (blocks_in ts')
  pub within : AreWithin last None (concat (blocks_in ts)) → AreWithin last None (concat (blocks_in ts'))

-- the refusal of a pointer that isn't allowed, or want of memory
abbrev pub IsRefusal : TreeFault → ℕ → ℕ → Bool → Type 0
IsRefusal Device holder root allowed = ⊥
IsRefusal Memory holder root allowed = ⊤
IsRefusal (Pointer holder' value) holder root allowed = (holder' ≡ holder) × (value ≡ root) × (allowed ≡ false)

-- not the refusal of a pointer
abbrev pub IsPlain : TreeFault → Type 0
IsPlain Device = ⊤
IsPlain Memory = ⊤
IsPlain (Pointer holder value) = ⊥

-- the blocks met lie within the volume, but for a first data block with a fixed place
pub record MetWithin (last : ℕ) (first : Option ℕ) (met : MetBlocks) : Type 0 where
  pub blocks : AreWithin last first met.blocks.items
  pub leaves : AreWithin last first met.leaves.items

-- with what was met of a tree they still do
abbrev pub StaysWithin : ℕ → Option ℕ → MetBlocks → MetBlocks → Type 0
StaysWithin last first old new = (fixed : Option ℕ) → (first ≡ None) ⊎ (first ≡ fixed) → MetWithin last fixed old → MetWithin last fixed new

-- a pointer block that is allowed is appended, also to those of its level
pub record IsTaken (last root : ℕ) (tier tier' : Tier) (old new : MetBlocks) : Type 0 where
  pub allowed : is_allowed last None root ≡ true
  pub blocks : new.blocks.items ≡ old.blocks.items ++ root ∷ []
  pub of_tier : tier'.blocks.items ≡ tier.blocks.items ++ root ∷ []
  pub leaves : new.leaves ≡ old.leaves

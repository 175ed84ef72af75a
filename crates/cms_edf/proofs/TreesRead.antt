-- The trees of a volume, and the blocks that they have.
use Rattle.std.proofs.Common.{◌≡◌, ◌⊎◌, inl, inr, ⊎_elim, ℕ, suc, ◌<◌, ◌≤◌, List, [], ◌∷◌, ◌++◌, length, map, slice_index, Some, None, Ok, Err, refl, subst, arith}
use Rattle.std.specs.List.{All}
use Rattle.cms_journal.specs.Journal.{Journal, HasBlock, HasBlocks}
use Rattle.cms_names.specs.declared.name.Format.TheVariants.{F}
use Rattle.cms_model.specs.Lists.{In}
use Rattle.cms_model.specs.Trees.{Image, form_of, tree}
use Rattle.cms_model.specs.Volumes.{file_trees, blocks_of, tree_blocks}
use Rattle.cms_model.specs.declared.fault.OpenFault.{OpenFault}
use Rattle.cms_model.proofs.Members.{In-either}
use Rattle.cms_tree.specs.Walks.{IsWithin}
use Rattle.cms_tree.specs.declared.types.Walked.{Walked}
use Rattle.cms_edf.specs.declared.listing.Place.{Place}
use Rattle.cms_edf.specs.declared.listing.Listing.{Listing}
use Rattle.cms_edf.specs.declared.volume.Trees.{Trees}
use Rattle.cms_held.specs.HeldVolumes.{IsFaultOf}
use Rattle.cms_edf.specs.OpeningSteps.{AreBlocks, ReadsMap, met_in, listed, trees_in}
use Rattle.cms_edf.specs.OpeningFiles.{HasFiles, HasTrees}
use Rattle.cms_edf.proofs.Faults.{fault_passes}
use Rattle.cms_edf.proofs.Listings.{leaf_low, on_unit, stands}

-- ---- on the unit

plain_low : (total n : ℕ) → ((6 ≤ n) × (n ≤ total)) ⊎ (None ≡ Some n) → (1 ≤ n) × (n ≤ total)
plain_low total n (inl range) = let low = range.0 in (omega arith, range.1)
plain_low total n (inr same) = absurd (cc)

pub plain_block : (j : Journal) (unit total bsize : ℕ) (walked : Walked) (leaves : List ℕ) (k : ℕ) → leaves ≡ walked.leaves.items → k < length leaves
    → IsWithin total None walked → HasBlocks j.units unit total bsize → HasBlock j.units unit (slice_index leaves k) bsize
plain_block j unit total bsize walked leaves k same less within has =
    let n = slice_index leaves k in
    let range = plain_low total n (within.leaves n (subst (λ (l : List ℕ). In n l) same (stands leaves k less))) in
    on_unit j.units unit total bsize n range.0 range.1 has

-- ---- all of them are blocks of the volume

files_low : (total n : ℕ) (files : List Walked) → All (IsWithin total None) files → In n (blocks_of (map met_in files)) → (1 ≤ n) × (n ≤ total)
unfolding blocks_of
files_low total n [] each is = absurd is
files_low total n (w ∷ ws) each is = ⊎_elim
    (λ (here : In n w.blocks.items). plain_low total n ((each 0 w (omega arith)).blocks n here))
    (λ (there : In n (blocks_of (map met_in ws))). files_low total n ws (λ k d less. each (suc k) d (omega arith)) there)
    (In-either n w.blocks.items (blocks_of (map met_in ws)) is)

pub blocks_are : (total origin : ℕ) (directory map_tree : Walked) (files : List Walked) → 6 ≤ total → (origin ≡ 4) ⊎ (origin ≡ 5) → IsWithin total (Some origin) directory
    → IsWithin total None map_tree
    → All (IsWithin total None) files → AreBlocks total (tree_blocks (met_in directory) (met_in map_tree) (map met_in files))
blocks_are total origin directory map_tree files some at d m each n is = ⊎_elim
    (λ (here : In n directory.blocks.items). leaf_low total origin n some at (d.blocks n here))
    (λ (there : In n (map_tree.blocks.items ++ blocks_of (map met_in files))). ⊎_elim
    (λ (here : In n map_tree.blocks.items). plain_low total n (m.blocks n here))
    (λ (there : In n (blocks_of (map met_in files))). files_low total n files each there)
    (In-either n map_tree.blocks.items (blocks_of (map met_in files)) there))
    (In-either n directory.blocks.items (map_tree.blocks.items ++ blocks_of (map met_in files)) is)

-- ---- the trees of the map and of the files

pub map_bad : (place : Place) (image : Image) (l : Listing) (why : OpenFault) → ReadsMap place image l.map (Err why) → IsFaultOf (trees_in place.bsize place.total place.origin image (listed l)) why
unfolding trees_in
map_bad place image l why bad =
    fault_passes (tree (form_of place.bsize place.total F) image l.map.levels None place.origin l.map.root l.map.blocks) (trees_in place.bsize place.total place.origin image (listed l)) why
    (λ e fails. rw fails refl) bad

pub files_fail : (place : Place) (image : Image) (l : Listing) (m : Walked) (why : OpenFault) → ReadsMap place image l.map (Ok m)
    → IsFaultOf (file_trees place.bsize place.total image l.walked.leaves.items 2 l.entries.items) why
    → IsFaultOf (trees_in place.bsize place.total place.origin image (listed l)) why
unfolding trees_in
files_fail place image l m why read bad =
    fault_passes (file_trees place.bsize place.total image l.walked.leaves.items 2 l.entries.items) (trees_in place.bsize place.total place.origin image (listed l)) why
    (λ e fails. rw (read.0, fails) refl) bad

pub trees_stand : (place : Place) (image : Image) (l : Listing) (t : Trees) → ReadsMap place image l.map (Ok t.map) → HasFiles place image l.walked.leaves.items l.entries.items t.files.items
    → HasTrees place image l t
unfolding trees_in
trees_stand place image l t read files = record { trees = rw (read.0, files.trees) refl; map_nodes = read.1; nodes_are = files.nodes_are }

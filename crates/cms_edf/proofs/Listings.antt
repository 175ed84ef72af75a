-- What the directory says, test by test.
use Rattle.std.proofs.Common.{◌≡◌, ◌⊎◌, ⊎_elim, inl, inr, ℕ, zero, suc, ◌-◌, ◌/◌, ◌<◌, ◌≤◌, List, [], ◌∷◌, length, drop, slice_index, slice_get, IsSomeAnd, Option, Some, None, Result, Ok, Err, refl, sym, ◌∙◌, subst, arith, ap, ◌*◌, ◌+◌}
use Rattle.std.proofs.lemmas.Option.{same_Some}
use Rattle.cms_names.specs.declared.name.Format.TheVariants.{F}
use Rattle.cms_fields.specs.declared.entry.Entry.{Entry}
use Rattle.cms_model.specs.Lists.{In, cut}
use Rattle.cms_model.specs.Sizes.{levels}
use Rattle.cms_model.specs.Trees.{Image, Met, image_of, form_of, tree, bytes_at}
use Rattle.cms_model.specs.Systems.{SystemFile, directory_of, map_of}
use Rattle.cms_model.specs.Volumes.{entries_of, first_twice, absent}
use Rattle.cms_model.specs.declared.fault.OpenFault.{OpenFault}
use Rattle.cms_model.specs.declared.fault.OpenFault.TheVariants as failed
use Rattle.cms_journal.specs.Journal.{Journal, HasBlock, HasBlocks, IsBlockSize, contents_of}
use Rattle.cms_journal.proofs.Sizes.{block_bounds}
use Rattle.cms_fields.specs.Numbers.{up}
use Rattle.cms_model.specs.DirectoryParts.{directory_count}
use Rattle.cms_model.proofs.MinidiskSizes.{directory_fits, map_fits}
use Rattle.cms_model.proofs.Quotients.{up_unique}
use Rattle.cms_tree.specs.Walks.{tree_at, image_at, IsWithin}
use Rattle.cms_tree.specs.declared.types.TreeAt.{TreeAt}
use Rattle.cms_tree.specs.declared.types.Walked.{Walked}
use Rattle.cms_journal.specs.declared.event.Attached.{Attached}
use Rattle.cms_edf.specs.declared.listing.Place.{Place}
use Rattle.cms_held.specs.HeldVolumes.{IsFaultOf}
use Rattle.cms_edf.specs.OpeningSteps.{listed_in, system_at, met_in, ReadsTree, ReadsMap}
use Rattle.cms_edf.proofs.Faults.{fault_is, fault_passes}

-- the tree of the directory or the map, by the levels of its entry
pub system_tree : (place : Place) (image : Image) (s : SystemFile) (first : Option ℕ) → s.levels ≡ levels (place.bsize / 4) s.blocks
    → tree_at image (system_at place s first) ≡ tree (form_of place.bsize place.total F) image s.levels first place.origin s.root s.blocks
system_tree place image s first is = rw is refl

directory_bad : (bsize total origin : ℕ) (image : Image) (e : OpenFault) → directory_of bsize origin (image origin) ≡ Err e → listed_in bsize total origin image ≡ Err e
unfolding listed_in
directory_bad bsize total origin image e is = rw is refl

pub directory_fault : (bsize total origin : ℕ) (image : Image) (why : OpenFault) → directory_of bsize origin (image origin) ≡ Err why → IsFaultOf (listed_in bsize total origin image) why
directory_fault bsize total origin image why is = fault_is (listed_in bsize total origin image) why (directory_bad bsize total origin image why is)

tree_bad : (bsize total origin : ℕ) (image : Image) (d : SystemFile) (e : OpenFault) → directory_of bsize origin (image origin) ≡ Ok d
    → tree (form_of bsize total F) image d.levels (Some origin) origin d.root d.blocks ≡ Err e → listed_in bsize total origin image ≡ Err e
unfolding listed_in
tree_bad bsize total origin image d e is bad = rw (is, bad) refl

pub tree_fault : (place : Place) (image : Image) (d : SystemFile) (why : OpenFault) → directory_of place.bsize place.origin (image place.origin) ≡ Ok d → d.levels ≡ levels (place.bsize / 4) d.blocks
    → IsFaultOf (tree_at image (system_at place d (Some place.origin))) why → IsFaultOf (listed_in place.bsize place.total place.origin image) why
tree_fault place image d why is shape bad =
    fault_passes (tree_at image (system_at place d (Some place.origin))) (listed_in place.bsize place.total place.origin image) why
    (λ e fails. tree_bad place.bsize place.total place.origin image d e is (sym (system_tree place image d (Some place.origin) shape) ∙ fails)) bad

-- its tree stands so
abbrev pub HasTree : Place → Image → SystemFile → Met → Type 0
HasTree place image d met = (directory_of place.bsize place.origin (image place.origin) ≡ Ok d)
    × (tree (form_of place.bsize place.total F) image d.levels (Some place.origin) place.origin d.root d.blocks ≡ Ok met)

pub map_fault : (place : Place) (image : Image) (d : SystemFile) (met : Met) (why : OpenFault) → HasTree place image d met
    → map_of place.bsize place.total (drop 64 (image place.origin)) ≡ Err why → IsFaultOf (listed_in place.bsize place.total place.origin image) why
unfolding listed_in
map_fault place image d met why has bad = fault_is (listed_in place.bsize place.total place.origin image) why (rw (has.0, has.1, bad) refl)

pub entries_fault : (place : Place) (image : Image) (d map : SystemFile) (met : Met) (why : OpenFault) → HasTree place image d met
    → map_of place.bsize place.total (drop 64 (image place.origin)) ≡ Ok map
    → IsFaultOf (entries_of place.bsize 2 (cut (d.count - 2) 64 (drop 128 (bytes_at image met.leaves)))) why → IsFaultOf (listed_in place.bsize place.total place.origin image) why
unfolding listed_in
entries_fault place image d map met why has map_is bad =
    fault_passes (entries_of place.bsize 2 (cut (d.count - 2) 64 (drop 128 (bytes_at image met.leaves)))) (listed_in place.bsize place.total place.origin image) why
    (λ e fails. rw (has.0, has.1, map_is, fails) refl) bad

-- its entries are read so
abbrev pub HasEntries : Place → Image → SystemFile → SystemFile → Met → List Entry → Type 0
HasEntries place image d map met entries =
    HasTree place image d met × (map_of place.bsize place.total (drop 64 (image place.origin)) ≡ Ok map)
    × (entries_of place.bsize 2 (cut (d.count - 2) 64 (drop 128 (bytes_at image met.leaves))) ≡ Ok entries)

pub names_fault : (place : Place) (image : Image) (d map : SystemFile) (met : Met) (entries : List Entry) (why : OpenFault) → HasEntries place image d map met entries
    → IsFaultOf (absent (first_twice 2 [] entries) failed.Twice) why → IsFaultOf (listed_in place.bsize place.total place.origin image) why
unfolding listed_in
names_fault place image d map met entries why has bad =
    let tree' = has.0 in
    fault_passes (absent (first_twice 2 [] entries) failed.Twice) (listed_in place.bsize place.total place.origin image) why
    (λ e fails. rw (tree'.0, tree'.1, has.1, has.2, fails) refl) bad

pub listed_so : (place : Place) (image : Image) (d map : SystemFile) (met : Met) (entries : List Entry) → HasEntries place image d map met entries → first_twice 2 [] entries ≡ None
    → listed_in place.bsize place.total place.origin image ≡ Ok (record { directory = d; directory_met = met; map = map; entries = entries })
unfolding listed_in
listed_so place image d map met entries has once = let tree' = has.0 in rw (tree'.0, tree'.1, has.1, has.2, once) refl

-- the directory's tree, as it was walked
pub tree_has : (place : Place) (j : Journal) (d : SystemFile) (walked : Walked) (at : TreeAt)
    → directory_of place.bsize place.origin (image_of (contents_of j place.unit) place.origin) ≡ Ok d → d.levels ≡ levels (place.bsize / 4) d.blocks
    → at ≡ system_at place d (Some place.origin) → tree_at (image_of (contents_of j at.unit)) at ≡ Ok (met_in walked) → HasTree place (image_of (contents_of j place.unit)) d (met_in walked)
tree_has place j d walked at is shape same read =
    let image = image_of (contents_of j place.unit) in
    let moved : tree_at image (system_at place d (Some place.origin)) ≡ Ok (met_in walked) = subst (λ (x : TreeAt). tree_at (image_of (contents_of j x.unit)) x ≡ Ok (met_in walked)) same read in
    (is, sym (system_tree place image d (Some place.origin) shape) ∙ moved)

-- a data block of the directory stands on the unit
pub leaf_low : (total origin n : ℕ) → 6 ≤ total → (origin ≡ 4) ⊎ (origin ≡ 5) → ((6 ≤ n) × (n ≤ total)) ⊎ (Some origin ≡ Some n) → (1 ≤ n) × (n ≤ total)
leaf_low total origin n some at (inl range) = let low = range.0 in (omega arith, range.1)
leaf_low total origin n some (inl at) (inr same) = let e = same_Some origin n same in (omega arith, omega arith)
leaf_low total origin n some (inr at) (inr same) = let e = same_Some origin n same in (omega arith, omega arith)

pub stands : (xs : List ℕ) (k : ℕ) → k < length xs → In (slice_index xs k) xs
stands [] k less = absurd (omega arith)
stands (x ∷ xs) zero less = inl refl
stands (x ∷ xs) (suc k) less = inr (stands xs k (omega arith))

-- each block of a unit is one of it, and so are fewer of them
pub on_unit : (units : List Attached) (unit total bsize n : ℕ) → 1 ≤ n → n ≤ total → HasBlocks units unit total bsize → HasBlock units unit n bsize
on_unit units unit total bsize n low high has = go (slice_get units unit) has
  where
    go : (o : Option Attached) → IsSomeAnd o (λ u. (u.bsize ≡ bsize) × (total ≤ length u.start)) → IsSomeAnd o (λ u. (u.bsize ≡ bsize) × (1 ≤ n) × (n ≤ length u.start))
    go (Some u) h = let long = h.1 in (h.0, low, omega arith)
    go None h = absurd h

pub fewer_on : (units : List Attached) (unit few many bsize : ℕ) → few ≤ many → HasBlocks units unit many bsize → HasBlocks units unit few bsize
fewer_on units unit few many bsize less has = go (slice_get units unit) has
  where
    go : (o : Option Attached) → IsSomeAnd o (λ u. (u.bsize ≡ bsize) × (many ≤ length u.start)) → IsSomeAnd o (λ u. (u.bsize ≡ bsize) × (few ≤ length u.start))
    go (Some u) h = (h.0, omega (arith, h.1))
    go None h = h

pub leaf_block : (j : Journal) (unit total origin bsize : ℕ) (walked : Walked) (leaves : List ℕ) (k : ℕ) → leaves ≡ walked.leaves.items → k < length leaves → 6 ≤ total → (origin ≡ 4) ⊎ (origin ≡ 5)
    → IsWithin total (Some origin) walked → HasBlocks j.units unit total bsize → HasBlock j.units unit (slice_index leaves k) bsize
leaf_block j unit total origin bsize walked leaves k same less some at within has =
    let n = slice_index leaves k in
    let range = leaf_low total origin n some at (within.leaves n (subst (λ (l : List ℕ). In n l) same (stands leaves k less))) in
    on_unit j.units unit total bsize n range.0 range.1 has

pub few_files : (count n : ℕ) → n ≡ count - 2 → count ≤ 16386 → n ≤ 16384
few_files count n is few = omega arith

-- how many data blocks the directory and the map have
pub counts_are : (bsize origin total n : ℕ) (first second : List ℕ) (directory map' : SystemFile) → IsBlockSize bsize → directory_of bsize origin first ≡ Ok directory
    → map_of bsize total second ≡ Ok map' → n ≡ directory.count - 2 → (directory.blocks ≡ directory_count bsize n) × (map'.blocks ≡ up (up total 8) bsize)
counts_are bsize origin total n first second directory map' size is_directory is_map count =
    let d = directory_fits bsize origin first directory is_directory in
    let m = map_fits bsize total second map' is_map in
    let low = d.low in
    let least = (block_bounds bsize size).0 in
    let bytes : directory.count * 64 ≡ 64 * (n + 2) = omega arith in
    let exact : map'.count ≡ up (map'.count * bsize) bsize = up_unique (map'.count * bsize) bsize map'.count (omega arith) (omega arith) (omega arith) in
    (d.fits.blocks ∙ ap (λ (k : ℕ). up k bsize) bytes, m.fits.blocks ∙ (sym exact ∙ m.count))

-- the map's tree, as it was walked
pub map_read : (place : Place) (j : Journal) (s : SystemFile) (at : TreeAt) (result : Result Walked OpenFault) → s.levels ≡ levels (place.bsize / 4) s.blocks → at ≡ system_at place s None
    → ReadsTree (image_at j at) at result → ReadsMap place (image_of (contents_of j place.unit)) s result
map_read place j s at result shape same read =
    let image = image_of (contents_of j place.unit) in
    go image result (subst (λ (x : TreeAt). ReadsTree (image_at j x) x result) same read)
  where
    go : (image : Image) (r : Result Walked OpenFault) → ReadsTree image (system_at place s None) r → ReadsMap place image s r
    go image (Ok walked) read = (sym (system_tree place image s None shape) ∙ read.0, read.1)
    go image (Err why) read = subst (λ (t : Result Met OpenFault). IsFaultOf t why) (system_tree place image s None shape) read

-- the block in which the directory begins is one of the volume's
pub origin_block : (j : Journal) (unit total origin bsize : ℕ) → 6 ≤ total → (origin ≡ 4) ⊎ (origin ≡ 5) → HasBlocks j.units unit total bsize → HasBlock j.units unit origin bsize
origin_block j unit total origin bsize some at has =
    let low : 1 ≤ origin = ⊎_elim (λ (is : origin ≡ 4). omega (arith, is)) (λ (is : origin ≡ 5). omega (arith, is)) at in
    let high : origin ≤ total = ⊎_elim (λ (is : origin ≡ 4). omega (arith, is, some)) (λ (is : origin ≡ 5). omega (arith, is, some)) at in
    on_unit j.units unit total bsize origin low high has

-- A volume is opened, and held.
use Rattle.std.proofs.Common.{◌≡◌, ◌⊎◌, inl, inr, ℕ, ◌/◌, ◌^◌, ◌<◌, ◌≤◌, Bool, true, false, List, [], ◌∷◌, length, map, Option, Some, Result, Ok, Err, refl, sym, ◌∙◌, ap, subst, arith}
use Rattle.std.specs.Prelude.{IfOk, IfErr, nat_le}
use Rattle.std.proofs.lemmas.Bool.{le-leb, lt-leb}
use Rattle.cms_journal.specs.Journal.{Journal}
use Rattle.cms_names.specs.declared.name.Format.TheVariants.{F}
use Rattle.cms_fields.specs.Steps.{◌>>=◌, ◌>>◌, want}
use Rattle.cms_fields.specs.Labels.{label_of}
use Rattle.cms_fields.specs.declared.label.Label.{Label}
use Rattle.cms_fields.specs.declared.label.LabelFault.TheVariants.{Count}
use Rattle.cms_fields.specs.declared.entry.Entry.{Entry}
use Rattle.cms_model.specs.Sizes.{levels, pointer_count}
use Rattle.cms_model.specs.Trees.{Image, form_of, bytes_at}
use Rattle.cms_model.specs.Volumes.{Disk, blamed, tree_blocks, contents_in, open_of}
use Rattle.cms_model.specs.declared.fault.OpenFault.{OpenFault}
use Rattle.cms_model.specs.declared.fault.OpenFault.TheVariants as failed
use Rattle.cms_map.specs.Bits.{bits_in}
use Rattle.cms_tree.specs.Walks.{nodes, nodes_at}
use Rattle.cms_tree.specs.declared.types.Walked.{Walked}
use Rattle.cms_edf.specs.declared.listing.Place.{Place}
use Rattle.cms_edf.specs.declared.listing.Listing.{Listing}
use Rattle.cms_edf.specs.declared.volume.Trees.{Trees}
use Rattle.cms_held.specs.SharedTrees.{HasShape}
use Rattle.cms_held.specs.HeldVolumes.{HeldFile, HeldTree, HeldVolume, Held, IsFaultOf, AnswersOpening, held_file, held_files, held_of}
use Rattle.cms_edf.specs.OpeningSteps.{Listed, Treed, listed, met_in, system_at, listed_in, trees_in, lost_in}
use Rattle.cms_edf.specs.OpeningFiles.{file_nodes, pointers_in, HasTrees, read_trees, told_file, told_files, opened, behind_label, HasVolume}
use Rattle.cms_edf.proofs.Faults.{fault_is, fault_passes}
use Rattle.cms_edf.proofs.Whole.{open_is}

-- ---- behind the label

pub listing_bad : (disk : Disk) (image : Image) (label : Label) (why : OpenFault) → IsFaultOf (listed_in disk.bsize label.blocks label.origin image) why → IsFaultOf (behind_label disk image label) why
unfolding behind_label
listing_bad disk image label why bad = fault_passes (listed_in disk.bsize label.blocks label.origin image) (behind_label disk image label) why (λ e fails. rw fails refl) bad

pub trees_bad : (disk : Disk) (image : Image) (label : Label) (l : Listed) (why : OpenFault) → listed_in disk.bsize label.blocks label.origin image ≡ Ok l
    → IsFaultOf (trees_in disk.bsize label.blocks label.origin image l) why → IsFaultOf (behind_label disk image label) why
unfolding behind_label
trees_bad disk image label l why is bad = fault_passes (trees_in disk.bsize label.blocks label.origin image l) (behind_label disk image label) why (λ e fails. rw (is, fails) refl) bad

pub marks_bad : (disk : Disk) (image : Image) (label : Label) (l : Listed) (t : Treed) (why : OpenFault) → listed_in disk.bsize label.blocks label.origin image ≡ Ok l
    → trees_in disk.bsize label.blocks label.origin image l ≡ Ok t → IsFaultOf (lost_in (bytes_at image t.map_met.leaves) label.blocks (tree_blocks l.directory_met t.map_met t.mets)) why
    → IsFaultOf (behind_label disk image label) why
unfolding behind_label
marks_bad disk image label l t why is trees bad =
    fault_passes (lost_in (bytes_at image t.map_met.leaves) label.blocks (tree_blocks l.directory_met t.map_met t.mets)) (behind_label disk image label) why (λ e fails. rw (is, trees, fails) refl) bad

pub records_bad : (disk : Disk) (image : Image) (label : Label) (l : Listed) (t : Treed) (lost : ℕ) (why : OpenFault) → listed_in disk.bsize label.blocks label.origin image ≡ Ok l
    → trees_in disk.bsize label.blocks label.origin image l ≡ Ok t → lost_in (bytes_at image t.map_met.leaves) label.blocks (tree_blocks l.directory_met t.map_met t.mets) ≡ Ok lost
    → IsFaultOf (contents_in disk.bsize image 2 l.entries t.mets) why → IsFaultOf (behind_label disk image label) why
unfolding behind_label
records_bad disk image label l t lost why is trees marks bad =
    fault_passes (contents_in disk.bsize image 2 l.entries t.mets) (behind_label disk image label) why (λ e fails. rw (is, trees, marks, fails) refl) bad

pub opens : (disk : Disk) (image : Image) (label : Label) (l : Listed) (t : Treed) (lost : ℕ) (contents : List (List (List ℕ))) → listed_in disk.bsize label.blocks label.origin image ≡ Ok l
    → trees_in disk.bsize label.blocks label.origin image l ≡ Ok t → lost_in (bytes_at image t.map_met.leaves) label.blocks (tree_blocks l.directory_met t.map_met t.mets) ≡ Ok lost
    → contents_in disk.bsize image 2 l.entries t.mets ≡ Ok contents → behind_label disk image label ≡ Ok (opened label l t lost contents)
unfolding behind_label
opens disk image label l t lost contents is trees marks has = rw (is, trees, marks, has) refl

-- ---- as it is held

heads : {A : Type 0} (a b : A) (xs ys : List A) → a ∷ xs ≡ b ∷ ys → a ≡ b
heads a b xs ys same = cc same

tails : {A : Type 0} (a b : A) (xs ys : List A) → a ∷ xs ≡ b ∷ ys → xs ≡ ys
tails a b xs ys same = cc same

pub told_are_held : (place : Place) (image : Image) (es : List Entry) (ws : List Walked) (cs : List (List (List ℕ))) → map pointers_in ws ≡ map (file_nodes place image) es
    → told_files place.bsize es ws cs ≡ held_files place.bsize place.total image es (map met_in ws) cs
unfolding told_files held_files
told_are_held place image [] ws cs same = refl
told_are_held place image (e ∷ es) [] cs same = refl
told_are_held place image (e ∷ es) (w ∷ ws) [] same = refl
told_are_held place image (e ∷ es) (w ∷ ws) (c ∷ cs) same =
    let here = heads (pointers_in w) (file_nodes place image e) (map pointers_in ws) (map (file_nodes place image) es) same in
    let there = told_are_held place image es ws cs (tails (pointers_in w) (file_nodes place image e) (map pointers_in ws) (map (file_nodes place image) es) same) in
    ap (λ (ps : List ℕ). record (told_file place.bsize e w c) { tree = record { leaves = w.leaves.items; pointers = ps } } ∷ told_files place.bsize es ws cs) here
    ∙ ap (λ (fs : List HeldFile). held_file place.bsize place.total image e (met_in w) c ∷ fs) there

pub held_so : (p : Place) (disk : Disk) (image : Image) (label : Label) (label_bytes : List ℕ) (l : Listing) (t : Trees) (bits : List Bool) (files : List HeldFile) (lost : ℕ)
    (contents : List (List (List ℕ)))
    → p ≡ record { unit = p.unit; bsize = disk.bsize; total = label.blocks; origin = label.origin } → label_bytes ≡ image 3
    → l.walked.pointers.items ≡ nodes_at image (system_at p l.directory (Some p.origin)) → l.directory.levels ≡ levels (p.bsize / 4) l.directory.blocks
    → HasTrees p image l t → l.map.levels ≡ levels (p.bsize / 4) l.map.blocks → bits ≡ bits_in p.total (bytes_at image t.map.leaves.items) → files ≡ told_files p.bsize l.entries.items t.files.items contents
    → ◌≡◌ {A = HeldVolume} (record {
      unit = p.unit;
      disk = disk;
      label = label;
      label_bytes = label_bytes;
      directory = record { leaves = l.walked.leaves.items; pointers = l.walked.pointers.items };
      map = record { leaves = t.map.leaves.items; pointers = t.map.pointers.items };
      bits = bits;
      files = files;
      lost = lost;
    }) (held_of p.unit disk image (opened label (listed l) (read_trees t) lost contents))
unfolding held_of
held_so p disk image label label_bytes l t bits files lost contents at bytes dir dir_levels trees map_levels bits_are files_are =
    let size : p.bsize ≡ disk.bsize = ap (λ (q : Place). q.bsize) at in
    let total : p.total ≡ label.blocks = ap (λ (q : Place). q.total) at in
    let dirs : l.walked.pointers.items ≡ nodes (form_of disk.bsize label.blocks F) image l.directory.levels l.directory.root l.directory.blocks =
    dir ∙ (ap (λ (k : ℕ). nodes (form_of p.bsize p.total F) image k l.directory.root l.directory.blocks) (sym dir_levels)
    ∙ (ap (λ (b : ℕ). nodes (form_of b p.total F) image l.directory.levels l.directory.root l.directory.blocks) size
    ∙ ap (λ (b : ℕ). nodes (form_of disk.bsize b F) image l.directory.levels l.directory.root l.directory.blocks) total)) in
    let maps : t.map.pointers.items ≡ nodes (form_of disk.bsize label.blocks F) image l.map.levels l.map.root l.map.blocks =
    trees.map_nodes ∙ (ap (λ (k : ℕ). nodes (form_of p.bsize p.total F) image k l.map.root l.map.blocks) (sym map_levels)
    ∙ (ap (λ (b : ℕ). nodes (form_of b p.total F) image l.map.levels l.map.root l.map.blocks) size ∙ ap (λ (b : ℕ). nodes (form_of disk.bsize b F) image l.map.levels l.map.root l.map.blocks) total))
    in
    let bits' : bits ≡ bits_in label.blocks (bytes_at image t.map.leaves.items) = bits_are ∙ ap (λ (n : ℕ). bits_in n (bytes_at image t.map.leaves.items)) total in
    let files' : files ≡ held_files disk.bsize label.blocks image l.entries.items (map met_in t.files.items) contents =
    files_are ∙ (told_are_held p image l.entries.items t.files.items contents trees.nodes_are
    ∙ (ap (λ (b : ℕ). held_files b p.total image l.entries.items (map met_in t.files.items) contents) size
    ∙ ap (λ (b : ℕ). held_files disk.bsize b image l.entries.items (map met_in t.files.items) contents) total)) in
    parts p.unit disk label lost label_bytes (image 3) l.walked.leaves.items l.walked.pointers.items _ t.map.leaves.items t.map.pointers.items _ bits _ files _ bytes dirs maps bits' files'
  where
    parts : (unit : ℕ) (disk : Disk) (label : Label) (lost : ℕ) (b b' dl dp dp' ml mp mp' : List ℕ) (bits bits' : List Bool) (files files' : List HeldFile) → b ≡ b' → dp ≡ dp' → mp ≡ mp'
        → bits ≡ bits' → files ≡ files'
        → ◌≡◌ {A = HeldVolume} (record {
          unit = unit;
          disk = disk;
          label = label;
          label_bytes = b;
          directory = record { leaves = dl; pointers = dp };
          map =
              record { leaves = ml; pointers = mp };
          bits = bits;
          files = files;
          lost = lost;
        })
        (record {
          unit = unit;
          disk = disk;
          label = label;
          label_bytes = b';
          directory = record { leaves = dl; pointers = dp' };
          map = record { leaves = ml; pointers = mp' };
          bits = bits';
          files =
              files';
          lost = lost;
        })
    parts unit disk label lost b b' dl dp dp' ml mp mp' bits bits' files files' e f g h i = rw (e, f, g, h, i) refl

-- ---- the whole

pub too_few : (disk : Disk) (image : Image) → disk.count < 6 → open_of disk image ≡ Err (failed.Label Count)
too_few disk image few =
    let none : nat_le 6 disk.count ≡ false = lt-leb 6 disk.count few in
    open_is disk image ∙ ap (λ (b : Bool). want b (failed.Label Count) >> (blamed failed.Label (label_of disk.bsize disk.count (image 3)) >>= behind_label disk image)) none

from_label : (disk : Disk) (image : Image) → 6 ≤ disk.count → open_of disk image ≡ (blamed failed.Label (label_of disk.bsize disk.count (image 3)) >>= behind_label disk image)
from_label disk image some =
    let enough : nat_le 6 disk.count ≡ true = le-leb 6 disk.count some in
    open_is disk image ∙ ap (λ (b : Bool). want b (failed.Label Count) >> (blamed failed.Label (label_of disk.bsize disk.count (image 3)) >>= behind_label disk image)) enough

pub label_bad : (disk : Disk) (image : Image) (bytes : List ℕ) (why : OpenFault) → 6 ≤ disk.count → bytes ≡ image 3 → blamed failed.Label (label_of disk.bsize disk.count bytes) ≡ Err why
    → IsFaultOf (open_of disk image) why
label_bad disk image bytes why some is bad =
    fault_is (open_of disk image) why (from_label disk image some
    ∙ ap (λ (r : Result Label OpenFault). r >>= behind_label disk image) (ap (λ (b : List ℕ). blamed failed.Label (label_of disk.bsize disk.count b)) (sym is) ∙ bad))

behind_is : (disk : Disk) (image : Image) (bytes : List ℕ) (label : Label) → 6 ≤ disk.count → bytes ≡ image 3 → blamed failed.Label (label_of disk.bsize disk.count bytes) ≡ Ok label
    → open_of disk image ≡ behind_label disk image label
behind_is disk image bytes label some is good =
    from_label disk image some ∙ ap (λ (r : Result Label OpenFault). r >>= behind_label disk image) (ap (λ (b : List ℕ). blamed failed.Label (label_of disk.bsize disk.count b)) (sym is) ∙ good)

pub answered : (unit : ℕ) (disk : Disk) (told : Option Journal) (image : Journal → Image) (label : Label) (bytes : List ℕ) (r : Result Held OpenFault) → 6 ≤ disk.count
    → ((j : Journal) → told ≡ Some j → bytes ≡ image j 3) → blamed failed.Label (label_of disk.bsize disk.count bytes) ≡ Ok label
    → IfOk r (λ held. (j : Journal) → told ≡ Some j → HasVolume unit disk (image j) label held.volume)
    → IfErr r (λ why. (j : Journal) → told ≡ Some j → IsFaultOf (behind_label disk (image j) label) why)
    → (j : Journal) → told ≡ Some j → AnswersOpening unit disk (image j) r
answered unit disk told image label bytes (Ok held) some is good ok err j at =
    let has = ok j at in
    (has.volume, behind_is disk (image j) bytes label some (is j at) good ∙ has.opens, has.held_is)
answered unit disk told image label bytes (Err why) some is good ok err j at =
    fault_passes (behind_label disk (image j) label) (open_of disk (image j)) why (λ e fails. behind_is disk (image j) bytes label some (is j at) good ∙ fails) (err j at)

-- a tree that was walked has its shape
pub walked_shape : (bsize blocks : ℕ) (t : HeldTree) (w : Walked) → t ≡ record { leaves = w.leaves.items; pointers = w.pointers.items } → (1 ≤ blocks) × (length w.leaves.items ≡ blocks)
    → blocks < 2 ^ 32 → length w.pointers.items ≡ pointer_count (bsize / 4) blocks → HasShape (bsize / 4) t
walked_shape bsize blocks t w is leaves few nodes =
    let some = leaves.0 in
    let count = leaves.1 in
    subst (HasShape (bsize / 4)) (sym is) (record { some = omega arith; few = omega arith; nodes = nodes ∙ ap (pointer_count (bsize / 4)) (sym count) })

-- the directory begins in block 4 or 5
pub origin_in : (n : ℕ) → (n ≡ 4) ⊎ (n ≡ 5) → (4 ≤ n) × (n ≤ 5)
origin_in n (inl is) = (omega arith, omega arith)
origin_in n (inr is) = (omega arith, omega arith)

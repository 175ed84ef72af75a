-- The trees of files, read one after another.
use Rattle.std.proofs.Common.{◌≡◌, inl, inr, ℕ, ◌+◌, ◌*◌, ◌/◌, ◌<◌, ◌≤◌, List, [], ◌∷◌, ◌++◌, length, take, drop, map, get_or, None, Result, Ok, Err, refl, sym, ◌∙◌, ap, subst, arith, append-nil, append_assoc}
use Rattle.std.specs.Prelude.{IfOk}
use Rattle.std.proofs.lemmas.Result.{IfOk-weaker}
use Rattle.std.proofs.lemmas.List.{drop_all, drop_more, map-append, take_all, take_more}
use Rattle.cms_journal.specs.Journal.{Journal, IsBlockSize, contents_of}
use Rattle.cms_names.specs.declared.name.Format.{Format}
use Rattle.cms_fields.specs.Steps.{◌>>=◌}
use Rattle.cms_fields.specs.Entries.{fan_of, pointer_size}
use Rattle.cms_fields.specs.declared.entry.Entry.{Entry}
use Rattle.cms_model.specs.Sizes.{levels, pointer_count}
use Rattle.cms_model.specs.Trees.{Image, Form, Met, image_of, form_of, tree}
use Rattle.cms_model.specs.Volumes.{holder_of, file_trees, blocks_of}
use Rattle.cms_model.specs.declared.fault.OpenFault.{OpenFault}
use Rattle.cms_tree.specs.Walks.{tree_at, nodes, nodes_at, image_at}
use Rattle.cms_tree.specs.declared.types.TreeAt.{TreeAt}
use Rattle.cms_tree.specs.declared.types.Walked.{Walked}
use Rattle.cms_edf.specs.declared.listing.Place.{Place}
use Rattle.cms_held.specs.HeldVolumes.{IsFaultOf}
use Rattle.cms_edf.specs.OpeningSteps.{met_in, behind, ReadsTree}
use Rattle.cms_edf.specs.EntryShapes.{HasShape}
use Rattle.cms_edf.specs.OpeningFiles.{file_at, file_tree, file_nodes, pointers_in, ReadsFile, HasFiles, HaveCounts, entry_sizes, walked_sizes}
use Rattle.cms_held.proofs.Drafted.{fan_is}
use Rattle.cms_edf.proofs.Faults.{fault_passes}

-- ---- where an entry stands

pub some_entries : (bsize : ℕ) → IsBlockSize bsize → 0 < bsize / 64
some_entries bsize (inl is) = omega (arith, is)
some_entries bsize (inr (inl is)) = omega (arith, is)
some_entries bsize (inr (inr (inl is))) = omega (arith, is)
some_entries bsize (inr (inr (inr is))) = omega (arith, is)

in_place : (bsize n number : ℕ) → number * 64 < n * bsize → (k : ℕ) → bsize ≡ k → number * 64 < n * k
in_place bsize n number less k is = subst (λ (b : ℕ). number * 64 < n * b) is less

pub place_in : (bsize n number : ℕ) → IsBlockSize bsize → number * 64 < n * bsize → number / (bsize / 64) < n
place_in bsize n number (inl is) less = let l = in_place bsize n number less 512 is in rw is (omega arith)
place_in bsize n number (inr (inl is)) less = let l = in_place bsize n number less 1024 is in rw is (omega arith)
place_in bsize n number (inr (inr (inl is))) less = let l = in_place bsize n number less 2048 is in rw is (omega arith)
place_in bsize n number (inr (inr (inr is))) less = let l = in_place bsize n number less 4096 is in rw is (omega arith)

-- ---- a file

form_is : (bsize total fan : ℕ) (f : Format) → fan ≡ fan_of bsize f → ◌≡◌ {A = Form} (record { fan = fan; stride = pointer_size f; last = total }) (form_of bsize total f)
form_is bsize total fan f is = rw is refl

levels_are : (place : Place) (e : Entry) → HasShape place.bsize e → levels (place.bsize / pointer_size e.format) e.blocks ≡ e.levels
levels_are place e shape = ap (λ (fan : ℕ). levels fan e.blocks) (fan_is place.bsize e.format) ∙ sym shape.1

file_tree_is : (place : Place) (image : Image) (holder : ℕ) (e : Entry) → HasShape place.bsize e → tree_at image (file_at place holder e) ≡ file_tree place image holder e
file_tree_is place image holder e shape =
    ap (λ (k : ℕ). tree (record { fan = place.bsize / pointer_size e.format; stride = pointer_size e.format; last = place.total }) image k None holder e.root e.blocks) (levels_are place e shape)
    ∙ ap (λ (form : Form). tree form image e.levels None holder e.root e.blocks) (form_is place.bsize place.total (place.bsize / pointer_size e.format) e.format (fan_is place.bsize e.format))

file_nodes_is : (place : Place) (image : Image) (holder : ℕ) (e : Entry) → HasShape place.bsize e → nodes_at image (file_at place holder e) ≡ file_nodes place image e
file_nodes_is place image holder e shape =
    ap (λ (k : ℕ). nodes (record { fan = place.bsize / pointer_size e.format; stride = pointer_size e.format; last = place.total }) image k e.root e.blocks) (levels_are place e shape)
    ∙ ap (λ (form : Form). nodes form image e.levels e.root e.blocks) (form_is place.bsize place.total (place.bsize / pointer_size e.format) e.format (fan_is place.bsize e.format))

pub file_read : (place : Place) (j : Journal) (holder : ℕ) (e : Entry) (at : TreeAt) (result : Result Walked OpenFault) → HasShape place.bsize e → at ≡ file_at place holder e
    → ReadsTree (image_at j at) at result → ReadsFile place (image_of (contents_of j place.unit)) holder e result
file_read place j holder e at result shape same read =
    let image = image_of (contents_of j place.unit) in
    go image result (subst (λ (x : TreeAt). ReadsTree (image_at j x) x result) same read)
  where
    go : (image : Image) (r : Result Walked OpenFault) → ReadsTree image (file_at place holder e) r → ReadsFile place image holder e r
    go image (Ok walked) read = (sym (file_tree_is place image holder e shape) ∙ read.0, read.1 ∙ file_nodes_is place image holder e shape)
    go image (Err why) read = subst (λ (t : Result Met OpenFault). IsFaultOf t why) (file_tree_is place image holder e shape) read

-- ---- lists from a place on

pub front_of : {A : Type 0} (all : List A) (k : ℕ) (e : A) → k < length all → e ≡ get_or all k e → drop k all ≡ e ∷ drop (k + 1) all
front_of {A = A} all k e less is = drop_more all k e less ∙ ap (λ (x : A). x ∷ drop (k + 1) all) (sym is)

pub taken_next : {A : Type 0} (all : List A) (k : ℕ) (e : A) → k < length all → e ≡ get_or all k e → take (k + 1) all ≡ take k all ++ (e ∷ [])
taken_next {A = A} all k e less is = take_more all k e less ∙ ap (λ (x : A). take k all ++ x ∷ []) (sym is)

pub behind_none : {A : Type 0} (r : Result (List A) OpenFault) → r ≡ behind [] r
behind_none (Ok xs) = refl
behind_none (Err e) = refl

pub behind_more : {A : Type 0} (old : List A) (x : A) (r : Result (List A) OpenFault) → behind old (r >>= λ more. Ok (x ∷ more)) ≡ behind (old ++ (x ∷ [])) r
behind_more old x (Ok more) = ap Ok (sym (append_assoc old (x ∷ []) more))
behind_more old x (Err e) = refl

-- ---- the files before a place

pub record FilesTo (place : Place) (image : Image) (leaves : List ℕ) (entries : List Entry) (k : ℕ) (walks : List Walked) : Type 0 where
  pub trees : file_trees place.bsize place.total image leaves 2 entries ≡ behind (map met_in walks) (file_trees place.bsize place.total image leaves (k + 2) (drop k entries))
  pub nodes_are : map pointers_in walks ≡ map (file_nodes place image) (take k entries)

pub files_first : (place : Place) (image : Image) (leaves : List ℕ) (entries : List Entry) → FilesTo place image leaves entries 0 []
files_first place image leaves entries = record { trees = behind_none (file_trees place.bsize place.total image leaves 2 entries); nodes_are = refl }

file_step : (place : Place) (image : Image) (leaves : List ℕ) (entries : List Entry) (k : ℕ) (e : Entry) → k < length entries → e ≡ get_or entries k e
    → file_trees place.bsize place.total image leaves (k + 2) (drop k entries)
    ≡ (file_tree place image (holder_of place.bsize leaves (k + 2)) e >>= λ met. file_trees place.bsize place.total image leaves (k + 1 + 2) (drop (k + 1) entries) >>= λ more. Ok (met ∷ more))
unfolding file_trees
file_step place image leaves entries k e less is =
    let next : k + 2 + 1 ≡ k + 1 + 2 = omega arith in
    ap (λ (l : List Entry). file_trees place.bsize place.total image leaves (k + 2) l) (front_of entries k e less is)
    ∙ ap (λ (n : ℕ). file_tree place image (holder_of place.bsize leaves (k + 2)) e >>= λ met. file_trees place.bsize place.total image leaves n (drop (k + 1) entries) >>= λ more. Ok (met ∷ more))
    next

pub files_next : (place : Place) (image : Image) (leaves : List ℕ) (entries : List Entry) (k holder : ℕ) (e : Entry) (walks : List Walked) (walked : Walked) → k < length entries
    → e ≡ get_or entries k e
    → holder ≡ holder_of place.bsize leaves (k + 2) → ReadsFile place image holder e (Ok walked) → FilesTo place image leaves entries k walks
    → FilesTo place image leaves entries (k + 1) (walks ++ (walked ∷ []))
files_next place image leaves entries k holder e walks walked less is held read files =
    let rest = file_trees place.bsize place.total image leaves (k + 1 + 2) (drop (k + 1) entries) in
    let here : file_tree place image (holder_of place.bsize leaves (k + 2)) e ≡ Ok (met_in walked) = subst (λ (h : ℕ). file_tree place image h e ≡ Ok (met_in walked)) held read.0 in
    let step = file_step place image leaves entries k e less is ∙ ap (λ (r : Result Met OpenFault). r >>= λ met. rest >>= λ more. Ok (met ∷ more)) here in
    record {
      trees = files.trees ∙ (ap (behind (map met_in walks)) step ∙
          (behind_more (map met_in walks) (met_in walked) rest ∙ ap (λ (l : List Met). behind l rest) (sym (map-append met_in walks (walked ∷ [])))));
      nodes_are =
          map-append pointers_in walks (walked ∷ [])
          ∙ (ap (λ (l : List (List ℕ)). l ++ (pointers_in walked ∷ [])) files.nodes_are
          ∙ (ap (λ (n : List ℕ). map (file_nodes place image) (take k entries) ++ (n ∷ [])) read.1
          ∙ (sym (map-append (file_nodes place image) (take k entries) (e ∷ [])) ∙ ap (map (file_nodes place image)) (sym (taken_next entries k e less is)))));
    }

pub files_bad : (place : Place) (image : Image) (leaves : List ℕ) (entries : List Entry) (k holder : ℕ) (e : Entry) (walks : List Walked) (why : OpenFault) → k < length entries
    → e ≡ get_or entries k e
    → holder ≡ holder_of place.bsize leaves (k + 2) → IsFaultOf (file_tree place image holder e) why → FilesTo place image leaves entries k walks
    → IsFaultOf (file_trees place.bsize place.total image leaves 2 entries) why
files_bad place image leaves entries k holder e walks why less is held bad files =
    fault_passes (file_tree place image holder e) (file_trees place.bsize place.total image leaves 2 entries) why
    (λ wrong fails.
    let rest = file_trees place.bsize place.total image leaves (k + 1 + 2) (drop (k + 1) entries) in
    let here : file_tree place image (holder_of place.bsize leaves (k + 2)) e ≡ Err wrong = subst (λ (h : ℕ). file_tree place image h e ≡ Err wrong) held fails in
    let step = file_step place image leaves entries k e less is ∙ ap (λ (r : Result Met OpenFault). r >>= λ met. rest >>= λ more. Ok (met ∷ more)) here in
    files.trees ∙ ap (behind (map met_in walks)) step)
    bad

pub files_last : (place : Place) (image : Image) (leaves : List ℕ) (entries : List Entry) (k : ℕ) (walks : List Walked) → length entries ≤ k → FilesTo place image leaves entries k walks
    → HasFiles place image leaves entries walks
unfolding file_trees
files_last place image leaves entries k walks past files = record {
  trees = files.trees ∙ (ap (λ (l : List Entry). behind (map met_in walks) (file_trees place.bsize place.total image leaves (k + 2) l)) (drop_all k entries past)
      ∙ ap Ok (append-nil (map met_in walks)));
  nodes_are = files.nodes_are ∙ ap (map (file_nodes place image)) (take_all k entries past);
}

-- ---- all blocks of some trees

-- those of the trees before a place, behind others
abbrev pub BlocksTo : List ℕ → List Walked → ℕ → List ℕ → Type 0
BlocksTo first walks k blocks = first ++ blocks_of (map met_in walks) ≡ blocks ++ blocks_of (map met_in (drop k walks))

pub blocks_next : (first : List ℕ) (walks : List Walked) (k : ℕ) (w : Walked) (blocks more : List ℕ) → k < length walks → w ≡ get_or walks k w → more ≡ w.blocks.items → BlocksTo first walks k blocks
    → BlocksTo first walks (k + 1) (blocks ++ more)
unfolding blocks_of
blocks_next first walks k w blocks more less is same to =
    to
    ∙ (ap (λ (l : List Walked). blocks ++ blocks_of (map met_in l)) (front_of walks k w less is)
    ∙ (ap (λ (l : List ℕ). blocks ++ (l ++ blocks_of (map met_in (drop (k + 1) walks)))) (sym same) ∙ sym (append_assoc blocks more (blocks_of (map met_in (drop (k + 1) walks))))))

pub blocks_last : (directory m : List ℕ) (walks : List Walked) (k : ℕ) (blocks : List ℕ) → length walks ≤ k → BlocksTo (directory ++ m) walks k blocks
    → blocks ≡ directory ++ (m ++ blocks_of (map met_in walks))
unfolding blocks_of
blocks_last directory m walks k blocks past to =
    sym (append-nil blocks) ∙ (sym (ap (λ (l : List Walked). blocks ++ blocks_of (map met_in l)) (drop_all k walks past)) ∙ (sym to ∙ append_assoc directory m (blocks_of (map met_in walks))))

both_same : (a b c d : ℕ) → a ≡ c → b ≡ d → ◌≡◌ {A = ℕ × ℕ} (a, b) (c, d)
both_same a b c d first second = λ i. (first i, second i)

pub counts_next : (bsize : ℕ) (entries : List Entry) (k : ℕ) (e : Entry) (walks : List Walked) (walked : Walked) → k < length entries → e ≡ get_or entries k e → length walked.leaves.items ≡ e.blocks
    → length walked.pointers.items ≡ pointer_count (fan_of bsize e.format) e.blocks
    → HaveCounts bsize (take k entries) walks → HaveCounts bsize (take (k + 1) entries) (walks ++ (walked ∷ []))
counts_next bsize entries k e walks walked less is count nodes counts =
    let same : walked_sizes walked ≡ entry_sizes bsize e = both_same _ _ _ _ count nodes in
    map-append walked_sizes walks (walked ∷ [])
    ∙ (ap (λ (l : List (ℕ × ℕ)). l ++ (walked_sizes walked ∷ [])) counts
    ∙ (ap (λ (n : ℕ × ℕ). map (entry_sizes bsize) (take k entries) ++ (n ∷ [])) same
    ∙ (sym (map-append (entry_sizes bsize) (take k entries) (e ∷ [])) ∙ ap (map (entry_sizes bsize)) (sym (taken_next entries k e less is)))))

pub counts_last : (bsize : ℕ) (entries : List Entry) (k : ℕ) (walks : List Walked) → length entries ≤ k → HaveCounts bsize (take k entries) walks → HaveCounts bsize entries walks
counts_last bsize entries k walks past counts = counts ∙ ap (map (entry_sizes bsize)) (take_all k entries past)

-- the pointer blocks of a file's tree that was read
pub file_pointers : (place : Place) (holder : ℕ) (e : Entry) (at : TreeAt) (r : Result Walked OpenFault) → at ≡ file_at place holder e
    → IfOk r (λ w. length w.pointers.items ≡ pointer_count (at.bsize / at.psize) at.count) → IfOk r (λ w. length w.pointers.items ≡ pointer_count (fan_of place.bsize e.format) e.blocks)
file_pointers place holder e at r is has =
    IfOk-weaker r _ _ (λ w long. long ∙ (ap (λ (x : TreeAt). pointer_count (x.bsize / x.psize) x.count) is ∙ ap (λ (fan : ℕ). pointer_count fan e.blocks) (fan_is place.bsize e.format))) has

-- Two images that agree on the label, the origin and the blocks of the trees hold the same volume.
use Rattle.std.proofs.Common.{◌≡◌, inl, inr, ℕ, ◌+◌, List, [], ◌∷◌, ◌++◌, drop, Some, None, Ok, refl, sym, ◌∙◌, ap, subst}
use Rattle.cms_names.specs.declared.name.Format.TheVariants.{F}
use Rattle.cms_fields.specs.Labels.{label_of}
use Rattle.cms_fields.specs.declared.entry.Entry.{Entry}
use Rattle.cms_fields.specs.declared.label.Label.{Label}
use Rattle.cms_model.specs.Lists.{In}
use Rattle.cms_model.specs.Trees.{Image, Met, form_of, tree, bytes_at}
use Rattle.cms_model.specs.Systems.{directory_of, map_of}
use Rattle.cms_model.specs.Volumes.{Disk, Opened, IsOpened, holder_of, file_trees, blocks_of, all_blocks, contents_in}
use Rattle.cms_model.specs.Settled.{frame, Agree}
use Rattle.cms_model.proofs.Results.{ok_same, bind_then}
use Rattle.cms_model.proofs.Members.{In-left, In-right}
use Rattle.cms_model.proofs.TreeFrame.{tree_keeps, tree_inside}

pub bytes_keep : (before later : Image) (ns : List ℕ) → Agree ns before later → bytes_at before ns ≡ bytes_at later ns
unfolding bytes_at
bytes_keep before later [] agree = refl
bytes_keep before later (n ∷ ns) agree = rw (agree n (inl refl), bytes_keep before later ns (λ x in'. agree x (inr in'))) refl

-- the trees of files
pub trees_keep : (bsize total : ℕ) (before later : Image) (dirs : List ℕ) (number : ℕ) (es : List Entry) (ms : List Met) → file_trees bsize total before dirs number es ≡ Ok ms
    → Agree (blocks_of ms) before later → file_trees bsize total later dirs number es ≡ Ok ms
unfolding file_trees blocks_of
trees_keep bsize total before later dirs number [] ms e agree = e
trees_keep bsize total before later dirs number (x ∷ es) ms e agree =
    let holder = holder_of bsize dirs number in
    bind_then (tree (form_of bsize total x.format) before x.levels None holder x.root x.blocks) _ ms e (λ m is_m e1.
    bind_then (file_trees bsize total before dirs (number + 1) es) _ ms e1 (λ more is_more e2.
    let is : m ∷ more ≡ ms = ok_same (m ∷ more) ms e2 in
    let all : Agree (m.blocks ++ blocks_of more) before later = subst (λ (l : List Met). Agree (blocks_of l) before later) (sym is) agree in
    let here = tree_keeps (form_of bsize total x.format) before later x.levels None holder holder x.root x.blocks m is_m (λ n in'. all n (In-left n m.blocks (blocks_of more) in')) in
    let there = trees_keep bsize total before later dirs (number + 1) es more is_more (λ n in'. all n (In-right n m.blocks (blocks_of more) in')) in
    rw (here, there) (ap Ok is)))

-- the data blocks of each tree are among these
abbrev pub LeavesIn : List Met → List ℕ → Type 0
LeavesIn [] ns = Unit {0}
LeavesIn (m ∷ ms) ns = ((n : ℕ) → In n m.leaves → In n ns) × LeavesIn ms ns

wider : (ms : List Met) (ns more : List ℕ) → LeavesIn ms ns → LeavesIn ms (more ++ ns)
wider [] ns more h = tt
wider (m ∷ ms) ns more h = (λ n in'. In-right n more ns (h.0 n in'), wider ms ns more h.1)

pub trees_inside : (bsize total : ℕ) (image : Image) (dirs : List ℕ) (number : ℕ) (es : List Entry) (ms : List Met) → file_trees bsize total image dirs number es ≡ Ok ms → LeavesIn ms (blocks_of ms)
unfolding file_trees blocks_of
trees_inside bsize total image dirs number [] ms e = subst (λ (l : List Met). LeavesIn l (blocks_of l)) (ok_same [] ms e) tt
trees_inside bsize total image dirs number (x ∷ es) ms e =
    let holder = holder_of bsize dirs number in
    bind_then (tree (form_of bsize total x.format) image x.levels None holder x.root x.blocks) _ ms e (λ m is_m e1.
    bind_then (file_trees bsize total image dirs (number + 1) es) _ ms e1 (λ more is_more e2.
    let inside = tree_inside (form_of bsize total x.format) image x.levels None holder x.root x.blocks m is_m in
    subst (λ (l : List Met). LeavesIn l (blocks_of l)) (ok_same (m ∷ more) ms e2)
    (λ n in'. In-left n m.blocks (blocks_of more) (inside n in'), wider more (blocks_of more) m.blocks (trees_inside bsize total image dirs (number + 1) es more is_more))))

pub contents_keep : (bsize : ℕ) (before later : Image) (number : ℕ) (es : List Entry) (ms : List Met) (ns : List ℕ) → LeavesIn ms ns → Agree ns before later
    → contents_in bsize before number es ms ≡ contents_in bsize later number es ms
unfolding contents_in
contents_keep bsize before later number [] ms ns inside agree = refl
contents_keep bsize before later number (e ∷ es) [] ns inside agree = refl
contents_keep bsize before later number (e ∷ es) (m ∷ ms) ns inside agree =
    rw (bytes_keep before later m.leaves (λ n in'. agree n (inside.0 n in')), contents_keep bsize before later (number + 1) es ms ns inside.1 agree) refl

-- ---- the whole volume

-- an image that agrees on all but the label, and whose label has the same origin and number of blocks
pub opened_under : (disk : Disk) (before later : Image) (v : Opened) (label : Label) → IsOpened disk before v → label_of disk.bsize disk.count (later 3) ≡ Ok label → label.origin ≡ v.label.origin
    → label.blocks ≡ v.label.blocks
    → Agree (v.label.origin ∷ all_blocks v) before later → IsOpened disk later (record v { label = label })
opened_under disk before later v label o reads same_origin same_blocks agree =
    let total = v.label.blocks in
    let at = v.label.origin in
    let form = form_of disk.bsize total F in
    let dirs = λ (n : ℕ) (in' : In n v.directory_met.blocks). agree n (inr (In-left n v.directory_met.blocks (v.map_met.blocks ++ blocks_of v.mets) in')) in
    let maps = λ (n : ℕ) (in' : In n v.map_met.blocks). agree n (inr (In-right n v.directory_met.blocks (v.map_met.blocks ++ blocks_of v.mets) (In-left n v.map_met.blocks (blocks_of v.mets) in'))) in
    let files = λ (n : ℕ) (in' : In n (blocks_of v.mets)). agree n
    (inr (In-right n v.directory_met.blocks (v.map_met.blocks ++ blocks_of v.mets) (In-right n v.map_met.blocks (blocks_of v.mets) in'))) in
    let dir_bytes : bytes_at later v.directory_met.leaves ≡ bytes_at before v.directory_met.leaves =
    sym (bytes_keep before later v.directory_met.leaves (λ n in'. dirs n
    (tree_inside form before v.directory.levels (Some at) at v.directory.root v.directory.blocks v.directory_met o.system.directory_met n in'))) in
    let map_bytes : bytes_at later v.map_met.leaves ≡ bytes_at before v.map_met.leaves =
    sym (bytes_keep before later v.map_met.leaves (λ n in'. maps n (tree_inside form before v.map.levels None at v.map.root v.map.blocks v.map_met o.system.map_met n in'))) in
    let origin : before at ≡ later at = agree at (inl refl) in
    record {
      system = record {
        blocks = o.system.blocks;
        label = reads;
        directory = rw same_origin (subst (λ (b : List ℕ). directory_of disk.bsize at b ≡ Ok v.directory) origin o.system.directory);
        directory_met = rw (same_origin, same_blocks) (tree_keeps form before later v.directory.levels (Some at) at at v.directory.root v.directory.blocks v.directory_met o.system.directory_met dirs);
        map = rw (same_origin, same_blocks) (subst (λ (b : List ℕ). map_of disk.bsize total (drop 64 b) ≡ Ok v.map) origin o.system.map);
        entries = rw dir_bytes o.system.entries;
        map_met = rw (same_origin, same_blocks) (tree_keeps form before later v.map.levels None at at v.map.root v.map.blocks v.map_met o.system.map_met maps);
      };
      names = o.names;
      mets = rw same_blocks (trees_keep disk.bsize total before later v.directory_met.leaves 2 v.entries v.mets o.mets files);
      apart = o.apart;
      marked = rw (same_blocks, map_bytes) o.marked;
      contents = sym (contents_keep disk.bsize before later 2 v.entries v.mets (blocks_of v.mets) (trees_inside disk.bsize total before v.directory_met.leaves 2 v.entries v.mets o.mets) files)
          ∙ o.contents;
      lost = rw (same_blocks, map_bytes) o.lost;
    }

pub opened_keeps : (disk : Disk) (before later : Image) (v : Opened) → IsOpened disk before v → Agree (frame v) before later → IsOpened disk later v
opened_keeps disk before later v o agree =
    let reads : label_of disk.bsize disk.count (later 3) ≡ Ok v.label = subst (λ (b : List ℕ). label_of disk.bsize disk.count b ≡ Ok v.label) (agree 3 (inl refl)) o.system.label in
    opened_under disk before later v v.label o reads refl refl (λ n in'. agree n (inr in'))

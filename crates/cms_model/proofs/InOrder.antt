-- Where the blocks of an open volume lie.
use Rattle.std.proofs.Common.{◌≡◌, ◌⊎◌, inl, inr, ⊎_elim, ℕ, ◌+◌, ◌-◌, ◌≤◌, List, [], ◌∷◌, ◌++◌, Some, None, Ok, sym, subst, arith}
use Rattle.cms_names.specs.declared.name.Format.TheVariants.{F}
use Rattle.cms_fields.specs.declared.entry.Entry.{Entry}
use Rattle.cms_model.specs.Lists.{In}
use Rattle.cms_model.specs.Trees.{Image, Met, form_of, tree, bytes_at}
use Rattle.cms_model.specs.Volumes.{Disk, Opened, IsOpened, open_of, holder_of, file_trees, blocks_of, all_blocks}
use Rattle.cms_model.specs.Settled.{frame}
use Rattle.cms_model.specs.LawsVolumes.{IsInOrder}
use Rattle.cms_model.proofs.Results.{ok_same, bind_then}
use Rattle.cms_model.proofs.Members.{In-either}
use Rattle.cms_model.proofs.TreeFrame.{Place, tree_places}
use Rattle.cms_model.proofs.OpenedVolumes.{open_ok, label_reads}
use Rattle.cms_model.proofs.Repeats.{in_held, once_from, marked_from}

pub place_none : (last n : ℕ) → Place last None n → (6 ≤ n) × (n ≤ last)
place_none last n (inl free) = free
place_none last n (inr e) = absurd (cc)

pub trees_within : (bsize total : ℕ) (image : Image) (dirs : List ℕ) (number : ℕ) (es : List Entry) (ms : List Met) → file_trees bsize total image dirs number es ≡ Ok ms → (n : ℕ)
    → In n (blocks_of ms) → (6 ≤ n) × (n ≤ total)
unfolding file_trees blocks_of
trees_within bsize total image dirs number [] ms e n in' = absurd (subst (λ (l : List Met). In n (blocks_of l)) (sym (ok_same [] ms e)) in')
trees_within bsize total image dirs number (x ∷ es) ms e n in' =
    let holder = holder_of bsize dirs number in
    bind_then (tree (form_of bsize total x.format) image x.levels None holder x.root x.blocks) _ ms e (λ m is_m e1.
    bind_then (file_trees bsize total image dirs (number + 1) es) _ ms e1 (λ more is_more e2.
    let in2 : In n (m.blocks ++ blocks_of more) = subst (λ (l : List Met). In n (blocks_of l)) (sym (ok_same (m ∷ more) ms e2)) in' in
    ⊎_elim
    (λ here. place_none total n (tree_places (form_of bsize total x.format) image x.levels None holder x.root x.blocks m is_m n here))
    (λ there. trees_within bsize total image dirs (number + 1) es more is_more n there)
    (In-either n m.blocks (blocks_of more) in2)))

pub blocks_within : (disk : Disk) (image : Image) (v : Opened) → IsOpened disk image v → (n : ℕ) → In n (all_blocks v) → ((6 ≤ n) × (n ≤ v.label.blocks)) ⊎ (n ≡ v.label.origin)
blocks_within disk image v o n in' =
    let form = form_of disk.bsize v.label.blocks F in
    let origin = v.label.origin in
    ⊎_elim
    (λ dir. placed (tree_places form image v.directory.levels (Some origin) origin v.directory.root v.directory.blocks v.directory_met o.system.directory_met n dir))
    (λ rest. ⊎_elim
    (λ map. inl (place_none v.label.blocks n (tree_places form image v.map.levels None origin v.map.root v.map.blocks v.map_met o.system.map_met n map)))
    (λ files. inl (trees_within disk.bsize v.label.blocks image v.directory_met.leaves 2 v.entries v.mets o.mets n files))
    (In-either n v.map_met.blocks (blocks_of v.mets) rest))
    (In-either n v.directory_met.blocks (v.map_met.blocks ++ blocks_of v.mets) in')
  where
    placed : Place v.label.blocks (Some v.label.origin) n → ((6 ≤ n) × (n ≤ v.label.blocks)) ⊎ (n ≡ v.label.origin)
    placed (inl free) = inl free
    placed (inr e) = inr (cc)

pub in_order : (disk : Disk) (image : Image) (v : Opened) → open_of disk image ≡ Ok v → IsInOrder disk image v
in_order disk image v e =
    let o = open_ok disk image v e in
    let label = label_reads disk.bsize disk.count (image 3) v.label o.system.label in
    let low = label.low in
    record {
      size = (label.low, label.high);
      origin = label.origin;
      within = blocks_within disk image v o;
      once = once_from (all_blocks v) o.apart;
      marked = λ n le in'. ⊎_elim
          (λ (free : (6 ≤ n) × (n ≤ v.label.blocks)). let top = free.1 in
          marked_from (bytes_at image v.map_met.leaves) (all_blocks v) 6 (v.label.blocks - 5) n o.marked le (omega arith) (in_held n (all_blocks v) in'))
          (λ (is : n ≡ v.label.origin). absurd (⊎_elim (λ (four : v.label.origin ≡ 4). omega arith) (λ (five : v.label.origin ≡ 5). omega arith) label.origin))
          (blocks_within disk image v o n in');
    }

-- a volume rests on no block below 3
pub frame_low : (disk : Disk) (image : Image) (v : Opened) → open_of disk image ≡ Ok v → (n : ℕ) → In n (frame v) → 3 ≤ n
frame_low disk image v e n (inl three) = omega arith
frame_low disk image v e n (inr (inl is)) = ⊎_elim (λ (four : v.label.origin ≡ 4). omega arith) (λ (five : v.label.origin ≡ 5). omega arith) (in_order disk image v e).origin
frame_low disk image v e n (inr (inr in')) =
    let o = in_order disk image v e in
    ⊎_elim
    (λ (free : (6 ≤ n) × (n ≤ v.label.blocks)). let low = free.0 in omega arith)
    (λ (is : n ≡ v.label.origin). ⊎_elim (λ (four : v.label.origin ≡ 4). omega arith) (λ (five : v.label.origin ≡ 5). omega arith) o.origin)
    (o.within n in')

-- Each write of an update has the bytes of a block.
use Rattle.std.proofs.Common.{◌≡◌, ◌⊎◌, inl, ℕ, zero, suc, ◌-◌, ◌*◌, ◌/◌, ◌≤◌, List, [], ◌∷◌, ◌++◌, length, map, take, drop, refl, arith, length-append, length-drop, length-take-le, length-take}
use Rattle.std.specs.Prelude.{replicate}
use Rattle.std.specs.List.{concat}
use Rattle.std.proofs.lemmas.List.{length-replicate}
use Rattle.cms_fields.specs.Numbers.{up}
use Rattle.cms_model.specs.Lists.{cut}
use Rattle.cms_model.specs.LawsTrees.{cell_bytes}
use Rattle.cms_model.specs.Settled.{Write}
use Rattle.cms_tree.specs.Builds.{Child, all_over, cell_of, level_over, node_bytes, nodes_over, parents}
use Rattle.cms_tree.proofs.FilledBlocks.{length-cells}
use Rattle.cms_map.specs.Bits.{bytes_from}
use Rattle.cms_held.specs.HeldVolumes.{HeldTree}
use Rattle.cms_held.specs.Systems.{Systems, block_writes, directory_pieces, map_pieces, node_writes, whole_writes}
use Rattle.cms_held.specs.LawsRenewals.{AreBlocks}
use Rattle.cms_held.proofs.MapBytes.{length_written}

-- each piece has so many bytes
abbrev AreLong : ℕ → List (List ℕ) → Type 0
AreLong size [] = Unit {0}
AreLong size (p ∷ ps) = (length p ≡ size) × AreLong size ps

cut_long : (n size : ℕ) (items : List ℕ) → length items ≡ n * size → AreLong size (cut n size items)
unfolding cut
cut_long zero size items is = tt
cut_long (suc n) size items is =
    let rest = length-drop size items in
    (length-take-le size items (omega arith), cut_long n size (drop size items) (omega arith))

drop_long : (size : ℕ) (ps : List (List ℕ)) → AreLong size ps → AreLong size (drop 1 ps)
drop_long size [] long = tt
drop_long size (p ∷ ps) long = long.1

take_long : (size : ℕ) (ps : List (List ℕ)) → AreLong size ps → AreLong size (take 1 ps)
take_long size [] long = tt
take_long size (p ∷ ps) long = (long.0, tt)

are_blocks : (size : ℕ) (ns : List ℕ) (ps : List (List ℕ)) → AreLong size ps → AreBlocks size (block_writes ns ps)
unfolding block_writes
are_blocks size [] ps long = tt
are_blocks size (n ∷ ns) [] long = tt
are_blocks size (n ∷ ns) (p ∷ ps) long = (long.0, are_blocks size ns ps long.1)

pub both_blocks : (size : ℕ) (xs ys : List Write) → AreBlocks size xs → AreBlocks size ys → AreBlocks size (xs ++ ys)
both_blocks size [] ys a b = b
both_blocks size (w ∷ xs) ys a b = (a.0, both_blocks size xs ys a.1 b)

-- ---- pointer blocks

pub length_node : (bsize psize : ℕ) (group : List Child) → (psize ≡ 4) ⊎ (psize ≡ 12) → length group * psize ≤ bsize → length (node_bytes bsize psize group) ≡ bsize
unfolding node_bytes
length_node bsize psize group kind few =
    let many = length-cells psize group kind in
    omega (
      arith,
      length-append (concat (map (λ child. cell_bytes (cell_of psize child)) group)) (replicate (bsize - length group * psize) 0),
      length-replicate {A = ℕ}
          (bsize - length group * psize) 0,
    )

-- no block has more children than it has room for
abbrev pub AreFew : ℕ → List (List Child) → Type 0
AreFew fan [] = Unit {0}
AreFew fan (g ∷ gs) = (length g ≤ fan) × AreFew fan gs

cut_few : (n fan : ℕ) (below : List Child) → AreFew fan (cut n fan below)
unfolding cut
cut_few zero fan below = tt
cut_few (suc n) fan below = ((let l = length-take fan below in omega arith), cut_few n fan (drop fan below))

both_few : (fan : ℕ) (gs hs : List (List Child)) → AreFew fan gs → AreFew fan hs → AreFew fan (gs ++ hs)
both_few fan [] hs a b = b
both_few fan (g ∷ gs) hs a b = (a.0, both_few fan gs hs a.1 b)

pub over_few : (fan k : ℕ) (below : List Child) (fresh : List ℕ) → AreFew fan (all_over fan k below fresh)
unfolding all_over
over_few fan zero below fresh = tt
over_few fan (suc k) below fresh =
    both_few fan (level_over fan below) _ (cut_few (up (length below) fan) fan below) (over_few fan k (parents fresh (level_over fan below)) (drop (length (level_over fan below)) fresh))

nodes_long : (bsize : ℕ) (gs : List (List Child)) → AreFew (bsize / 4) gs → AreLong bsize (map (node_bytes bsize 4) gs)
nodes_long bsize [] few = tt
nodes_long bsize (g ∷ gs) few = (length_node bsize 4 g (inl refl) (let l = few.0 in omega arith), nodes_long bsize gs few.1)

node_blocks : (bsize : ℕ) (t : HeldTree) → AreBlocks bsize (node_writes bsize t)
node_blocks bsize t = are_blocks bsize t.pointers (map (node_bytes bsize 4) (nodes_over (bsize / 4) t.leaves [] t.pointers))
    (nodes_long bsize (nodes_over (bsize / 4) t.leaves [] t.pointers) (over_few (bsize / 4) _ _ t.pointers))

pub system_blocks : (bsize : ℕ) (s : Systems) → length s.directory_bytes ≡ length s.directory.leaves * bsize → AreBlocks bsize (whole_writes bsize s)
system_blocks bsize s long =
    let d = cut_long (length s.directory.leaves) bsize s.directory_bytes long in
    let m = cut_long (length s.map.leaves) bsize (bytes_from 0 (length s.map.leaves * bsize) s.bits) (length_written (length s.map.leaves * bsize) s.bits) in
    both_blocks bsize (block_writes (drop 1 s.directory.leaves) (drop 1 (directory_pieces bsize s))) _
    (are_blocks bsize (drop 1 s.directory.leaves) (drop 1 (directory_pieces bsize s)) (drop_long bsize (directory_pieces bsize s) d))
    (both_blocks bsize (node_writes bsize s.directory) _ (node_blocks bsize s.directory)
    (both_blocks bsize (block_writes s.map.leaves (map_pieces bsize s)) _ (are_blocks bsize s.map.leaves (map_pieces bsize s) m)
    (both_blocks bsize (node_writes bsize s.map) (block_writes (take 1 s.directory.leaves) (take 1 (directory_pieces bsize s))) (node_blocks bsize s.map)
    (are_blocks bsize (take 1 s.directory.leaves) (take 1 (directory_pieces bsize s)) (take_long bsize (directory_pieces bsize s) d)))))

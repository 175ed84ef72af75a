-- Where all places of both trees are written, all of both is.
use Rattle.std.proofs.Common.{◌≡◌, ℕ, suc, ◌+◌, ◌*◌, ◌/◌, ◌<◌, ◌≤◌, List, [], ◌∷◌, ◌++◌, length, map, take, drop, get_or, refl, sym, ◌∙◌, ap, arith}
use Rattle.std.specs.List.{range_with_len}
use Rattle.std.proofs.lemmas.List.{get_or-map, length-map}
use Rattle.std.proofs.lemmas.List.FromFn.{length-range_with_len}
use Rattle.cms_model.specs.Lists.{cut}
use Rattle.cms_model.specs.Settled.{Write}
use Rattle.cms_model.specs.Sizes.{pointer_count}
use Rattle.cms_model.proofs.Cuts.{get_or_cut, length_cut}
use Rattle.cms_map.specs.Bits.{bytes_from}
use Rattle.cms_tree.specs.Builds.{node_at, node_bytes, nodes_over}
use Rattle.cms_held.specs.HeldVolumes.{HeldTree}
use Rattle.cms_held.specs.Systems.{Systems, TreePart, block_writes, data_writes, leaf_writes, map_piece, node_writes, nodes_at, system_writes, whole_part, whole_writes}
use Rattle.cms_held.proofs.PiecesWritten.{bytes_part, length_nodes}

-- all of a list in order
row_is : (all xs : List ℕ) (a : ℕ) → ((k : ℕ) → k < length xs → get_or all (a + k) 0 ≡ get_or xs k 0) → map (λ (j : ℕ). get_or all j 0) (range_with_len a (length xs)) ≡ xs
row_is all [] a same = refl
row_is all (x ∷ xs) a same =
    let e : a + 0 ≡ a = omega arith in
    let here : get_or all a 0 ≡ x = ap (λ (n : ℕ). get_or all n 0) (sym e) ∙ same 0 (omega arith) in
    let rest = row_is all xs (a + 1) (λ k less. let f : a + 1 + k ≡ a + suc k = omega arith in ap (λ (n : ℕ). get_or all n 0) f ∙ same (suc k) (omega arith)) in
    λ i. here i ∷ rest i

row_writes : (all xs : List ℕ) (piece : ℕ → List ℕ) (ps : List (List ℕ)) (a : ℕ) → ((k : ℕ) → k < length xs → get_or all (a + k) 0 ≡ get_or xs k 0)
    → ((k : ℕ) → k < length xs → piece (a + k) ≡ get_or ps k []) → length ps ≡ length xs → leaf_writes all piece (range_with_len a (length xs)) ≡ block_writes xs ps
unfolding block_writes
row_writes all [] piece ps a same bytes long = refl
row_writes all (x ∷ xs) piece [] a same bytes long = absurd (omega arith)
row_writes all (x ∷ xs) piece (p ∷ ps) a same bytes long =
    let e : a + 0 ≡ a = omega arith in
    let here : get_or all a 0 ≡ x = ap (λ (n : ℕ). get_or all n 0) (sym e) ∙ same 0 (omega arith) in
    let own : piece a ≡ p = ap piece (sym e) ∙ bytes 0 (omega arith) in
    let rest = row_writes all xs piece ps (a + 1) (λ k less. let f : a + 1 + k ≡ a + suc k = omega arith in ap (λ (n : ℕ). get_or all n 0) f ∙ same (suc k) (omega arith))
    (λ k less. let f : a + 1 + k ≡ a + suc k = omega arith in ap piece f ∙ bytes (suc k) (omega arith)) (omega arith) in
    λ i. record { block = here i; bytes = own i } ∷ rest i

-- the writes of a list without its first, and of its first
drop_blocks : (ns : List ℕ) (ps : List (List ℕ)) → drop 1 (block_writes ns ps) ≡ block_writes (drop 1 ns) (drop 1 ps)
unfolding block_writes
drop_blocks [] ps = refl
drop_blocks (n ∷ []) [] = refl
drop_blocks (n ∷ m ∷ ns) [] = refl
drop_blocks (n ∷ ns) (p ∷ ps) = refl

take_blocks : (ns : List ℕ) (ps : List (List ℕ)) → take 1 (block_writes ns ps) ≡ block_writes (take 1 ns) (take 1 ps)
unfolding block_writes
take_blocks [] ps = refl
take_blocks (n ∷ ns) [] = refl
take_blocks (n ∷ ns) (p ∷ ps) = refl

-- ---- the parts of an update

data_row : (bsize : ℕ) (leaves bytes : List ℕ) → data_writes bsize leaves (range_with_len 0 (length leaves)) bytes ≡ block_writes leaves (cut (length leaves) bsize bytes)
data_row bsize leaves bytes =
    let row = row_is leaves leaves 0 (λ k less. let e : 0 + k ≡ k = omega arith in ap (λ (n : ℕ). get_or leaves n 0) e) in
    let long : length (range_with_len 0 (length leaves)) ≡ length leaves = length-range_with_len 0 (length leaves) in
    λ i. block_writes (row i) (cut (long i) bsize bytes)

node_row : (bsize : ℕ) (t : HeldTree) → 1 ≤ bsize / 4 → length t.pointers ≡ pointer_count (bsize / 4) (length t.leaves) → nodes_at bsize t (range_with_len 0 (length t.pointers)) ≡ node_writes bsize t
node_row bsize t some numbers =
    let nodes = nodes_over (bsize / 4) t.leaves [] t.pointers in
    let long : length nodes ≡ length t.pointers = length_nodes (bsize / 4) t.leaves t.pointers some numbers in
    row_writes t.pointers t.pointers (node_at bsize 4 t.leaves [] t.pointers) (map (node_bytes bsize 4) nodes) 0
    (λ k less. let e : 0 + k ≡ k = omega arith in ap (λ (n : ℕ). get_or t.pointers n 0) e)
    (λ k less. let e : 0 + k ≡ k = omega arith in ap (node_at bsize 4 t.leaves [] t.pointers) e ∙ sym (get_or-map (node_bytes bsize 4) nodes k [] [] (omega arith)))
    (length-map nodes (node_bytes bsize 4) ∙ long)

map_row : (bsize : ℕ) (leaves : List ℕ) (s : Systems) → leaf_writes leaves (map_piece bsize s.bits) (range_with_len 0 (length leaves))
    ≡ block_writes leaves (cut (length leaves) bsize (bytes_from 0 (length leaves * bsize) s.bits))
map_row bsize leaves s =
    row_writes leaves leaves (map_piece bsize s.bits) (cut (length leaves) bsize (bytes_from 0 (length leaves * bsize) s.bits)) 0
    (λ k less. let e : 0 + k ≡ k = omega arith in ap (λ (n : ℕ). get_or leaves n 0) e)
    (λ k less. let e : 0 + k ≡ k = omega arith in ap (map_piece bsize s.bits) e
    ∙ sym (get_or_cut (length leaves) bsize k (bytes_from 0 (length leaves * bsize) s.bits) less ∙ bytes_part (length leaves) bsize k s.bits less))
    (length_cut (length leaves) bsize (bytes_from 0 (length leaves * bsize) s.bits))

-- ---- the whole

pub all_is_whole : (bsize : ℕ) (s : Systems) → 1 ≤ bsize / 4 → length s.directory.pointers ≡ pointer_count (bsize / 4) (length s.directory.leaves)
    → length s.map.pointers ≡ pointer_count (bsize / 4) (length s.map.leaves) → s.directory_part ≡ whole_part s.directory → s.map_part ≡ whole_part s.map → system_writes bsize s ≡ whole_writes bsize s
all_is_whole bsize s some d m is_d is_m =
    let pieces = cut (length s.directory.leaves) bsize s.directory_bytes in
    let parts = ap (λ (p : TreePart). data_writes bsize s.directory.leaves p.leaves s.directory_bytes) is_d ∙ data_row bsize s.directory.leaves s.directory_bytes in
    let behind = ap (λ (l : List Write). drop 1 l) parts ∙ drop_blocks s.directory.leaves pieces in
    let first = ap (λ (l : List Write). take 1 l) parts ∙ take_blocks s.directory.leaves pieces in
    let directory = ap (λ (p : TreePart). nodes_at bsize s.directory p.nodes) is_d ∙ node_row bsize s.directory some d in
    let blocks = ap (λ (p : TreePart). leaf_writes s.map.leaves (map_piece bsize s.bits) p.leaves) is_m ∙ map_row bsize s.map.leaves s in
    let map' = ap (λ (p : TreePart). nodes_at bsize s.map p.nodes) is_m ∙ node_row bsize s.map some m in
    λ i. behind i ++ (directory i ++ (blocks i ++ (map' i ++ first i)))

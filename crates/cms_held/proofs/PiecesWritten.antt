-- Blocks that were written in pieces, and trees that were written.
use Rattle.std.proofs.Common.{◌≡◌, ⊎_elim, ℕ, zero, suc, ◌+◌, ◌-◌, ◌*◌, ◌/◌, ◌^◌, ◌<◌, ◌≤◌, Bool, List, [], ◌∷◌, ◌++◌, length, take, drop, get_or, map, refl, sym, ◌∙◌, ap, subst, arith, length-append, mul-le-mul_right}
use Rattle.std.proofs.lemmas.List.{get_or-map, length-drop, length-map}
use Rattle.std.proofs.lemmas.List.FromFn.{length-map-range_with_len}
use Rattle.std.proofs.lemmas.Bool.{cases_lt}
use Rattle.std.proofs.Math.Nat.{one-le-pow, pow-le-pow_left}
use Rattle.std.proofs.Math.Seq.{take-append_seam, drop-append_seam}
use Rattle.cms_fields.specs.Numbers.{up}
use Rattle.cms_model.specs.Lists.{cut}
use Rattle.cms_model.specs.Sizes.{levels, pointer_count}
use Rattle.cms_model.specs.Trees.{Image, bytes_at}
use Rattle.cms_model.specs.Settled.{Write}
use Rattle.cms_model.proofs.Cuts.{length_cut, get_or_cut}
use Rattle.cms_tree.specs.Builds.{Child, marked, level_over, parents, all_over, nodes_over, node_bytes, node_at, HasNodes}
use Rattle.cms_map.specs.Bits.{byte_at, bytes_from}
use Rattle.cms_model.proofs.Shapes.{levels_needs}
use Rattle.cms_tree.specs.Levels.{over_count}
use Rattle.cms_tree.proofs.LevelsBuilt.{all_count}
use Rattle.cms_tree.proofs.Sums.{pointers_small}
use Rattle.cms_held.specs.HeldVolumes.{HeldTree}
use Rattle.cms_held.specs.Systems.{block_writes, node_writes, HasWritten}
use Rattle.cms_held.proofs.Fronts.{IsWriteAt}

take_none : {A : Type 0} (n : ℕ) → take {A = A} n [] ≡ []
take_none zero = refl
take_none (suc n) = refl

pub take_both : (a b : ℕ) (xs : List ℕ) → take a xs ++ take b (drop a xs) ≡ take (a + b) xs
take_both zero b xs = let e : 0 + b ≡ b = omega arith in rw e refl
take_both (suc a) b [] = rw (take_none {A = ℕ} b, take_none {A = ℕ} (suc a + b)) refl
take_both (suc a) b (x ∷ xs) = let e : suc a + b ≡ suc (a + b) = omega arith in rw e (ap (λ (l : List ℕ). x ∷ l) (take_both a b xs))

-- ---- writes one after another

pub has_front : (image : Image) (ws more : List Write) → HasWritten image (ws ++ more) → HasWritten image ws
has_front image [] more has = tt
has_front image (w ∷ ws) more has = (has.0, has_front image ws more has.1)

pub has_behind : (image : Image) (ws more : List Write) → HasWritten image (ws ++ more) → HasWritten image more
has_behind image [] more has = has
has_behind image (w ∷ ws) more has = has_behind image ws more has.1

-- the block at a place
pub has_block : (image : Image) (ns : List ℕ) (pieces : List (List ℕ)) (k : ℕ) → HasWritten image (block_writes ns pieces) → k < length ns → k < length pieces
    → image (get_or ns k 0) ≡ get_or pieces k []
unfolding block_writes
has_block image [] pieces k has less less' = absurd (omega arith)
has_block image (n ∷ ns) [] k has less less' = absurd (omega arith)
has_block image (n ∷ ns) (p ∷ pieces) zero has less less' = has.0
has_block image (n ∷ ns) (p ∷ pieces) (suc k) has less less' = has_block image ns pieces k has.1 (omega arith) (omega arith)

-- bytes cut into pieces are read again
pub pieces_joined : (image : Image) (ns : List ℕ) (size : ℕ) (items : List ℕ) → HasWritten image (block_writes ns (cut (length ns) size items)) → bytes_at image ns ≡ take (length ns * size) items
unfolding block_writes bytes_at cut
pieces_joined image [] size items has = let e : 0 * size ≡ 0 = omega arith in rw e refl
pieces_joined image (n ∷ ns) size items has =
    let rest = pieces_joined image ns size (drop size items) has.1 in
    let e : size + length ns * size ≡ suc (length ns) * size = omega arith in
    rw (has.0, rest, take_both size (length ns * size) items, e) refl

-- ---- how many pointer blocks there are

length_parents : (numbers : List ℕ) (groups : List (List Child)) → length groups ≤ length numbers → length (parents numbers groups) ≡ length groups
unfolding parents
length_parents numbers [] enough = refl
length_parents [] (g ∷ gs) enough = absurd (omega arith)
length_parents (n ∷ ns) (g ∷ gs) enough = ap suc (length_parents ns gs (omega arith))

length_over : (fan k : ℕ) (below : List Child) (numbers : List ℕ) → over_count fan k (length below) ≤ length numbers → length (all_over fan k below numbers) ≡ over_count fan k (length below)
unfolding all_over
length_over fan zero below numbers enough = refl
length_over fan (suc k) below numbers enough =
    let level = level_over fan below in
    let m = up (length below) fan in
    let long : length level ≡ m = length_cut m fan below in
    let above = parents numbers level in
    let wide : length above ≡ m = length_parents numbers level (omega arith) ∙ long in
    let behind = length-drop (length level) numbers in
    let deeper = length_over fan k above (drop (length level) numbers) (subst (λ (c : ℕ). over_count fan k c ≤ length (drop (length level) numbers)) (sym wide) (omega arith)) in
    length-append level (all_over fan k above (drop (length level) numbers)) ∙ (let e = ap (over_count fan k) wide in omega arith)

length_marked : (ns : List ℕ) → length (marked ns []) ≡ length ns
unfolding marked
length_marked [] = refl
length_marked (n ∷ ns) = ap suc (length_marked ns)

pub length_nodes : (fan : ℕ) (leaves fresh : List ℕ) → 1 ≤ fan → length fresh ≡ pointer_count fan (length leaves) → length (nodes_over fan leaves [] fresh) ≡ length fresh
unfolding pointer_count
length_nodes fan leaves fresh some numbers =
    let k = levels fan (length leaves) in
    let long = length_marked leaves in
    let count : over_count fan k (length (marked leaves [])) ≡ length fresh = ap (over_count fan k) long ∙ all_count fan (length leaves) k some ∙ sym numbers in
    length_over fan k (marked leaves []) fresh (omega arith) ∙ count

-- ---- the pointer blocks of a tree

pub nodes_written : (image : Image) (bsize : ℕ) (t : HeldTree) → 1 ≤ bsize / 4 → length t.pointers ≡ pointer_count (bsize / 4) (length t.leaves)
    → HasWritten image (node_writes bsize t) → HasNodes image bsize 4 t.leaves [] t.pointers
nodes_written image bsize t some numbers has nth within =
    let groups = nodes_over (bsize / 4) t.leaves [] t.pointers in
    let long : length groups ≡ length t.pointers = length_nodes (bsize / 4) t.leaves t.pointers some numbers in
    let mapped : get_or (map (node_bytes bsize 4) groups) nth [] ≡ node_bytes bsize 4 (get_or groups nth []) = get_or-map (node_bytes bsize 4) groups nth [] [] (omega arith) in
    has_block image t.pointers (map (node_bytes bsize 4) groups) nth has within (subst (λ (n : ℕ). nth < n) (sym (length-map groups (node_bytes bsize 4) ∙ long)) within) ∙ mapped

-- ---- the write at a place

pub length_writes : (ns : List ℕ) (pieces : List (List ℕ)) → length pieces ≡ length ns → length (block_writes ns pieces) ≡ length ns
unfolding block_writes
length_writes [] pieces same = refl
length_writes (n ∷ ns) [] same = absurd (omega arith)
length_writes (n ∷ ns) (p ∷ pieces) same = ap suc (length_writes ns pieces (omega arith))

get_writes : (ns : List ℕ) (pieces : List (List ℕ)) (k : ℕ) (d : Write) → k < length ns → k < length pieces
    → get_or (block_writes ns pieces) k d ≡ record { block = get_or ns k 0; bytes = get_or pieces k [] }
unfolding block_writes
get_writes [] pieces k d less less' = absurd (omega arith)
get_writes (n ∷ ns) [] k d less less' = absurd (omega arith)
get_writes (n ∷ ns) (p ∷ pieces) zero d less less' = refl
get_writes (n ∷ ns) (p ∷ pieces) (suc k) d less less' = get_writes ns pieces k d (omega arith) (omega arith)

pub write_at : (ns : List ℕ) (pieces : List (List ℕ)) (k : ℕ) (piece : List ℕ) → length pieces ≡ length ns → k < length ns → get_or pieces k [] ≡ piece
    → IsWriteAt (block_writes ns pieces) k (record { block = get_or ns k 0; bytes = piece })
write_at ns pieces k piece same less is = record {
  within = (let e = length_writes ns pieces same in omega arith);
  is = λ d. get_writes ns pieces k d less (omega arith) ∙ ap (λ (b : List ℕ). record { block = get_or ns k 0; bytes = b }) is;
}

-- the piece at a place of bytes that are cut
pub piece_at : (ns : List ℕ) (size : ℕ) (bytes : List ℕ) (k : ℕ) → k < length ns
    → IsWriteAt (block_writes ns (cut (length ns) size bytes)) k (record { block = get_or ns k 0; bytes = take (k * size + size - k * size) (drop (k * size) bytes) })
piece_at ns size bytes k less =
    let e : k * size + size - k * size ≡ size = omega arith in
    write_at ns (cut (length ns) size bytes) k (take (k * size + size - k * size) (drop (k * size) bytes)) (length_cut (length ns) size bytes) less
    (get_or_cut (length ns) size k bytes less ∙ ap (λ (n : ℕ). take n (drop (k * size) bytes)) (sym e))

-- the pointer block at a place of a tree
pub node_written_at : (bsize : ℕ) (leaves pointers : List ℕ) (k : ℕ) → 1 ≤ bsize / 4 → length pointers ≡ pointer_count (bsize / 4) (length leaves) → k < length pointers
    → IsWriteAt (node_writes bsize (record { leaves = leaves; pointers = pointers })) k (record { block = get_or pointers k 0; bytes = node_at bsize 4 leaves [] pointers k })
node_written_at bsize leaves pointers k some numbers less =
    let groups = nodes_over (bsize / 4) leaves [] pointers in
    let long : length groups ≡ length pointers = length_nodes (bsize / 4) leaves pointers some numbers in
    write_at pointers (map (node_bytes bsize 4) groups) k (node_at bsize 4 leaves [] pointers k) (length-map groups (node_bytes bsize 4) ∙ long) less
    (get_or-map (node_bytes bsize 4) groups k [] [] (omega arith))

pub length_node_writes : (bsize : ℕ) (leaves pointers : List ℕ) → 1 ≤ bsize / 4 → length pointers ≡ pointer_count (bsize / 4) (length leaves)
    → length (node_writes bsize (record { leaves = leaves; pointers = pointers })) ≡ length pointers
length_node_writes bsize leaves pointers some numbers =
    let groups = nodes_over (bsize / 4) leaves [] pointers in
    length_writes pointers (map (node_bytes bsize 4) groups) (length-map groups (node_bytes bsize 4) ∙ length_nodes (bsize / 4) leaves pointers some numbers)

-- fewer than 2^32 data blocks have fewer than 2^32 pointer blocks
pub pointers_few : (fan n : ℕ) → 2 ≤ fan → n < 2 ^ 32 → pointer_count fan n < 2 ^ 32
unfolding pointer_count
pointers_few fan n wide few =
    let k = levels fan n in
    let needs = levels_needs fan n wide few in
    let deep : k ≤ 32 = ⊎_elim
    (λ (more : 32 < k).
    let past = needs.fewer 32 more in
    let power : 2 ^ 32 ≤ fan ^ 32 = pow-le-pow_left wide 32 in
    absurd (omega arith))
    (λ (le : k ≤ 32). le)
    (cases_lt 32 k) in
    let small = pointers_small fan n k wide (omega arith) deep in
    let some = one-le-pow (32 - k) 2 (omega arith) in
    omega arith

-- ---- the bytes of a map

bytes_both : (at count more : ℕ) (bits : List Bool) → bytes_from at (count + more) bits ≡ bytes_from at count bits ++ bytes_from (at + count) more bits
unfolding bytes_from
bytes_both at zero more bits = let e : 0 + more ≡ more = omega arith in let f : at + 0 ≡ at = omega arith in rw (e, f) refl
bytes_both at (suc count) more bits =
    let e : suc count + more ≡ suc (count + more) = omega arith in
    let f : at + suc count ≡ at + 1 + count = omega arith in
    rw (e, f) (ap (λ (l : List ℕ). byte_at bits at ∷ l) (bytes_both (at + 1) count more bits))

length_bytes : (at count : ℕ) (bits : List Bool) → length (bytes_from at count bits) ≡ count
unfolding bytes_from
length_bytes at count bits = length-map-range_with_len (byte_at bits) at count

pub bytes_part : (n size k : ℕ) (bits : List Bool) → k < n → take size (drop (k * size) (bytes_from 0 (n * size) bits)) ≡ bytes_from (k * size) size bits
bytes_part n size k bits less =
    let rest = n * size - (k * size + size) in
    let room : suc k * size ≤ n * size = mul-le-mul_right size less in
    let e : k * size + (size + rest) ≡ n * size = omega arith in
    let f : 0 + k * size ≡ k * size = omega arith in
    let split : bytes_from 0 (n * size) bits ≡ bytes_from 0 (k * size) bits ++ (bytes_from (k * size) size bits ++ bytes_from (k * size + size) rest bits) =
    ap (λ (m : ℕ). bytes_from 0 m bits) (sym e) ∙ bytes_both 0 (k * size) (size + rest) bits ∙ ap (λ (m : ℕ). bytes_from 0 (k * size) bits ++ bytes_from m (size + rest) bits) f
    ∙ ap (λ (l : List ℕ). bytes_from 0 (k * size) bits ++ l) (bytes_both (k * size) size rest bits) in
    let behind = bytes_from (k * size) size bits ++ bytes_from (k * size + size) rest bits in
    let dropped : drop (k * size) (bytes_from 0 (n * size) bits) ≡ behind = ap (drop (k * size)) split ∙ subst (λ (m : ℕ). drop m (bytes_from 0 (k * size) bits ++ behind) ≡ behind)
    (length_bytes 0 (k * size) bits) (drop-append_seam (bytes_from 0 (k * size) bits) behind) in
    ap (take size) dropped ∙ subst (λ (m : ℕ). take m behind ≡ bytes_from (k * size) size bits) (length_bytes (k * size) size bits)
    (take-append_seam (bytes_from (k * size) size bits) (bytes_from (k * size + size) rest bits))

pub map_written_at : (ns : List ℕ) (size : ℕ) (bits : List Bool) (k : ℕ) → k < length ns
    → IsWriteAt (block_writes ns (cut (length ns) size (bytes_from 0 (length ns * size) bits))) k (record { block = get_or ns k 0; bytes = bytes_from (k * size) size bits })
map_written_at ns size bits k less =
    let bytes = bytes_from 0 (length ns * size) bits in
    write_at ns (cut (length ns) size bytes) k (bytes_from (k * size) size bits) (length_cut (length ns) size bytes) less
    (get_or_cut (length ns) size k bytes less ∙ bytes_part (length ns) size k bits less)

-- What stands at a place of the bytes of blocks.
use Rattle.std.proofs.Common.{◌≡◌, ℕ, zero, suc, ◌+◌, ◌*◌, ◌<◌, ◌≤◌, List, [], ◌∷◌, ◌++◌, length, take, drop, get_or, sym, ◌∙◌, ap, arith, length-drop, length-append}
use Rattle.std.proofs.lemmas.List.{get_or_append_left, get_or-drop, take-append-le, drop-append-le}
use Rattle.std.proofs.lemmas.List.Elements.{All-head, All-tail}
use Rattle.std.proofs.Math.Seq.{drop-append-add}
use Rattle.cms_model.specs.Trees.{Image, bytes_at}
use Rattle.cms_held.specs.SharedBlocks.{AreLong}

drop_by_place : (bsize : ℕ) (image : Image) (leaves : List ℕ) (j r : ℕ) → AreLong bsize image leaves → j < length leaves → r ≤ bsize
    → drop (j * bsize + r) (bytes_at image leaves) ≡ drop r (image (get_or leaves j 0)) ++ bytes_at image (drop (suc j) leaves)
unfolding bytes_at
drop_by_place bsize image [] j r long less within = absurd (omega arith)
drop_by_place bsize image (n ∷ ns) zero r long less within =
    let own = All-head (λ (k : ℕ). length (image k) ≡ bsize) n ns long in
    let e : 0 * bsize + r ≡ r = omega arith in
    rw e (drop-append-le r (image n) (bytes_at image ns) (omega arith))
drop_by_place bsize image (n ∷ ns) (suc j) r long less within =
    let own = All-head (λ (k : ℕ). length (image k) ≡ bsize) n ns long in
    let e : suc j * bsize + r ≡ length (image n) + (j * bsize + r) = omega arith in
    rw e (drop-append-add (image n) (bytes_at image ns) (j * bsize + r)
    ∙ drop_by_place bsize image ns j r (All-tail (λ (k : ℕ). length (image k) ≡ bsize) n ns long) (omega arith) within)

pub leaf_long : (bsize : ℕ) (image : Image) (leaves : List ℕ) (j : ℕ) → AreLong bsize image leaves → j < length leaves → length (image (get_or leaves j 0)) ≡ bsize
leaf_long bsize image [] j long less = absurd (omega arith)
leaf_long bsize image (n ∷ ns) zero long less = All-head (λ (k : ℕ). length (image k) ≡ bsize) n ns long
leaf_long bsize image (n ∷ ns) (suc j) long less = leaf_long bsize image ns j (All-tail (λ (k : ℕ). length (image k) ≡ bsize) n ns long) (omega arith)

pub byte_by_place : (bsize : ℕ) (image : Image) (leaves : List ℕ) (j r : ℕ) → AreLong bsize image leaves → j < length leaves → r < bsize
    → get_or (bytes_at image leaves) (j * bsize + r) 0 ≡ get_or (image (get_or leaves j 0)) r 0
byte_by_place bsize image leaves j r long less within =
    let own = leaf_long bsize image leaves j long less in
    let block = image (get_or leaves j 0) in
    let e : j * bsize + r + 0 ≡ j * bsize + r = omega arith in
    let f : r + 0 ≡ r = omega arith in
    let room : 0 < length (drop r block) = omega (arith, length-drop r block) in
    sym (get_or-drop (j * bsize + r) (bytes_at image leaves) 0 0 ∙ ap (λ (k : ℕ). get_or (bytes_at image leaves) k 0) e)
    ∙ (ap (λ (l : List ℕ). get_or l 0 0) (drop_by_place bsize image leaves j r long less (omega arith))
    ∙ (get_or_append_left (drop r block) (bytes_at image (drop (suc j) leaves)) 0 0 room
    ∙ (get_or-drop r block 0 0 ∙ ap (λ (k : ℕ). get_or block k 0) f)))

pub piece_by_place : (bsize : ℕ) (image : Image) (leaves : List ℕ) (j r size : ℕ) → AreLong bsize image leaves → j < length leaves → r + size ≤ bsize
    → take size (drop (j * bsize + r) (bytes_at image leaves)) ≡ take size (drop r (image (get_or leaves j 0)))
piece_by_place bsize image leaves j r size long less within =
    let own = leaf_long bsize image leaves j long less in
    let block = image (get_or leaves j 0) in
    ap (take size) (drop_by_place bsize image leaves j r long less (omega arith))
    ∙ take-append-le size (drop r block) (bytes_at image (drop (suc j) leaves)) (omega (arith, length-drop r block))

pub all_long : (bsize : ℕ) (image : Image) (leaves : List ℕ) → AreLong bsize image leaves → length (bytes_at image leaves) ≡ length leaves * bsize
unfolding bytes_at
all_long bsize image [] long = omega arith
all_long bsize image (n ∷ ns) long =
    let own = All-head (λ (k : ℕ). length (image k) ≡ bsize) n ns long in
    let rest = all_long bsize image ns (All-tail (λ (k : ℕ). length (image k) ≡ bsize) n ns long) in
    omega (arith, length-append (image n) (bytes_at image ns))

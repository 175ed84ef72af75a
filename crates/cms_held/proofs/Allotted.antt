-- Sizes of the new trees, the blocks that they take, and a map with blocks freed.
use Rattle.std.proofs.Common.{◌≡◌, ⊎_elim, ℕ, zero, suc, ◌+◌, ◌-◌, ◌*◌, ◌/◌, ◌^◌, ◌<◌, ◌≤◌, Bool, true, false, if◌then◌else◌, List, [], ◌∷◌, ◌++◌, length, take, set, get_or, refl, ap, sym, ◌∙◌, arith, mul-le-mul_right}
use Rattle.std.specs.Prelude.{nat_le, ◌&&◌}
use Rattle.std.proofs.Math.Nat.{one-le-pow, mul-le-mul_left}
use Rattle.std.proofs.lemmas.Bool.{cases_Bool, and_from, and_parts, leb-false}
use Rattle.std.proofs.lemmas.List.{set_past, take_more, take_all}
use Rattle.cms_fields.specs.Numbers.{up}
use Rattle.cms_model.specs.Sizes.{levels_from, levels, pointers_to, pointer_count, tree_size, directory_more, map_size}
use Rattle.cms_model.proofs.Quotients.{up_spec, up_some, up_below}
use Rattle.cms_held.specs.Renewals.{with_freed}

-- ---- sizes

levels_low : (fan blocks k more : ℕ) → levels_from fan blocks k more ≤ k + more
unfolding levels_from
levels_low fan blocks k zero = omega arith
levels_low fan blocks k (suc more) = go (nat_le blocks (fan ^ k)) (levels_low fan blocks (k + 1) more)
  where
    go : (b : Bool) → levels_from fan blocks (k + 1) more ≤ k + 1 + more → (if b then k else levels_from fan blocks (k + 1) more) ≤ k + suc more
    go true deeper = omega arith
    go false deeper = omega arith

to_few : (fan blocks k : ℕ) → 1 ≤ fan → pointers_to fan blocks k ≤ k * blocks
unfolding pointers_to
to_few fan blocks zero some = omega arith
to_few fan blocks (suc k) some =
    let least = one-le-pow (suc k) fan some in
    let here = up_below blocks (fan ^ suc k) (omega arith) in
    omega (arith, to_few fan blocks k some)

-- no more pointer blocks than 32 a data block
pub nodes_few : (fan blocks : ℕ) → 1 ≤ fan → pointer_count fan blocks ≤ 32 * blocks
unfolding pointer_count levels
nodes_few fan blocks some =
    let k = levels_from fan blocks 0 32 in
    let most : k ≤ 32 = omega (arith, levels_low fan blocks 0 32) in
    let times' : k * blocks ≤ 32 * blocks = mul-le-mul_right blocks most in
    omega (arith, to_few fan blocks k some)

pub directory_small : (files bsize : ℕ) → 1 ≤ bsize → files ≤ 16384 → up (64 * (files + 2)) bsize ≤ 1048704
directory_small files bsize some few = omega (arith, up_below (64 * (files + 2)) bsize some)

pub map_small : (total bsize : ℕ) → 512 ≤ bsize → bsize ≤ 4096 → total < 2 ^ 32 → up (up total 8) bsize ≤ 1048584
map_small total bsize some most few =
    let first = (up_spec total 8 (omega arith)).1 in
    let second = (up_spec (up total 8) bsize (omega arith)).1 in
    let m = up (up total 8) bsize in
    rest m (m * bsize) (up total 8) bsize (mul-le-mul_left m some) second (omega arith) most
  where
    rest : (m wide a b : ℕ) → m * 512 ≤ wide → wide < a + b → a ≤ 536870912 → b ≤ 4096 → m ≤ 1048584
    rest m wide a b le less most small = omega arith

pub map_some : (total bsize : ℕ) → 512 ≤ bsize → 6 ≤ total → 1 ≤ up (up total 8) bsize
map_some total bsize some few = up_some (up total 8) bsize (omega arith) (up_some total 8 (omega arith) (omega arith))

pub directory_some : (files bsize : ℕ) → 512 ≤ bsize → 1 ≤ up (64 * (files + 2)) bsize
directory_some files bsize some = up_some (64 * (files + 2)) bsize (omega arith) (omega arith)

-- the blocks that are needed
pub need_is : (bsize total files d p m q : ℕ) → 1 ≤ d → d ≡ up (64 * (files + 2)) bsize → p ≡ pointer_count (bsize / 4) d → m ≡ up (up total 8) bsize → q ≡ pointer_count (bsize / 4) m
    → (d - 1) + (p + (m + q)) ≡ directory_more bsize files + map_size bsize total
unfolding directory_more map_size tree_size
need_is bsize total files d p m q one is_d is_p is_m is_q =
    let p' : p ≡ pointer_count (bsize / 4) (up (64 * (files + 2)) bsize) = is_p ∙ ap (pointer_count (bsize / 4)) is_d in
    let q' : q ≡ pointer_count (bsize / 4) (up (up total 8) bsize) = is_q ∙ ap (pointer_count (bsize / 4)) is_m in
    omega arith

-- ---- a map with blocks freed

freed_append : (xs ys : List ℕ) (bits : List Bool) → with_freed (xs ++ ys) bits ≡ with_freed ys (with_freed xs bits)
unfolding with_freed
freed_append [] ys bits = refl
freed_append (x ∷ xs) ys bits = freed_append xs ys (if nat_le 6 x then set bits (x - 1) false else bits)

-- one list after another
pub freed_all : (a b c d e f : List ℕ) (b0 b1 b2 b3 b4 b5 b6 : List Bool) → b1 ≡ with_freed a b0 → b2 ≡ with_freed b b1 → b3 ≡ with_freed c b2 → b4 ≡ with_freed d b3 → b5 ≡ with_freed e b4
    → b6 ≡ with_freed f b5
    → b6 ≡ with_freed (a ++ (b ++ (c ++ (d ++ (e ++ f))))) b0
freed_all a b c d e f b0 b1 b2 b3 b4 b5 b6 e1 e2 e3 e4 e5 e6 =
    e6 ∙ (ap (with_freed f) e5 ∙ (sym (freed_append e f b4) ∙ (ap (with_freed (e ++ f)) e4 ∙ (sym (freed_append d (e ++ f) b3)
    ∙ (ap (with_freed (d ++ (e ++ f))) e3 ∙ (sym (freed_append c (d ++ (e ++ f)) b2) ∙ (ap (with_freed (c ++ (d ++ (e ++ f)))) e2 ∙ (sym (freed_append b (c ++ (d ++ (e ++ f))) b1)
    ∙ (ap (with_freed (b ++ (c ++ (d ++ (e ++ f))))) e1 ∙ sym (freed_append a (b ++ (c ++ (d ++ (e ++ f)))) b0))))))))))

freed_one : (n : ℕ) (bits : List Bool) → with_freed (n ∷ []) bits ≡ (if nat_le 6 n then set bits (n - 1) false else bits)
unfolding with_freed
freed_one n bits = refl

pub freed_none : (bits : List Bool) → bits ≡ with_freed [] bits
unfolding with_freed
freed_none bits = refl

freed_more : (ns : List ℕ) (i : ℕ) (bits : List Bool) → i < length ns → with_freed (take (i + 1) ns) bits ≡ with_freed (get_or ns i 0 ∷ []) (with_freed (take i ns) bits)
freed_more ns i bits within = ap (λ (l : List ℕ). with_freed l bits) (take_more ns i 0 within) ∙ freed_append (take i ns) (get_or ns i 0 ∷ []) bits

-- the block at a place, released where it may be free
pub released_more : (ns : List ℕ) (i total : ℕ) (old now : List Bool) → i < length ns → now ≡ with_freed (take i ns) old → (nat_le 6 (get_or ns i 0) && nat_le (get_or ns i 0) total) ≡ true
    → set now (get_or ns i 0 - 1) false ≡ with_freed (take (i + 1) ns) old
released_more ns i total old now within is can =
    let n = get_or ns i 0 in
    let late = (and_parts (nat_le 6 n) (nat_le n total) can).0 in
    let one : with_freed (n ∷ []) now ≡ set now (n - 1) false = freed_one n now ∙ rw late refl in
    sym one ∙ (ap (with_freed (n ∷ [])) is ∙ sym (freed_more ns i old within))

pub passed_more : (ns : List ℕ) (i total : ℕ) (old now : List Bool) → i < length ns → now ≡ with_freed (take i ns) old → length now ≡ total
    → (nat_le 6 (get_or ns i 0) && nat_le (get_or ns i 0) total) ≡ false
    → now ≡ with_freed (take (i + 1) ns) old
passed_more ns i total old now within is long can =
    let n = get_or ns i 0 in
    sym (freed_one n now ∙ same (nat_le 6 n) refl) ∙ (ap (with_freed (n ∷ [])) is ∙ sym (freed_more ns i old within))
  where
    clash : true ≡ false → ⊥
    clash e = cc

    same : (b : Bool) → nat_le 6 (get_or ns i 0) ≡ b → (if b then set now (get_or ns i 0 - 1) false else now) ≡ now
    same false e = refl
    same true e = ⊎_elim
        (λ (low : nat_le (get_or ns i 0) total ≡ true). absurd (clash (sym (and_from (nat_le 6 (get_or ns i 0)) (nat_le (get_or ns i 0) total) e low) ∙ can)))
        (λ (past : nat_le (get_or ns i 0) total ≡ false). set_past now (get_or ns i 0 - 1) false (let high = leb-false (get_or ns i 0) total past in omega arith))
        (cases_Bool (nat_le (get_or ns i 0) total))

pub released_whole : (ns : List ℕ) (i : ℕ) (old now : List Bool) → length ns ≤ i → now ≡ with_freed (take i ns) old → now ≡ with_freed ns old
released_whole ns i old now past is = is ∙ ap (λ (l : List ℕ). with_freed l old) (take_all i ns past)

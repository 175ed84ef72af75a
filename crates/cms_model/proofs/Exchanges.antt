-- The blocks that are taken for a tree that shares blocks with the one before, and those that are given back.
use Rattle.std.proofs.Common.{◌≡◌, ⊎_elim, ℕ, zero, suc, ◌+◌, ◌-◌, ◌*◌, ◌^◌, ◌<◌, ◌≤◌, min, Bool, true, false, not, if◌then◌else◌, List, length, refl, sym, ◌∙◌, ap, subst, arith}
use Rattle.std.specs.Prelude.{◌==◌, ◌&&◌, nat_le}
use Rattle.std.proofs.Math.Nat.{one-le-pow}
use Rattle.std.proofs.lemmas.Bool.{cases_eq, cases_lt, eqb-true, false_from_ne_true, le-leb, lt-leb}
use Rattle.cms_fields.specs.Numbers.{up}
use Rattle.cms_model.specs.SharedTrees.{SizeIsExchanged, TakesItsSize, any_within, fresh_count, fresh_on, fresh_to, is_kept, released_count}
use Rattle.cms_model.specs.Sizes.{levels, pointer_count, pointers_to, tree_size}
use Rattle.cms_model.proofs.Quotients.{up_spec}
use Rattle.cms_model.proofs.SharedTrees.{kept_inside}
use Rattle.cms_model.proofs.WrittenBlocks.{fresh_leaves, upto_all, written_few}

clash : true ≡ false → ⊥
clash e = cc

-- ---- what is kept of one is kept of the other

swapped : (f : ℕ → Bool) (a b : ℕ) → (true && (a == b) && not (f b)) ≡ (true && (b == a) && not (f a))
swapped f a b = ⊎_elim
    (λ (e : a ≡ b). subst (λ (n : ℕ). (true && (a == n) && not (f n)) ≡ (true && (n == a) && not (f a))) e refl)
    (λ (ne : a ≡ b → ⊥).
    let one : (a == b) ≡ false = false_from_ne_true (a == b) (λ same. ne (eqb-true a b same)) in
    let two : (b == a) ≡ false = false_from_ne_true (b == a) (λ same. ne (sym (eqb-true b a same))) in
    rw (one, two) refl)
    (cases_eq a b)

kept_swapped : (size before count : ℕ) (written : List ℕ) (j : ℕ) → is_kept true size before count written j ≡ is_kept true size count before written j
unfolding is_kept
kept_swapped size before count written j = swapped (λ top. any_within (j * size) top written) (min ((j + 1) * size) before) (min ((j + 1) * size) count)

fresh_swapped : (size before count : ℕ) (written : List ℕ) (n : ℕ) → fresh_on true size before count written n ≡ fresh_on true size count before written n
unfolding fresh_on
fresh_swapped size before count written zero = refl
fresh_swapped size before count written (suc j) = rw (kept_swapped size before count written j) (ap (λ (n : ℕ). n + (if is_kept true size count before written j then 0 else 1)) (fresh_swapped size before count written j))

-- behind the blocks of the tree before none is kept
fresh_past : (size before count : ℕ) (written : List ℕ) (k d : ℕ) → 1 ≤ size → up before size ≤ k → k + d ≤ up count size
    → fresh_on true size before count written (k + d) ≡ fresh_on true size before count written k + d
unfolding fresh_on
fresh_past size before count written k zero some past within = let e : k + 0 ≡ k = omega arith in rw e (omega arith)
fresh_past size before count written k (suc d) some past within =
    let e : k + suc d ≡ suc (k + d) = omega arith in
    let off : is_kept true size before count written (k + d) ≡ false = false_from_ne_true (is_kept true size before count written (k + d))
    (λ is. let less = (kept_inside true size before count written (k + d) some (omega arith) is).1 in omega arith) in
    let rest = fresh_past size before count written k d some past (omega arith) in
    rw (e, off) (omega arith)

level_swapped : (size before count : ℕ) (written : List ℕ) → 1 ≤ size
    → fresh_on true size before count written (up count size) + up before size ≡ fresh_on true size count before written (up before size) + up count size
level_swapped size before count written some = ⊎_elim
    (λ (less : up count size < up before size).
    let d = up before size - up count size in
    let e : up count size + d ≡ up before size = omega arith in
    let past = fresh_past size count before written (up count size) d some (omega arith) (omega arith) in
    let past' = subst (λ (n : ℕ). fresh_on true size count before written n ≡ fresh_on true size count before written (up count size) + d) e past in
    let same = fresh_swapped size before count written (up count size) in
    omega arith)
    (λ (more : up before size ≤ up count size).
    let d = up count size - up before size in
    let e : up before size + d ≡ up count size = omega arith in
    let past = fresh_past size before count written (up before size) d some (omega arith) (omega arith) in
    let past' = subst (λ (n : ℕ). fresh_on true size before count written n ≡ fresh_on true size before count written (up before size) + d) e past in
    let same = fresh_swapped size before count written (up before size) in
    omega arith)
    (cases_lt (up count size) (up before size))

-- ---- on all levels

-- those that both trees have
to_swapped : (fan before count : ℕ) (written : List ℕ) (k : ℕ) → 2 ≤ fan → k ≤ levels fan before → k ≤ levels fan count
    → fresh_to fan before count written k + pointers_to fan before k ≡ fresh_to fan count before written k + pointers_to fan count k
unfolding fresh_to pointers_to
to_swapped fan before count written zero wide low low' = refl
to_swapped fan before count written (suc i) wide low low' =
    let rest = to_swapped fan before count written i wide (omega arith) (omega arith) in
    let level = level_swapped (fan ^ suc i) before count written (one-le-pow (suc i) fan (omega arith)) in
    let one : nat_le (suc i) (levels fan before) ≡ true = le-leb (suc i) (levels fan before) low in
    let two : nat_le (suc i) (levels fan count) ≡ true = le-leb (suc i) (levels fan count) low' in
    rw (one, two) (omega arith)

none_had : (size before count : ℕ) (written : List ℕ) (n : ℕ) → fresh_on false size before count written n ≡ n
unfolding fresh_on is_kept
none_had size before count written zero = refl
none_had size before count written (suc j) = let rest = none_had size before count written j in omega arith

-- those that the tree before lacks
to_rest : (fan before count : ℕ) (written : List ℕ) (k d : ℕ) → levels fan before ≤ k
    → fresh_to fan before count written (k + d) + pointers_to fan count k ≡ fresh_to fan before count written k + pointers_to fan count (k + d)
unfolding fresh_to pointers_to
to_rest fan before count written k zero past = let e : k + 0 ≡ k = omega arith in rw e refl
to_rest fan before count written k (suc d) past =
    let e : k + suc d ≡ suc (k + d) = omega arith in
    let off : nat_le (suc (k + d)) (levels fan before) ≡ false = lt-leb (suc (k + d)) (levels fan before) (omega arith) in
    let all = none_had (fan ^ suc (k + d)) before count written (up count (fan ^ suc (k + d))) in
    let rest = to_rest fan before count written k d past in
    rw (e, off) (omega arith)

nodes_exchanged : (fan before count : ℕ) (written : List ℕ) → 2 ≤ fan
    → fresh_to fan before count written (levels fan count) + pointers_to fan before (levels fan before)
    ≡ fresh_to fan count before written (levels fan before) + pointers_to fan count (levels fan count)
nodes_exchanged fan before count written wide = ⊎_elim
    (λ (less : levels fan count < levels fan before).
    let k = levels fan count in
    let d = levels fan before - k in
    let e : k + d ≡ levels fan before = omega arith in
    let swap = to_swapped fan before count written k wide (omega arith) (omega arith) in
    let rest = subst (λ (n : ℕ). fresh_to fan count before written n + pointers_to fan before k ≡ fresh_to fan count before written k + pointers_to fan before n) e
    (to_rest fan count before written k d (omega arith)) in
    omega arith)
    (λ (more : levels fan before ≤ levels fan count).
    let k = levels fan before in
    let d = levels fan count - k in
    let e : k + d ≡ levels fan count = omega arith in
    let swap = to_swapped fan before count written k wide (omega arith) (omega arith) in
    let rest = subst (λ (n : ℕ). fresh_to fan before count written n + pointers_to fan count k ≡ fresh_to fan before count written k + pointers_to fan count n) e
    (to_rest fan before count written k d (omega arith)) in
    omega arith)
    (cases_lt (levels fan count) (levels fan before))

-- data blocks one by one
up_one : (n : ℕ) → up n 1 ≡ n
up_one n = let s = up_spec n 1 (omega arith) in let a = s.0 in let b = s.1 in omega arith

pub size_is_exchanged : SizeIsExchanged
unfolding tree_size released_count fresh_count pointer_count
size_is_exchanged fan before count written wide may =
    let level = level_swapped 1 before count written (omega arith) in
    let one = up_one before in
    let two = up_one count in
    let leaves : fresh_on true 1 before count written count + before ≡ fresh_on true 1 count before written before + count =
    subst (λ (n : ℕ). fresh_on true 1 before count written count + n ≡ fresh_on true 1 count before written n + count) one
    (subst (λ (n : ℕ). fresh_on true 1 before count written n + up before 1 ≡ fresh_on true 1 count before written (up before 1) + n) two level) in
    let written' : fresh_on true 1 before count written count ≡ length written = fresh_leaves before count count written may (omega arith) ∙ upto_all written count may.within in
    let nodes = nodes_exchanged fan before count written wide in
    omega arith

-- ---- no more than it has

pub fresh_few : (had : Bool) (size before count : ℕ) (written : List ℕ) (n : ℕ) → fresh_on had size before count written n ≤ n
unfolding fresh_on
fresh_few had size before count written zero = omega arith
fresh_few had size before count written (suc j) = go (is_kept had size before count written j) (fresh_few had size before count written j)
  where
    go : (b : Bool) → fresh_on had size before count written j ≤ j → fresh_on had size before count written j + (if b then 0 else 1) ≤ suc j
    go true rest = omega arith
    go false rest = omega arith

pub to_few : (fan before count : ℕ) (written : List ℕ) (k : ℕ) → fresh_to fan before count written k ≤ pointers_to fan count k
unfolding fresh_to pointers_to
to_few fan before count written zero = omega arith
to_few fan before count written (suc i) =
    let rest = to_few fan before count written i in
    let level = fresh_few (nat_le (suc i) (levels fan before)) (fan ^ suc i) before count written (up count (fan ^ suc i)) in
    omega arith

pub takes_its_size : TakesItsSize
unfolding tree_size fresh_count pointer_count
takes_its_size fan before count written may =
    let few = written_few before count written may in
    let nodes = to_few fan before count written (levels fan count) in
    omega arith

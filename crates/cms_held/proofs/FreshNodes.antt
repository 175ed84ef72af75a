-- The pointer blocks that aren't kept, by their places among all of a tree, are those of its levels.
use Rattle.std.proofs.Common.{◌≡◌, ℕ, zero, suc, ◌+◌, ◌-◌, ◌*◌, ◌/◌, ◌^◌, ◌<◌, ◌≤◌, Bool, true, false, if◌then◌else◌, List, [], ◌∷◌, ◌++◌, length, map, take, drop, get_or, refl, sym, ◌∙◌, ap, arith, append-nil, append_assoc, mul-pos, zero-add}
use Rattle.std.specs.Prelude.{nat_le}
use Rattle.std.specs.List.{concat}
use Rattle.std.proofs.Math.Nat.{pow-suc, pow-zero}
use Rattle.std.proofs.Math.Seq.{take-suc}
use Rattle.std.proofs.lemmas.Bool.{le-leb, lt-leb}
use Rattle.std.proofs.lemmas.List.{drop-drop, get_or-drop, get_or-take, get_or_append_left, get_or-append_right, length-take-le, length-drop, map-append, take_all}
use Rattle.cms_fields.specs.Numbers.{up}
use Rattle.cms_model.specs.LawsTrees.{cell_bytes}
use Rattle.cms_model.specs.Settled.{Write}
use Rattle.cms_model.specs.SharedTrees.{is_kept}
use Rattle.cms_model.specs.SharedTiers.{group}
use Rattle.cms_model.specs.Sizes.{levels, pointer_count, pointers_to}
use Rattle.cms_model.proofs.Cuts.{get_or_cut, length_cut}
use Rattle.cms_model.proofs.Quotients.{up_up}
use Rattle.cms_tree.specs.Builds.{Child, all_over, cell_of, level_over, marked, node_at, node_bytes, parents}
use Rattle.cms_tree.specs.Paths.{fresh_places, levels_of, places_on, places_to}
use Rattle.cms_tree.proofs.BuiltTrees.{blocks-parents, blocks_of, drop-blocks, length-blocks, take-blocks}
use Rattle.cms_tree.proofs.LevelsBuilt.{up_one}
use Rattle.cms_tree.proofs.Paths.{count_first, left_count}
use Rattle.cms_held.specs.HeldVolumes.{HeldTree}
use Rattle.cms_held.specs.SharedWrites.{fresh_writes, shared_node_writes, tier_writes}
use Rattle.cms_held.specs.Systems.{leaf_writes, nodes_at}

-- ---- places level by level

-- those of the levels from one on
unfoldable places_from : ℕ → ℕ → ℕ → ℕ → List ℕ → ℕ → ℕ → ℕ → List ℕ
places_from fan size before count written h at zero = []
places_from fan size before count written zero at (suc k) =
    places_on false (size * fan) before count written at (up count (size * fan))
    ++ places_from fan (size * fan) before count written zero (at + up count (size * fan)) k
places_from fan size before count written (suc h) at (suc k) =
    places_on true (size * fan) before count written at (up count (size * fan))
    ++ places_from fan (size * fan) before count written h (at + up count (size * fan)) k

places_left : (fan before count : ℕ) (written : List ℕ) (h i k : ℕ) → h ≡ levels fan before - i
    → places_to fan before count written i ++ places_from fan (fan ^ i) before count written h (pointers_to fan count i) k ≡ places_to fan before count written (i + k)
unfolding places_to places_from pointers_to
places_left fan before count written h i zero is = let e : i + 0 ≡ i = omega arith in rw e (append-nil (places_to fan before count written i))
places_left fan before count written zero i (suc k) is =
    let e : i + suc k ≡ suc i + k = omega arith in
    let power : fan ^ i * fan ≡ fan ^ suc i = sym (pow-suc fan i) in
    let none : nat_le (suc i) (levels fan before) ≡ false = lt-leb (suc i) (levels fan before) (omega arith) in
    let deeper = places_left fan before count written zero (suc i) k (omega arith) in
    let deeper' = rw none at deeper in
    rw (e, power) (sym (append_assoc (places_to fan before count written i) (places_on false (fan ^ suc i) before count written (pointers_to fan count i) (up count (fan ^ suc i)))
    (places_from fan (fan ^ suc i) before count written zero (pointers_to fan count i + up count (fan ^ suc i)) k)) ∙ deeper')
places_left fan before count written (suc h) i (suc k) is =
    let e : i + suc k ≡ suc i + k = omega arith in
    let power : fan ^ i * fan ≡ fan ^ suc i = sym (pow-suc fan i) in
    let there : nat_le (suc i) (levels fan before) ≡ true = le-leb (suc i) (levels fan before) (omega arith) in
    let deeper = places_left fan before count written h (suc i) k (omega arith) in
    let deeper' = rw there at deeper in
    rw (e, power) (sym (append_assoc (places_to fan before count written i) (places_on true (fan ^ suc i) before count written (pointers_to fan count i) (up count (fan ^ suc i)))
    (places_from fan (fan ^ suc i) before count written h (pointers_to fan count i + up count (fan ^ suc i)) k)) ∙ deeper')

places_all : (fan before count : ℕ) (written : List ℕ) → places_from fan 1 before count written (levels fan before) 0 (levels fan count) ≡ fresh_places fan before count written
unfolding places_to pointers_to
places_all fan before count written =
    let k = levels fan count in
    let e : 0 + k ≡ k = omega arith in
    let all = places_left fan before count written (levels fan before) 0 k (omega arith) in
    ap (λ (s : ℕ). places_from fan s before count written (levels fan before) 0 k) (sym (pow-zero fan)) ∙ (all ∙ ap (places_to fan before count written) e)

-- ---- the bytes of a pointer block are those of the numbers below it

bytes_are : (group : List Child) → concat (map (λ child. cell_bytes (cell_of 4 child)) group) ≡ concat (map (λ (n : ℕ). cell_bytes (record { block = n; beside = [] })) (blocks_of group))
bytes_are [] = refl
bytes_are (c ∷ cs) = ap (λ (l : List ℕ). cell_bytes (record { block = c.block; beside = [] }) ++ l) (bytes_are cs)

same_node : (bsize : ℕ) (g h : List Child) → blocks_of g ≡ blocks_of h → node_bytes bsize 4 g ≡ node_bytes bsize 4 h
unfolding node_bytes
same_node bsize g h same =
    let long : length g ≡ length h = sym (length-blocks g) ∙ (ap (λ (l : List ℕ). length l) same ∙ length-blocks h) in
    let bytes = bytes_are g ∙ (ap (λ (l : List ℕ). concat (map (λ (n : ℕ). cell_bytes (record { block = n; beside = [] })) l)) same ∙ sym (bytes_are h)) in
    rw (bytes, long) refl

marked_blocks : (ns : List ℕ) → blocks_of (marked ns []) ≡ ns
unfolding marked
marked_blocks [] = refl
marked_blocks (n ∷ ns) = ap (λ (l : List ℕ). n ∷ l) (marked_blocks ns)

-- that of a group of a level
group_node : (bsize fan : ℕ) (below : List Child) (j : ℕ) → node_bytes bsize 4 (take fan (drop (j * fan) below)) ≡ node_bytes bsize 4 (marked (group fan (blocks_of below) j) [])
group_node bsize fan below j =
    same_node bsize (take fan (drop (j * fan) below)) (marked (group fan (blocks_of below) j) [])
    (sym (marked_blocks (group fan (blocks_of below) j)
    ∙ (ap (take fan) (drop-blocks (j * fan) below) ∙ take-blocks fan (drop (j * fan) below))))

-- ---- a level

-- a write unless the block is kept
abbrev unless_kept : Bool → Write → List Write
unless_kept kept w = if kept then [] else w ∷ []

tier_more : (bsize fan : ℕ) (kept : ℕ → Bool) (below : List ℕ) (k : ℕ) (ns : List ℕ) (n : ℕ)
    → tier_writes bsize fan kept below k (ns ++ n ∷ []) ≡ tier_writes bsize fan kept below k ns
    ++ unless_kept (kept (k + length ns)) (record { block = n; bytes = node_bytes bsize 4 (marked (group fan below (k + length ns)) []) })
unfolding tier_writes
tier_more bsize fan kept below k [] n =
    let e : k ≡ k + 0 = omega arith in
    ap (λ (i : ℕ). unless_kept (kept i) (record { block = n; bytes = node_bytes bsize 4 (marked (group fan below i) []) })) e
tier_more bsize fan kept below k (m ∷ ns) n =
    let e : suc k + length ns ≡ k + suc (length ns) = omega arith in
    let w : ℕ → Write = λ i. record { block = n; bytes = node_bytes bsize 4 (marked (group fan below i) []) } in
    let rest = tier_more bsize fan kept below (suc k) ns n ∙ ap (λ (i : ℕ). tier_writes bsize fan kept below (suc k) ns ++ unless_kept (kept i) (w i)) e in
    go (kept k) (tier_writes bsize fan kept below (suc k) (ns ++ n ∷ [])) (tier_writes bsize fan kept below (suc k) ns) (unless_kept (kept (k + suc (length ns))) (w (k + suc (length ns)))) rest
  where
    first : Write
    first = record { block = m; bytes = node_bytes bsize 4 (marked (group fan below k) []) }

    go : (b : Bool) (xs ys zs : List Write) → xs ≡ ys ++ zs → (if b then xs else first ∷ xs) ≡ (if b then ys else first ∷ ys) ++ zs
    go true xs ys zs same = same
    go false xs ys zs same = ap (λ (l : List Write). first ∷ l) same

leaf_more : (leaves : List ℕ) (piece : ℕ → List ℕ) (xs ys : List ℕ) → leaf_writes leaves piece (xs ++ ys) ≡ leaf_writes leaves piece xs ++ leaf_writes leaves piece ys
leaf_more leaves piece xs ys = map-append (λ (j : ℕ). record { block = get_or leaves j 0; bytes = piece j }) xs ys

-- the first so many blocks of a level, which stand in a list from a place on
level_at : (bsize fan : ℕ) (had : Bool) (size before count : ℕ) (written below all tier : List ℕ) (piece : ℕ → List ℕ) (at m n : ℕ) → n ≤ m → length tier ≡ m
    → ((j : ℕ) → j < m → get_or tier j 0 ≡ get_or all (at + j) 0)
    → ((j : ℕ) → j < m → piece (at + j) ≡ node_bytes bsize 4 (marked (group fan below j) []))
    → tier_writes bsize fan (is_kept had size before count written) below 0 (take n tier) ≡ leaf_writes all piece (places_on had size before count written at n)
unfolding tier_writes places_on
level_at bsize fan had size before count written below all tier piece at m zero few long same bytes = refl
level_at bsize fan had size before count written below all tier piece at m (suc n) few long same bytes =
    let kept = is_kept had size before count written in
    let front = take n tier in
    let more : take (suc n) tier ≡ front ++ get_or tier n 0 ∷ [] = take-suc tier n 0 (omega arith) in
    let len : length front ≡ n = length-take-le n tier (omega arith) in
    let at_n : 0 + length front ≡ n = omega arith in
    let rest = level_at bsize fan had size before count written below all tier piece at m n (omega arith) long same bytes in
    let here : tier_writes bsize fan kept below 0 (front ++ get_or tier n 0 ∷ []) ≡ tier_writes bsize fan kept below 0 front
    ++ (if kept n then [] else record { block = get_or tier n 0; bytes = node_bytes bsize 4 (marked (group fan below n) []) } ∷ []) = rw at_n at (tier_more bsize fan kept below 0 front (get_or tier n 0)) in
    ap (tier_writes bsize fan kept below 0) more ∙ (here ∙ (rw rest (go (kept n) (same n (omega arith)) (bytes n (omega arith)))))
  where
    go : (b : Bool) → get_or tier n 0 ≡ get_or all (at + n) 0 → piece (at + n) ≡ node_bytes bsize 4 (marked (group fan below n) [])
        → leaf_writes all piece (places_on had size before count written at n) ++ (if b then [] else record { block = get_or tier n 0; bytes = node_bytes bsize 4 (marked (group fan below n) []) } ∷ [])
        ≡ leaf_writes all piece (places_on had size before count written at n ++ (if b then [] else (at + n) ∷ []))
    go true block node = sym (leaf_more all piece (places_on had size before count written at n) [])
    go false block node =
        ap (λ (w : Write). leaf_writes all piece (places_on had size before count written at n) ++ w ∷ [])
        (ap (λ (x : ℕ). record { block = x; bytes = node_bytes bsize 4 (marked (group fan below n) []) }) block
        ∙ ap (λ (l : List ℕ). record { block = get_or all (at + n) 0; bytes = l }) (sym node))
        ∙ sym (leaf_more all piece (places_on had size before count written at n) ((at + n) ∷ []))

-- ---- all levels

-- what is known of the levels from one on: the pointer blocks stand in a list from a place on, and have the bytes that they are built with
record Above (bsize fan size count : ℕ) (below : List Child) (all : List ℕ) (piece : ℕ → List ℕ) (at k : ℕ) : Type 0 where
  some : 1 ≤ fan
  unit : 1 ≤ size
  wide : length below ≡ up count size
  enough : at + left_count fan size count k ≤ length all
  bytes : (n : ℕ) → n < left_count fan size count k → piece (at + n) ≡ node_bytes bsize 4 (get_or (all_over fan k below (drop at all)) n [])

-- how the next level is counted
up_next : (bsize fan size count : ℕ) (below : List Child) (all : List ℕ) (piece : ℕ → List ℕ) (at k : ℕ) → Above bsize fan size count below all piece at (suc k) → up (length below) fan ≡ up count (size * fan)
up_next bsize fan size count below all piece at k a = ap (λ (n : ℕ). up n fan) a.wide ∙ up_up count size fan a.unit a.some

here_bytes : (bsize fan size count : ℕ) (below : List Child) (all : List ℕ) (piece : ℕ → List ℕ) (at k : ℕ) → (a : Above bsize fan size count below all piece at (suc k)) → (j : ℕ) → j < up count (size * fan)
    → piece (at + j) ≡ node_bytes bsize 4 (marked (group fan (blocks_of below) j) [])
unfolding all_over left_count
here_bytes bsize fan size count below all piece at k a j less =
    let level = level_over fan below in
    let m = up_next bsize fan size count below all piece at k a in
    let long : length level ≡ up (length below) fan = length_cut (up (length below) fan) fan below in
    a.bytes j (omega arith)
    ∙ (ap (node_bytes bsize 4) (get_or_append_left level (all_over fan k (parents (drop at all) level) (drop (length level) (drop at all))) [] j (omega arith) ∙ get_or_cut (up (length below) fan) fan j below (omega arith))
    ∙ group_node bsize fan below j)

next_above : (bsize fan size count : ℕ) (below : List Child) (all : List ℕ) (piece : ℕ → List ℕ) (at k : ℕ) → Above bsize fan size count below all piece at (suc k)
    → Above bsize fan (size * fan) count (parents (drop at all) (level_over fan below)) all piece (at + up count (size * fan)) k
unfolding all_over left_count
next_above bsize fan size count below all piece at k a =
    let level = level_over fan below in
    let m = up count (size * fan) in
    let is = up_next bsize fan size count below all piece at k a in
    let long : length level ≡ m = length_cut (up (length below) fan) fan below ∙ is in
    let enough = a.enough in
    let behind = length-drop at all in
    let numbers : blocks_of (parents (drop at all) level) ≡ take (length level) (drop at all) = blocks-parents (drop at all) level (omega arith) in
    let some = a.some in
    let unit = a.unit in
    record {
      some = a.some;
      unit = mul_some size fan unit some;
      wide = sym (length-blocks (parents (drop at all) level)) ∙ (ap (λ (l : List ℕ). length l) numbers ∙ (length-take-le (length level) (drop at all) (omega arith) ∙ long));
      enough = omega arith;
      bytes = λ n less.
          let e : at + (m + n) ≡ at + m + n = omega arith in
          let d : drop (length level) (drop at all) ≡ drop (at + m) all = ap (λ (x : ℕ). drop x (drop at all)) long ∙ drop-drop m at all in
          ap piece (sym e) ∙ (a.bytes (m + n) (omega arith)
          ∙ (ap (node_bytes bsize 4) (get_or-append_right level (all_over fan k (parents (drop at all) level) (drop (length level) (drop at all))) m (m + n) [] long (omega arith)
          ∙ ap (λ (i : ℕ). get_or (all_over fan k (parents (drop at all) level) (drop (length level) (drop at all))) i []) (omega arith))
          ∙ ap (λ (l : List ℕ). node_bytes bsize 4 (get_or (all_over fan k (parents (drop at all) level) l) n [])) d));
    }
  where
    mul_some : (a b : ℕ) → 1 ≤ a → 1 ≤ b → 1 ≤ a * b
    mul_some a b x y = mul-pos x y

-- the blocks of the next level
next_blocks : (bsize fan size count : ℕ) (below : List Child) (all : List ℕ) (piece : ℕ → List ℕ) (at k : ℕ) → Above bsize fan size count below all piece at (suc k)
    → take (up count (size * fan)) (drop at all) ≡ blocks_of (parents (drop at all) (level_over fan below))
unfolding left_count
next_blocks bsize fan size count below all piece at k a =
    let level = level_over fan below in
    let is = up_next bsize fan size count below all piece at k a in
    let long : length level ≡ up count (size * fan) = length_cut (up (length below) fan) fan below ∙ is in
    let enough = a.enough in
    let behind = length-drop at all in
    ap (λ (n : ℕ). take n (drop at all)) (sym long) ∙ sym (blocks-parents (drop at all) level (omega arith))

-- the first level of them
here_writes : (bsize fan : ℕ) (had : Bool) (size before count : ℕ) (written : List ℕ) (below : List Child) (all : List ℕ) (piece : ℕ → List ℕ) (at k : ℕ) → Above bsize fan size count below all piece at (suc k)
    → tier_writes bsize fan (is_kept had (size * fan) before count written) (blocks_of below) 0 (take (up count (size * fan)) (drop at all))
    ≡ leaf_writes all piece (places_on had (size * fan) before count written at (up count (size * fan)))
unfolding left_count
here_writes bsize fan had size before count written below all piece at k a =
    let m = up count (size * fan) in
    let enough = a.enough in
    let behind = length-drop at all in
    let tier = take m (drop at all) in
    let long : length tier ≡ m = length-take-le m (drop at all) (omega arith) in
    ap (tier_writes bsize fan (is_kept had (size * fan) before count written) (blocks_of below) 0) (sym (take_all m tier (omega arith)))
    ∙ level_at bsize fan had (size * fan) before count written (blocks_of below) all tier piece at m m (omega arith) long
    (λ j less. get_or-take m (drop at all) j 0 less ∙ get_or-drop at all j 0)
    (here_bytes bsize fan size count below all piece at k a)

levels_written : (bsize fan size before count : ℕ) (written olds : List ℕ) (below : List Child) (all : List ℕ) (piece : ℕ → List ℕ) (at h k : ℕ) → Above bsize fan size count below all piece at k
    → fresh_writes bsize fan size before count written (levels_of fan size before h olds) (blocks_of below) (levels_of fan size count k (drop at all))
    ≡ leaf_writes all piece (places_from fan size before count written h at k)
unfolding fresh_writes levels_of places_from
levels_written bsize fan size before count written olds below all piece at zero zero a = refl
levels_written bsize fan size before count written olds below all piece at (suc h) zero a = refl
levels_written bsize fan size before count written olds below all piece at zero (suc k) a =
    let m = up count (size * fan) in
    let here = here_writes bsize fan false size before count written below all piece at k a in
    let above = parents (drop at all) (level_over fan below) in
    let rest = levels_written bsize fan (size * fan) before count written olds above all piece (at + m) zero k (next_above bsize fan size count below all piece at k a) in
    let tier = next_blocks bsize fan size count below all piece at k a in
    let behind = drop-drop m at all in
    let rest' : fresh_writes bsize fan (size * fan) before count written [] (take m (drop at all)) (levels_of fan (size * fan) count k (drop m (drop at all)))
    ≡ leaf_writes all piece (places_from fan (size * fan) before count written zero (at + m) k) = rw (tier, behind) rest in
    rw (here, rest') (sym (leaf_more all piece (places_on false (size * fan) before count written at m) (places_from fan (size * fan) before count written zero (at + m) k)))
levels_written bsize fan size before count written olds below all piece at (suc h) (suc k) a =
    let m = up count (size * fan) in
    let here = here_writes bsize fan true size before count written below all piece at k a in
    let above = parents (drop at all) (level_over fan below) in
    let rest = levels_written bsize fan (size * fan) before count written (drop (up before (size * fan)) olds) above all piece (at + m) h k (next_above bsize fan size count below all piece at k a) in
    let tier = next_blocks bsize fan size count below all piece at k a in
    let behind = drop-drop m at all in
    let rest' : fresh_writes bsize fan (size * fan) before count written (levels_of fan (size * fan) before h (drop (up before (size * fan)) olds)) (take m (drop at all)) (levels_of fan (size * fan) count k (drop m (drop at all)))
    ≡ leaf_writes all piece (places_from fan (size * fan) before count written h (at + m) k) = rw (tier, behind) rest in
    rw (here, rest') (sym (leaf_more all piece (places_on true (size * fan) before count written at m) (places_from fan (size * fan) before count written h (at + m) k)))

-- ---- the whole

pub nodes_are : (bsize : ℕ) (written : List ℕ) (old new : HeldTree) → 1 ≤ bsize / 4 → length new.pointers ≡ pointer_count (bsize / 4) (length new.leaves)
    → nodes_at bsize new (fresh_places (bsize / 4) (length old.leaves) (length new.leaves) written) ≡ shared_node_writes bsize written old new
unfolding pointer_count
nodes_are bsize written old new some numbers =
    let fan = bsize / 4 in
    let count = length new.leaves in
    let before = length old.leaves in
    let k = levels fan count in
    let piece : ℕ → List ℕ = node_at bsize 4 new.leaves [] new.pointers in
    let first = count_first fan count k in
    let children = marked new.leaves [] in
    let long : length children ≡ up count 1 = sym (length-blocks children) ∙ (ap (λ (l : List ℕ). length l) (marked_blocks new.leaves) ∙ sym (up_one count)) in
    let above : Above bsize fan 1 count children new.pointers piece 0 k = record {
      some = some;
      unit = omega arith;
      wide = long;
      enough = omega arith;
      bytes = λ n less. ap piece (zero-add n);
    } in
    let all = levels_written bsize fan 1 before count written old.pointers children new.pointers piece 0 (levels fan before) k above in
    let all' = rw (marked_blocks new.leaves) at all in
    sym (all' ∙ ap (leaf_writes new.pointers piece) (places_all fan before count written))

-- The data blocks of the map that an update writes are enough.
use Rattle.std.proofs.Common.{◌≡◌, ◌≢◌, ◌⊎◌, inl, inr, ⊎_elim, ℕ, zero, suc, ◌+◌, ◌-◌, ◌*◌, ◌/◌, ◌<◌, ◌≤◌, min, Bool, true, false, if◌then◌else◌, List, [], ◌∷◌, ◌++◌, length, map, take, drop, set, get_or, refl, sym, ◌∙◌, ap, subst, arith, length-append, length-drop}
use Rattle.std.specs.Prelude.{◌==◌, nat_le}
use Rattle.std.specs.List.{concat}
use Rattle.std.proofs.lemmas.Bool.{cases_eq, leb-true, eq-eqb}
use Rattle.std.proofs.lemmas.List.{length-set, length-take, get_or-set_same, get_or-set_other}
use Rattle.cms_journal.proofs.Sizes.{block_bounds}
use Rattle.cms_fields.specs.Numbers.{up}
use Rattle.cms_model.specs.Lists.{In}
use Rattle.cms_model.specs.SharedTrees.{any_within, is_kept}
use Rattle.cms_model.specs.SharedTimes.{came, gone, without}
use Rattle.cms_model.specs.Sizes.{levels, map_size, pointer_count, tree_size}
use Rattle.cms_model.proofs.Members.{In-either, In-left, In-right}
use Rattle.cms_model.proofs.Quotients.{up_spec}
use Rattle.cms_map.specs.Bits.{free_blocks, with_marked}
use Rattle.cms_map.specs.Touched.{AreTouched, data_block}
use Rattle.cms_map.proofs.Free.{free_are_unused, length-with_marked}
use Rattle.cms_tree.specs.Paths.{levels_of, tree_levels}
use Rattle.cms_model.proofs.DirectoryParts.{in_mapped as in_map}
use Rattle.cms_held.specs.HeldVolumes.{HeldTree}
use Rattle.cms_held.specs.Renewals.{blocks_in, with_freed}
use Rattle.cms_held.proofs.MapMarks.{length_freed}
use Rattle.cms_held.specs.MapShares.{TurnedIsEnough, turned, unless_none}
use Rattle.cms_held.specs.SharedBlocks.{fresh_of, levels_in, released_of}
use Rattle.cms_held.proofs.MapPlaces.{block_within}

-- ---- members of lists

pub in_take : (k : ℕ) (xs : List ℕ) (n : ℕ) → In n (take k xs) → In n xs
in_take zero xs n there = absurd there
in_take (suc k) [] n there = absurd there
in_take (suc k) (x ∷ xs) n (inl is) = inl is
in_take (suc k) (x ∷ xs) n (inr more) = inr (in_take k xs n more)

in_longer : (k m : ℕ) (xs : List ℕ) (n : ℕ) → k ≤ m → In n (take k xs) → In n (take m xs)
in_longer zero m xs n le there = absurd there
in_longer (suc k) m [] n le there = absurd there
in_longer (suc k) zero (x ∷ xs) n le there = absurd (omega arith)
in_longer (suc k) (suc m) (x ∷ xs) n le (inl is) = inl is
in_longer (suc k) (suc m) (x ∷ xs) n le (inr more) = inr (in_longer k m xs n (omega arith) more)

pub in_drop : (k : ℕ) (xs : List ℕ) (n : ℕ) → In n (drop k xs) → In n xs
in_drop zero xs n there = there
in_drop (suc k) [] n there = there
in_drop (suc k) (x ∷ xs) n there = inr (in_drop k xs n there)

-- a number of which it is the value
pub record Source (f : ℕ → ℕ) (y : ℕ) (xs : List ℕ) : Type 0 where
  pub n : ℕ
  pub there : In n xs
  pub is : y ≡ f n

pub from_map : (f : ℕ → ℕ) (y : ℕ) (xs : List ℕ) → In y (map f xs) → Source f y xs
from_map f y [] there = absurd there
from_map f y (x ∷ xs) (inl is) = record { n = x; there = inl refl; is = is }
from_map f y (x ∷ xs) (inr more) = let s = from_map f y xs more in record { n = s.n; there = inr s.there; is = s.is }

in_without : (test : ℕ → Bool) (k : ℕ) (xs : List ℕ) (n : ℕ) → In n (without test k xs) → In n xs
unfolding without
in_without test k [] n there = absurd there
in_without test k (x ∷ xs) n there = go (test k) there (in_without test (suc k) xs n)
  where
    go : (b : Bool) → In n (if b then without test (suc k) xs else x ∷ without test (suc k) xs) → (In n (without test (suc k) xs) → In n xs) → In n (x ∷ xs)
    go true more deeper = inr (deeper more)
    go false (inl is) deeper = inl is
    go false (inr more) deeper = inr (deeper more)

without_few : (test : ℕ → Bool) (k : ℕ) (xs : List ℕ) → length (without test k xs) ≤ length xs
unfolding without
without_few test k [] = omega arith
without_few test k (x ∷ xs) = go (test k) (without_few test (suc k) xs)
  where
    go : (b : Bool) → length (without test (suc k) xs) ≤ length xs → length (if b then without test (suc k) xs else x ∷ without test (suc k) xs) ≤ suc (length xs)
    go true h = omega arith
    go false h = omega arith

-- ---- the blocks of levels

pub in_levels : (fan size count k : ℕ) (numbers : List ℕ) (n : ℕ) → In n (concat (levels_of fan size count k numbers)) → In n numbers
unfolding levels_of
in_levels fan size count zero numbers n there = absurd there
in_levels fan size count (suc k) numbers n there = ⊎_elim
    (λ (here : In n (take (up count (size * fan)) numbers)). in_take (up count (size * fan)) numbers n here)
    (λ (more : In n (concat (levels_of fan (size * fan) count k (drop (up count (size * fan)) numbers)))).
    in_drop (up count (size * fan)) numbers n (in_levels fan (size * fan) count k (drop (up count (size * fan)) numbers) n more))
    (In-either n (take (up count (size * fan)) numbers) (concat (levels_of fan (size * fan) count k (drop (up count (size * fan)) numbers))) there)

levels_few : (fan size count k : ℕ) (numbers : List ℕ) → length (concat (levels_of fan size count k numbers)) ≤ length numbers
unfolding levels_of
levels_few fan size count zero numbers = omega arith
levels_few fan size count (suc k) numbers =
    let m = up count (size * fan) in
    let rest = levels_few fan (size * fan) count k (drop m numbers) in
    omega (arith, length-append (take m numbers) (concat (levels_of fan (size * fan) count k (drop m numbers))), length-take m numbers, length-drop m numbers)

came_few : (fan size before count : ℕ) (written : List ℕ) (olds tiers : List (List ℕ)) → length (came fan size before count written olds tiers) ≤ length (concat tiers)
unfolding came
came_few fan size before count written [] [] = omega arith
came_few fan size before count written (old ∷ olds) [] = omega arith
came_few fan size before count written [] (tier ∷ more) =
    let test = is_kept false (size * fan) before count written in
    let here = without_few test 0 tier in
    let rest = came_few fan (size * fan) before count written [] more in
    omega (arith, length-append (without test 0 tier) (came fan (size * fan) before count written [] more), length-append tier (concat more))
came_few fan size before count written (old ∷ olds) (tier ∷ more) =
    let test = is_kept true (size * fan) before count written in
    let here = without_few test 0 tier in
    let rest = came_few fan (size * fan) before count written olds more in
    omega (arith, length-append (without test 0 tier) (came fan (size * fan) before count written olds more), length-append tier (concat more))

in_gone : (fan size before count : ℕ) (written : List ℕ) (olds tiers : List (List ℕ)) (n : ℕ) → In n (gone fan size before count written olds tiers) → In n (concat olds)
unfolding gone
in_gone fan size before count written [] tiers n there = absurd there
in_gone fan size before count written (old ∷ olds) [] n there = ⊎_elim
    (λ (here : In n old). In-left n old (concat olds) here)
    (λ (more : In n (gone fan size before count written olds [])). In-right n old (concat olds) (in_gone fan size before count written olds [] n more))
    (In-either n old (gone fan size before count written olds []) there)
in_gone fan size before count written (old ∷ olds) (tier ∷ more) n there = ⊎_elim
    (λ (here : In n (without (is_kept true (size * fan) before count written) 0 old)). In-left n old (concat olds) (in_without (is_kept true (size * fan) before count written) 0 old n here))
    (λ (rest : In n (gone fan (size * fan) before count written olds more)). In-right n old (concat olds) (in_gone fan (size * fan) before count written olds more n rest))
    (In-either n (without (is_kept true (size * fan) before count written) 0 old) (gone fan (size * fan) before count written olds more) there)

-- what is given back is of the tree before
pub in_released : (fan : ℕ) (written : List ℕ) (old new : HeldTree) (n : ℕ) → In n (released_of fan written old new) → In n (blocks_in old)
in_released fan written old new n there =
    let before = length old.leaves in
    let count = length new.leaves in
    let leaves = without (is_kept true 1 before count written) 0 old.leaves in
    let nodes = gone fan 1 before count written (levels_in fan old) (levels_in fan new) in
    ⊎_elim
    (λ (here : In n leaves). In-left n old.leaves old.pointers (in_without (is_kept true 1 before count written) 0 old.leaves n here))
    (λ (more : In n nodes). In-right n old.leaves old.pointers
    (in_levels fan 1 before (levels fan before) old.pointers n (in_gone fan 1 before count written (levels_in fan old) (levels_in fan new) n more)))
    (In-either n leaves nodes there)

-- no more is taken than for a whole tree
pub fresh_few : (fan : ℕ) (written : List ℕ) (old new : HeldTree) → length (fresh_of fan written old new) ≤ length new.leaves + length new.pointers
fresh_few fan written old new =
    let before = length old.leaves in
    let count = length new.leaves in
    let leaves = without (is_kept true 1 before count written) 0 new.leaves in
    let nodes = came fan 1 before count written (levels_in fan old) (levels_in fan new) in
    let a = without_few (is_kept true 1 before count written) 0 new.leaves in
    let b = came_few fan 1 before count written (levels_in fan old) (levels_in fan new) in
    let c = levels_few fan 1 count (levels fan count) new.pointers in
    omega (arith, length-append leaves nodes)

map_few : (bsize total : ℕ) (old new : HeldTree) (written : List ℕ) → length new.leaves ≡ up (up total 8) bsize → length new.pointers ≡ pointer_count (bsize / 4) (length new.leaves)
    → length (fresh_of (bsize / 4) written old new) ≤ map_size bsize total
unfolding map_size tree_size
map_few bsize total old new written count nodes =
    let few = fresh_few (bsize / 4) written old new in
    let all : length new.pointers ≡ pointer_count (bsize / 4) (up (up total 8) bsize) = nodes ∙ ap (pointer_count (bsize / 4)) count in
    omega arith

-- ---- where nothing is written

always_kept : (size count j : ℕ) → is_kept true size count count [] j ≡ true
unfolding is_kept any_within
always_kept size count j = let same : (min ((j + 1) * size) count == min ((j + 1) * size) count) ≡ true = eq-eqb (min ((j + 1) * size) count) (min ((j + 1) * size) count) refl in rw same refl

none_without : (size count k : ℕ) (xs : List ℕ) → without (is_kept true size count count []) k xs ≡ []
unfolding without
none_without size count k [] = refl
none_without size count k (x ∷ xs) = rw (always_kept size count k) (none_without size count (suc k) xs)

none_came : (fan size count k : ℕ) (ns ms : List ℕ) → came fan size count count [] (levels_of fan size count k ns) (levels_of fan size count k ms) ≡ []
unfolding came levels_of
none_came fan size count zero ns ms = refl
none_came fan size count (suc k) ns ms =
    let m = up count (size * fan) in
    rw (none_without (size * fan) count 0 (take m ms), none_came fan (size * fan) count k (drop m ns) (drop m ms)) refl

none_gone : (fan size count k : ℕ) (ns ms : List ℕ) → gone fan size count count [] (levels_of fan size count k ns) (levels_of fan size count k ms) ≡ []
unfolding gone levels_of
none_gone fan size count zero ns ms = refl
none_gone fan size count (suc k) ns ms =
    let m = up count (size * fan) in
    rw (none_without (size * fan) count 0 (take m ns), none_gone fan (size * fan) count k (drop m ns) (drop m ms)) refl

none_fresh : (fan : ℕ) (old new : HeldTree) → length old.leaves ≡ length new.leaves → fresh_of fan [] old new ≡ []
none_fresh fan old new same =
    let count = length new.leaves in
    subst (λ (n : ℕ). without (is_kept true 1 n count []) 0 new.leaves ++ came fan 1 n count [] (tree_levels fan n old.pointers) (tree_levels fan count new.pointers) ≡ []) (sym same)
    (rw (none_without 1 count 0 new.leaves) (none_came fan 1 count (levels fan count) old.pointers new.pointers))

none_released : (fan : ℕ) (old new : HeldTree) → length old.leaves ≡ length new.leaves → released_of fan [] old new ≡ []
none_released fan old new same =
    let count = length new.leaves in
    subst (λ (n : ℕ). without (is_kept true 1 n count []) 0 old.leaves ++ gone fan 1 n count [] (tree_levels fan n old.pointers) (tree_levels fan count new.pointers) ≡ []) (sym same)
    (rw (none_without 1 count 0 old.leaves) (none_gone fan 1 count (levels fan count) old.pointers new.pointers))

-- ---- the bits

-- a bit that isn't freed, from block 6 on, is as it was
pub freed_other : (ns : List ℕ) (bits : List Bool) (n : ℕ) → 1 ≤ n → ((m : ℕ) → In m ns → 6 ≤ m → m ≢ n) → get_or (with_freed ns bits) (n - 1) false ≡ get_or bits (n - 1) false
unfolding with_freed
freed_other [] bits n some apart = refl
freed_other (m ∷ ns) bits n some apart =
    freed_other ns (if nat_le 6 m then set bits (m - 1) false else bits) n some (λ k there. apart k (inr there)) ∙ one (nat_le 6 m) refl
  where
    one : (b : Bool) → nat_le 6 m ≡ b → get_or (if b then set bits (m - 1) false else bits) (n - 1) false ≡ get_or bits (n - 1) false
    one true is =
        let late = leb-true 6 m is in
        let ne = apart m (inl refl) late in
        get_or-set_other bits (m - 1) (n - 1) false false (λ e. ne (omega (arith, e)))
    one false is = refl

-- nor one that isn't marked
pub marked_other : (ns : List ℕ) (bits : List Bool) (n : ℕ) → 1 ≤ n → ((m : ℕ) → In m ns → (1 ≤ m) × (m ≢ n)) → get_or (with_marked ns bits) (n - 1) false ≡ get_or bits (n - 1) false
unfolding with_marked
marked_other [] bits n some apart = refl
marked_other (m ∷ ns) bits n some apart =
    let here = apart m (inl refl) in
    let low = here.0 in
    let ne = here.1 in
    marked_other ns (set bits (m - 1) true) n some (λ k there. apart k (inr there)) ∙ get_or-set_other bits (m - 1) (n - 1) true false (λ e. ne (omega (arith, e)))

-- what is in use stays so where blocks are marked
pub stays_marked : (ns : List ℕ) (bits : List Bool) (k : ℕ) → k < length bits → get_or bits k false ≡ true → get_or (with_marked ns bits) k false ≡ true
unfolding with_marked
stays_marked [] bits k within is = is
stays_marked (m ∷ ns) bits k within is =
    let long = length-set bits (m - 1) true in
    stays_marked ns (set bits (m - 1) true) k (omega arith) (⊎_elim
    (λ (same : k ≡ m - 1). ap (λ (i : ℕ). get_or (set bits (m - 1) true) i false) same ∙ get_or-set_same bits (m - 1) true false (omega arith))
    (λ (other : k ≢ m - 1). get_or-set_other bits (m - 1) k true false other ∙ is)
    (cases_eq k (m - 1)))

-- ---- the whole

nothing_written : (bsize : ℕ) (written : List ℕ) → AreTouched bsize [] written → written ≡ []
nothing_written bsize [] touched = refl
nothing_written bsize (j ∷ js) touched = absurd ((touched.each j).0 (inl refl))

pub turned_is_enough : TurnedIsEnough
turned_is_enough bsize total old bits taken given before later written s = record {
  below = below;
  few = few;
  stay = λ n some within isnt. ap (λ (l : List Bool). get_or l (n - 1) false) s.marks
      ∙ (freed_other freed (with_marked marked old) n some (λ m there late is. isnt (freed_in n within (subst (λ (i : ℕ). In i freed) is there)))
      ∙ marked_other marked old n some (λ m there. (is_low m there, λ is. isnt (marked_in n within (subst (λ (i : ℕ). In i marked) is there)))));
  count = ap length s.marks ∙ (length_freed freed (with_marked marked old) ∙ (length-with_marked marked old ∙ s.old_count));
  fixed = λ n low high within.
      let long = ap length s.marks ∙ (length_freed freed (with_marked marked old) ∙ length-with_marked marked old) in
      ap (λ (l : List Bool). get_or l (n - 1) false) s.marks
      ∙ (freed_other freed (with_marked marked old) n low (λ m there late is. omega arith)
      ∙ stays_marked marked old (n - 1) (omega arith) (s.fixed n low high (omega arith)));
}
  where
    fan : ℕ
    fan = bsize / 4

    marked : List ℕ
    marked = taken ++ fresh_of fan written before later

    freed : List ℕ
    freed = given ++ released_of fan written before later

    need : ℕ
    need = length taken + map_size bsize total

    all : List ℕ
    all = take need (free_blocks old) ++ (given ++ blocks_in before)

    low_size : 512 ≤ bsize
    low_size = (block_bounds bsize s.size).0

    few : length (fresh_of fan written before later) ≤ map_size bsize total
    few = map_few bsize total before later written s.map_count s.map_nodes

    lies : (n : ℕ) → In n all → (1 ≤ n) × (n ≤ total)
    lies n there = ⊎_elim
        (λ (free : In n (take need (free_blocks old))).
        let is = (free_are_unused old n).0 (in_take need (free_blocks old) n free) in
        let high = is.1 in
        let long = s.old_count in
        (is.0, omega arith))
        (λ (more : In n (given ++ blocks_in before)). s.within n more)
        (In-either n (take need (free_blocks old)) (given ++ blocks_in before) there)

    from_turned : (l : List ℕ) (n : ℕ) → In n (unless_none l all) → In n all
    from_turned [] n there = absurd there
    from_turned (x ∷ xs) n there = there

    below : (j : ℕ) → In j written → j < length later.leaves
    below j there =
        let source = from_map (data_block bsize) j (turned need old taken given before) ((s.touched.each j).0 there) in
        let within = lies source.n (from_turned (taken ++ given) source.n source.there) in
        let some = within.0 in
        let top = within.1 in
        let low = low_size in
        let a = (up_spec total 8 (omega arith)).0 in
        let b = (up_spec (up total 8) bsize (omega arith)).0 in
        let c : up total 8 ≤ length later.leaves * bsize = subst (λ (n : ℕ). up total 8 ≤ n * bsize) (sym s.map_count) b in
        subst (λ (n : ℕ). n < length later.leaves) (sym source.is) (block_within bsize (length later.leaves) source.n (omega arith) some (omega arith))

    is_low : (m : ℕ) → In m marked → 1 ≤ m
    is_low m there = ((free_are_unused old m).0 (in_take (length marked) (free_blocks old) m (subst (λ (l : List ℕ). In m l) s.lowest there))).0

    same : length before.leaves ≡ length later.leaves
    same = s.before_count ∙ sym s.map_count

    in_all : (n : ℕ) → In n marked ⊎ In n freed → In n all
    in_all n there = ⊎_elim
        (λ (m : In n marked).
        let short : length marked ≤ need = (let f = few in omega (arith, length-append taken (fresh_of fan written before later))) in
        In-left n (take need (free_blocks old)) (given ++ blocks_in before)
        (in_longer (length marked) need (free_blocks old) n short (subst (λ (l : List ℕ). In n l) s.lowest m)))
        (λ (f : In n freed). In-right n (take need (free_blocks old)) (given ++ blocks_in before) (⊎_elim
        (λ (own : In n given). In-left n given (blocks_in before) own)
        (λ (map' : In n (released_of fan written before later)). In-right n given (blocks_in before) (in_released fan written before later n map'))
        (In-either n given (released_of fan written before later) f)))
        there

    empty : taken ++ given ≡ [] → written ≡ []
    empty none = nothing_written bsize written (subst (λ (l : List ℕ). AreTouched bsize (unless_none l all) written) none s.touched)

    -- the bits of these stand in what is written
    changed : (l : List ℕ) → taken ++ given ≡ l → (n : ℕ) → n ≤ total → In n marked ⊎ In n freed → In (data_block bsize n) written
    changed [] none n within there = absurd (⊎_elim
        (λ (m : In n marked). ⊎_elim
        (λ (own : In n taken). subst (λ (l : List ℕ). In n l) none (In-left n taken given own))
        (λ (map' : In n (fresh_of fan written before later)). subst (λ (l : List ℕ). In n l) (ap (λ (w : List ℕ). fresh_of fan w before later) (empty none) ∙ none_fresh fan before later same) map')
        (In-either n taken (fresh_of fan written before later) m))
        (λ (f : In n freed). ⊎_elim
        (λ (own : In n given). subst (λ (l : List ℕ). In n l) none (In-right n taken given own))
        (λ (map' : In n (released_of fan written before later)). subst (λ (l : List ℕ). In n l) (ap (λ (w : List ℕ). released_of fan w before later) (empty none) ∙ none_released fan before later same) map')
        (In-either n given (released_of fan written before later) f))
        there)
    changed (x ∷ xs) some n within there = (s.touched.each (data_block bsize n)).1
        (in_map (data_block bsize) n (turned need old taken given before) (subst (λ (l : List ℕ). In n (unless_none l all)) (sym some) (in_all n there)))

    marked_in : (n : ℕ) → n ≤ total → In n marked → In (data_block bsize n) written
    marked_in n within there = changed (taken ++ given) refl n within (inl there)

    freed_in : (n : ℕ) → n ≤ total → In n freed → In (data_block bsize n) written
    freed_in n within there = changed (taken ++ given) refl n within (inr there)

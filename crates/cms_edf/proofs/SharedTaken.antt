-- The blocks that are taken for a tree that keeps blocks of the tree before, and those that are given back.
use Rattle.std.proofs.Common.{◌≡◌, ⊎_elim, ℕ, zero, suc, ◌+◌, ◌-◌, ◌/◌, ◌<◌, ◌≤◌, true, false, List, [], ◌∷◌, ◌++◌, length, take, drop, get_or, refl, sym, ◌∙◌, ap, arith, length-drop}
use Rattle.std.specs.List.{concat}
use Rattle.std.proofs.lemmas.List.{length-take-le}
use Rattle.std.proofs.lemmas.Bool.{cases_lt}
use Rattle.cms_model.specs.Lists.{In}
use Rattle.cms_model.specs.SharedTrees.{MayBeWritten, fresh_on, fresh_to, is_kept}
use Rattle.cms_model.specs.SharedTimes.{came, gone, without}
use Rattle.cms_model.specs.Sizes.{levels, map_size, pointer_count, tree_size}
use Rattle.cms_model.proofs.Exchanges.{to_few}
use Rattle.cms_model.proofs.WrittenBlocks.{fresh_leaves, leaf_kept, leaf_written, upto_all, written_few}
use Rattle.cms_tree.specs.Paths.{fresh_places, numbered, path_levels, tree_levels}
use Rattle.cms_tree.proofs.Paths.{get-numbered, length-numbered, numbered_takes, places_count}
use Rattle.cms_tree.proofs.Resumes.{length-levels_of as levels_count}
use Rattle.cms_held.specs.Allotments.{KeepsTree}
use Rattle.cms_held.specs.HeldVolumes.{HeldTree}
use Rattle.cms_held.specs.SharedBlocks.{fresh_of, levels_in, released_of}
use Rattle.cms_held.specs.Systems.{TreePart}
use Rattle.cms_held.proofs.KeptTrees.{nodes_come}
use Rattle.cms_held.proofs.PiecesWritten.{take_both}

-- as many data blocks take a fresh number as are written
pub leaves_fresh : (before count : ℕ) (written : List ℕ) → MayBeWritten before count written → fresh_on true 1 before count written count ≡ length written
leaves_fresh before count written may = fresh_leaves before count count written may (omega arith) ∙ upto_all written count may.within

-- a tree of which the data blocks and the pointer blocks were told so
pub record IsShared (fan : ℕ) (old t : HeldTree) (count : ℕ) (places : TreePart) (numbers : List ℕ) : Type 0 where
  pub keeps : KeepsTree fan places.leaves old t
  pub long : length t.leaves ≡ count
  pub fresh : fresh_of fan places.leaves old t ≡ take (length places.leaves + length places.nodes) numbers

pub shared_so : (fan : ℕ) (old t : HeldTree) (count : ℕ) (places : TreePart) (numbers fresh : List ℕ) → 2 ≤ fan → MayBeWritten (length old.leaves) count places.leaves
    → places.nodes ≡ fresh_places fan (length old.leaves) count places.leaves → length places.leaves + length places.nodes ≤ length numbers
    → t.leaves ≡ numbered true 1 (length old.leaves) count places.leaves old.leaves numbers count → fresh ≡ take (length places.nodes) (drop (length places.leaves) numbers)
    → t.pointers ≡ concat (path_levels fan (length old.leaves) old.pointers count places.leaves fresh) → IsShared fan old t count places numbers
shared_so fan old t count places numbers fresh wide may nodes enough leaves is_fresh pointers =
    let before = length old.leaves in
    let written = places.leaves in
    let long : length t.leaves ≡ count = ap (λ (l : List ℕ). length l) leaves ∙ length-numbered true 1 before count written old.leaves numbers count in
    let behind = length-drop (length written) numbers in
    let counted : length places.nodes ≡ fresh_to fan before count written (levels fan count) = ap (λ (l : List ℕ). length l) nodes ∙ places_count fan before count written (levels fan count) in
    let own : length fresh ≡ length places.nodes = ap (λ (l : List ℕ). length l) is_fresh ∙ length-take-le (length places.nodes) (drop (length written) numbers) (omega arith) in
    let keeps : KeepsTree fan written old t = record {
      leaves = λ j less isnt.
          let less' : j < count = omega arith in
          let had : j < before = ⊎_elim (λ (lt : j < before). lt) (λ (ge : before ≤ j). absurd (isnt (may.grown j ge less'))) (cases_lt j before) in
          let on = leaf_kept before count j written had less' isnt in
          ap (λ (l : List ℕ). get_or l j 0) leaves ∙ (get-numbered true 1 before count written old.leaves numbers count j less' ∙ rw on refl);
      nodes = fresh;
      count = own ∙ (counted ∙ ap (λ (n : ℕ). fresh_to fan before n written (levels fan n)) (sym long));
      path = pointers ∙ ap (λ (n : ℕ). concat (path_levels fan before old.pointers n written fresh)) (sym long);
    } in
    let own_leaves : without (is_kept true 1 before (length t.leaves) written) 0 t.leaves ≡ take (length written) numbers =
    ap (λ (n : ℕ). without (is_kept true 1 before n written) 0 t.leaves) long
    ∙ (ap (without (is_kept true 1 before count written) 0) leaves
    ∙ (numbered_takes true 1 before count written old.leaves numbers count (let f = leaves_fresh before count written may in omega arith)
    ∙ ap (λ (n : ℕ). take n numbers) (leaves_fresh before count written may))) in
    let own_nodes : came fan 1 before (length t.leaves) written (levels_in fan old) (levels_in fan t) ≡ take (length places.nodes) (drop (length written) numbers) =
    nodes_come fan written old t (omega arith) keeps ∙ is_fresh in
    record {
      keeps = keeps;
      long = long;
      fresh = (λ i. own_leaves i ++ own_nodes i) ∙ take_both (length written) (length places.nodes) numbers;
    }

-- the blocks that aren't kept
pub left_so : (fan : ℕ) (old new : HeldTree) (count : ℕ) (written items first : List ℕ) → length new.leaves ≡ count → first ≡ without (is_kept true 1 (length old.leaves) count written) 0 old.leaves
    → ((tiers : List (List ℕ)) → length tiers ≡ levels fan count → items ≡ first ++ gone fan 1 (length old.leaves) count written (tree_levels fan (length old.leaves) old.pointers) tiers)
    → items ≡ released_of fan written old new
left_so fan old new count written items first long is all =
    let tiers = levels_in fan new in
    let high : length tiers ≡ levels fan count = levels_count fan 1 (length new.leaves) (levels fan (length new.leaves)) new.pointers ∙ ap (levels fan) long in
    all tiers high ∙ (ap (λ (l : List ℕ). l ++ gone fan 1 (length old.leaves) count written (levels_in fan old) tiers) is
    ∙ ap (λ (n : ℕ). without (is_kept true 1 (length old.leaves) n written) 0 old.leaves ++ gone fan 1 (length old.leaves) n written (levels_in fan old) tiers) (sym long))

-- ---- the directory

-- the first data block takes the first number
first_number : (before count : ℕ) (written leaves nodes : List ℕ) (origin : ℕ) (rest : List ℕ) → In 0 written → 0 < length leaves → length leaves ≡ count
    → without (is_kept true 1 before count written) 0 leaves ++ nodes ≡ origin ∷ rest → leaves ≡ origin ∷ drop 1 leaves
unfolding without
first_number before count written [] nodes origin rest there some long is = absurd (omega arith)
first_number before count written (x ∷ xs) nodes origin rest there some long is =
    let off : is_kept true 1 before count written 0 ≡ false = leaf_written before count 0 written (omega arith) there in
    let same : x ∷ (without (is_kept true 1 before count written) 1 xs ++ nodes) ≡ origin ∷ rest = rw off at is in
    let here : x ≡ origin = ap (λ (l : List ℕ). get_or l 0 0) same in
    ap (λ (n : ℕ). n ∷ xs) here

pub some_written : (n : ℕ) (xs : List ℕ) → In n xs → 1 ≤ length xs
some_written n [] there = absurd there
some_written n (x ∷ xs) there = omega arith

pub record Begins (origin : ℕ) (blocks : List ℕ) (places : TreePart) (fan : ℕ) (old t : HeldTree) : Type 0 where
  pub origin_is : t.leaves ≡ origin ∷ drop 1 t.leaves
  pub fresh : drop 1 (fresh_of fan places.leaves old t) ≡ take (length places.leaves + length places.nodes - 1) blocks

take_behind : (k : ℕ) (x : ℕ) (xs : List ℕ) → 1 ≤ k → take k (x ∷ xs) ≡ x ∷ take (k - 1) xs
take_behind zero x xs some = absurd (omega arith)
take_behind (suc k) x xs some = let e : suc k - 1 ≡ k = omega arith in rw e refl

pub begins_so : (fan : ℕ) (old t : HeldTree) (count origin : ℕ) (places : TreePart) (blocks : List ℕ) → In 0 places.leaves → 0 < count → IsShared fan old t count places (origin ∷ blocks)
    → Begins origin blocks places fan old t
begins_so fan old t count origin places blocks there some s =
    let one = some_written 0 places.leaves there in
    let k = length places.leaves + length places.nodes in
    let long = s.long in
    let whole : fresh_of fan places.leaves old t ≡ origin ∷ take (k - 1) blocks = s.fresh ∙ take_behind k origin blocks (omega arith) in
    record {
      origin_is = first_number (length old.leaves) (length t.leaves) places.leaves t.leaves _ origin (take (k - 1) blocks) there (omega arith) refl whole;
      fresh = ap (λ (l : List ℕ). drop 1 l) whole;
    }

-- ---- the map

-- no more of it is written than all
pub map_few : (bsize total count : ℕ) (places : TreePart) (written : List ℕ) → MayBeWritten count count written → places.leaves ≡ written
    → places.nodes ≡ fresh_places (bsize / 4) count count written → tree_size (bsize / 4) count ≡ map_size bsize total
    → length places.leaves + length places.nodes ≤ map_size bsize total
unfolding tree_size pointer_count
map_few bsize total count places written may leaves nodes size =
    let fan = bsize / 4 in
    let few = written_few count count written may in
    let a : length places.leaves ≡ length written = ap (λ (l : List ℕ). length l) leaves in
    let b : length places.nodes ≡ fresh_to fan count count written (levels fan count) = ap (λ (l : List ℕ). length l) nodes ∙ places_count fan count count written (levels fan count) in
    let c = to_few fan count count written (levels fan count) in
    omega arith

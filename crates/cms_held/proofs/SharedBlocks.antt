-- How many blocks are taken for a tree of which a part is written.
use Rattle.std.proofs.Common.{◌≡◌, ℕ, zero, suc, ◌*◌, ◌≤◌, true, false, List, length, take, drop, refl, ◌∙◌, ap, arith, length-append, length-drop}
use Rattle.std.proofs.lemmas.List.{length-take}
use Rattle.cms_fields.specs.Numbers.{up}
use Rattle.cms_model.specs.SharedTrees.{fresh_count, fresh_on, is_kept}
use Rattle.cms_model.specs.SharedTimes.{came, without}
use Rattle.cms_model.specs.Sizes.{levels, pointer_count, pointers_to}
use Rattle.cms_model.proofs.SharedTimes.{came_is_fresh}
use Rattle.cms_tree.specs.Paths.{levels_of}
use Rattle.cms_tree.proofs.Paths.{count_first, fresh_first, left_count, left_fresh}
use Rattle.cms_model.proofs.WrittenBlocks.{fresh_leaves, upto_all}
use Rattle.cms_held.specs.SharedBlocks.{FreshIsCounted, levels_in}

-- ---- how many of the pointer blocks come

came_long : (fan size before count : ℕ) (written ns ms : List ℕ) (h k : ℕ) → left_count fan size count k ≤ length ms
    → length (came fan size before count written (levels_of fan size before h ns) (levels_of fan size count k ms)) ≡ left_fresh fan size before count written h k
unfolding came levels_of left_count left_fresh
came_long fan size before count written ns ms zero zero enough = refl
came_long fan size before count written ns ms (suc h) zero enough = refl
came_long fan size before count written ns ms zero (suc k) enough =
    let m = up count (size * fan) in
    let test = is_kept false (size * fan) before count written in
    let long : length (take m ms) ≡ m = omega (arith, length-take m ms) in
    let here = came_is_fresh false (size * fan) before count written (take m ms) ∙ ap (fresh_on false (size * fan) before count written) long in
    let rest = came_long fan (size * fan) before count written ns (drop m ms) zero k (omega (arith, length-drop m ms)) in
    length-append (without test 0 (take m ms)) (came fan (size * fan) before count written (levels_of fan (size * fan) before zero ns) (levels_of fan (size * fan) count k (drop m ms))) ∙ (omega arith)
came_long fan size before count written ns ms (suc h) (suc k) enough =
    let m = up count (size * fan) in
    let b = up before (size * fan) in
    let test = is_kept true (size * fan) before count written in
    let long : length (take m ms) ≡ m = omega (arith, length-take m ms) in
    let here = came_is_fresh true (size * fan) before count written (take m ms) ∙ ap (fresh_on true (size * fan) before count written) long in
    let rest = came_long fan (size * fan) before count written (drop b ns) (drop m ms) h k (omega (arith, length-drop m ms)) in
    length-append (without test 0 (take m ms)) (came fan (size * fan) before count written (levels_of fan (size * fan) before h (drop b ns)) (levels_of fan (size * fan) count k (drop m ms))) ∙ (omega arith)

pub fresh_is_counted : FreshIsCounted
unfolding fresh_count pointer_count
fresh_is_counted fan written old new w numbers =
    let before = length old.leaves in
    let count = length new.leaves in
    let k = levels fan count in
    let first : left_count fan 1 count k ≡ pointers_to fan count k = count_first fan count k in
    let nodes = came_long fan 1 before count written old.pointers new.pointers (levels fan before) k (omega (arith, numbers, first)) ∙ fresh_first fan before count written k in
    let leaves = came_is_fresh true 1 before count written new.leaves ∙ (fresh_leaves before count count written w (omega arith) ∙ upto_all written count w.within) in
    length-append (without (is_kept true 1 before count written) 0 new.leaves) (came fan 1 before count written (levels_in fan old) (levels_in fan new)) ∙ (omega arith)

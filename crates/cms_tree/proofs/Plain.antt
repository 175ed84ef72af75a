-- A tree that keeps nothing of the tree before is the one that `build` makes.
use Rattle.std.proofs.Common.{◌≡◌, ⊎_elim, ℕ, zero, suc, cond, eqb, ltb, min, ◌+◌, ◌-◌, ◌*◌, ◌/◌, ◌<◌, ◌≤◌, Bool, true, false, List, [], ◌∷◌, length, take, drop, get_or, Option, None, refl, sym, ◌∙◌, ap, arith, mul-le-mul_right}
use Rattle.std.proofs.Math.Nat.{zero-div}
use Rattle.std.proofs.lemmas.Bool.{cases_lt, cond-true, cond-false, lt-ltb, le-ltb}
use Rattle.std.proofs.lemmas.List.{drop-drop, length-take, length-take-le, length-drop, take_min}
use Rattle.cms_fields.specs.Numbers.{up}
use Rattle.cms_model.proofs.Quotients.{up_up}
use Rattle.cms_tree.specs.declared.types.Mark.{Mark}
use Rattle.cms_tree.specs.Builds.{all_over, node_bytes}
use Rattle.cms_tree.specs.Levels.{children_from, over_count}
use Rattle.cms_tree.specs.Kept.{nothing}
use Rattle.cms_tree.specs.Tiers.{Tier, tier_above, cells_from, behind_kept, pointing, node_in}
use Rattle.cms_tree.proofs.FilledBlocks.{cells, length-children, below_some}
use Rattle.cms_tree.proofs.LevelsBuilt.{found, higher}

-- either way there is none
pub either : (b : Bool) → cond {A = Option ℕ} b None None ≡ None
either true = refl
either false = refl

nothing_front : (b : Bool) → cond {A = List ℕ} b [] [] ≡ []
nothing_front true = refl
nothing_front false = refl

cells_plain : (psize : ℕ) (marks : List Mark) (count : ℕ) (t : Tier) (i : ℕ) (ns : List ℕ) → t.place ≡ None → cells_from psize marks count t i ns ≡ cells psize (children_from marks count t.size i ns)
unfolding cells_from children_from
cells_plain psize marks count t i [] none = refl
cells_plain psize marks count t i (n ∷ ns) none =
    let same : cond (eqb i t.kept) t.place None ≡ None = ap (λ (o : Option ℕ). cond (eqb i t.kept) o None) none ∙ either (eqb i t.kept) in
    rw (same, cells_plain psize marks count t (i + 1) ns none) refl

-- a pointer block whose pointers are all new
plain_block : (bsize psize : ℕ) (marks : List Mark) (count : ℕ) (t : Tier) (j : ℕ) → 1 ≤ bsize / psize → t.kept ≡ 0 → t.place ≡ None → j * (bsize / psize) ≤ length t.blocks
    → pointing bsize psize marks count t nothing j (min ((j + 1) * (bsize / psize)) (length t.blocks))
    ≡ node_bytes bsize psize (children_from marks count t.size (j * (bsize / psize)) (take (bsize / psize) (drop (j * (bsize / psize)) t.blocks)))
unfolding node_bytes
plain_block bsize psize marks count t j some zero' none within =
    let fan = bsize / psize in
    let at = j * fan in
    let behind = drop at t.blocks in
    let long = length-drop at t.blocks in
    let upto = min ((j + 1) * fan) (length t.blocks) in
    let from : behind_kept fan t j ≡ at = omega arith in
    let few : upto - at ≡ min fan (length behind) = omega arith in
    let same : take (upto - at) behind ≡ take fan behind = ap (λ (n : ℕ). take n behind) few ∙ take_min fan behind in
    let own : length (children_from marks count t.size at (take fan behind)) ≡ upto - at = length-children marks count t.size at (take fan behind) ∙ length-take fan behind ∙ sym few in
    rw (nothing_front (eqb j (t.kept / fan)), from, same, cells_plain psize marks count t at (take fan behind) none, own) refl

-- the pointer block at a place among those of so many levels
pub plain_node : (bsize psize : ℕ) (marks : List Mark) (count : ℕ) (fresh : List ℕ) (k : ℕ) (t : Tier) (nth : ℕ) → 1 ≤ bsize / psize → 1 ≤ t.size → t.kept ≡ 0 → t.place ≡ None
    → length t.blocks ≡ up count t.size → t.first + over_count (bsize / psize) k (length t.blocks) ≤ length fresh
    → nth < over_count (bsize / psize) k (length t.blocks)
    → node_in bsize psize marks count fresh k t [] nth
    ≡ node_bytes bsize psize (get_or (all_over (bsize / psize) k (children_from marks count t.size 0 t.blocks) (drop t.first fresh)) nth [])
unfolding node_in
plain_node bsize psize marks count fresh zero t nth some room zero' none wide enough within = absurd (omega arith)
plain_node bsize psize marks count fresh (suc k) t nth some room zero' none wide enough within =
    let fan = bsize / psize in
    let m = up (length t.blocks) fan in
    let numbers = drop t.first fresh in
    let rest = length-drop t.first fresh in
    let above = tier_above fan fresh t nothing in
    let here = pointing bsize psize marks count t nothing nth (min ((nth + 1) * fan) (length t.blocks)) in
    let further = node_in bsize psize marks count fresh k above [] (nth - m) in
    ⊎_elim
    (λ (low : nth < m).
    let in_blocks = below_some nth (length t.blocks) fan some low in
    cond-true (ltb nth m) here further (lt-ltb nth m low) ∙ plain_block bsize psize marks count t nth some zero' none (omega arith)
    ∙ ap (node_bytes bsize psize) (sym (found marks fan (suc k) t.blocks numbers t.size nth count within low)))
    (λ (past : m ≤ nth).
    let h = higher fan k t.blocks numbers t.size nth count some room wide within (omega arith) past in
    let long : length (take m numbers) ≡ m = length-take-le m numbers (omega arith) in
    let same_count : over_count fan k (length (take m numbers)) ≡ over_count fan k m = ap (over_count fan k) long in
    let zero_above : t.kept / fan ≡ 0 = ap (λ (n : ℕ). n / fan) zero' ∙ zero-div fan in
    let size_above : 1 ≤ t.size * fan = (let x = mul-le-mul_right fan room in omega arith) in
    let more = plain_node bsize psize marks count fresh k above (nth - m) some size_above zero_above refl
    (long ∙ ap (λ (c : ℕ). up c fan) wide ∙ up_up count t.size fan room some) (omega arith) (omega arith) in
    cond-false (ltb nth m) here further (le-ltb nth m past) ∙ more
    ∙ ap (λ (l : List ℕ). node_bytes bsize psize (get_or (all_over fan k (children_from marks count (t.size * fan) 0 (take m numbers)) l) (nth - m) [])) (sym (drop-drop m t.first fresh))
    ∙ ap (node_bytes bsize psize) (sym (h marks)))
    (cases_lt nth m)

-- How many blocks a draft writes that goes on with a file.
use Rattle.std.proofs.Common.{◌≡◌, ⊎_elim, ℕ, zero, suc, ◌+◌, ◌-◌, ◌/◌, ◌<◌, ◌≤◌, List, ◌∷◌, length, drop, ap, arith, length-append}
use Rattle.std.proofs.lemmas.Bool.{cases_lt}
use Rattle.std.proofs.lemmas.List.{length-drop, length-map}
use Rattle.cms_model.specs.Settled.{Write}
use Rattle.cms_model.specs.Sizes.{levels}
use Rattle.cms_tree.specs.declared.types.Mark.{Mark}
use Rattle.cms_tree.specs.Builds.{IsBuildable}
use Rattle.cms_tree.specs.Climbs.{climb_writes_on, numbers_behind}
use Rattle.cms_tree.specs.Kept.{Kept}
use Rattle.cms_tree.specs.Levels.{over_count}
use Rattle.cms_tree.specs.Tiers.{complete_from, node_on, put_node}
use Rattle.cms_tree.proofs.ClimbSteps.{over_all}
use Rattle.cms_tree.proofs.Counted.{behind_count, next_places}
use Rattle.cms_tree.proofs.Totals.{places}
use Rattle.cms_held.specs.Drafts.{data_write, draft_writes, own_blocks}
use Rattle.cms_held.proofs.DraftBlocks.{next_written, none_written}

-- the pointer blocks that are complete with the first leaves
abbrev ended : ℕ → ℕ → List ℕ → ℕ → ℕ
ended bsize psize leaves k = length (places (bsize / psize) (levels (bsize / psize) (length leaves)) 0 (length leaves) k)

-- each data block that isn't kept, and the pointer blocks that are complete with it
front_count : (bsize psize : ℕ) (leaves : List ℕ) (marks : List Mark) (fresh : List ℕ) (kept : ℕ) (es : List Kept) (bytes : List ℕ) (k : ℕ) → kept ≤ k
    → length (draft_writes bsize psize leaves marks fresh kept es bytes k) + ended bsize psize leaves kept ≡ (k - kept) + ended bsize psize leaves k
front_count bsize psize leaves marks fresh kept es bytes k low = count k low
  where
    nothing : (k : ℕ) → kept ≡ k → length (draft_writes bsize psize leaves marks fresh kept es bytes k) + ended bsize psize leaves kept ≡ (k - kept) + ended bsize psize leaves k
    nothing k is =
        let none = ap (λ (ws : List Write). length ws) (none_written bsize psize leaves marks fresh kept es bytes k (omega arith)) in
        let same = ap (ended bsize psize leaves) is in
        omega arith

    count : (k : ℕ) → kept ≤ k → length (draft_writes bsize psize leaves marks fresh kept es bytes k) + ended bsize psize leaves kept ≡ (k - kept) + ended bsize psize leaves k
    count zero low = nothing zero (omega arith)
    count (suc k) low = ⊎_elim
        (λ (last : k < kept). nothing (suc k) (omega arith))
        (λ (high : kept ≤ k).
        let fan = bsize / psize in
        let front = draft_writes bsize psize leaves marks fresh kept es bytes k in
        let nodes = climb_writes_on bsize psize leaves marks fresh kept es k in
        let next = ap (λ (ws : List Write). length ws) (next_written bsize psize leaves marks fresh kept es bytes k high) in
        let both = length-append front (data_write bsize leaves bytes k ∷ nodes) in
        let mapped = length-map (complete_from fan (levels fan (length leaves)) 0 (length leaves) k) (put_node fresh (node_on bsize psize leaves marks fresh kept es)) in
        let more = next_places fan (levels fan (length leaves)) 0 (length leaves) k in
        let rest = count k high in
        omega arith)
        (cases_lt k kept)

-- with all leaves these are its own blocks
pub draft_count : (bsize psize : ℕ) (leaves : List ℕ) (marks : List Mark) (fresh : List ℕ) (kept : ℕ) (es : List Kept) (bytes : List ℕ) → 1 ≤ bsize / psize → IsBuildable bsize psize leaves marks fresh
    → kept < length leaves → length (draft_writes bsize psize leaves marks fresh kept es bytes (length leaves)) ≡ length (own_blocks (bsize / psize) leaves fresh kept)
draft_count bsize psize leaves marks fresh kept es bytes some plan less =
    let fan = bsize / psize in
    let n = levels fan (length leaves) in
    let over = over_all fan (length leaves) some in
    let numbers = plan.numbers in
    let long : length fresh ≡ over_count fan n (length leaves) = omega arith in
    let all = front_count bsize psize leaves marks fresh kept es bytes (length leaves) (omega arith) in
    let behind = behind_count fan n 0 (length leaves) kept fresh some less long in
    let own = length-drop kept leaves in
    let both = length-append (drop kept leaves) (numbers_behind fan n (length leaves) kept fresh) in
    omega arith

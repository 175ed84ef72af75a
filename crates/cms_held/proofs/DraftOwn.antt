-- What a draft writes are blocks of its own.
use Rattle.std.proofs.Common.{◌≡◌, ◌⊎◌, inl, inr, ⊎_elim, ℕ, ◌-◌, ◌*◌, ◌/◌, ◌≤◌, List, [], ◌∷◌, ◌++◌, length, take, drop, refl, sym, ◌∙◌, ap, subst, arith, length-append, length-take}
use Rattle.std.specs.Prelude.{replicate}
use Rattle.std.proofs.lemmas.List.{length-replicate}
use Rattle.cms_model.specs.Lists.{In}
use Rattle.cms_model.specs.Sizes.{levels, pointer_count}
use Rattle.cms_model.specs.Settled.{Write}
use Rattle.cms_model.proofs.Members.{In-either, In-left, In-right}
use Rattle.cms_tree.specs.declared.types.Mark.{Mark}
use Rattle.cms_tree.specs.Builds.{IsBuildable}
use Rattle.cms_tree.specs.Kept.{Kept}
use Rattle.cms_tree.specs.Tiers.{AllKeep, lowest, node_on}
use Rattle.cms_tree.specs.Climbs.{AreOwn, numbers_behind}
use Rattle.cms_tree.proofs.Own.{in_drop}
use Rattle.cms_tree.proofs.Behind.{behind_among, completed_long, none_kept, nothing_keeps}
use Rattle.cms_tree.proofs.ClimbBlocks.{some_fan}
use Rattle.cms_tree.proofs.ClimbSteps.{over_all}
use Rattle.cms_held.specs.Drafts.{data_block, draft_writes, own_blocks}
use Rattle.cms_held.proofs.DraftBlocks.{Among, among_right, in_draft, kind_of, IsData, IsNode}

data_long : (bsize k : ℕ) (bytes : List ℕ) → length (data_block bsize bytes k) ≡ bsize
data_long bsize k bytes =
    let own = take bsize (drop (k * bsize) bytes) in
    let long = length-take bsize (drop (k * bsize) bytes) in
    omega (arith, length-append own (replicate (bsize - length own) 0), length-replicate {A = ℕ} (bsize - length own) 0)

pub fits_in : (bsize psize n : ℕ) → (psize ≡ 4) ⊎ (psize ≡ 12) → n ≤ bsize / psize → n * psize ≤ bsize
fits_in bsize psize n (inl is) few = subst (λ (p : ℕ). n ≤ bsize / p → n * p ≤ bsize) (sym is) (λ low. omega arith) few
fits_in bsize psize n (inr is) few = subst (λ (p : ℕ). n ≤ bsize / p → n * p ≤ bsize) (sym is) (λ low. omega arith) few

node_long : (bsize psize : ℕ) (leaves : List ℕ) (marks : List Mark) (fresh : List ℕ) (kept : ℕ) (es : List Kept) (to : ℕ) (w : Write) → IsBuildable bsize psize leaves marks fresh
    → AllKeep psize (bsize / psize) fresh (lowest kept leaves) es (levels (bsize / psize) (length leaves)) → to ≤ length leaves
    → (p : IsNode bsize psize leaves marks fresh kept es to w) → length (node_on bsize psize leaves marks fresh kept es p.nth) ≡ bsize
node_long bsize psize leaves marks fresh kept es to w plan keep low p =
    let fan = bsize / psize in
    let some = some_fan bsize psize plan.size plan.pointer in
    let less = p.less in
    let all = over_all fan (length leaves) some in
    let numbers = plan.numbers in
    let at : p.nth - 0 ≡ p.nth = omega arith in
    ap (λ (n : ℕ). length (node_on bsize psize leaves marks fresh kept es n)) (sym at)
    ∙ completed_long bsize psize marks (length leaves) fresh (levels fan (length leaves)) (lowest kept leaves) es p.k p.nth plan.pointer some (fits_in bsize psize fan plan.pointer (omega arith)) keep
    p.low (omega arith) (omega arith) p.there

each_own : (size : ℕ) (blocks : List ℕ) (ws : List Write) → ((w : Write) → Among w ws → In w.block blocks × (length w.bytes ≡ size)) → AreOwn size blocks ws
each_own size blocks [] each = tt
each_own size blocks (w ∷ ws) each =
    let here = each w (inl refl) in
    (here.0, here.1, each_own size blocks ws (λ v there. each v (inr there)))

-- a part of a draft
pub part_own : (bsize psize : ℕ) (leaves : List ℕ) (marks : List Mark) (fresh : List ℕ) (kept : ℕ) (es : List Kept) (bytes : List ℕ) (from to : ℕ) (part : List Write)
    → IsBuildable bsize psize leaves marks fresh → AllKeep psize (bsize / psize) fresh (lowest kept leaves) es (levels (bsize / psize) (length leaves)) → to ≤ length leaves
    → draft_writes bsize psize leaves marks fresh kept es bytes from ++ part ≡ draft_writes bsize psize leaves marks fresh kept es bytes to
    → AreOwn bsize (own_blocks (bsize / psize) leaves fresh kept) part
part_own bsize psize leaves marks fresh kept es bytes from to part plan keep low is = each_own bsize (own_blocks (bsize / psize) leaves fresh kept) part (λ w there.
    let whole : Among w (draft_writes bsize psize leaves marks fresh kept es bytes to) =
    subst (Among w) is (among_right w (draft_writes bsize psize leaves marks fresh kept es bytes from) part there) in (
      in_draft bsize psize leaves marks fresh kept es bytes to plan low w whole,
      ⊎_elim
          (λ (d : IsData bsize leaves bytes kept to w). ap (λ (x : Write). length x.bytes) d.is ∙ data_long bsize d.k bytes)
          (λ (n : IsNode bsize psize leaves marks fresh kept es to w).
          ap (λ (x : Write). length x.bytes) n.is ∙ node_long bsize psize leaves marks fresh kept es to w plan keep low n)
          (kind_of bsize psize leaves marks fresh kept es bytes to w whole),
    ))

-- where nothing is kept all blocks are written
pub own_all : (fan : ℕ) (leaves fresh : List ℕ) → 1 ≤ fan → length fresh ≡ pointer_count fan (length leaves) → own_blocks fan leaves fresh 0 ≡ leaves ++ fresh
own_all fan leaves fresh some numbers =
    ap (λ (l : List ℕ). leaves ++ l) (none_kept fan (levels fan (length leaves)) (length leaves) fresh (numbers ∙ sym (over_all fan (length leaves) some)))

-- they are blocks of the tree
pub own_among : (fan n : ℕ) (leaves fresh : List ℕ) (kept : ℕ) → In n (own_blocks fan leaves fresh kept) → In n (leaves ++ fresh)
own_among fan n leaves fresh kept there = ⊎_elim
    (λ (here : In n (drop kept leaves)). In-left n leaves fresh (in_drop n kept leaves here))
    (λ (node : In n (numbers_behind fan (levels fan (length leaves)) (length leaves) kept fresh)).
    In-right n leaves fresh (behind_among fan (levels fan (length leaves)) (length leaves) kept n fresh node))
    (In-either n (drop kept leaves) (numbers_behind fan (levels fan (length leaves)) (length leaves) kept fresh) there)

-- where nothing is kept it fits
pub keeps_nothing : (bsize psize : ℕ) (leaves fresh : List ℕ) → AllKeep psize (bsize / psize) fresh (lowest 0 leaves) [] (levels (bsize / psize) (length leaves))
keeps_nothing bsize psize leaves fresh = nothing_keeps psize (bsize / psize) fresh (lowest 0 leaves) (levels (bsize / psize) (length leaves)) refl refl

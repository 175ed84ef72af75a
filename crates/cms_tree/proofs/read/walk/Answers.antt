use Rattle.std.proofs.Common.{◌≡◌, ℕ, zero, suc, ◌/◌, ◌≤◌, inr, List, [], length, None, Ok, refl, sym, ◌∙◌, subst, ap, arith, ◌+◌, Err}
use Rattle.std.specs.Prelude.{replicate}
use Rattle.std.specs.List.{concat}
use Rattle.std.specs.Vec.{with_items}
use Rattle.std.proofs.lemmas.List.{length-replicate, with_items_is}
use Rattle.cms_journal.specs.Journal.{contents_of}
use Rattle.cms_model.specs.Lists.{In}
use Rattle.cms_model.specs.Sizes.{levels, pointer_count}
use Rattle.cms_model.specs.Trees.{none_met, image_of, tree, Form, Image}
use Rattle.cms_model.proofs.Shapes.{levels_needs}
use Rattle.cms_tree.proofs.Sums.{levels_room}
use Rattle.cms_tree.proofs.Within.{none_within}
use Rattle.cms_tree.specs.declared.read.MetBlocks.{MetBlocks}
use Rattle.cms_tree.specs.declared.read.Tier.{Tier}
use Rattle.cms_tree.specs.Levels.{over_count}
use Rattle.cms_tree.specs.Parts.{form_of, met_of, blocks_in, IsFaultOf}
use Rattle.cms_tree.specs.Walks.{AreWithin, form_at, image_at, levels_at, nodes, nodes_at, tree_at, Reads}
use Rattle.cms_tree.proofs.ClimbSteps.{over_all}
use Rattle.cms_tree.proofs.Rest.{length-blocks_in, more_sum, walk_read}
use Rattle.cms_tree.specs.declared.types.TreeFault.TheVariants.{Device, Memory, Pointer}
use Rattle.cms_tree.proofs.Exits.{tree_at_err, err_at_err, memory_only, ok_at_err, plain_at_err, reads_at_err, reads_at_ok, reads_none}
use Rattle.cms_tree.specs.declared.types.TreeFault.{TreeFault}
use Rattle.cms_tree.specs.declared.types.TreeAt.{TreeAt}
use Rattle.cms_tree.proofs.read.walk.Given as given
use Rattle.cms_tree.proofs.read.walk.Goals as goal
use Rattle.cms_tree.proofs.read.walk.Goals.{After-drop-tiers-2}

pub walk_from-requires-clause-small : goal.walk_from-requires-clause-small
walk_from-requires-clause-small g c =
    let fan = c.layout_of-layout.result.fan in
    let wide = c.layout_of-layout.ensures.fan in
    rw c.shape-levels.ensures.levels (omega (arith, levels_room fan c.args.at.now.count wide.0 wide.1 (omega arith)))

pub walk_from-requires-clause-room : goal.walk_from-requires-clause-room
walk_from-requires-clause-room g c =
    let fan = c.layout_of-layout.result.fan in
    rw c.shape-levels.ensures.levels (levels_needs fan c.args.at.now.count c.layout_of-layout.ensures.fan.0 (omega arith)).fits

-- how the tree stands, as its form and its levels say
form_is : (g : given.Over) (c : After-drop-tiers-2 g) → (c.layout_of-layout.result.fan ≡ c.args.at.now.bsize / c.args.at.now.psize) × (c.layout_of-layout.result.last ≡ c.args.at.now.volume)
form_is g c = (ap (λ (f : Form). f.fan) c.layout_of-layout.ensures.form, ap (λ (f : Form). f.last) c.layout_of-layout.ensures.form)

-- the levels behind the walk
tiers_after : (g : given.Over) (c : After-drop-tiers-2 g) → c.in_ok-joined.field-0.items ≡ concat (blocks_in c.walk_from.new.tiers)
tiers_after g c =
    let kept : (with_items c.in_ok-tiers.tiers c.walk_from.new.tiers).items ≡ c.walk_from.new.tiers = with_items_is c.in_ok-tiers.tiers c.walk_from.new.tiers (c.walk_from.auto.tiers ∙ c.deref_mut.ensures.len) in
    c.in_ok-joined.ensures ∙ ap (λ (ts : List Tier). concat (blocks_in ts)) (c.deref.ensures.value ∙ kept)

-- and before it
tiers_before : (g : given.Over) (c : After-drop-tiers-2 g) → blocks_in c.deref_mut.result.now ≡ replicate c.shape-levels.result.levels []
tiers_before g c = ap (λ (ts : List Tier). blocks_in ts) c.deref_mut.ensures.value ∙ c.in_ok-tiers.ensures

pub walk_from-requires-clause-tiers : goal.walk_from-requires-clause-tiers
walk_from-requires-clause-tiers g c =
    let ts = c.deref_mut.result.now in
    let empty : blocks_in ts ≡ replicate c.shape-levels.result.levels [] = ap (λ (l : List Tier). blocks_in l) c.deref_mut.ensures.value ∙ c.in_ok-tiers.ensures in
    sym (length-blocks_in ts) ∙ ap (λ (ls : List (List ℕ)). length ls) empty ∙ length-replicate {A = List ℕ} c.shape-levels.result.levels []

pub returns-clause-within : goal.returns-clause-within
returns-clause-within g c =
    let at = c.args.at.now in
    let here = (goal.at.returns-clause-within g c).After-drop-tiers-2 in
    let old : MetBlocks = record { blocks = c.new.result; leaves = c.new-2.result } in
    let last = (form_is g here).1 in
    let stays = c.in_ok-walk_from.ensures.within at.first (inr refl) (none_within c.layout_of-layout.result.last at.first old c.new.ensures.items c.new-2.ensures.items) in
    let all : AreWithin c.layout_of-layout.result.last None c.in_ok-joined.field-0.items = subst (AreWithin c.layout_of-layout.result.last None) (sym (tiers_after g here))
    (c.in_ok-walk_from.ensures.grows.within (λ n is_in. absurd (none_in c.shape-levels.result.levels n (subst (λ (ls : List (List ℕ)). In n (concat ls)) (tiers_before g here) is_in)))) in
    record {
      blocks = subst (λ (n : ℕ). AreWithin n at.first c.walk_from.new.into.blocks.items) last stays.blocks;
      pointers = subst (λ (n : ℕ). AreWithin n None c.in_ok-joined.field-0.items) last all;
      leaves = subst (λ (n : ℕ). AreWithin n at.first c.walk_from.new.into.leaves.items) last stays.leaves;
    }
  where
    none_in : (k n : ℕ) → In n (concat (replicate {A = List ℕ} k [])) → ⊥
    none_in zero n is_in = is_in
    none_in (suc k) n is_in = none_in k n is_in

pub returns-clause-read : goal.returns-clause-read
returns-clause-read g c = λ j told.
    let at = c.args.at.now in
    let here = (goal.at.returns-clause-read g c).After-drop-tiers-2 in
    let layout = c.layout_of-layout.result in
    let k = c.shape-levels.result.levels in
    let old : MetBlocks = record { blocks = c.new.result; leaves = c.new-2.result } in
    let none : met_of old ≡ none_met = rw (c.new.ensures.items, c.new-2.ensures.items) refl in
    let read = c.in_ok-walk_from.ensures.read j told in
    let image = image_of (contents_of j layout.unit) in
    let some : 1 ≤ layout.fan = (let wide = c.layout_of-layout.ensures.fan.0 in omega arith) in
    let whole = walk_read (form_of layout) image k at.first at.holder at.root at.count old c.walk_from.new.into c.deref_mut.result.now c.walk_from.new.tiers c.in_ok-joined.field-0.items some c.requires.some none
    (tiers_before g here) read.0 read.1 (tiers_after g here) in
    let levels_are : k ≡ levels_at at = c.shape-levels.ensures.levels ∙ ap (λ (fan : ℕ). levels fan at.count) (form_is g here).0 in
    let met = met_of c.walk_from.new.into in
    let pointers = c.in_ok-joined.field-0.items in
    subst (λ (n : ℕ). (tree_at (image_of (contents_of j n)) at ≡ Ok met) × (pointers ≡ nodes_at (image_of (contents_of j n)) at)) c.layout_of-layout.ensures.unit
    (subst (λ (n : ℕ). (tree (form_at at) image n at.first at.holder at.root at.count ≡ Ok met) × (pointers ≡ nodes (form_at at) image n at.root at.count)) levels_are
    (subst (λ (f : Form). (tree f image k at.first at.holder at.root at.count ≡ Ok met) × (pointers ≡ nodes f image k at.root at.count)) c.layout_of-layout.ensures.form whole))

pub returns-clause-pointers : goal.returns-clause-pointers
returns-clause-pointers g c =
    let at = c.args.at.now in
    let here = (goal.at.returns-clause-pointers g c).After-drop-tiers-2 in
    let fan = c.layout_of-layout.result.fan in
    let k = c.shape-levels.result.levels in
    let wide = c.layout_of-layout.ensures.fan.0 in
    ap length (tiers_after g here) ∙ more_sum fan at.count k (blocks_in c.deref_mut.result.now) (blocks_in c.walk_from.new.tiers) (tiers_before g here) c.in_ok-walk_from.ensures.grows.more
    ∙ ap (λ (n : ℕ). over_count fan n at.count) c.shape-levels.ensures.levels ∙ over_all fan at.count (omega arith) ∙ ap (λ (n : ℕ). pointer_count n at.count) (form_is g here).0

pub shape-levels-requires-clause-some : goal.shape-levels-requires-clause-some
shape-levels-requires-clause-some g c = c.requires.some

pub walk_from-requires-clause-some : goal.walk_from-requires-clause-some
walk_from-requires-clause-some g c = c.requires.some

pub returns-in_err-tiers-clause-count : goal.returns-in_err-tiers-clause-count
returns-in_err-tiers-clause-count g c = ok_at_err _ c.from_residual.result _ c.from_residual.ensures.1

pub returns-in_err-tiers-clause-pointers : goal.returns-in_err-tiers-clause-pointers
returns-in_err-tiers-clause-pointers g c = ok_at_err _ c.from_residual.result _ c.from_residual.ensures.1

pub returns-in_err-tiers-clause-within : goal.returns-in_err-tiers-clause-within
returns-in_err-tiers-clause-within g c = ok_at_err _ c.from_residual.result _ c.from_residual.ensures.1

pub returns-in_err-tiers-clause-reads : goal.returns-in_err-tiers-clause-reads
returns-in_err-tiers-clause-reads g c =
    reads_none _ c.from_residual.result (err_at_err _ c.from_residual.result (λ e. e ≡ Device → ⊥) c.from_residual.ensures.1 (λ e is device. memory_only e is device))

pub returns-in_err-walk_from-clause-count : goal.returns-in_err-walk_from-clause-count
returns-in_err-walk_from-clause-count g c = ok_at_err _ c.from_residual-in_err-walk_from.result _ c.from_residual-in_err-walk_from.ensures.1

pub returns-in_err-walk_from-clause-pointers : goal.returns-in_err-walk_from-clause-pointers
returns-in_err-walk_from-clause-pointers g c = ok_at_err _ c.from_residual-in_err-walk_from.result _ c.from_residual-in_err-walk_from.ensures.1

pub returns-in_err-walk_from-clause-within : goal.returns-in_err-walk_from-clause-within
returns-in_err-walk_from-clause-within g c = ok_at_err _ c.from_residual-in_err-walk_from.result _ c.from_residual-in_err-walk_from.ensures.1

pub returns-in_err-walk_from-clause-reads : goal.returns-in_err-walk_from-clause-reads
returns-in_err-walk_from-clause-reads g c = reads_at_err c.from_residual-in_err-walk_from.result _ c.from_residual-in_err-walk_from.ensures.1 c.in_err-walk_from.ensures.reads

pub returns-in_err-joined-clause-count : goal.returns-in_err-joined-clause-count
returns-in_err-joined-clause-count g c = ok_at_err _ c.from_residual-in_err-joined.result _ c.from_residual-in_err-joined.ensures.1

pub returns-in_err-joined-clause-pointers : goal.returns-in_err-joined-clause-pointers
returns-in_err-joined-clause-pointers g c = ok_at_err _ c.from_residual-in_err-joined.result _ c.from_residual-in_err-joined.ensures.1

pub returns-in_err-joined-clause-within : goal.returns-in_err-joined-clause-within
returns-in_err-joined-clause-within g c = ok_at_err _ c.from_residual-in_err-joined.result _ c.from_residual-in_err-joined.ensures.1

pub returns-in_err-joined-clause-reads : goal.returns-in_err-joined-clause-reads
returns-in_err-joined-clause-reads g c =
    plain_at_err _ c.from_residual-in_err-joined.result c.from_residual-in_err-joined.ensures.1 (λ e is device. memory_only e is device) c.in_ok-walk_from.ensures.reads

pub returns-clause-reads : goal.returns-clause-reads
returns-clause-reads g c = reads_at_ok _ c.in_ok-walk_from.ensures.reads

pub layout_of-layout-requires : goal.layout_of-layout-requires
layout_of-layout-requires g c = record { psize = c.requires.psize }

pub shape-levels-requires-clause-wide : goal.shape-levels-requires-clause-wide
shape-levels-requires-clause-wide g c = c.layout_of-layout.ensures.fan.0

pub returns-in_err-tiers-clause-read : goal.returns-in_err-tiers-clause-read
returns-in_err-tiers-clause-read g c = λ j told. tree_at_err (image_at j c.args.at.now) c.args.at.now c.from_residual.result Memory c.from_residual.ensures.1 tt

pub returns-in_err-joined-clause-read : goal.returns-in_err-joined-clause-read
returns-in_err-joined-clause-read g c = λ j told. tree_at_err (image_at j c.args.at.now) c.args.at.now c.from_residual-in_err-joined.result Memory c.from_residual-in_err-joined.ensures.1 tt

pub walk_from-requires-clause-fan : goal.walk_from-requires-clause-fan
walk_from-requires-clause-fan g c = c.layout_of-layout.ensures.fan.0

pub walk_from-requires-clause-stride : goal.walk_from-requires-clause-stride
walk_from-requires-clause-stride g c = c.layout_of-layout.ensures.stride.0

pub walk_from-requires-clause-fits : goal.walk_from-requires-clause-fits
walk_from-requires-clause-fits g c = c.layout_of-layout.ensures.stride.1

-- the fault of the root's part is that of the walk
whole_fault : (e : TreeFault) (image : Image) (at : TreeAt) → IsFaultOf e (tree_at image at) → Reads image at (Err e)
whole_fault Device image at is = tt
whole_fault Memory image at is = tt
whole_fault (Pointer holder value) image at is = is

from_none : (n old count : ℕ) → n ≡ old + count → old ≡ 0 → n ≡ count
from_none n old count is none = omega arith

pub returns-in_err-walk_from-clause-read : goal.returns-in_err-walk_from-clause-read
returns-in_err-walk_from-clause-read g c = λ j told.
    let at = c.args.at.now in
    let e = c.in_err-walk_from.field-0.0 in
    let k = c.shape-levels.result.levels in
    let image = image_of (contents_of j c.layout_of-layout.result.unit) in
    let levels_are : k ≡ levels_at at = c.shape-levels.ensures.levels ∙ ap (λ (fan : ℕ). levels fan at.count) (ap (λ (f : Form). f.fan) c.layout_of-layout.ensures.form) in
    tree_at_err (image_at j at) at c.from_residual-in_err-walk_from.result e c.from_residual-in_err-walk_from.ensures.1 (whole_fault e (image_at j at) at
    (subst (λ (n : ℕ). IsFaultOf e (tree_at (image_of (contents_of j n)) at)) c.layout_of-layout.ensures.unit
    (subst (λ (n : ℕ). IsFaultOf e (tree (form_at at) image n at.first at.holder at.root at.count)) levels_are
    (subst (λ (f : Form). IsFaultOf e (tree f image k at.first at.holder at.root at.count)) c.layout_of-layout.ensures.form (c.in_err-walk_from.ensures.read j told)))))

pub returns-clause-count : goal.returns-clause-count
returns-clause-count g c = from_none _ _ _ c.in_ok-walk_from.ensures.count c.new-2.ensures.len

pub walk_from-requires-clause-blocks : goal.walk_from-requires-clause-blocks
walk_from-requires-clause-blocks g c = λ j told. rw (c.layout_of-layout.ensures.unit, ap (λ (f : Form). f.last) c.layout_of-layout.ensures.form, c.layout_of-layout.ensures.bsize) (c.requires.blocks j told)

use Rattle.std.proofs.Common.{◌≡◌, inl, inr, ℕ, ◌+◌, ◌-◌, ◌*◌, ◌^◌, ◌≤◌, min, List, [], ◌∷◌, ◌++◌, length, Result, Ok, Err, refl, sym, ◌∙◌, ap, subst, arith, Vec, Global, vec_len, ◌<◌}
use Rattle.std.specs.Prelude.{⊤}
use Rattle.std.specs.Result.{OnOk}
use Rattle.std.proofs.Math.Nat.{min-le_left, one-le-pow}
use Rattle.std.proofs.lemmas.Result.{err_from_is_err_and}
use Rattle.cms_journal.specs.Journal.{contents_of}
use Rattle.cms_text.specs.Bytes.{word}
use Rattle.cms_model.specs.Trees.{image_of, tree}
use Rattle.cms_model.specs.ByLevels.{beside, tiers}
use Rattle.cms_model.proofs.TreeFrame.{allowed_free as allowed_lies}
use Rattle.cms_tree.specs.declared.read.Tier.{Tier}
use Rattle.cms_tree.specs.declared.types.TreeFault.{TreeFault}
use Rattle.cms_tree.specs.Parts.{form_of, met_of, onto, blocks_in, Grows, IsFaultOf}
use Rattle.cms_tree.proofs.Sums.{counts_down, power_below, room_first, room_left, no_room, left_none}
use Rattle.cms_tree.proofs.WalkSteps.{all_done, count_next, deep_of, done_of, down_of, later_than, none_and_all, none_done, one_leaf, part_room, part_some, pointer_fits, pointer_in, small_below, some_fan, some_left, sum_of, tiers_of, whole_next}
use Rattle.cms_tree.proofs.Blocks.{has_block}
use Rattle.cms_tree.proofs.Rest.{leaf_joins, node_refusal, node_plain, starts, goes_on, refusal_passes, node_joins}
use Rattle.cms_tree.proofs.Within.{taken_within, part_within, node_grows, grows_both, grows_none}
use Rattle.cms_tree.proofs.Exits.{no_device, ok_at_err, reads_at_err, reads_behind, reads_none, reads_so_far, same_at_err}
use Rattle.cms_tree.specs.declared.types.TreeFault.TheVariants.{Device}
use Rattle.cms_tree.proofs.read.+walk_from.Goals as goal

-- where there is no level
no_tiers : (ts : List Tier) → length ts ≡ 0 → ts ≡ []
no_tiers [] is = refl
no_tiers (t ∷ ts) is = absurd (omega arith)

pub returns-in_default-clause-read : goal.returns-in_default-clause-read
returns-in_default-clause-read g t c = λ j told.
    let a = c.args in
    let image = image_of (contents_of j a.layout.now.unit) in
    let none : a.levels ≡ 0 = sym c.requires.tiers ∙ c.in_default.ensures.cases in
    leaf_joins image a.layout.now a.levels a.part.now a.tiers.now a.into.now c.take_leaf.new.into c.take_leaf.result none (c.take_leaf.ensures.read image a.part.now.count)

pub returns-in_default-clause-grows : goal.returns-in_default-clause-grows
returns-in_default-clause-grows g t c =
    let a = c.args in
    let none : a.tiers.now ≡ [] = no_tiers a.tiers.now c.in_default.ensures.cases in
    always c.take_leaf.result (subst (λ (ts : List Tier). Grows a.layout.now.fan a.layout.now.last a.part.now.count ts ts) (sym none) (record { more = tt; within = λ all. all }))
  where
    always : (r : Result ⊤ TreeFault) → {P : Type 0} → P → OnOk r P
    always (Ok x) p = p
    always (Err e) p = tt

pub returns-in_err-take_node-clause-read : goal.returns-in_err-take_node-clause-read
returns-in_err-take_node-clause-read g t c = λ j told.
    let a = c.args in
    let image = image_of (contents_of j a.layout.now.unit) in
    let p = err_from_is_err_and c.from_residual.result c.from_residual.ensures.1 in
    rw (p.1, p.2) (node_refusal (form_of a.layout.now) image a.levels a.part.now.first a.part.now.holder a.part.now.root a.part.now.count c.in_err-take_node.field-0.0
    (deep_of _ _ _ c.in-Some.ensures.cases.1 c.requires.tiers) c.in_err-take_node.ensures.refused)

pub read_block-requires : goal.read_block-requires
read_block-requires g t c = λ j told.
    let a = c.args in
    let lies = allowed_lies a.layout.now.last a.part.now.root c.in_ok-take_node.ensures.ok.allowed in
    has_block j a.layout.now.unit a.layout.now.last a.part.now.root a.layout.now.bsize (c.requires.blocks j told) lies.0 lies.1

pub returns-in_err-block-clause-read : goal.returns-in_err-block-clause-read
returns-in_err-block-clause-read g t c = λ j told.
    let a = c.args in
    let p = err_from_is_err_and c.from_residual-in_err-block.result c.from_residual-in_err-block.ensures.1 in
    rw (p.1, p.2) (node_plain c.in_err-block.field-0.0 (tree (form_of a.layout.now) (image_of (contents_of j a.layout.now.unit)) a.levels a.part.now.first a.part.now.holder a.part.now.root a.part.now.count) c.in_err-block.ensures.plain)

pub loop-place-init : goal.loop-place-init
loop-place-init g t c =
    let a = c.args in
    let deep : 1 ≤ a.levels = deep_of _ _ _ c.in-Some.ensures.cases.1 c.requires.tiers in
    record {
      comes = λ j told. starts (form_of a.layout.now) (image_of (contents_of j a.layout.now.unit)) a.levels a.part.now.first a.part.now.holder a.part.now.root a.part.now.count
          c.in_ok-block.block.items c.in-Some.top.now c.take_node.new.tier c.in-Some.below.now a.into.now c.take_node.new.into deep c.in_ok-take_node.ensures.ok (c.in_ok-block.ensures.bytes j told);
      grows = subst (λ (n : ℕ). Grows a.layout.now.fan a.layout.now.last n c.in-Some.below.now c.in-Some.below.now) (none_done a.part.now.count)
          (grows_none a.layout.now.fan a.layout.now.last c.in-Some.below.now (some_fan _ c.requires.fan));
      whole = λ some. none_and_all a.part.now.count c.size_below-size.result;
      count = ap (λ (v : Vec ℕ Global). vec_len v + a.part.now.count) c.in_ok-take_node.ensures.ok.leaves;
      room = room_first a.part.now.count a.layout.now.fan a.levels c.size_below-size.result deep c.requires.room c.size_below-size.ensures;
      within = taken_within a.layout.now.last a.part.now.first a.part.now.root c.in-Some.top.now c.take_node.new.tier a.into.now c.take_node.new.into c.in_ok-take_node.ensures.ok;
      next = inr refl;
      told = c.in_ok-block.ensures.reads.told;
      later = c.in_ok-block.ensures.reads.faults;
      edges = c.in_ok-block.ensures.reads.edges;
    }

pub returns-then-left-eq0-clause-read : goal.returns-then-left-eq0-clause-read
returns-then-left-eq0-clause-read g t c = λ j told.
    let a = c.args in
    let l = c.loop-place in
    node_joins (image_of (contents_of j a.layout.now.unit)) a.layout.now a.levels a.part.now c.in_ok-block.block.items l.place l.left l.first a.into.now l.into c.in-Some.below.now l.below
    c.in-Some.top.now c.take_node.new.tier a.tiers.now (l.below ++ c.take_node.new.tier ∷ []) (deep_of _ _ _ c.in-Some.ensures.cases.1 c.requires.tiers) (some_fan _ c.requires.fan) c.requires.some c.requires.tiers c.in-Some.ensures.cases.0 refl
    c.in_ok-take_node.ensures.ok.of_tier (l.invariant.comes j told) c.if-left-eq0.true

pub returns-then-left-eq0-clause-grows : goal.returns-then-left-eq0-clause-grows
returns-then-left-eq0-clause-grows g t c =
    let a = c.args in
    let l = c.loop-place in
    let all : a.part.now.count - l.left ≡ a.part.now.count = all_done _ _ c.if-left-eq0.true in
    node_grows a.layout.now.fan a.layout.now.last a.part.now.root a.part.now.count a.levels c.in-Some.below.now l.below c.in-Some.top.now c.take_node.new.tier a.into.now c.take_node.new.into
    a.tiers.now (l.below ++ c.take_node.new.tier ∷ []) (some_fan _ c.requires.fan) c.requires.some c.requires.room c.requires.tiers c.in_ok-take_node.ensures.ok c.in-Some.ensures.cases.0 refl
    (subst (λ (n : ℕ). Grows a.layout.now.fan a.layout.now.last n c.in-Some.below.now l.below) all l.invariant.grows)

pub walk_from-requires : goal.walk_from-requires
walk_from-requires g t c κs within =
    let a = c.args in
    let l = c.loop-place in
    let size : c.size_below-size.result ≡ a.layout.now.fan ^ (a.levels - 1) = c.size_below-size.ensures in
    let some : 1 ≤ a.layout.now.fan ^ (a.levels - 1) = one-le-pow (a.levels - 1) a.layout.now.fan (some_fan _ c.requires.fan) in
    let small : a.layout.now.fan ^ (a.levels - 1) < 2 ^ 64 = small_below _ _ _ (power_below a.layout.now.fan a.levels (some_fan _ c.requires.fan)) c.requires.small in
    let child_some : 1 ≤ c.part_of.result = part_some _ _ _ _ c.part_of.ensures size some (some_left _ c.if-left-eq0.false) in
    let child_room : c.part_of.result ≤ a.layout.now.fan ^ (a.levels - 1) = part_room _ _ _ _ c.part_of.ensures size in
    let deep : 1 ≤ a.levels = deep_of _ _ _ c.in-Some.ensures.cases.1 c.requires.tiers in
    let tiers_is : length l.below ≡ a.levels - 1 = tiers_of _ _ _ _ l.auto.below c.in-Some.ensures.cases.1 c.requires.tiers in (
      omega arith,
      (within, (c.requires.fan, (c.requires.stride, (c.requires.fits, (small, (child_some, (child_room, (tiers_is, λ j told. c.requires.blocks j (sym l.invariant.told ∙ told))))))))),
    )

pub returns-in_err-walk_from-clause-read : goal.returns-in_err-walk_from-clause-read
returns-in_err-walk_from-clause-read g t c = λ j told.
    let a = c.args in
    let l = c.loop-place in
    let image = image_of (contents_of j a.layout.now.unit) in
    let p = err_from_is_err_and c.from_residual-in_err-walk_from.result c.from_residual-in_err-walk_from.ensures.1 in
    let form = form_of a.layout.now in
    let child : c.word_at.result ≡ word c.in_ok-block.block.items (l.place * a.layout.now.stride) =
    c.word_at.ensures ∙ ap (λ (bytes : List ℕ). word bytes (l.place * a.layout.now.stride)) c.deref.ensures.value in
    let part : c.part_of.result ≡ min l.left (a.layout.now.fan ^ (a.levels - 1)) = c.part_of.ensures ∙ ap (λ (n : ℕ). min l.left n) c.size_below-size.ensures in
    let read = c.in_err-walk_from.ensures.read j (l.invariant.told ∙ told) in
    rw (p.1, p.2)
    (refusal_passes form image (a.levels - 1) a.part.now.root c.in_ok-block.block.items l.place l.left c.part_of.result l.first a.into.now l.into _ _ _ _ c.in_err-walk_from.field-0.0
    (l.invariant.comes j told) c.loop-place-test.true (some_left _ c.if-left-eq0.false) part
    (subst (λ (n : ℕ). IsFaultOf c.in_err-walk_from.field-0.0 (tree form image (a.levels - 1) l.first a.part.now.root n c.part_of.result)) child read))

pub loop-place-preserved : goal.loop-place-preserved
loop-place-preserved g t c =
    let a = c.args in
    let l = c.loop-place in
    let some : 1 ≤ l.left = some_left _ c.if-left-eq0.false in
    let least : c.part_of.result ≡ min l.left c.size_below-size.result = c.part_of.ensures in
    let all : a.part.now.count ≡ l.place * c.size_below-size.result + l.left = l.invariant.whole some in
    record {
      comes = λ j told.
          let image = image_of (contents_of j a.layout.now.unit) in
          let form = form_of a.layout.now in
          let child : c.word_at.result ≡ word c.in_ok-block.block.items (l.place * a.layout.now.stride) =
          c.word_at.ensures ∙ ap (λ (bytes : List ℕ). word bytes (l.place * a.layout.now.stride)) c.deref.ensures.value in
          let part : c.part_of.result ≡ min l.left (a.layout.now.fan ^ (a.levels - 1)) = c.part_of.ensures ∙ ap (λ (n : ℕ). min l.left n) c.size_below-size.ensures in
          let read = c.in_ok-walk_from.ensures.read j (l.invariant.told ∙ told) in
          goes_on form image (a.levels - 1) a.part.now.root c.in_ok-block.block.items l.place l.left c.part_of.result l.first a.into.now l.into c.walk_from.new.into c.in-Some.below.now l.below c.walk_from.new.tiers
          _ _ c.loop-place-test.true some part (l.invariant.comes j told)
          (subst (λ (n : ℕ). onto (met_of l.into) (tree form image (a.levels - 1) l.first a.part.now.root n c.part_of.result) ≡ Ok (met_of c.walk_from.new.into)) child read.0)
          (subst (λ (n : ℕ). blocks_in c.walk_from.new.tiers ≡ beside (blocks_in l.below) (tiers form image (a.levels - 1) n c.part_of.result)) child read.1);
      grows =
          let down : length c.in-Some.below.now ≡ a.levels - 1 = down_of _ _ _ c.in-Some.ensures.cases.1 c.requires.tiers in
          let done : a.part.now.count - l.left ≡ l.place * a.layout.now.fan ^ length c.in-Some.below.now =
          done_of _ _ _ all
          ∙ ap (λ (n : ℕ). l.place * n) (c.size_below-size.ensures ∙ ap (λ (n : ℕ). a.layout.now.fan ^ n) (sym down)) in
          let sum : (a.part.now.count - l.left) + c.part_of.result ≡ a.part.now.count - (l.left - c.part_of.result) = sum_of _ _ _ _ _ all least in
          subst (λ (n : ℕ). Grows a.layout.now.fan a.layout.now.last n c.in-Some.below.now c.walk_from.new.tiers) sum
          (grows_both a.layout.now.fan a.layout.now.last (a.part.now.count - l.left) c.part_of.result l.place c.in-Some.below.now l.below c.walk_from.new.tiers (some_fan _ c.requires.fan) done l.invariant.grows
          c.in_ok-walk_from.ensures.grows);
      whole = λ more. whole_next _ l.left c.size_below-size.result c.part_of.result l.place all least more;
      count = count_next _ _ _ l.left c.part_of.result c.size_below-size.result _ c.in_ok-walk_from.ensures.count l.invariant.count least;
      room = room_left l.left c.part_of.result a.layout.now.fan l.place c.size_below-size.result l.invariant.room c.loop-place-test.true c.part_of.ensures;
      within = part_within a.layout.now.last a.part.now.first l.first a.into.now l.into c.walk_from.new.into l.invariant.next l.invariant.within c.in_ok-walk_from.ensures.within;
      next = inl refl;
      told = c.in_ok-walk_from.ensures.reads.told ∙ l.invariant.told;
      later = later_than _ _ _ l.invariant.later c.in_ok-walk_from.ensures.reads.faults;
      edges = c.in_ok-walk_from.ensures.reads.edges ∙ l.invariant.edges;
    }

pub returns-clause-read : goal.returns-clause-read
returns-clause-read g t c = λ j told.
    let a = c.args in
    let l = c.loop-place in
    let none = no_room l.left a.layout.now.fan l.place c.size_below-size.result l.invariant.room c.loop-place-test.false in
    node_joins (image_of (contents_of j a.layout.now.unit)) a.layout.now a.levels a.part.now c.in_ok-block.block.items l.place l.left l.first a.into.now l.into c.in-Some.below.now l.below
    c.in-Some.top.now c.take_node.new.tier a.tiers.now (l.below ++ c.take_node.new.tier ∷ []) (deep_of _ _ _ c.in-Some.ensures.cases.1 c.requires.tiers) (some_fan _ c.requires.fan) c.requires.some c.requires.tiers c.in-Some.ensures.cases.0 refl
    c.in_ok-take_node.ensures.ok.of_tier (l.invariant.comes j told) none

pub returns-clause-grows : goal.returns-clause-grows
returns-clause-grows g t c =
    let a = c.args in
    let l = c.loop-place in
    let none = no_room l.left a.layout.now.fan l.place c.size_below-size.result l.invariant.room c.loop-place-test.false in
    let all : a.part.now.count - l.left ≡ a.part.now.count = all_done _ _ none in
    node_grows a.layout.now.fan a.layout.now.last a.part.now.root a.part.now.count a.levels c.in-Some.below.now l.below c.in-Some.top.now c.take_node.new.tier a.into.now c.take_node.new.into
    a.tiers.now (l.below ++ c.take_node.new.tier ∷ []) (some_fan _ c.requires.fan) c.requires.some c.requires.room c.requires.tiers c.in_ok-take_node.ensures.ok c.in-Some.ensures.cases.0 refl
    (subst (λ (n : ℕ). Grows a.layout.now.fan a.layout.now.last n c.in-Some.below.now l.below) all l.invariant.grows)

pub returns-in_default-clause-count : goal.returns-in_default-clause-count
returns-in_default-clause-count g t c =
    let a = c.args in
    let none : a.levels ≡ 0 = sym c.requires.tiers ∙ c.in_default.ensures.cases in
    subst (λ (n : ℕ). OnOk c.take_leaf.result (vec_len c.take_leaf.new.into.leaves ≡ vec_len a.into.now.leaves + n)) (one_leaf a.part.now.count a.layout.now.fan a.levels none c.requires.room c.requires.some) c.take_leaf.ensures.count

pub returns-in_default-clause-within : goal.returns-in_default-clause-within
returns-in_default-clause-within g t c = c.take_leaf.ensures.within

pub returns-in_default-clause-reads : goal.returns-in_default-clause-reads
returns-in_default-clause-reads g t c = reads_none _ c.take_leaf.result (no_device c.take_leaf.result c.take_leaf.ensures.device)

pub returns-in_err-take_node-clause-grows : goal.returns-in_err-take_node-clause-grows
returns-in_err-take_node-clause-grows g t c = ok_at_err _ c.from_residual.result _ c.from_residual.ensures.1

pub returns-in_err-take_node-clause-count : goal.returns-in_err-take_node-clause-count
returns-in_err-take_node-clause-count g t c = ok_at_err _ c.from_residual.result _ c.from_residual.ensures.1

pub returns-in_err-take_node-clause-within : goal.returns-in_err-take_node-clause-within
returns-in_err-take_node-clause-within g t c = ok_at_err _ c.from_residual.result _ c.from_residual.ensures.1

pub returns-in_err-take_node-clause-reads : goal.returns-in_err-take_node-clause-reads
returns-in_err-take_node-clause-reads g t c =
    reads_none _ c.from_residual.result (same_at_err c.from_residual.result (λ e. e ≡ Device → ⊥) c.in_err-take_node.field-0.0 c.from_residual.ensures.1 (λ is. c.in_err-take_node.ensures.device (ap Err is)))

pub returns-in_err-block-clause-grows : goal.returns-in_err-block-clause-grows
returns-in_err-block-clause-grows g t c = ok_at_err _ c.from_residual-in_err-block.result _ c.from_residual-in_err-block.ensures.1

pub returns-in_err-block-clause-count : goal.returns-in_err-block-clause-count
returns-in_err-block-clause-count g t c = ok_at_err _ c.from_residual-in_err-block.result _ c.from_residual-in_err-block.ensures.1

pub returns-in_err-block-clause-within : goal.returns-in_err-block-clause-within
returns-in_err-block-clause-within g t c = ok_at_err _ c.from_residual-in_err-block.result _ c.from_residual-in_err-block.ensures.1

pub returns-in_err-block-clause-reads : goal.returns-in_err-block-clause-reads
returns-in_err-block-clause-reads g t c = reads_at_err c.from_residual-in_err-block.result _ c.from_residual-in_err-block.ensures.1 c.in_err-block.ensures.reads

pub size_below-size-requires-clause-small : goal.size_below-size-requires-clause-small
size_below-size-requires-clause-small g t c = c.requires.small

pub returns-then-left-eq0-clause-count : goal.returns-then-left-eq0-clause-count
returns-then-left-eq0-clause-count g t c = left_none _ c.loop-place.left _ c.loop-place.invariant.count c.if-left-eq0.true

pub returns-then-left-eq0-clause-within : goal.returns-then-left-eq0-clause-within
returns-then-left-eq0-clause-within g t c = c.loop-place.invariant.within

pub returns-then-left-eq0-clause-reads : goal.returns-then-left-eq0-clause-reads
returns-then-left-eq0-clause-reads g t c =
    let l = c.loop-place.invariant in
    reads_so_far _ _ _ l.told l.later l.edges

pub word_at-requires : goal.word_at-requires
word_at-requires g t c =
    pointer_in c.loop-place.place c.args.layout.now.fan c.args.layout.now.stride c.args.layout.now.bsize (length c.deref.result.now) c.loop-place-test.true c.requires.stride c.requires.fits
    (ap (λ (l : List ℕ). length l) c.deref.ensures.value ∙ (sym c.in_ok-block.block.ok.0 ∙ c.in_ok-block.ensures.len))

pub returns-in_err-walk_from-clause-grows : goal.returns-in_err-walk_from-clause-grows
returns-in_err-walk_from-clause-grows g t c = ok_at_err _ c.from_residual-in_err-walk_from.result _ c.from_residual-in_err-walk_from.ensures.1

pub returns-in_err-walk_from-clause-count : goal.returns-in_err-walk_from-clause-count
returns-in_err-walk_from-clause-count g t c = ok_at_err _ c.from_residual-in_err-walk_from.result _ c.from_residual-in_err-walk_from.ensures.1

pub returns-in_err-walk_from-clause-within : goal.returns-in_err-walk_from-clause-within
returns-in_err-walk_from-clause-within g t c = ok_at_err _ c.from_residual-in_err-walk_from.result _ c.from_residual-in_err-walk_from.ensures.1

pub returns-in_err-walk_from-clause-reads : goal.returns-in_err-walk_from-clause-reads
returns-in_err-walk_from-clause-reads g t c =
    let l = c.loop-place.invariant in
    reads_at_err c.from_residual-in_err-walk_from.result _ c.from_residual-in_err-walk_from.ensures.1 (reads_behind _ l.told l.later l.edges c.in_err-walk_from.ensures.reads)

pub returns-clause-count : goal.returns-clause-count
returns-clause-count g t c =
    let a = c.args in
    let l = c.loop-place in
    let none = no_room l.left a.layout.now.fan l.place c.size_below-size.result l.invariant.room c.loop-place-test.false in
    left_none _ l.left _ l.invariant.count none

pub returns-clause-within : goal.returns-clause-within
returns-clause-within g t c = c.loop-place.invariant.within

pub returns-clause-reads : goal.returns-clause-reads
returns-clause-reads g t c =
    let l = c.loop-place.invariant in
    reads_so_far _ _ _ l.told l.later l.edges

pub size_below-size-requires-clause-some : goal.size_below-size-requires-clause-some
size_below-size-requires-clause-some g t c = some_fan _ c.requires.fan

pub overflow_sub-left : goal.overflow_sub-left
overflow_sub-left g t c = subst (λ (n : ℕ). n ≤ c.loop-place.left) (sym c.part_of.ensures) (min-le_left c.loop-place.left c.size_below-size.result)

pub size_below-size-requires-clause-deep : goal.size_below-size-requires-clause-deep
size_below-size-requires-clause-deep g t c = deep_of _ _ _ c.in-Some.ensures.cases.1 c.requires.tiers

pub overflow_sub-levels : goal.overflow_sub-levels
overflow_sub-levels g t c = deep_of _ _ _ c.in-Some.ensures.cases.1 c.requires.tiers

pub overflow_mul-place : goal.overflow_mul-place
overflow_mul-place g t c = pointer_fits c.loop-place.place c.args.layout.now.fan c.args.layout.now.stride c.args.layout.now.bsize c.loop-place-test.true c.requires.fits (omega arith)

pub loop-place-smaller : goal.loop-place-smaller
loop-place-smaller g t c = counts_down _ c.loop-place.place c.loop-place-test.true

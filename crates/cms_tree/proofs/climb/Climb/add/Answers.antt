use Rattle.std.proofs.Common.{◌≡◌, ℕ, ◌+◌, ◌/◌, ◌≤◌, length, List, [], refl, sym, ◌∙◌, ap, subst, arith, ◌<◌, All}
use Rattle.std.specs.Vec.{with_items}
use Rattle.std.proofs.lemmas.List.{with_items_is}
use Rattle.cms_model.specs.Sizes.{levels, pointer_count}
use Rattle.cms_tree.specs.declared.climb.Level.{Level}
use Rattle.cms_tree.specs.declared.climb.Child.{Child}
use Rattle.cms_tree.specs.Levels.{over_count}
use Rattle.cms_tree.specs.Builds.{node_at}
use Rattle.cms_tree.specs.Tiers.{lowest, node_on, IsTier, Stand, Rises}
use Rattle.cms_tree.specs.Climbs.{Climb, Adds, AddsOn, AddsOwn, numbers_behind, HasEach, HasSize, IsClimbing}
use Rattle.cms_tree.proofs.ClimbBlocks.{some_fan}
use Rattle.cms_tree.proofs.ClimbSteps.{over_all, tier_lowest, tier_lowest_on, leaf_child, leaf_added, leaf_added_on}
use Rattle.cms_tree.proofs.climb.Climb.add.Goals as goal

pub rise-requires-clause-fresh : goal.rise-requires-clause-fresh
rise-requires-clause-fresh g c =
    let s = c.self.inside in
    let i = c.self.invariant in
    let fan = s.bsize / s.psize in
    let long : length c.deref_mut.result.now ≡ levels fan s.leaves = ap (λ (l : List Level). length l) c.deref_mut.ensures.value ∙ i.held.levels in
    let all = over_all fan s.leaves (some_fan s.bsize s.psize i.size i.pointer) in
    let enough : pointer_count fan s.leaves ≤ length c.args.fresh.now = rw (← c.self.view_is) at c.requires.fresh in
    subst (λ (n : ℕ). over_count fan n s.leaves ≤ length c.args.fresh.now) (sym long) (omega arith)

pub returns-clause-adds : goal.returns-clause-adds
returns-clause-adds g c =
    let s = c.self.inside in
    let i = c.self.invariant in
    let fan = s.bsize / s.psize in
    let v : Climb = record { bsize = s.bsize; psize = s.psize; count = s.leaves; added = s.added; levels = s.levels.items } in
    rw (← c.self.view_is) (λ leaves marks climbs next.
    let d = c.deref_mut.ensures.value in
    let fewer = rw (← c.self.view_is) at c.requires.fewer in
    let fresh = c.args.fresh.now in
    let node = node_at s.bsize s.psize leaves marks fresh in
    let tier = tier_lowest s.bsize s.psize leaves marks fresh (some_fan s.bsize s.psize i.size i.pointer) climbs.plan in
    let child = leaf_child v 0 [] leaves marks fresh c.args.leaf c.args.mark.now fewer climbs next in
    let leaf : Child = record { block = c.args.leaf; mark = c.args.mark.now; nth = s.added; count = s.leaves } in
    let long : levels fan (length leaves) ≡ length c.deref_mut.result.now = sym (ap (λ (l : List Level). length l) d ∙ i.held.levels ∙ ap (levels fan) climbs.count) in
    let tier' = subst (IsTier s.bsize s.psize leaves marks fresh node (lowest 0 leaves) []) long tier in
    let stand = subst (Stand s.bsize s.psize marks (length leaves) fresh (lowest 0 leaves) [] s.added) (sym d) (climbs.stand fewer) in
    let risen = c.rise.ensures.rises leaves marks fresh node (lowest 0 leaves) [] refl tier' stand child in
    let kept : (with_items s.levels c.rise.new.levels).items ≡ c.rise.new.levels = with_items_is s.levels c.rise.new.levels (c.rise.auto.levels ∙ c.deref_mut.ensures.len) in
    subst (λ (l : List Level). Adds (g.W.World.told c.args.world.now) (g.W.World.told c.rise.new.world) c.args.unit v (record v { added = s.added + 1; levels = l }) leaves marks fresh c.rise.result)
    (sym kept)
    (leaf_added (g.W.World.told c.args.world.now) (g.W.World.told c.rise.new.world) c.args.unit v c.rise.new.levels leaves marks fresh c.args.leaf c.args.mark.now c.rise.result climbs i.held.levels
    (subst (λ (l : List Level). Rises (g.W.World.told c.args.world.now) (g.W.World.told c.rise.new.world) c.args.unit s.bsize s.psize leaves marks fresh node
    (lowest 0 leaves) [] leaf l c.rise.new.levels c.rise.result) d risen)))

pub returns-clause-adds_on : goal.returns-clause-adds_on
returns-clause-adds_on g c =
    let s = c.self.inside in
    let i = c.self.invariant in
    let fan = s.bsize / s.psize in
    let v : Climb = record { bsize = s.bsize; psize = s.psize; count = s.leaves; added = s.added; levels = s.levels.items } in
    rw (← c.self.view_is) (λ base es leaves marks climbs next.
    let d = c.deref_mut.ensures.value in
    let fewer = rw (← c.self.view_is) at c.requires.fewer in
    let fresh = c.args.fresh.now in
    let node = node_on s.bsize s.psize leaves marks fresh base es in
    let tier = tier_lowest_on s.bsize s.psize base es leaves marks fresh (some_fan s.bsize s.psize i.size i.pointer) climbs.plan in
    let child = leaf_child v base es leaves marks fresh c.args.leaf c.args.mark.now fewer climbs next in
    let leaf : Child = record { block = c.args.leaf; mark = c.args.mark.now; nth = s.added; count = s.leaves } in
    let long : levels fan (length leaves) ≡ length c.deref_mut.result.now = sym (ap (λ (l : List Level). length l) d ∙ i.held.levels ∙ ap (levels fan) climbs.count) in
    let tier' = subst (IsTier s.bsize s.psize leaves marks fresh node (lowest base leaves) es) long tier in
    let stand = subst (Stand s.bsize s.psize marks (length leaves) fresh (lowest base leaves) es s.added) (sym d) (climbs.stand fewer) in
    let risen = c.rise.ensures.rises leaves marks fresh node (lowest base leaves) es refl tier' stand child in
    let kept : (with_items s.levels c.rise.new.levels).items ≡ c.rise.new.levels = with_items_is s.levels c.rise.new.levels (c.rise.auto.levels ∙ c.deref_mut.ensures.len) in
    subst (λ (l : List Level). AddsOn (g.W.World.told c.args.world.now) (g.W.World.told c.rise.new.world) c.args.unit v (record v { added = s.added + 1; levels = l }) base es leaves marks fresh c.rise.result)
    (sym kept)
    (leaf_added_on (g.W.World.told c.args.world.now) (g.W.World.told c.rise.new.world) c.args.unit v c.rise.new.levels base es leaves marks fresh c.args.leaf c.args.mark.now c.rise.result climbs
    i.held.levels
    (subst (λ (l : List Level). Rises (g.W.World.told c.args.world.now) (g.W.World.told c.rise.new.world) c.args.unit s.bsize s.psize leaves marks fresh node
    (lowest base leaves) es leaf l c.rise.new.levels c.rise.result) d risen)))

pub returns-clause-own : goal.returns-clause-own
returns-clause-own g c =
    let s = c.self.inside in
    let i = c.self.invariant in
    let fan = s.bsize / s.psize in
    let long : length c.deref_mut.result.now ≡ levels fan s.leaves = ap (λ (l : List Level). length l) c.deref_mut.ensures.value ∙ i.held.levels in
    rw (← c.self.view_is) (λ base low.
    subst (λ (n : ℕ). AddsOwn (g.W.World.told c.args.world.now) (g.W.World.told c.rise.new.world) c.args.unit s.bsize (numbers_behind fan n s.leaves base c.args.fresh.now)) long
    (c.rise.ensures.own base low))

-- with other levels, and one leaf more
abbrev more_on : Climb → List Level → Climb
more_on v l = record { bsize = v.bsize; psize = v.psize; count = v.count; added = v.added + 1; levels = l }

climbing_more : (v : Climb) (l l' : List Level) → IsClimbing v → v.added < v.count → l' ≡ l → length l ≡ length v.levels → All (HasSize v.bsize) l
    → IsClimbing (more_on v l')
climbing_more v l l' i fewer same long sizes = record {
  size = i.size;
  pointer = i.pointer;
  some = i.some;
  few = i.few;
  added = omega (arith, fewer);
  held = record { levels = ap (λ (x : List Level). length x) same ∙ (long ∙ i.held.levels); blocks = subst (All (HasSize v.bsize)) (sym same) sizes };
}

pub rise-requires-clause-size : goal.rise-requires-clause-size
rise-requires-clause-size g c = c.self.invariant.size

pub rise-requires-clause-psize : goal.rise-requires-clause-psize
rise-requires-clause-psize g c = c.self.invariant.pointer

pub rise-requires-clause-levels : goal.rise-requires-clause-levels
rise-requires-clause-levels g c = subst (All (HasSize c.self.inside.bsize)) (sym c.deref_mut.ensures.value) c.self.invariant.held.blocks

pub rise-requires-clause-within : goal.rise-requires-clause-within
rise-requires-clause-within g c = subst (λ (v : Climb). v.added < v.count) (sym c.self.view_is) c.requires.fewer

pub rise-requires-clause-blocks : goal.rise-requires-clause-blocks
rise-requires-clause-blocks g c = λ j told. subst (λ (v : Climb). HasEach j.units c.args.unit v.bsize c.args.fresh.now) (sym c.self.view_is) (c.requires.blocks j told)

pub rise-requires-clause-writable : goal.rise-requires-clause-writable
rise-requires-clause-writable g c = c.requires.writable

pub invariant_of-self : goal.invariant_of-self
invariant_of-self g c =
    let s = c.self.inside in
    let v : Climb = record { bsize = s.bsize; psize = s.psize; count = s.leaves; added = s.added; levels = s.levels.items } in
    let kept : (with_items s.levels c.rise.new.levels).items ≡ c.rise.new.levels = with_items_is s.levels c.rise.new.levels (c.rise.auto.levels ∙ c.deref_mut.ensures.len) in
    let long : length c.rise.new.levels ≡ length s.levels.items = c.rise.auto.levels ∙ ap (λ (l : List Level). length l) c.deref_mut.ensures.value in
    climbing_more v c.rise.new.levels _ c.self.invariant (subst (λ (x : Climb). x.added < x.count) (sym c.self.view_is) c.requires.fewer) kept long c.rise.ensures.sizes

pub returns-clause-held : goal.returns-clause-held
returns-clause-held g c =
    let s = c.self.inside in
    let v : Climb = record { bsize = s.bsize; psize = s.psize; count = s.leaves; added = s.added; levels = s.levels.items } in
    let kept : (with_items s.levels c.rise.new.levels).items ≡ c.rise.new.levels = with_items_is s.levels c.rise.new.levels (c.rise.auto.levels ∙ c.deref_mut.ensures.len) in
    let long : length c.rise.new.levels ≡ length s.levels.items = c.rise.auto.levels ∙ ap (λ (l : List Level). length l) c.deref_mut.ensures.value in
    (climbing_more v c.rise.new.levels _ c.self.invariant (subst (λ (x : Climb). x.added < x.count) (sym c.self.view_is) c.requires.fewer) kept long c.rise.ensures.sizes).held

pub returns-clause-added : goal.returns-clause-added
returns-clause-added g c = ap (λ (v : Climb). more_on v (with_items c.self.inside.levels c.rise.new.levels).items) c.self.view_is

pub returns-clause-counts : goal.returns-clause-counts
returns-clause-counts g c = c.rise.ensures.counts

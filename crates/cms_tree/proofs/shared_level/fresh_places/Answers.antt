use Rattle.std.proofs.Common.{◌≡◌, ◌+◌, ◌-◌, ◌*◌, ◌^◌, ◌<◌, ◌≤◌, ℕ, zero, suc, nat_le, nat_lt, Bool, true, false, if◌then◌else◌, append-nil, refl, sym, ◌∙◌, ap, arith, mul-pos}
use Rattle.std.proofs.Math.Nat.{pow-zero, one-le-pow}
use Rattle.cms_fields.specs.Numbers.{up}
use Rattle.cms_model.specs.Sizes.{levels, levels_from, pointer_count, pointers_to}
use Rattle.cms_tree.specs.Paths.{places_to}
use Rattle.cms_tree.proofs.Sums.{pointers_small, power_next, counts_down}
use Rattle.cms_tree.proofs.Paths.{counts_left, places_up, power_low, product_fits}
use Rattle.cms_tree.proofs.shared_level.fresh_places.Goals as goal

-- one level more
next_count : (fan count i size : ℕ) → size ≡ fan ^ (i + 1) → pointers_to fan count i + up count size ≡ pointers_to fan count (i + 1)
unfolding pointers_to
next_count fan count i size is = let e : i + 1 ≡ suc i = omega arith in rw (is, e) refl

-- no level is behind the last
within : (fan count i : ℕ) → i ≤ levels fan count → pointers_to fan count i ≤ pointer_count fan count
unfolding pointer_count
within fan count i few =
    let e : i + (levels fan count - i) ≡ levels fan count = omega arith in
    let all = rw e at (counts_left fan count i (levels fan count - i)) in
    omega arith

levels_low : (fan blocks k more : ℕ) → levels_from fan blocks k more ≤ k + more
unfolding levels_from
levels_low fan blocks k zero = omega arith
levels_low fan blocks k (suc more) = go (nat_le blocks (fan ^ k)) (levels_low fan blocks (k + 1) more)
  where
    go : (b : Bool) → levels_from fan blocks (k + 1) more ≤ k + 1 + more → (if b then k else levels_from fan blocks (k + 1) more) ≤ k + suc more
    go true deeper = omega arith
    go false deeper = omega arith

levels_few : (fan blocks : ℕ) → levels fan blocks ≤ 32
unfolding levels
levels_few fan blocks = let low = levels_low fan blocks 0 32 in omega arith

-- no level is above the thirty-second
high : (fan count i : ℕ) → i < levels fan count → i + 1 ≤ 32
high fan count i less = let most = levels_few fan count in omega arith

pub loop-height-init : goal.loop-height-init
unfolding pointers_to places_to
loop-height-init c = record {
  power = sym (pow-zero c.args.fan);
  first = refl;
  items = sym (append-nil c.args.into.now.items);
  len = omega arith;
  capacity = omega arith;
}

pub overflow_mul-size : goal.overflow_mul-size
overflow_mul-size c =
    let a = c.args in
    let l = c.loop-height in
    let low = power_low a.fan a.new_leaves l.height c.requires.wide (omega arith) (omega (arith, c.shape-new_levels.ensures.levels)) in
    omega (arith, product_fits l.size c.from-size.result (omega (arith, low, l.invariant.power)) (omega (arith, c.from-size.ensures)))

-- what is known of a level
wider : (size fan from height : ℕ) → size ≡ fan ^ height → from ≡ fan → size * from ≡ fan ^ (height + 1)
wider size fan from height power is = ap (λ (n : ℕ). size * n) is ∙ (ap (λ (n : ℕ). n * fan) power ∙ power_next fan height)

pub place_level-requires-clause-some : goal.place_level-requires-clause-some
place_level-requires-clause-some c =
    let some : 1 ≤ c.loop-height.size = rw c.loop-height.invariant.power (one-le-pow c.loop-height.height c.args.fan (omega (arith, c.requires.wide))) in
    mul-pos some (omega (arith, c.from-size.ensures, c.requires.wide))

pub place_level-requires-clause-few : goal.place_level-requires-clause-few
place_level-requires-clause-few c =
    let a = c.args in
    let l = c.loop-height in
    let wide = wider l.size a.fan c.from-size.result l.height l.invariant.power c.from-size.ensures in
    let next = next_count a.fan a.new_leaves l.height (l.size * c.from-size.result) wide in
    let few : l.height + 1 ≤ 32 = high a.fan a.new_leaves l.height (omega (arith, c.shape-new_levels.ensures.levels)) in
    let small = pointers_small a.fan a.new_leaves (l.height + 1) c.requires.wide (omega arith) few in
    let some : 1 ≤ 2 ^ (32 - (l.height + 1)) = one-le-pow (32 - (l.height + 1)) 2 (omega arith) in
    omega (arith, next, small, some, l.invariant.first)

pub place_level-requires-clause-room : goal.place_level-requires-clause-room
place_level-requires-clause-room c =
    let a = c.args in
    let l = c.loop-height in
    let wide = wider l.size a.fan c.from-size.result l.height l.invariant.power c.from-size.ensures in
    let next = next_count a.fan a.new_leaves l.height (l.size * c.from-size.result) wide in
    let all = within a.fan a.new_leaves (l.height + 1) (omega (arith, c.shape-new_levels.ensures.levels)) in
    omega (arith, next, all, l.invariant.first, l.invariant.len, l.invariant.capacity, c.requires.room)

pub blocks-first-requires : goal.blocks-first-requires
blocks-first-requires c =
    let some : 1 ≤ c.loop-height.size = rw c.loop-height.invariant.power (one-le-pow c.loop-height.height c.args.fan (omega (arith, c.requires.wide))) in
    mul-pos some (omega (arith, c.from-size.ensures, c.requires.wide))

pub overflow_add-first : goal.overflow_add-first
overflow_add-first c =
    let a = c.args in
    let l = c.loop-height in
    let wide = wider l.size a.fan c.from-size.result l.height l.invariant.power c.from-size.ensures in
    let next = next_count a.fan a.new_leaves l.height (l.size * c.from-size.result) wide in
    let few : l.height + 1 ≤ 32 = high a.fan a.new_leaves l.height (omega (arith, c.shape-new_levels.ensures.levels)) in
    let small = pointers_small a.fan a.new_leaves (l.height + 1) c.requires.wide (omega arith) few in
    let some : 1 ≤ 2 ^ (32 - (l.height + 1)) = one-le-pow (32 - (l.height + 1)) 2 (omega arith) in
    omega (arith, next, small, some, l.invariant.first, c.blocks-first.ensures)

pub loop-height-preserved : goal.loop-height-preserved
loop-height-preserved c =
    let a = c.args in
    let l = c.loop-height in
    let wide = wider l.size a.fan c.from-size.result l.height l.invariant.power c.from-size.ensures in
    let next = next_count a.fan a.new_leaves l.height (l.size * c.from-size.result) wide in
    record {
      power = wide;
      first = omega (arith, next, l.invariant.first, c.blocks-first.ensures);
      items = places_up a.fan a.old_leaves a.new_leaves a.written.now l.height l.first (l.size * c.from-size.result) (nat_lt l.height c.shape-old_levels.result.levels) a.into.now.items l.into.items
          c.place_level.new.into.items (ap (nat_lt l.height) c.shape-old_levels.ensures.levels) wide l.invariant.first l.invariant.items c.place_level.ensures.appended;
      len = omega (arith, l.invariant.len, c.place_level.ensures.len, c.blocks-first.ensures);
      capacity = omega (arith, l.invariant.capacity, c.place_level.ensures.capacity);
    }

pub shape-old_levels-requires-clause-some : goal.shape-old_levels-requires-clause-some
shape-old_levels-requires-clause-some c = c.requires.some_before

pub shape-new_levels-requires-clause-some : goal.shape-new_levels-requires-clause-some
shape-new_levels-requires-clause-some c = c.requires.some

pub shape-old_levels-requires-clause-wide : goal.shape-old_levels-requires-clause-wide
shape-old_levels-requires-clause-wide c = c.requires.wide

pub shape-new_levels-requires-clause-wide : goal.shape-new_levels-requires-clause-wide
shape-new_levels-requires-clause-wide c = c.requires.wide

pub place_level-requires-clause-ascends : goal.place_level-requires-clause-ascends
place_level-requires-clause-ascends c = c.requires.ascends

pub loop-height-smaller : goal.loop-height-smaller
loop-height-smaller c = counts_down _ c.loop-height.height c.loop-height-test.true

pub returns-clause-capacity : goal.returns-clause-capacity
returns-clause-capacity c = c.loop-height.invariant.capacity

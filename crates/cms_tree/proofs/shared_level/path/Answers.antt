use Rattle.std.proofs.Common.{◌≡◌, ◌+◌, ◌-◌, ◌*◌, ◌<◌, ◌≤◌, ◌++◌, ℕ, List, true, nat_lt, append-nil, refl, sym, ◌∙◌, ap, arith, mul-pos}
use Rattle.std.specs.List.{concat}
use Rattle.std.proofs.Math.Nat.{pow-zero, one-le-pow}
use Rattle.std.proofs.lemmas.Bool.{lt-ltb}
use Rattle.cms_model.specs.Sizes.{levels, pointer_count}
use Rattle.cms_tree.specs.Paths.{levels_of}
use Rattle.cms_tree.proofs.Sums.{power_next}
use Rattle.cms_tree.proofs.Paths.{count_first, count_next, count_none, fresh_first, left_fresh_next, paths_next, paths_none, power_low, product_fits, shifts}
use Rattle.cms_tree.proofs.shared_level.path.Goals as goal

pub loop-height-init : goal.loop-height-init
unfolding pointer_count
loop-height-init c =
    let a = c.args in
    let old : c.shape-old_levels.result.levels - 0 ≡ levels a.fan a.old_leaves = (let e = c.shape-old_levels.ensures.levels in omega arith) in
    let new : c.shape-new_levels.result.levels - 0 ≡ levels a.fan a.new_leaves = (let e = c.shape-new_levels.ensures.levels in omega arith) in
    let olds = count_first a.fan a.old_leaves (levels a.fan a.old_leaves) in
    let news = count_first a.fan a.new_leaves (levels a.fan a.new_leaves) in
    let fresh = fresh_first a.fan a.old_leaves a.new_leaves a.written.now (levels a.fan a.new_leaves) in
    record {
      power = sym (pow-zero a.fan);
      items = rw (old, new) refl;
      olds = rw old (omega (arith, olds, c.requires.olds));
      fresh = rw (old, new) (omega (arith, fresh, c.requires.fresh));
      len = rw new (omega (arith, news));
      capacity = omega arith;
    }

pub overflow_mul-size : goal.overflow_mul-size
overflow_mul-size c =
    let a = c.args in
    let l = c.loop-height in
    let low = power_low a.fan a.new_leaves l.height c.requires.wide (omega arith) (omega (arith, c.shape-new_levels.ensures.levels)) in
    omega (arith, product_fits l.size c.from-size.result (omega (arith, low, l.invariant.power)) (omega (arith, c.from-size.ensures)))

pub shared_blocks-requires : goal.shared_blocks-requires
shared_blocks-requires c =
    let some : 1 ≤ c.loop-height.size = rw c.loop-height.invariant.power (one-le-pow c.loop-height.height c.args.fan (omega (arith, c.requires.wide))) in
    mul-pos some (omega (arith, c.from-size.ensures, c.requires.wide))

pub split_at-requires : goal.split_at-requires
split_at-requires c =
    let a = c.args in
    let l = c.loop-height in
    let old = c.shape-old_levels.result.levels in
    let both = nat_lt l.height old in
    let next = count_next a.fan l.size a.old_leaves (old - l.height) both (shifts l.height old both refl) in
    let is = rw c.from-size.ensures at c.shared_blocks.ensures in
    omega (arith, next, is, l.invariant.olds)

pub number_level-taken-requires-clause-some : goal.number_level-taken-requires-clause-some
number_level-taken-requires-clause-some c =
    let some : 1 ≤ c.loop-height.size = rw c.loop-height.invariant.power (one-le-pow c.loop-height.height c.args.fan (omega (arith, c.requires.wide))) in
    mul-pos some (omega (arith, c.from-size.ensures, c.requires.wide))

pub number_level-taken-requires-clause-fresh : goal.number_level-taken-requires-clause-fresh
number_level-taken-requires-clause-fresh c =
    let a = c.args in
    let l = c.loop-height in
    let old = c.shape-old_levels.result.levels in
    let new = c.shape-new_levels.result.levels in
    let both = nat_lt l.height old in
    let next = left_fresh_next a.fan l.size a.old_leaves a.new_leaves a.written.now (old - l.height) (new - l.height) both (shifts l.height old both refl) (omega arith) in
    rw c.from-size.ensures (omega (arith, next, l.invariant.fresh))

pub number_level-taken-requires-clause-room : goal.number_level-taken-requires-clause-room
number_level-taken-requires-clause-room c =
    let a = c.args in
    let l = c.loop-height in
    let k = c.shape-new_levels.result.levels - l.height in
    let next = count_next a.fan l.size a.new_leaves k true (sym (lt-ltb 0 k (omega arith))) in
    rw c.from-size.ensures (omega (arith, next, l.invariant.len, l.invariant.capacity, c.requires.room))

pub split_at-requires-in-loop-height : goal.split_at-requires-in-loop-height
split_at-requires-in-loop-height c =
    let a = c.args in
    let l = c.loop-height in
    let old = c.shape-old_levels.result.levels in
    let new = c.shape-new_levels.result.levels in
    let both = nat_lt l.height old in
    let next = left_fresh_next a.fan l.size a.old_leaves a.new_leaves a.written.now (old - l.height) (new - l.height) both (shifts l.height old both refl) (omega arith) in
    let taken = rw c.from-size.ensures at c.number_level-taken.ensures.taken in
    omega (arith, next, taken, l.invariant.fresh)

pub loop-height-preserved : goal.loop-height-preserved
loop-height-preserved c =
    let a = c.args in
    let l = c.loop-height in
    let old = c.shape-old_levels.result.levels in
    let new = c.shape-new_levels.result.levels in
    let h = old - l.height in
    let k = new - l.height in
    let both = nat_lt l.height old in
    let shared = shifts l.height old both refl in
    let some : 0 < k = omega arith in
    let down : h - 1 ≡ old - (l.height + 1) = omega arith in
    let down' : k - 1 ≡ new - (l.height + 1) = omega arith in
    let is = rw c.from-size.ensures at c.shared_blocks.ensures in
    let taken = rw c.from-size.ensures at c.number_level-taken.ensures.taken in
    let long = rw c.from-size.ensures at c.number_level-taken.ensures.len in
    let appended = rw (c.from-size.ensures, c.split_at.ensures.front) at c.number_level-taken.ensures.appended in
    let olds = rw down at (count_next a.fan l.size a.old_leaves h both shared) in
    let news = rw down' at (count_next a.fan l.size a.new_leaves k true (sym (lt-ltb 0 k some))) in
    let fresh = rw (down, down') at (left_fresh_next a.fan l.size a.old_leaves a.new_leaves a.written.now h k both shared some) in
    rw c.from-size.ensures record {
      power = ap (λ (n : ℕ). n * a.fan) l.invariant.power ∙ power_next a.fan l.height;
      items = rw (c.split_at.ensures.back, c.split_at-in-loop-height.ensures.back) (rw (down, down') at (paths_next a.fan l.size a.old_leaves a.new_leaves a.written.now l.olds.now l.numbers.now
          l.into.items c.number_level-taken.new.into.items _ h k c.shared_blocks.result c.number_level-taken.result both shared some is taken appended l.invariant.items));
      olds = omega (arith, olds, is, l.invariant.olds, c.split_at.ensures.back_len);
      fresh = omega (arith, fresh, taken, l.invariant.fresh, c.split_at-in-loop-height.ensures.back_len);
      len = omega (arith, news, long, l.invariant.len);
      capacity = omega (arith, l.invariant.capacity, c.number_level-taken.ensures.capacity);
    }

pub returns-clause-appended : goal.returns-clause-appended
returns-clause-appended c =
    let a = c.args in
    let l = c.loop-height in
    let none : c.shape-new_levels.result.levels - l.height ≡ 0 = omega arith in
    let olds = levels_of a.fan l.size a.old_leaves (c.shape-old_levels.result.levels - l.height) l.olds.now in
    sym (append-nil l.into.items)
    ∙ ap (λ (xs : List (List ℕ)). l.into.items ++ concat xs) (sym (paths_none a.fan l.size a.old_leaves a.new_leaves a.written.now olds l.numbers.now))
    ∙ (rw none at l.invariant.items)

pub returns-clause-len : goal.returns-clause-len
returns-clause-len c =
    let l = c.loop-height in
    let none : c.shape-new_levels.result.levels - l.height ≡ 0 = omega arith in
    let all = rw none at l.invariant.len in
    omega (arith, all, count_none c.args.fan l.size c.args.new_leaves)

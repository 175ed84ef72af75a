use Rattle.std.proofs.Common.{◌≡◌, ◌+◌, ◌-◌, ◌*◌, ◌≤◌, ◌++◌, ℕ, List, true, nat_lt, drop, append-nil, refl, sym, ◌∙◌, ap, arith, mul-pos}
use Rattle.std.proofs.Math.Nat.{pow-zero, one-le-pow}
use Rattle.std.proofs.lemmas.Bool.{lt-ltb}
use Rattle.cms_model.specs.Sizes.{levels, pointer_count}
use Rattle.cms_tree.proofs.Sums.{power_next}
use Rattle.cms_tree.proofs.Paths.{count_first, count_next, gone_next, none_gone, power_low, product_fits}
use Rattle.cms_tree.proofs.shared_level.left_out.Goals as goal

pub loop-height-init : goal.loop-height-init
unfolding pointer_count
loop-height-init c =
    let a = c.args in
    let all : c.shape-old_levels.result.levels - 0 ≡ levels a.fan a.old_leaves = (let e = c.shape-old_levels.ensures.levels in omega arith) in
    let count = count_first a.fan a.old_leaves (levels a.fan a.old_leaves) in
    record {
      power = sym (pow-zero a.fan);
      items = λ tiers long. rw all refl;
      olds = rw all (omega (arith, count, c.requires.olds));
      room = rw all (omega (arith, count, c.requires.room));
      capacity = omega arith;
    }

pub overflow_mul-size : goal.overflow_mul-size
overflow_mul-size c =
    let a = c.args in
    let l = c.loop-height in
    let low = power_low a.fan a.old_leaves l.height c.requires.wide (omega arith) (omega (arith, c.shape-old_levels.ensures.levels)) in
    omega (arith, product_fits l.size c.from-size.result (omega (arith, low, l.invariant.power)) (omega (arith, c.from-size.ensures)))

pub blocks-requires : goal.blocks-requires
blocks-requires c =
    let some : 1 ≤ c.loop-height.size = rw c.loop-height.invariant.power (one-le-pow c.loop-height.height c.args.fan (omega (arith, c.requires.wide))) in
    mul-pos some (omega (arith, c.from-size.ensures, c.requires.wide))

pub split_at-requires : goal.split_at-requires
split_at-requires c =
    let a = c.args in
    let l = c.loop-height in
    let h = c.shape-old_levels.result.levels - l.height in
    let next = count_next a.fan l.size a.old_leaves h true (sym (lt-ltb 0 h (omega arith))) in
    let is = rw c.from-size.ensures at c.blocks-in-loop-height.ensures in
    omega (arith, next, is, l.invariant.olds)

pub leave_level-requires-clause-some : goal.leave_level-requires-clause-some
leave_level-requires-clause-some c =
    let some : 1 ≤ c.loop-height.size = rw c.loop-height.invariant.power (one-le-pow c.loop-height.height c.args.fan (omega (arith, c.requires.wide))) in
    mul-pos some (omega (arith, c.from-size.ensures, c.requires.wide))

pub leave_level-requires-clause-room : goal.leave_level-requires-clause-room
leave_level-requires-clause-room c =
    let a = c.args in
    let l = c.loop-height in
    let h = c.shape-old_levels.result.levels - l.height in
    let next = count_next a.fan l.size a.old_leaves h true (sym (lt-ltb 0 h (omega arith))) in
    let is = rw c.from-size.ensures at c.blocks-in-loop-height.ensures in
    omega (arith, next, is, l.invariant.room, c.split_at.ensures.front_len)

pub loop-height-preserved : goal.loop-height-preserved
loop-height-preserved c =
    let a = c.args in
    let l = c.loop-height in
    let h = c.shape-old_levels.result.levels - l.height in
    let down : h - 1 ≡ c.shape-old_levels.result.levels - (l.height + 1) = omega arith in
    let next = count_next a.fan l.size a.old_leaves h true (sym (lt-ltb 0 h (omega arith))) in
    let next' = rw down at next in
    let is = rw c.from-size.ensures at c.blocks-in-loop-height.ensures in
    let long = c.split_at.ensures.back_len in
    rw c.from-size.ensures record {
      power = ap (λ (n : ℕ). n * a.fan) l.invariant.power ∙ power_next a.fan l.height;
      items = λ tiers long'. let so_far = l.invariant.items tiers long' in
          let appended = rw (c.from-size.ensures, c.split_at.ensures.front) at c.leave_level.ensures.appended in
          rw c.split_at.ensures.back (rw down at (gone_next a.fan l.size a.old_leaves a.new_leaves a.written.now l.olds.now l.into.items c.leave_level.new.into.items _ h tiers l.height
          c.blocks-in-loop-height.result (nat_lt l.height c.shape-new_levels.result.levels) (ap (λ (n : ℕ). nat_lt l.height n) (sym long')) (omega arith) is appended so_far));
      olds = omega (arith, next', is, l.invariant.olds, long);
      room = omega (arith, next', is, l.invariant.room, c.leave_level.ensures.len, c.leave_level.ensures.capacity, c.split_at.ensures.front_len);
      capacity = omega (arith, c.leave_level.ensures.capacity);
    }

pub returns-clause-appended : goal.returns-clause-appended
returns-clause-appended c tiers long =
    let a = c.args in
    let l = c.loop-height in
    let none : c.shape-old_levels.result.levels - l.height ≡ 0 = omega arith in
    let so_far = l.invariant.items tiers (long ∙ sym c.shape-new_levels.ensures.levels) in
    sym (append-nil l.into.items)
    ∙ ap (λ (xs : List ℕ). l.into.items ++ xs) (sym (none_gone a.fan l.size a.old_leaves a.new_leaves a.written.now l.olds.now (drop l.height tiers)))
    ∙ (rw none at so_far)

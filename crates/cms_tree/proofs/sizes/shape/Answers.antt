use Rattle.std.proofs.Common.{◌≡◌, ◌+◌, ◌^◌, ◌≤◌, arith, mul-pos, ◌-◌}
use Rattle.std.proofs.Math.Nat.{one-le-pow}
use Rattle.cms_model.specs.Sizes.{pointers_to}
use Rattle.cms_tree.proofs.Sums.{none_counted, one_counted, all_counted, few, pointers_small}
use Rattle.cms_tree.proofs.sizes.shape.Goals as goal

pub loop-room-init : goal.loop-room-init
loop-room-init c = record { counted = none_counted c.args.fan c.args.leaves; some = omega arith }

pub overflow_add-levels : goal.overflow_add-levels
overflow_add-levels c =
    let l = c.loop-room in
    omega (arith, few c.args.fan c.args.leaves l.room l.levels l.pointers c.requires.wide (omega arith) l.invariant.counted (omega arith))

pub overflow_add-pointers : goal.overflow_add-pointers
overflow_add-pointers c =
    let l = c.loop-room in
    let less = few c.args.fan c.args.leaves l.room l.levels l.pointers c.requires.wide (omega arith) l.invariant.counted (omega arith) in
    let next = one_counted c.args.fan c.args.leaves l.room l.levels l.pointers c.div_ceil.result c.requires.wide l.invariant.counted (omega arith)
    (rw (c.from-in-loop-room.ensures, c.from-room.ensures) at c.div_ceil.ensures) in
    let some : 1 ≤ 2 ^ (32 - (l.levels + 1)) = one-le-pow (32 - (l.levels + 1)) 2 (omega arith) in
    let sum : l.pointers + c.div_ceil.result ≡ pointers_to c.args.fan c.args.leaves (l.levels + 1) = next.sum in
    omega (arith, sum, pointers_small c.args.fan c.args.leaves (l.levels + 1) c.requires.wide (omega arith) (omega arith))

pub loop-room-preserved : goal.loop-room-preserved
loop-room-preserved c =
    let l = c.loop-room in
    record {
      counted = rw c.from-room.ensures (one_counted c.args.fan c.args.leaves l.room l.levels l.pointers c.div_ceil.result c.requires.wide l.invariant.counted (omega arith)
          (rw (c.from-in-loop-room.ensures, c.from-room.ensures) at c.div_ceil.ensures));
      some = rw c.from-room.ensures (mul-pos l.invariant.some (omega arith));
    }

pub returns-clause-levels : goal.returns-clause-levels
returns-clause-levels c =
    let l = c.loop-room in
    (all_counted c.args.fan c.args.leaves l.room l.levels l.pointers c.requires.wide (omega arith) l.invariant.counted (omega arith)).0

pub returns-clause-pointers : goal.returns-clause-pointers
returns-clause-pointers c =
    let l = c.loop-room in
    (all_counted c.args.fan c.args.leaves l.room l.levels l.pointers c.requires.wide (omega arith) l.invariant.counted (omega arith)).1

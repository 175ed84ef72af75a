use Rattle.std.proofs.Common.{◌-◌, ◌^◌, ◌≤◌, length, arith}
use Rattle.std.specs.Prelude.{All}
use Rattle.std.proofs.lemmas.List.{get_or_default}
use Rattle.cms_map.proofs.TouchedBlocks.{touches_next, touches_all, touched_below, touched_small}
use Rattle.cms_map.proofs.map.Map.touched.Goals as goal

pub unwrap-requires : goal.unwrap-requires
unwrap-requires c =
    let l = c.loop-place in
    let low = c.in-Some.ensures.lowest in
    let below = touched_below c.args.bsize (length c.args.self.now) c.in-Some.place c.args.blocks.now c.requires.size c.requires.blocks low.1 in
    let later = low.0 in
    c.push.ensures.succeeds (omega (arith, below, later, l.invariant.len, l.invariant.capacity))

pub overflow_add-from : goal.overflow_add-from
overflow_add-from c =
    let low = c.in-Some.ensures.lowest in
    let blocks = c.args.blocks.now in
    let top = 2 ^ 32 - 1 in
    let all : All (λ n. (1 ≤ n) × (n ≤ top)) blocks = λ k d less.
    let fits = c.type_inv.blocks k in
    let same = get_or_default blocks k d 0 less in
    let both = c.requires.blocks k d less in
    (both.0, omega arith) in
    let small = touched_small c.args.bsize top c.in-Some.place blocks all low.1 in
    omega arith

pub loop-place-preserved : goal.loop-place-preserved
loop-place-preserved c =
    let l = c.loop-place in
    let low = c.in-Some.ensures.lowest in
    let later = low.0 in
    let items = rw c.unwrap.ensures at c.push.ensures.items in
    let longer = rw c.unwrap.ensures at c.push.ensures.len in
    record {
      touching = rw items (touches_next _ _ _ _ _ _ l.invariant.touching low);
      len = omega (arith, longer, later);
      capacity = omega (arith, c.push.ensures.capacity);
    }

pub returns-clause-touched : goal.returns-clause-touched
returns-clause-touched c = touches_all _ _ _ _ _ c.loop-place.invariant.touching c.in_default.ensures.lowest

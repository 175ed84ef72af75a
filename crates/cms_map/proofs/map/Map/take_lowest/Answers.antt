use Rattle.std.proofs.Common.{◌≡◌, ◌<◌, length, take, ◌∙◌, ap, sym, subst, arith}
use Rattle.cms_map.specs.Bits.{free_blocks, NoneIsFree}
use Rattle.cms_map.proofs.Low.{starts, mark_raised}
use Rattle.cms_map.proofs.Free.{one_left, marks_next, length-with_marked}
use Rattle.cms_map.proofs.map.Map.take_lowest.Goals as goal

pub next_free-block-requires : goal.next_free-block-requires
next_free-block-requires c =
    let l = c.loop-taken in
    let some : l._taken < length (free_blocks c.args.self.now) = omega (arith, c.free_count.ensures.count) in
    record { some = one_left _ _ _ _ _ _ l.invariant.marking some }

pub loop-taken-init : goal.loop-taken-init
loop-taken-init c =
    let low = c.self.inside.low in
    let none : NoneIsFree low c.args.self.now = subst (NoneIsFree low) c.self.view_is c.self.invariant.1 in
    record { marking = starts c.args.self.now c.args.into.now.items low none; raised = none; len = omega arith; capacity = omega arith }

pub loop-taken-preserved : goal.loop-taken-preserved
loop-taken-preserved c =
    let l = c.loop-taken in
    let some : l._taken < length (free_blocks c.args.self.now) = omega (arith, c.free_count.ensures.count) in
    let items = rw c.unwrap.ensures at c.push.ensures.items in
    let longer = rw c.unwrap.ensures at c.push.ensures.len in
    record {
      marking = rw (c.mark.ensures, items) (marks_next _ _ _ _ _ _ _ l.invariant.marking some c.next_free-block.ensures.next c.next_free-block.ensures.later);
      raised = rw c.mark.ensures (mark_raised l.block c.next_free-block.result l.self l.invariant.raised c.next_free-block.ensures.next c.next_free-block.ensures.later);
      len = omega arith;
      capacity = omega (arith, c.push.ensures.capacity);
    }

pub returns-clause-appended : goal.returns-clause-appended
returns-clause-appended c =
    let l = c.loop-taken in
    let end : l._taken ≡ c.args.n = omega arith in
    rw end at l.invariant.marking.blocks

pub returns-clause-marked : goal.returns-clause-marked
returns-clause-marked c =
    let l = c.loop-taken in
    let end : l._taken ≡ c.args.n = omega arith in
    c.self-2.view_is ∙ (rw end at l.invariant.marking.marks)

pub returns-clause-count : goal.returns-clause-count
returns-clause-count c =
    let l = c.loop-taken in
    ap length c.self-2.view_is ∙ ap length l.invariant.marking.marks ∙ length-with_marked (take l._taken (free_blocks c.args.self.now)) c.args.self.now

pub invariant_of-self : goal.invariant_of-self
invariant_of-self c =
    let low = c.loop-taken.block in
    (c.self-2.invariant.0, subst (NoneIsFree low) (sym c.self-2.view_is) c.loop-taken.invariant.raised)

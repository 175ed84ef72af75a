use Rattle.std.proofs.Common.{◌≡◌, ◌+◌, ◌*◌, [], min, drop, drop_of_length-le, append-nil, refl, sym, ◌∙◌, arith}
use Rattle.cms_model.specs.SharedTrees.{is_kept}
use Rattle.cms_model.specs.SharedTimes.{without}
use Rattle.cms_tree.proofs.Paths.{kept_by_rest, without_next, clash}
use Rattle.cms_tree.proofs.Sums.{counts_down, has_room, level_fits, level_room, less_up, to_most}
use Rattle.cms_tree.proofs.shared_level.leave_level.Goals as goal
use Rattle.cms_tree.proofs.shared_level.leave_level.Goals.{then-not-is_kept, else-not-is_kept}

pub loop-nth-preserved : goal.loop-nth-preserved
loop-nth-preserved c =
    let l = c.loop-nth in
    let t = c.args.level.now in
    let written = c.args.written.now in
    let rest = c.rest_from-rest.result.now in
    let end = min ((l.nth + 1) * t.size) t.count in
    let kept : c.is_kept.result ≡ is_kept t.both t.size t.before t.count written l.nth = c.is_kept.ensures
    ∙ sym (kept_by_rest t.both t.size t.before t.count written rest l.nth
    (l.invariant.same (l.nth * t.size) end (omega arith) ∙ c.rest_from-rest.ensures.same (l.nth * t.size) end (omega arith))) in
    elim c.if-not-is_kept.branch [
      | then-not-is_kept w ↦
          let items = rw w.unwrap.ensures at w.push.ensures.items in
          let longer = rw w.unwrap.ensures at w.push.ensures.len in
          record {
            items = rw w.into-is (without_next (is_kept t.both t.size t.before t.count written) l.nth c.args.tier.now l.into.items w.push.new.self.items _ c.is_kept.result kept (omega arith)
                (λ is. absurd (clash (sym w.if-not-is_kept.true ∙ is))) (λ is. items) l.invariant.items);
            same = λ from to low. l.invariant.same from to (omega arith) ∙ c.rest_from-rest.ensures.same from to (omega arith);
            ascends = c.rest_from-rest.ensures.ascends;
            len = rw w.into-is (omega arith);
            capacity = rw w.into-is (omega (arith, w.push.ensures.capacity));
          }
      | else-not-is_kept w ↦
          record {
            items = rw w.into-is (without_next (is_kept t.both t.size t.before t.count written) l.nth c.args.tier.now l.into.items l.into.items _ c.is_kept.result kept (omega arith)
                (λ is. refl) (λ is. absurd (clash (sym is ∙ w.if-not-is_kept.false))) l.invariant.items);
            same = λ from to low. l.invariant.same from to (omega arith) ∙ c.rest_from-rest.ensures.same from to (omega arith);
            ascends = c.rest_from-rest.ensures.ascends;
            len = rw w.into-is (omega arith);
            capacity = rw w.into-is (omega arith);
          }
    ]

pub returns-clause-appended : goal.returns-clause-appended
unfolding without
returns-clause-appended c =
    let l = c.loop-nth in
    let none : drop l.nth c.args.tier.now ≡ [] = drop_of_length-le c.args.tier.now (omega arith) in
    sym (append-nil l.into.items) ∙ (rw none at l.invariant.items)

pub loop-nth-init : goal.loop-nth-init
loop-nth-init c = record { items = refl; same = λ from to low. refl; ascends = c.requires.ascends; len = omega arith; capacity = omega arith }

pub rest_from-rest-requires : goal.rest_from-rest-requires
rest_from-rest-requires c = c.loop-nth.invariant.ascends

pub is_kept-requires-clause-ascends : goal.is_kept-requires-clause-ascends
is_kept-requires-clause-ascends c = c.rest_from-rest.ensures.ascends

pub is_kept-requires-clause-first : goal.is_kept-requires-clause-first
is_kept-requires-clause-first c = c.rest_from-rest.ensures.first

pub returns-clause-capacity : goal.returns-clause-capacity
returns-clause-capacity c = c.loop-nth.invariant.capacity

pub bounds-tier-nth : goal.bounds-tier-nth
bounds-tier-nth c = c.loop-nth-test.true

pub overflow_mul-nth : goal.overflow_mul-nth
overflow_mul-nth c =
    let t = c.args.level.now in
    level_fits c.loop-nth.nth c.loop-nth.nth t.size t.before refl (less_up _ _ _ c.loop-nth-test.true c.requires.tier) c.requires.some (omega arith) (omega arith)

pub is_kept-requires-clause-room : goal.is_kept-requires-clause-room
is_kept-requires-clause-room c =
    let t = c.args.level.now in
    level_room c.loop-nth.nth c.loop-nth.nth t.size t.before refl (less_up _ _ _ c.loop-nth-test.true c.requires.tier) c.requires.some (omega arith) (omega arith)

pub unwrap-requires : goal.unwrap-requires
unwrap-requires c =
    let l = c.loop-nth in
    c.push.ensures.succeeds (has_room _ _ _ _ l.nth _ l.invariant.len c.loop-nth-test.true c.requires.room l.invariant.capacity)

pub loop-nth-smaller : goal.loop-nth-smaller
loop-nth-smaller c = counts_down _ c.loop-nth.nth c.loop-nth-test.true

pub returns-clause-len : goal.returns-clause-len
returns-clause-len c = to_most _ _ _ _ c.loop-nth.invariant.len c.loop-nth.auto.nth-end

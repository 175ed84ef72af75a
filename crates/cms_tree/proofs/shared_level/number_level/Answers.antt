use Rattle.std.proofs.Common.{◌≡◌, ◌+◌, ◌*◌, min, ℕ, append-nil, refl, sym, ◌∙◌, ap, arith, ◌++◌, ◌≤◌, length, subst, slice_index, vec_len, ◌<◌}
use Rattle.cms_fields.specs.Numbers.{up}
use Rattle.cms_model.specs.SharedTrees.{is_kept, fresh_on}
use Rattle.cms_model.proofs.Exchanges.{fresh_few}
use Rattle.cms_tree.specs.Paths.{numbered}
use Rattle.cms_tree.proofs.Paths.{clash, fresh_next, fresh_room, kept_by_rest, kept_inside, numbered_next}
use Rattle.cms_tree.proofs.Sums.{reached, counts_down, has_room, level_fits, level_room, is_most}
use Rattle.cms_tree.proofs.shared_level.number_level.Goals as goal
use Rattle.cms_tree.proofs.shared_level.number_level.Goals.{then-not-kept, else-not-kept}

pub loop-nth-init : goal.loop-nth-init
unfolding numbered fresh_on
loop-nth-init c = record {
  items = sym (append-nil c.args.into.now.items);
  taken = refl;
  same = λ from to low. refl;
  ascends = c.requires.ascends;
  len = omega arith;
  capacity = omega arith;
}

pub number_of-number-requires-clause-old : goal.number_of-number-requires-clause-old
number_of-number-requires-clause-old c is =
    let l = c.loop-nth in
    let t = c.args.level.now in
    let kept = rw c.from-in-loop-nth.ensures at c.is_kept-kept.ensures in
    let inside = kept_inside t.both t.size t.before t.count c.rest_from-rest.result.now l.nth c.requires.some (omega (arith, c.blocks-nth-end.ensures)) (sym kept ∙ is) in
    omega (arith, inside.1, c.requires.olds inside.0)

pub number_of-number-requires-clause-fresh : goal.number_of-number-requires-clause-fresh
number_of-number-requires-clause-fresh c is =
    let l = c.loop-nth in
    let t = c.args.level.now in
    let written = c.args.written.now in
    let rest = c.rest_from-rest.result.now in
    let end = min ((l.nth + 1) * t.size) t.count in
    let start : c.from.result * t.size ≡ l.nth * t.size = ap (λ (n : ℕ). n * t.size) c.from.ensures in
    let kept = rw c.from-in-loop-nth.ensures at c.is_kept-kept.ensures in
    let reads = kept_by_rest t.both t.size t.before t.count written rest l.nth
    (l.invariant.same (l.nth * t.size) end (omega arith) ∙ c.rest_from-rest.ensures.same (l.nth * t.size) end (omega (arith, start))) in
    omega (arith, fresh_room t.both t.size t.before t.count written l.nth (up t.count t.size) (omega (arith, c.blocks-nth-end.ensures)) (reads ∙ sym kept ∙ is), l.invariant.taken, c.requires.fresh)

pub overflow_add-taken : goal.overflow_add-taken
overflow_add-taken c =
    let l = c.loop-nth in
    let t = c.args.level.now in
    omega (arith, l.invariant.taken, fresh_few t.both t.size t.before t.count c.args.written.now l.nth)

pub loop-nth-preserved : goal.loop-nth-preserved
loop-nth-preserved c =
    let l = c.loop-nth in
    let t = c.args.level.now in
    let written = c.args.written.now in
    let rest = c.rest_from-rest.result.now in
    let end = min ((l.nth + 1) * t.size) t.count in
    let start : c.from.result * t.size ≡ l.nth * t.size = ap (λ (n : ℕ). n * t.size) c.from.ensures in
    let kept : c.is_kept-kept.result ≡ is_kept t.both t.size t.before t.count written l.nth = (rw c.from-in-loop-nth.ensures at c.is_kept-kept.ensures)
    ∙ sym (kept_by_rest t.both t.size t.before t.count written rest l.nth
    (l.invariant.same (l.nth * t.size) end (omega arith) ∙ c.rest_from-rest.ensures.same (l.nth * t.size) end (omega (arith, start)))) in
    let items = rw c.unwrap.ensures at c.push.ensures.items in
    let longer = rw c.unwrap.ensures at c.push.ensures.len in
    record {
      items = numbered_next t.both t.size t.before t.count written c.args.olds.now c.args.fresh.now l.nth l.taken c.number_of-number.result c.is_kept-kept.result c.args.into.now.items l.into.items
          c.push.new.self.items kept l.invariant.taken c.number_of-number.ensures l.invariant.items items;
      taken = fresh_next t.both t.size t.before t.count written l.nth l.taken c.if-not-kept.taken c.is_kept-kept.result kept l.invariant.taken
          (λ is. elim c.if-not-kept.branch [ then-not-kept w ↦ absurd (clash (sym w.if-not-kept.true ∙ is)) | else-not-kept w ↦ w.taken-is ])
          (λ is. elim c.if-not-kept.branch [ then-not-kept w ↦ w.taken-is | else-not-kept w ↦ absurd (clash (sym is ∙ w.if-not-kept.false)) ]);
      same = λ from to low. l.invariant.same from to (omega arith) ∙ c.rest_from-rest.ensures.same from to (omega (arith, start));
      ascends = c.rest_from-rest.ensures.ascends;
      len = omega arith;
      capacity = omega (arith, c.push.ensures.capacity);
    }

pub blocks-nth-end-requires : goal.blocks-nth-end-requires
blocks-nth-end-requires c = c.requires.some

pub rest_from-rest-requires : goal.rest_from-rest-requires
rest_from-rest-requires c = c.loop-nth.invariant.ascends

pub is_kept-kept-requires-clause-ascends : goal.is_kept-kept-requires-clause-ascends
is_kept-kept-requires-clause-ascends c = c.rest_from-rest.ensures.ascends

pub is_kept-kept-requires-clause-first : goal.is_kept-kept-requires-clause-first
is_kept-kept-requires-clause-first c =
    subst (λ (n : ℕ). 1 ≤ length c.rest_from-rest.result.now → n * c.args.level.now.size ≤ slice_index c.rest_from-rest.result.now 0) (c.from.ensures ∙ sym c.from-in-loop-nth.ensures) c.rest_from-rest.ensures.first

pub returns-clause-appended : goal.returns-clause-appended
returns-clause-appended c =
    let l = c.loop-nth in
    let t = c.args.level.now in
    let done = reached l.nth c.blocks-nth-end.result (up t.count t.size) c.loop-nth-test.false l.auto.nth-end c.blocks-nth-end.ensures in
    subst (λ (n : ℕ). l.into.items ≡ c.args.into.now.items ++ numbered t.both t.size t.before t.count c.args.written.now c.args.olds.now c.args.fresh.now n) done l.invariant.items

pub returns-clause-taken : goal.returns-clause-taken
returns-clause-taken c =
    let l = c.loop-nth in
    let t = c.args.level.now in
    let done = reached l.nth c.blocks-nth-end.result (up t.count t.size) c.loop-nth-test.false l.auto.nth-end c.blocks-nth-end.ensures in
    subst (λ (n : ℕ). l.taken ≡ fresh_on t.both t.size t.before t.count c.args.written.now n) done l.invariant.taken

pub returns-clause-len : goal.returns-clause-len
returns-clause-len c =
    let l = c.loop-nth in
    let t = c.args.level.now in
    let done = reached l.nth c.blocks-nth-end.result (up t.count t.size) c.loop-nth-test.false l.auto.nth-end c.blocks-nth-end.ensures in
    subst (λ (n : ℕ). vec_len l.into ≡ vec_len c.args.into.now + n) done l.invariant.len

pub returns-clause-capacity : goal.returns-clause-capacity
returns-clause-capacity c = c.loop-nth.invariant.capacity

pub overflow_mul-from : goal.overflow_mul-from
overflow_mul-from c =
    let t = c.args.level.now in
    level_fits c.from.result c.loop-nth.nth t.size t.count c.from.ensures (subst (λ (n : ℕ). c.loop-nth.nth < n) c.blocks-nth-end.ensures c.loop-nth-test.true) c.requires.some (omega arith) (omega arith)

pub is_kept-kept-requires-clause-room : goal.is_kept-kept-requires-clause-room
is_kept-kept-requires-clause-room c =
    let t = c.args.level.now in
    level_room c.from-in-loop-nth.result c.loop-nth.nth t.size t.count c.from-in-loop-nth.ensures (subst (λ (n : ℕ). c.loop-nth.nth < n) c.blocks-nth-end.ensures c.loop-nth-test.true) c.requires.some (omega arith) (omega arith)

pub unwrap-requires : goal.unwrap-requires
unwrap-requires c =
    let l = c.loop-nth in
    let t = c.args.level.now in
    c.push.ensures.succeeds (has_room _ _ _ _ l.nth (up t.count t.size) (is_most _ _ l.invariant.len) (subst (λ (n : ℕ). l.nth < n) c.blocks-nth-end.ensures c.loop-nth-test.true) c.requires.room l.invariant.capacity)

pub loop-nth-smaller : goal.loop-nth-smaller
loop-nth-smaller c = counts_down _ c.loop-nth.nth c.loop-nth-test.true

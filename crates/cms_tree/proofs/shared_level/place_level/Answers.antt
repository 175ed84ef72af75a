use Rattle.std.proofs.Common.{◌≡◌, ◌+◌, ◌*◌, min, ℕ, append-nil, refl, sym, ◌∙◌, ap, arith, ◌≤◌, ◌++◌, length, subst, slice_index, vec_len, ◌<◌}
use Rattle.cms_model.specs.SharedTrees.{is_kept}
use Rattle.cms_tree.specs.Paths.{places_on}
use Rattle.cms_tree.proofs.Paths.{clash, kept_by_rest, places_next}
use Rattle.cms_fields.specs.Numbers.{up}
use Rattle.cms_tree.proofs.Sums.{reached, counts_down, has_room, level_fits, level_room, number_fits}
use Rattle.cms_tree.proofs.shared_level.place_level.Goals as goal
use Rattle.cms_tree.proofs.shared_level.place_level.Goals.{then-not-is_kept, else-not-is_kept}

pub loop-nth-init : goal.loop-nth-init
unfolding places_on
loop-nth-init c = record {
  items = sym (append-nil c.args.into.now.items);
  same = λ from to low. refl;
  ascends = c.requires.ascends;
  len = omega arith;
  capacity = omega arith;
}

pub loop-nth-preserved : goal.loop-nth-preserved
loop-nth-preserved c =
    let l = c.loop-nth in
    let t = c.args.level.now in
    let written = c.args.written.now in
    let rest = c.rest_from-rest.result.now in
    let end = min ((l.nth + 1) * t.size) t.count in
    let start : c.from.result * t.size ≡ l.nth * t.size = ap (λ (n : ℕ). n * t.size) c.from.ensures in
    let kept : c.is_kept.result ≡ is_kept t.both t.size t.before t.count written l.nth = (rw c.from-in-loop-nth.ensures at c.is_kept.ensures)
    ∙ sym (kept_by_rest t.both t.size t.before t.count written rest l.nth
    (l.invariant.same (l.nth * t.size) end (omega arith) ∙ c.rest_from-rest.ensures.same (l.nth * t.size) end (omega (arith, start)))) in
    elim c.if-not-is_kept.branch [
      | then-not-is_kept w ↦
          let items = rw w.unwrap.ensures at w.push.ensures.items in
          let longer = rw w.unwrap.ensures at w.push.ensures.len in
          record {
            items = rw w.into-is (places_next t.both t.size t.before t.count written c.args.first l.nth (c.args.first + l.nth) c.is_kept.result c.args.into.now.items l.into.items w.push.new.self.items kept refl
                (λ is. absurd (clash (sym w.if-not-is_kept.true ∙ is))) (λ is. items) l.invariant.items);
            same = λ from to low. l.invariant.same from to (omega arith) ∙ c.rest_from-rest.ensures.same from to (omega (arith, start));
            ascends = c.rest_from-rest.ensures.ascends;
            len = rw w.into-is (omega arith);
            capacity = rw w.into-is (omega (arith, w.push.ensures.capacity));
          }
      | else-not-is_kept w ↦
          record {
            items = rw w.into-is (places_next t.both t.size t.before t.count written c.args.first l.nth (c.args.first + l.nth) c.is_kept.result c.args.into.now.items l.into.items l.into.items kept refl
                (λ is. refl) (λ is. absurd (clash (sym is ∙ w.if-not-is_kept.false))) l.invariant.items);
            same = λ from to low. l.invariant.same from to (omega arith) ∙ c.rest_from-rest.ensures.same from to (omega (arith, start));
            ascends = c.rest_from-rest.ensures.ascends;
            len = rw w.into-is (omega arith);
            capacity = rw w.into-is (omega arith);
          }
    ]

pub blocks-nth-end-requires : goal.blocks-nth-end-requires
blocks-nth-end-requires c = c.requires.some

pub rest_from-rest-requires : goal.rest_from-rest-requires
rest_from-rest-requires c = c.loop-nth.invariant.ascends

pub is_kept-requires-clause-ascends : goal.is_kept-requires-clause-ascends
is_kept-requires-clause-ascends c = c.rest_from-rest.ensures.ascends

pub is_kept-requires-clause-first : goal.is_kept-requires-clause-first
is_kept-requires-clause-first c =
    subst (λ (n : ℕ). 1 ≤ length c.rest_from-rest.result.now → n * c.args.level.now.size ≤ slice_index c.rest_from-rest.result.now 0) (c.from.ensures ∙ sym c.from-in-loop-nth.ensures) c.rest_from-rest.ensures.first

pub returns-clause-appended : goal.returns-clause-appended
returns-clause-appended c =
    let l = c.loop-nth in
    let t = c.args.level.now in
    let done = reached l.nth c.blocks-nth-end.result (up t.count t.size) c.loop-nth-test.false l.auto.nth-end c.blocks-nth-end.ensures in
    subst (λ (n : ℕ). l.into.items ≡ c.args.into.now.items ++ places_on t.both t.size t.before t.count c.args.written.now c.args.first n) done l.invariant.items

pub returns-clause-capacity : goal.returns-clause-capacity
returns-clause-capacity c = c.loop-nth.invariant.capacity

pub overflow_mul-from : goal.overflow_mul-from
overflow_mul-from c =
    let t = c.args.level.now in
    level_fits c.from.result c.loop-nth.nth t.size t.count c.from.ensures (subst (λ (n : ℕ). c.loop-nth.nth < n) c.blocks-nth-end.ensures c.loop-nth-test.true) c.requires.some (omega arith) (omega arith)

pub is_kept-requires-clause-room : goal.is_kept-requires-clause-room
is_kept-requires-clause-room c =
    let t = c.args.level.now in
    level_room c.from-in-loop-nth.result c.loop-nth.nth t.size t.count c.from-in-loop-nth.ensures (subst (λ (n : ℕ). c.loop-nth.nth < n) c.blocks-nth-end.ensures c.loop-nth-test.true) c.requires.some (omega arith) (omega arith)

pub overflow_add-first : goal.overflow_add-first
overflow_add-first c = number_fits c.args.first c.loop-nth.nth _ c.requires.few (subst (λ (n : ℕ). c.loop-nth.nth < n) c.blocks-nth-end.ensures c.loop-nth-test.true)

pub unwrap-requires : goal.unwrap-requires
unwrap-requires c =
    let l = c.loop-nth in
    let t = c.args.level.now in
    c.push.ensures.succeeds (has_room _ _ _ _ l.nth (up t.count t.size) l.invariant.len (subst (λ (n : ℕ). l.nth < n) c.blocks-nth-end.ensures c.loop-nth-test.true) c.requires.room l.invariant.capacity)

pub loop-nth-smaller : goal.loop-nth-smaller
loop-nth-smaller c = counts_down _ c.loop-nth.nth c.loop-nth-test.true

pub returns-clause-len : goal.returns-clause-len
returns-clause-len c =
    let l = c.loop-nth in
    let t = c.args.level.now in
    let done = reached l.nth c.blocks-nth-end.result (up t.count t.size) c.loop-nth-test.false l.auto.nth-end c.blocks-nth-end.ensures in
    subst (λ (n : ℕ). vec_len l.into ≤ vec_len c.args.into.now + n) done l.invariant.len

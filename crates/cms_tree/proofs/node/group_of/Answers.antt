use Rattle.std.proofs.Common.{◌≡◌, ◌-◌, ◌*◌, length, take, drop, ◌∙◌, ap, arith, ◌<◌, ◌≤◌, ◌+◌, ◌^◌, ℕ, min, subst, Fits, w64}
use Rattle.std.proofs.lemmas.List.{length-take, length-drop}
use Rattle.cms_fields.specs.Numbers.{up}
use Rattle.cms_tree.specs.Levels.{children_from}
use Rattle.cms_tree.proofs.Sums.{div_ceil_is, fewer_still}
use Rattle.cms_tree.proofs.LevelsBuilt.{rises_first, rises_next, rises_found, rises_bounds, part_is}
use Rattle.cms_tree.proofs.node.group_of.Goals as goal

pub loop-place-init : goal.loop-place-init
loop-place-init c = rises_first c.args.fan c.args.leaves.now c.args.fresh.now c.args.nth (omega arith) c.requires.fresh c.requires.nth

pub returns-then-place-count : goal.returns-then-place-count
returns-then-place-count c =
    let a = c.args in
    let l = c.loop-place in
    let count : c.div_ceil-count.result ≡ up (length l.below.now) a.fan = c.div_ceil-count.ensures ∙ div_ceil_is (length l.below.now) a.fan (omega arith) in
    let f = rises_found a.fan a.leaves.now a.fresh.now a.nth l.below.now l.numbers.now l.size l.place c.requires.wide c.requires.narrow c.requires.few l.invariant (omega arith) in
    let part : take (c.min-end.result - l.place * a.fan) (drop (l.place * a.fan) l.below.now) ≡ take a.fan (drop (l.place * a.fan) l.below.now) =
    part_is a.fan (l.place * a.fan) c.min-end.result l.below.now (omega (arith, f.some)) c.min-end.ensures in
    let wide = l.invariant.wide in
    record {
      children = λ marks. ap (children_from marks (length a.leaves.now) l.size (l.place * a.fan)) part ∙ f.children marks;
      size = l.invariant.room;
      short = omega (arith, f.short);
      within = rw part (omega (arith, length-take a.fan (drop (l.place * a.fan) l.below.now), length-drop (l.place * a.fan) l.below.now, f.some));
      few = rw part (omega (arith, length-take a.fan (drop (l.place * a.fan) l.below.now)));
    }

pub overflow_mul-size : goal.overflow_mul-size
overflow_mul-size c =
    let a = c.args in
    let l = c.loop-place in
    let count : c.div_ceil-count.result ≡ up (length l.below.now) a.fan = c.div_ceil-count.ensures ∙ div_ceil_is (length l.below.now) a.fan (omega arith) in
    omega (
      arith,
      (rises_bounds a.fan a.leaves.now a.fresh.now a.nth l.below.now l.numbers.now l.size l.place c.div_ceil-count.result c.requires.wide c.requires.narrow c.requires.some c.requires.few
          l.invariant count c.if-place-count.false).short,
    )

pub loop-place-preserved : goal.loop-place-preserved
loop-place-preserved c =
    let a = c.args in
    let l = c.loop-place in
    let count : c.div_ceil-count.result ≡ up (length l.below.now) a.fan = c.div_ceil-count.ensures ∙ div_ceil_is (length l.below.now) a.fan (omega arith) in
    rw (c.split_at.ensures.front, c.split_at.ensures.back) (rises_next a.fan a.leaves.now a.fresh.now a.nth l.below.now l.numbers.now l.size l.place c.div_ceil-count.result
    (omega arith) l.invariant count c.if-place-count.false)

some_fan : (fan : ℕ) → 2 ≤ fan → 0 < fan
some_fan fan wide = omega arith

first_fits : (first n : ℕ) → first < n → n < 2 ^ 32 → Fits w64 first
first_fits first n inside few = omega arith

end_fits : (first fan n : ℕ) → first < n → n < 2 ^ 32 → fan ≤ 1024 → Fits w64 (first + fan)
end_fits first fan n inside few narrow = omega arith

bytes_fit : (first n : ℕ) → first < n → n < 2 ^ 32 → Fits w64 (first * 4)
bytes_fit first n inside few = omega arith

part_starts : (first fan end n : ℕ) → first < n → end ≡ min (first + fan) n → first ≤ end
part_starts first fan end n inside is = omega arith

part_ends : (first fan end n : ℕ) → end ≡ min (first + fan) n → end ≤ n
part_ends first fan end n is = omega arith

pub div_ceil-count-requires : goal.div_ceil-count-requires
div_ceil-count-requires c = some_fan _ c.requires.wide

pub overflow_mul-first : goal.overflow_mul-first
overflow_mul-first c =
    let a = c.args in
    let l = c.loop-place in
    let count = c.div_ceil-count.ensures ∙ div_ceil_is (length l.below.now) a.fan (some_fan _ c.requires.wide) in
    let f = rises_found a.fan a.leaves.now a.fresh.now a.nth l.below.now l.numbers.now l.size l.place c.requires.wide c.requires.narrow c.requires.few l.invariant (subst (λ (n : ℕ). l.place < n) count c.if-place-count.true) in
    first_fits _ _ f.some f.few

pub overflow_add-first : goal.overflow_add-first
overflow_add-first c =
    let a = c.args in
    let l = c.loop-place in
    let count = c.div_ceil-count.ensures ∙ div_ceil_is (length l.below.now) a.fan (some_fan _ c.requires.wide) in
    let f = rises_found a.fan a.leaves.now a.fresh.now a.nth l.below.now l.numbers.now l.size l.place c.requires.wide c.requires.narrow c.requires.few l.invariant (subst (λ (n : ℕ). l.place < n) count c.if-place-count.true) in
    end_fits _ a.fan _ f.some f.few c.requires.narrow

pub offset_bounds-below-first : goal.offset_bounds-below-first
offset_bounds-below-first c =
    let a = c.args in
    let l = c.loop-place in
    let count = c.div_ceil-count.ensures ∙ div_ceil_is (length l.below.now) a.fan (some_fan _ c.requires.wide) in
    let f = rises_found a.fan a.leaves.now a.fresh.now a.nth l.below.now l.numbers.now l.size l.place c.requires.wide c.requires.narrow c.requires.few l.invariant (subst (λ (n : ℕ). l.place < n) count c.if-place-count.true) in
    bytes_fit _ _ f.some f.few

pub slice_bounds-result-count : goal.slice_bounds-result-count
slice_bounds-result-count c =
    let a = c.args in
    let l = c.loop-place in
    let count = c.div_ceil-count.ensures ∙ div_ceil_is (length l.below.now) a.fan (some_fan _ c.requires.wide) in
    let f = rises_found a.fan a.leaves.now a.fresh.now a.nth l.below.now l.numbers.now l.size l.place c.requires.wide c.requires.narrow c.requires.few l.invariant (subst (λ (n : ℕ). l.place < n) count c.if-place-count.true) in
    part_starts _ a.fan _ (length l.below.now) f.some c.min-end.ensures

pub slice_bounds-result-start : goal.slice_bounds-result-start
slice_bounds-result-start c =
    let a = c.args in
    let l = c.loop-place in
    let count = c.div_ceil-count.ensures ∙ div_ceil_is (length l.below.now) a.fan (some_fan _ c.requires.wide) in
    let f = rises_found a.fan a.leaves.now a.fresh.now a.nth l.below.now l.numbers.now l.size l.place c.requires.wide c.requires.narrow c.requires.few l.invariant (subst (λ (n : ℕ). l.place < n) count c.if-place-count.true) in
    part_starts _ a.fan _ (length l.below.now) f.some c.min-end.ensures

pub slice_bounds-result-end : goal.slice_bounds-result-end
slice_bounds-result-end c = part_ends (c.loop-place.place * c.args.fan) c.args.fan _ (length c.loop-place.below.now) c.min-end.ensures

pub split_at-requires : goal.split_at-requires
split_at-requires c =
    let a = c.args in
    let l = c.loop-place in
    let count = c.div_ceil-count.ensures ∙ div_ceil_is (length l.below.now) a.fan (some_fan _ c.requires.wide) in
    (rises_bounds a.fan a.leaves.now a.fresh.now a.nth l.below.now l.numbers.now l.size l.place c.div_ceil-count.result c.requires.wide c.requires.narrow c.requires.some c.requires.few l.invariant count c.if-place-count.false).enough

pub loop-place-smaller : goal.loop-place-smaller
loop-place-smaller c =
    let a = c.args in
    let l = c.loop-place in
    let count = c.div_ceil-count.ensures ∙ div_ceil_is (length l.below.now) a.fan (some_fan _ c.requires.wide) in
    fewer_still _ _ (rises_bounds a.fan a.leaves.now a.fresh.now a.nth l.below.now l.numbers.now l.size l.place c.div_ceil-count.result c.requires.wide c.requires.narrow c.requires.some c.requires.few l.invariant count c.if-place-count.false).some c.if-place-count.false

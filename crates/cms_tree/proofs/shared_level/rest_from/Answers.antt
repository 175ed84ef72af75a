use Rattle.std.proofs.Common.{◌∙◌, arith, refl}
use Rattle.cms_tree.proofs.Paths.{passes, rest_is, rest_is_none}
use Rattle.cms_tree.proofs.Sums.{counts_down, at_most, same_most}
use Rattle.cms_tree.proofs.shared_level.rest_from.Goals as goal

pub loop-at-preserved : goal.loop-at-preserved
loop-at-preserved c from to low = c.loop-at.invariant from to low ∙ passes from to c.loop-at.at c.args.numbers.now (omega arith) (omega arith)

pub loop-at-init : goal.loop-at-init
loop-at-init c = λ from to low. refl

pub bounds-numbers-at : goal.bounds-numbers-at
bounds-numbers-at c = c.loop-at-test.true

pub slice_bounds-result-count : goal.slice_bounds-result-count
slice_bounds-result-count c = at_most c.loop-at.at _ c.loop-at-test.true

pub slice_bounds-result-start : goal.slice_bounds-result-start
slice_bounds-result-start c = at_most c.loop-at.at _ c.loop-at-test.true

pub slice_bounds-result-end : goal.slice_bounds-result-end
slice_bounds-result-end c = same_most _

pub slice_bounds-result-count-2 : goal.slice_bounds-result-count-2
slice_bounds-result-count-2 c = same_most _

pub slice_bounds-result-start-2 : goal.slice_bounds-result-start-2
slice_bounds-result-start-2 c = same_most _

pub slice_bounds-result-end-2 : goal.slice_bounds-result-end-2
slice_bounds-result-end-2 c = same_most _

pub returns-then-from-low : goal.returns-then-from-low
returns-then-from-low c = rest_is c.args.low c.loop-at.at c.from.result c.args.numbers.now c.requires c.from.ensures c.if-from-low.true c.loop-at.invariant

pub loop-at-smaller : goal.loop-at-smaller
loop-at-smaller c = counts_down _ c.loop-at.at c.loop-at-test.true

pub returns : goal.returns
returns c = rest_is_none c.args.low c.loop-at.at c.args.numbers.now c.loop-at-test.false c.loop-at.invariant

use Rattle.std.proofs.Common.{◌≡◌, ℕ, ◌+◌, ◌<◌, length, take, get_or, ◌∙◌, ap, arith}
use Rattle.std.proofs.lemmas.List.{take_more, take_all, length-take-le}
use Rattle.cms_tree.specs.Levels.{wide_mark}
use Rattle.cms_tree.proofs.FilledBlocks.{none_filled, one_filled, all_filled, below_some}
use Rattle.cms_tree.proofs.node.fill_node.Goals as goal
use Rattle.cms_tree.proofs.node.fill_node.Goals.{then-psize-eq12, else-psize-eq12}

pub loop-place-init : goal.loop-place-init
loop-place-init c =
    let a = c.args in
    none_filled (length a.into.now) a.psize a.marks.now a.count a.group.now.size a.group.now.first a.group.now.blocks.now c.fill.new.self (c.fill.ensures.after (λ y is. is))

pub mark_of-mark-requires-clause-within : goal.mark_of-mark-requires-clause-within
mark_of-mark-requires-clause-within c =
    let a = c.args in
    let l = c.loop-place in
    let group = a.group.now in
    omega (arith, below_some (group.first + l.place) a.count group.size c.requires.size (omega (arith, c.requires.within)), c.requires.marks c.if-psize-eq12.true)

pub loop-place-preserved : goal.loop-place-preserved
loop-place-preserved c =
    let a = c.args in
    let l = c.loop-place in
    let blocks = a.group.now.blocks.now in
    let within : l.place < length blocks = omega arith in
    let long : length (take l.place blocks) ≡ l.place = length-take-le l.place blocks (omega arith) in
    one_filled (length a.into.now) a.psize a.marks.now a.count a.group.now.size a.group.now.first blocks l.place
    (get_or blocks l.place 0) c.if-psize-eq12.mark l.into c.put_cell.new.into c.requires.psize within c.requires.room
    (take_more blocks l.place 0 within) long l.invariant
    (λ twelve.
    elim c.if-psize-eq12.branch [
      | then-psize-eq12 w ↦ w.mark-is ∙ w.mark_of-mark.ensures ∙ ap (λ (n : ℕ). wide_mark a.marks.now n a.group.now.size (a.group.now.first + l.place)) (c.requires.marks twelve)
      | else-psize-eq12 w ↦ absurd (w.if-psize-eq12.false twelve)
    ])
    (rw c.from.ensures at c.put_cell.ensures)

pub returns : goal.returns
returns c =
    let a = c.args in
    let l = c.loop-place in
    let blocks = a.group.now.blocks.now in
    all_filled (length a.into.now) a.psize a.marks.now a.count a.group.now.size a.group.now.first blocks l.place l.into (take_all l.place blocks (omega arith)) (omega arith) l.invariant

pub put_cell-requires-clause-psize : goal.put_cell-requires-clause-psize
put_cell-requires-clause-psize c = c.requires.psize

pub mark_of-mark-requires-clause-size : goal.mark_of-mark-requires-clause-size
mark_of-mark-requires-clause-size c = c.requires.size

pub mark_of-mark-requires-clause-short : goal.mark_of-mark-requires-clause-short
mark_of-mark-requires-clause-short c = c.requires.short

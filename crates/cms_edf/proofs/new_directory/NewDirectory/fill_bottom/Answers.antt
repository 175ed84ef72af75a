-- One number is put behind the other.
use Rattle.std.proofs.Common.{◌≡◌, ◌*◌, ◌<◌, inl, [], length, take, drop, get_or, refl, arith, length-drop}
use Rattle.std.proofs.lemmas.List.{length-take, length-take-le, take_all, take_more}
use Rattle.cms_tree.specs.Builds.{no_mark}
use Rattle.cms_tree.proofs.FilledBlocks.{all_filled, below_some, none_filled, one_filled}
use Rattle.cms_edf.proofs.NewLeaves.{long_is}
use Rattle.cms_edf.proofs.NewNodes.{cell_put}
use Rattle.cms_edf.proofs.new_directory.NewDirectory.fill_bottom.Goals as goal

pub overflow_sub-self-inside : goal.overflow_sub-self-inside
overflow_sub-self-inside c =
    let many = long_is c.self.inside.old.value.items c.self.inside.count c.self.inside.part c.self.inside.numbers.items c.self.inside.pointers.items c.args.self.now c.self.view_is in
    let less = below_some c.args.place (length c.args.self.now.tree.leaves) c.args.fan (let w = c.requires.wide in omega arith) c.requires.within in
    omega arith

pub loop-at-init : goal.loop-at-init
loop-at-init c =
    let a = c.args in
    let leaves = a.self.now.tree.leaves in
    none_filled (length a.block.now) 4 [] (length leaves) 1 (a.place * a.fan) (take a.fan (drop (a.place * a.fan) leaves)) c.fill.new.self (c.fill.ensures.after (λ y is. is))

pub leaf-requires-clause-within : goal.leaf-requires-clause-within
leaf-requires-clause-within c =
    let many = long_is c.self.inside.old.value.items c.self.inside.count c.self.inside.part c.self.inside.numbers.items c.self.inside.pointers.items c.args.self.now c.self.view_is in
    omega (arith, many, c.min-here.ensures, c.loop-at-test.true)

pub loop-at-preserved : goal.loop-at-preserved
loop-at-preserved c =
    let a = c.args in
    let l = c.loop-at in
    let leaves = a.self.now.tree.leaves in
    let first = a.place * a.fan in
    let blocks = take a.fan (drop first leaves) in
    let many = long_is c.self.inside.old.value.items c.self.inside.count c.self.inside.part c.self.inside.numbers.items c.self.inside.pointers.items c.args.self.now c.self.view_is in
    let own = length-take a.fan (drop first leaves) in
    let rest = length-drop first leaves in
    let here = c.min-here.ensures in
    let test = c.loop-at-test.true in
    let room = c.requires.room in
    let less : l.at < length blocks = omega (arith, many, own, rest, here, test) in
    one_filled (length a.block.now) 4 [] (length leaves) 1 first blocks l.at (get_or blocks l.at 0) no_mark l.block c.put_word.new.into (inl refl) less (omega (arith, own, room))
    (take_more blocks l.at 0 less) (length-take-le l.at blocks (omega (arith, less))) l.invariant (λ twelve. absurd (omega (arith, twelve)))
    (cell_put leaves l.block c.put_word.new.into a.fan first l.at c.leaf.result (omega (arith, less, own)) c.leaf.ensures c.put_word.ensures)

pub returns : goal.returns
returns c =
    let a = c.args in
    let l = c.loop-at in
    let leaves = a.self.now.tree.leaves in
    let first = a.place * a.fan in
    let blocks = take a.fan (drop first leaves) in
    let many = long_is c.self.inside.old.value.items c.self.inside.count c.self.inside.part c.self.inside.numbers.items c.self.inside.pointers.items c.args.self.now c.self.view_is in
    let own = length-take a.fan (drop first leaves) in
    let rest = length-drop first leaves in
    let here = c.min-here.ensures in
    let test = c.loop-at-test.false in
    let end = l.auto.at-end in
    let is : l.at ≡ length blocks = omega (arith, many, own, rest, here, test, end) in
    all_filled (length a.block.now) 4 [] (length leaves) 1 first blocks l.at l.block (take_all l.at blocks (omega (arith, is))) is l.invariant

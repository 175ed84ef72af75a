use Rattle.std.proofs.Common.{ℕ, ◌/◌, ◌∙◌, ap, List, get_or, length, []}
use Rattle.cms_tree.specs.Builds.{Child, node_bytes, nodes_over}
use Rattle.cms_tree.proofs.BuiltTrees.{fan_wide}
use Rattle.cms_tree.proofs.ClimbBlocks.{some_pointer}
use Rattle.cms_tree.proofs.node.build.Goals as goal

pub returns : goal.returns
returns c =
    let a = c.args in
    let group = c.group_of-group.result in
    let children = rw (c.from.ensures, c.bytes.ensures.value) at (c.group_of-group.ensures.children a.marks.now) in
    c.fill_node.ensures ∙ ap (λ (g : List Child). node_bytes (length a.into.now) a.psize g) children
    ∙ ap (λ (n : ℕ). node_bytes n a.psize (get_or (nodes_over (a.bsize / a.psize) a.leaves.now a.marks.now a.fresh.now) a.nth [])) c.requires.room

pub nonzero_div-fan : goal.nonzero_div-fan
nonzero_div-fan c = rw c.from.ensures (some_pointer c.args.psize c.requires.psize)

pub group_of-group-requires-clause-some : goal.group_of-group-requires-clause-some
group_of-group-requires-clause-some c = c.requires.some

pub group_of-group-requires-clause-few : goal.group_of-group-requires-clause-few
group_of-group-requires-clause-few c = c.requires.few

pub fill_node-requires-clause-few : goal.fill_node-requires-clause-few
fill_node-requires-clause-few c = c.requires.few

pub group_of-group-requires-clause-wide : goal.group_of-group-requires-clause-wide
group_of-group-requires-clause-wide c = rw (c.bytes.ensures.value, c.from.ensures) (fan_wide c.args.bsize c.args.psize c.bytes.ensures.size c.requires.psize)

pub group_of-group-requires-clause-fresh : goal.group_of-group-requires-clause-fresh
group_of-group-requires-clause-fresh c = rw (c.bytes.ensures.value, c.from.ensures) c.requires.fresh

pub group_of-group-requires-clause-nth : goal.group_of-group-requires-clause-nth
group_of-group-requires-clause-nth c = rw (c.bytes.ensures.value, c.from.ensures) c.requires.nth

pub fill_node-requires-clause-psize : goal.fill_node-requires-clause-psize
fill_node-requires-clause-psize c = c.requires.psize

pub fill_node-requires-clause-marks : goal.fill_node-requires-clause-marks
fill_node-requires-clause-marks c = c.requires.marks

pub fill_node-requires-clause-size : goal.fill_node-requires-clause-size
fill_node-requires-clause-size c = c.group_of-group.ensures.size

pub fill_node-requires-clause-short : goal.fill_node-requires-clause-short
fill_node-requires-clause-short c = c.group_of-group.ensures.short

pub fill_node-requires-clause-within : goal.fill_node-requires-clause-within
fill_node-requires-clause-within c = c.group_of-group.ensures.within

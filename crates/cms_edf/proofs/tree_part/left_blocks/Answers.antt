-- First the data blocks that aren't kept, then the pointer blocks.
use Rattle.std.proofs.Common.{true, ◌++◌, length, ◌∙◌, ◌<◌, ◌≤◌, ◌^◌, ℕ, List, ap, sym, subst}
use Rattle.cms_model.specs.SharedTrees.{is_kept}
use Rattle.cms_model.specs.SharedTimes.{gone, without}
use Rattle.cms_tree.specs.Paths.{tree_levels}
use Rattle.cms_edf.proofs.SharedTaken.{left_so}
use Rattle.cms_model.specs.Sizes.{pointer_count}
use Rattle.cms_edf.proofs.Exits.{ok_at_err}
use Rattle.cms_edf.proofs.Rooms.{back_room, front_room}
use Rattle.cms_edf.proofs.tree_part.left_blocks.Goals as goal

pub returns : goal.returns
returns c = λ new long nodes.
    let none = c.in_ok-left.ensures.items in
    let leaves = c.leaves-2.ensures in
    let before = c.leaves-3.ensures in
    let olds = c.pointers-2.ensures in
    let first = c.leave_leaves.new.into.items in
    left_so c.args.fan c.args.old.now new c.args.count c.args.written.now c.left_out.new.into.items first long
    (c.leave_leaves.ensures.appended ∙ (λ i. none i ++ without (is_kept true 1 (length (leaves i)) c.args.count c.args.written.now) 0 (leaves i)))
    (λ tiers high. c.left_out.ensures.appended tiers high
    ∙ (λ i. first ++ gone c.args.fan 1 (length (before i)) c.args.count c.args.written.now (tree_levels c.args.fan (length (before i)) (olds i)) tiers))

pub returns-in_err-left : goal.returns-in_err-left
returns-in_err-left c = ok_at_err _ c.from_residual.result _ c.from_residual.ensures.1

pub leave_leaves-requires-clause-few : goal.leave_leaves-requires-clause-few
leave_leaves-requires-clause-few c = subst (λ (l : List ℕ). length l < 2 ^ 32) (sym c.leaves-2.ensures) c.requires.few

pub leave_leaves-requires-clause-ascends : goal.leave_leaves-requires-clause-ascends
leave_leaves-requires-clause-ascends c = c.requires.ascends

pub leave_leaves-requires-clause-room : goal.leave_leaves-requires-clause-room
leave_leaves-requires-clause-room c = front_room _ _ _ _ _ c.in_ok-left.ensures.len c.in_ok-left.ensures.capacity (ap (λ (l : List ℕ). length l) (c.leaves-2.ensures ∙ sym c.leaves.ensures))

pub left_out-requires-clause-some_before : goal.left_out-requires-clause-some_before
left_out-requires-clause-some_before c = subst (λ (l : List ℕ). 1 ≤ length l) (sym c.leaves-3.ensures) c.requires.some_before

pub left_out-requires-clause-some : goal.left_out-requires-clause-some
left_out-requires-clause-some c = c.requires.some

pub left_out-requires-clause-wide : goal.left_out-requires-clause-wide
left_out-requires-clause-wide c = c.requires.wide

pub left_out-requires-clause-olds : goal.left_out-requires-clause-olds
left_out-requires-clause-olds c = ap (λ (l : List ℕ). length l) c.pointers-2.ensures ∙ (c.requires.olds ∙ ap (λ (l : List ℕ). pointer_count c.args.fan (length l)) (sym c.leaves-3.ensures))

pub left_out-requires-clause-ascends : goal.left_out-requires-clause-ascends
left_out-requires-clause-ascends c = c.requires.ascends

pub left_out-requires-clause-room : goal.left_out-requires-clause-room
left_out-requires-clause-room c =
    back_room _ _ _ _ _ _ _ _ c.in_ok-left.ensures.len c.in_ok-left.ensures.capacity c.leave_leaves.ensures.len (ap (λ (l : List ℕ). length l) (c.leaves-2.ensures ∙ sym c.leaves.ensures))
    (sym (ap (λ (l : List ℕ). length l) c.pointers.ensures ∙ (c.requires.olds ∙ ap (λ (l : List ℕ). pointer_count c.args.fan (length l)) (sym c.leaves-3.ensures)))) c.leave_leaves.ensures.capacity

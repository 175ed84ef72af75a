-- First the data blocks that aren't kept, then the pointer blocks.
use Rattle.std.proofs.Common.{true, List, ℕ, ◌++◌, length, ◌∙◌, ap}
use Rattle.cms_model.specs.SharedTrees.{is_kept}
use Rattle.cms_model.specs.SharedTimes.{without}
use Rattle.cms_edf.proofs.SharedTaken.{left_so}
use Rattle.cms_edf.proofs.Exits.{ok_at_err}
use Rattle.cms_edf.proofs.Rooms.{more_room}
use Rattle.cms_edf.proofs.new_directory.blocks_left.Goals as goal

pub returns : goal.returns
returns c = λ new long nodes.
    let a = c.args in
    let first = c.in_ok-reserve.ensures.items
    ∙ (c.in_ok-append_left.ensures ∙ ap (λ (l : List ℕ). l ++ without (is_kept true 1 (length a.leaves.now) a.count a.written.now) 0 a.leaves.now) c.in_ok-left.ensures.items) in
    left_so a.fan (record { leaves = a.leaves.now; pointers = a.pointers.now }) new a.count a.written.now c.left_out.new.into.items c.reserve.new.self.items long first c.left_out.ensures.appended

pub returns-in_err-left : goal.returns-in_err-left
returns-in_err-left c = ok_at_err _ c.from_residual.result _ c.from_residual.ensures.1

pub append_left-requires : goal.append_left-requires
append_left-requires c = c.requires.may

pub returns-in_err-append_left : goal.returns-in_err-append_left
returns-in_err-append_left c = ok_at_err _ c.from_residual-in_err-append_left.result _ c.from_residual-in_err-append_left.ensures.1

pub returns-in_err-reserve : goal.returns-in_err-reserve
returns-in_err-reserve c = ok_at_err _ c.from_residual-in_err-reserve.result _ c.from_residual-in_err-reserve.ensures.1

pub left_out-requires-clause-some_before : goal.left_out-requires-clause-some_before
left_out-requires-clause-some_before c = c.requires.some_before

pub left_out-requires-clause-some : goal.left_out-requires-clause-some
left_out-requires-clause-some c = c.requires.some

pub left_out-requires-clause-wide : goal.left_out-requires-clause-wide
left_out-requires-clause-wide c = c.requires.wide

pub left_out-requires-clause-olds : goal.left_out-requires-clause-olds
left_out-requires-clause-olds c = c.requires.olds

pub left_out-requires-clause-ascends : goal.left_out-requires-clause-ascends
left_out-requires-clause-ascends c = c.requires.may.ascend

pub left_out-requires-clause-room : goal.left_out-requires-clause-room
left_out-requires-clause-room c = more_room _ _ _ _ c.in_ok-reserve.ensures.ok c.requires.olds

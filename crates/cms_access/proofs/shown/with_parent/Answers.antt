use Rattle.std.proofs.Common.{sym}
use Rattle.cms_access.proofs.Queries.{parent_text}
use Rattle.cms_access.proofs.shown.with_parent.Goals as goal

pub returns : goal.returns
returns c =
    let text = parent_text c.args.letter c.in-Some.parent in
    let more = c.in_ok-extend_from_slice-2.ensures.items in
    let stroke = c.in_ok-push.ensures.items in
    let copy = c.in_ok-extend_from_slice.ensures.items in
    let new = c.new-text.ensures.items in
    let first = c.letter_text.ensures in
    let second = c.letter_text-2.ensures in
    let some = c.in-Some.is in
    rw (some, more, stroke, copy, new, first, second) (sym text)

use Rattle.std.proofs.Common.{◌≡◌, ◌∙◌, ◌<◌, true, false, [], Some, None, length, ap, sym}
use Rattle.std.specs.List.{position}
use Rattle.cms_model.proofs.ItemsParts.{feed}
use Rattle.cms_line.proofs.ConsoleTaken.{at_state, line_ends, not_yet, at_end, nothing_left, line_is_last, empty_is, some_is}
use Rattle.cms_line.proofs.console.Console.front.Goals as goal

pub returns-in-Some : goal.returns-in-Some
returns-in-Some c =
    let self = c.args.self.now in
    let past = at_state self c.room.result c.unread-unread.result.now c.has_ended.result false c.room.ensures c.unread-unread.ensures c.has_ended.ensures c.if-goes_past.ensures in
    let found : position feed self.unread.bytes ≡ Some c.in-Some.length = sym (ap (position feed) c.unread-unread.ensures) ∙ sym c.in-Some.ensures in
    (c.if-is_at_beginning.ensures, line_ends self c.in-Some.length past found)

pub returns-in-Some-2 : goal.returns-in-Some-2
returns-in-Some-2 c =
    let self = c.args.self.now in
    let past = at_state self c.room.result c.unread-unread.result.now c.has_ended.result false c.room.ensures c.unread-unread.ensures c.has_ended.ensures c.if-goes_past.ensures in
    let found : position feed self.unread.bytes ≡ Some c.in-Some.length = sym (ap (position feed) c.unread-unread.ensures) ∙ sym c.in-Some.ensures in
    (c.if-is_at_beginning.ensures, line_ends self c.in-Some.length past found)

pub returns-in-None : goal.returns-in-None
returns-in-None c =
    let self = c.args.self.now in
    let past = at_state self c.room.result c.unread-unread.result.now c.has_ended.result false c.room.ensures c.unread-unread.ensures c.has_ended.ensures c.if-goes_past.ensures in
    let none : position feed self.unread.bytes ≡ None = sym (ap (position feed) c.unread-unread.ensures) ∙ sym c.in-None.ensures in
    let yet : self.ended ≡ false = sym c.if-not-has_ended.ensures in
    let n = not_yet self past none yet in
    (yet, n.0, n.1)

pub returns-in-None-2 : goal.returns-in-None-2
returns-in-None-2 c =
    let self = c.args.self.now in
    let empty : self.unread.bytes ≡ [] = sym c.unread-unread.ensures ∙ empty_is c.unread-unread.result.now (sym c.if-is_empty.ensures) in
    (sym c.if-not-has_ended.ensures, nothing_left self empty)

pub returns-in-None-3 : goal.returns-in-None-3
returns-in-None-3 c =
    let self = c.args.self.now in
    let past = at_state self c.room.result c.unread-unread.result.now c.has_ended.result false c.room.ensures c.unread-unread.ensures c.has_ended.ensures c.if-goes_past.ensures in
    let none : position feed self.unread.bytes ≡ None = sym (ap (position feed) c.unread-unread.ensures) ∙ sym c.in-None.ensures in
    let some : 0 < length self.unread.bytes = some_is c.unread-unread.result.now self.unread.bytes c.unread-unread.ensures (sym c.if-is_empty.ensures) in
    (c.if-is_at_beginning-2.ensures, line_is_last self past none (sym c.if-not-has_ended.ensures) some)

pub returns-in-None-4 : goal.returns-in-None-4
returns-in-None-4 c =
    let self = c.args.self.now in
    let past = at_state self c.room.result c.unread-unread.result.now c.has_ended.result false c.room.ensures c.unread-unread.ensures c.has_ended.ensures c.if-goes_past.ensures in
    let none : position feed self.unread.bytes ≡ None = sym (ap (position feed) c.unread-unread.ensures) ∙ sym c.in-None.ensures in
    let over : self.ended ≡ true = sym c.if-not-has_ended.ensures in
    (over, at_end self past none over c.if-is_at_beginning-2.ensures)

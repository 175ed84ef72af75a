use Rattle.std.proofs.Common.{◌-◌, inl, inr, ap, refl, ◌∙◌, ℕ, List, drop, sym}
use Rattle.std.proofs.lemmas.Result.{err_from_is_err_and, IfOk-from_err}
use Rattle.cms_line.specs.Consoles.{item_of}
use Rattle.cms_search.proofs.KeptReads.{at_err, keeps_dropped, keeps_none, keeps_stayed, unread_talks}
use Rattle.cms_search.proofs.Talks.{ask_breaks, ask_gives, ask_goes_on, ask_spent, ask_stacked, ask_stops, ask_unstacked, came_none, which}
use Rattle.cms_search.proofs.Counts.{fewer_left, no_more, none_fits, one_fewer, one_spent, some_left}
use Rattle.cms_search.proofs.asked_line.ask.Goals as goal
use Rattle.cms_search.proofs.asked_line.ask.Goals.{in-Bad, in-Long, in-Rest}

pub returns-in-Some-clause-talks : goal.returns-in-Some-clause-talks
returns-in-Some-clause-talks g c = ask_stacked _ _ c.args.stack.now c.pop.new.self c.in-Some.line c.args.left.now c.in-Some.ensures

pub returns-in_err-line-clause-talks : goal.returns-in_err-line-clause-talks
returns-in_err-line-clause-talks g c =
    let p = err_from_is_err_and c.from_residual.result c.from_residual.ensures.1 in
    ask_unstacked _ _ _ _ c.args.left.now c.loop-line.left c.from_residual.result c.args.stack.now c.pop.new.self c.in_default.ensures.0 c.loop-line.invariant.none
    (rw (p.1, p.2) (ask_stops _ _ _ _ _ _ c.args.left.now c.loop-line.left _ c.loop-line.invariant.due c.in_err-line.ensures.talks))

pub returns-in-Text-clause-talks : goal.returns-in-Text-clause-talks
returns-in-Text-clause-talks g c =
    ask_unstacked _ _ _ _ c.args.left.now c.loop-line.left _ c.args.stack.now c.pop.new.self c.in_default.ensures.0 c.loop-line.invariant.none
    (ask_gives _ _ _ _ _ _ c.args.left.now c.loop-line.left c.in_ok-line.field-0 c.in-Text.line c.loop-line.invariant.due c.in_ok-line.ensures.talks (inl (ap item_of c.in-Text.is)))

pub returns-in-End-clause-talks : goal.returns-in-End-clause-talks
returns-in-End-clause-talks g c =
    ask_unstacked _ _ _ _ c.args.left.now c.loop-line.left _ c.args.stack.now c.pop.new.self c.in_default.ensures.0 c.loop-line.invariant.none
    (ask_gives _ _ _ _ _ _ c.args.left.now c.loop-line.left c.in_ok-line.field-0 c.take-in-End.result c.loop-line.invariant.due c.in_ok-line.ensures.talks
    (inr (ap item_of c.in-End.is, c.take-in-End.ensures ∙ c.new.ensures.items)))

pub returns-then-left-eq0-clause-talks : goal.returns-then-left-eq0-clause-talks
returns-then-left-eq0-clause-talks g c =
    ask_unstacked _ _ _ _ c.args.left.now c.loop-line.left _ c.args.stack.now c.pop.new.self c.in_default.ensures.0 c.loop-line.invariant.none
    (ask_spent _ _ _ _ _ _ c.args.left.now c.loop-line.left c.in_ok-line.field-0 c.match-branch-2.no_line c.loop-line.invariant.due c.in_ok-line.ensures.talks
    (which _ _ (elim c.match-branch-2.branch [
      | in-Bad w ↦ inl (w.in-Bad.is, w.no_line-is)
      | in-Long w ↦ inr (inl (w.in-Long.is, w.no_line-is))
      | in-Rest w ↦ inr (inr (w.in-Rest.is, w.no_line-is))
    ]))
    c.if-left-eq0.true)

pub loop-line-preserved : goal.loop-line-preserved
loop-line-preserved g c = record {
  due = ask_goes_on _ _ _ _ _ _ _ c.args.left.now c.loop-line.left (c.loop-line.left - 1) c.in_ok-line.field-0 c.match-branch-2.no_line tt c.loop-line.invariant.due c.in_ok-line.ensures.talks
      (which _ _ (elim c.match-branch-2.branch [
        | in-Bad w ↦ inl (w.in-Bad.is, w.no_line-is)
        | in-Long w ↦ inr (inl (w.in-Long.is, w.no_line-is))
        | in-Rest w ↦ inr (inr (w.in-Rest.is, w.no_line-is))
      ]))
      (one_spent c.loop-line.left c.if-left-eq0.false) c.in_ok-drop_item.ensures;
  kept = keeps_dropped _ _ _ _ _ _ _ c.args.left.now c.loop-line.left (c.loop-line.left - 1) c.in_ok-line.field-0 c.match-branch-2.no_line c.loop-line.invariant.kept c.in_ok-line.ensures.took
      (which _ _ (elim c.match-branch-2.branch [
        | in-Bad w ↦ inl (w.in-Bad.is, w.no_line-is)
        | in-Long w ↦ inr (inl (w.in-Long.is, w.no_line-is))
        | in-Rest w ↦ inr (inr (w.in-Rest.is, w.no_line-is))
      ]))
      (one_spent c.loop-line.left c.if-left-eq0.false) (unread_talks _ _ _ _ _ c.in_ok-drop_item.ensures);
  none = c.loop-line.invariant.none;
  first = c.loop-line.invariant.first;
  less = fewer_left c.loop-line.left c.args.left.now c.loop-line.invariant.less;
}

pub returns-in_err-drop_item-clause-talks : goal.returns-in_err-drop_item-clause-talks
returns-in_err-drop_item-clause-talks g c =
    let p = err_from_is_err_and c.from_residual-in_err-drop_item.result c.from_residual-in_err-drop_item.ensures.1 in
    ask_unstacked _ _ _ _ c.args.left.now (c.loop-line.left - 1) c.from_residual-in_err-drop_item.result c.args.stack.now c.pop.new.self c.in_default.ensures.0 c.loop-line.invariant.none
    (rw (p.1, p.2) (ask_breaks _ _ _ _ _ _ _ c.args.left.now c.loop-line.left (c.loop-line.left - 1) c.in_ok-line.field-0 c.match-branch-2.no_line _ c.loop-line.invariant.due c.in_ok-line.ensures.talks
    (which _ _ (elim c.match-branch-2.branch [
      | in-Bad w ↦ inl (w.in-Bad.is, w.no_line-is)
      | in-Long w ↦ inr (inl (w.in-Long.is, w.no_line-is))
      | in-Rest w ↦ inr (inr (w.in-Rest.is, w.no_line-is))
    ]))
    (one_spent c.loop-line.left c.if-left-eq0.false) c.in_err-drop_item.ensures))

-- what was read is kept
pub loop-line-init : goal.loop-line-init
loop-line-init g c = record {
  due = λ s. came_none _ _ _;
  kept = keeps_none _ _ _;
  none = c.in_default.ensures.1;
  first = c.in_default.ensures.1;
  less = no_more c.args.left.now;
}

pub returns-in_err-line-clause-read : goal.returns-in_err-line-clause-read
returns-in_err-line-clause-read g c =
    at_err c.from_residual.result _ (keeps_stayed _ _ _ _ _ _ c.args.left.now c.loop-line.left c.loop-line.invariant.kept c.in_err-line.ensures.kept)

pub returns-in_err-drop_item-clause-read : goal.returns-in_err-drop_item-clause-read
returns-in_err-drop_item-clause-read g c =
    at_err c.from_residual-in_err-drop_item.result _
    (keeps_dropped _ _ _ _ _ _ _ c.args.left.now c.loop-line.left (c.loop-line.left - 1) c.in_ok-line.field-0 c.match-branch-2.no_line c.loop-line.invariant.kept c.in_ok-line.ensures.took
    (which _ _ (elim c.match-branch-2.branch [
      | in-Bad w ↦ inl (w.in-Bad.is, w.no_line-is)
      | in-Long w ↦ inr (inl (w.in-Long.is, w.no_line-is))
      | in-Rest w ↦ inr (inr (w.in-Rest.is, w.no_line-is))
    ]))
    (one_spent c.loop-line.left c.if-left-eq0.false) (unread_talks _ _ _ _ _ c.in_err-drop_item.ensures))

pub returns-in-Some-clause-took : goal.returns-in-Some-clause-took
returns-in-Some-clause-took g c = let is = c.in-Some.ensures in rw is refl

pub returns-in-Some-clause-stack : goal.returns-in-Some-clause-stack
returns-in-Some-clause-stack g c = tt

pub returns-in-Some-clause-read : goal.returns-in-Some-clause-read
returns-in-Some-clause-read g c = tt

pub returns-in-Text-clause-stack : goal.returns-in-Text-clause-stack
returns-in-Text-clause-stack g c = tt

pub returns-in-Text-clause-read : goal.returns-in-Text-clause-read
returns-in-Text-clause-read g c = tt

pub returns-in-End-clause-stack : goal.returns-in-End-clause-stack
returns-in-End-clause-stack g c = tt

pub returns-in-End-clause-read : goal.returns-in-End-clause-read
returns-in-End-clause-read g c = tt

pub returns-then-left-eq0-clause-stack : goal.returns-then-left-eq0-clause-stack
returns-then-left-eq0-clause-stack g c = tt

pub returns-then-left-eq0-clause-read : goal.returns-then-left-eq0-clause-read
returns-then-left-eq0-clause-read g c = tt

pub returns-in-Some-clause-left : goal.returns-in-Some-clause-left
returns-in-Some-clause-left g c = no_more c.args.left.now

pub returns-in_err-line-clause-left : goal.returns-in_err-line-clause-left
returns-in_err-line-clause-left g c = c.loop-line.invariant.less

pub returns-in-Text-clause-left : goal.returns-in-Text-clause-left
returns-in-Text-clause-left g c = c.loop-line.invariant.less

pub returns-in-End-clause-left : goal.returns-in-End-clause-left
returns-in-End-clause-left g c = c.loop-line.invariant.less

pub returns-then-left-eq0-clause-left : goal.returns-then-left-eq0-clause-left
returns-then-left-eq0-clause-left g c = c.loop-line.invariant.less

pub returns-in_err-line-clause-stack : goal.returns-in_err-line-clause-stack
returns-in_err-line-clause-stack g c = at_err c.from_residual.result _ (c.in_default.ensures.1 ∙ sym c.in_default.ensures.0)

pub returns-in_err-drop_item-clause-stack : goal.returns-in_err-drop_item-clause-stack
returns-in_err-drop_item-clause-stack g c = at_err c.from_residual-in_err-drop_item.result _ (c.in_default.ensures.1 ∙ sym c.in_default.ensures.0)

pub returns-in_err-line-clause-took : goal.returns-in_err-line-clause-took
returns-in_err-line-clause-took g c = IfOk-from_err c.from_residual.result _ c.from_residual.ensures.0

pub returns-in_err-drop_item-clause-took : goal.returns-in_err-drop_item-clause-took
returns-in_err-drop_item-clause-took g c = IfOk-from_err c.from_residual-in_err-drop_item.result _ c.from_residual-in_err-drop_item.ensures.0

pub returns-in-Text-clause-took : goal.returns-in-Text-clause-took
returns-in-Text-clause-took g c = c.in_default.ensures.1 ∙ sym (ap (λ (l : List (List ℕ)). drop 1 l) c.in_default.ensures.0)

pub returns-in-End-clause-took : goal.returns-in-End-clause-took
returns-in-End-clause-took g c = c.in_default.ensures.1 ∙ sym (ap (λ (l : List (List ℕ)). drop 1 l) c.in_default.ensures.0)

pub returns-then-left-eq0-clause-took : goal.returns-then-left-eq0-clause-took
returns-then-left-eq0-clause-took g c = c.in_default.ensures.1 ∙ sym (ap (λ (l : List (List ℕ)). drop 1 l) c.in_default.ensures.0)

pub take-requires-in-End : goal.take-requires-in-End
take-requires-in-End g c = none_fits c.new.result.items c.new.ensures.items

pub overflow_sub-left : goal.overflow_sub-left
overflow_sub-left g c = some_left c.loop-line.left c.if-left-eq0.false

pub loop-line-smaller : goal.loop-line-smaller
loop-line-smaller g c = one_fewer c.loop-line.left c.if-left-eq0.false

pub returns-in_err-drop_item-clause-left : goal.returns-in_err-drop_item-clause-left
returns-in_err-drop_item-clause-left g c = fewer_left c.loop-line.left c.args.left.now c.loop-line.invariant.less

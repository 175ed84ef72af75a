use Rattle.std.proofs.Common.{◌≡◌, ◌∙◌, sym, ap, rules, refl, true, false}
use Rattle.std.specs.List.{position_from}
use Rattle.exec2_parse.specs.Words.{has_label}
use Rattle.exec2_run.proofs.Places.{from_place, past_end}
use Rattle.exec2_run.proofs.jumps.label_from.Goals as goal

pub returns-in_default-clause-place : goal.returns-in_default-clause-place
returns-in_default-clause-place c =
    sym (ap (position_from (has_label c.args.label.now) c.loop-place.place) (past_end c.args.lines.now c.loop-place.place c.in_default.ensures)) ∙ c.loop-place.invariant

pub returns-then-has_label-clause-place : goal.returns-then-has_label-clause-place
returns-then-has_label-clause-place c =
    let here : has_label c.args.label.now c.in-Some.line.now ≡ true = search rules in
    sym (ap (position_from (has_label c.args.label.now) c.loop-place.place) (from_place c.args.lines.now c.loop-place.place c.in-Some.line.now c.in-Some.ensures) ∙ rw here refl)
    ∙ c.loop-place.invariant

pub loop-place-preserved : goal.loop-place-preserved
loop-place-preserved c =
    let here : has_label c.args.label.now c.in-Some.line.now ≡ false = search rules in
    sym (ap (position_from (has_label c.args.label.now) c.loop-place.place) (from_place c.args.lines.now c.loop-place.place c.in-Some.line.now c.in-Some.ensures) ∙ rw here refl)
    ∙ c.loop-place.invariant

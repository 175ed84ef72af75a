use Rattle.std.proofs.Common.{◌≡◌, ◌∙◌, sym, ap}
use Rattle.std.specs.Prelude.{true, false}
use Rattle.std.proofs.lemmas.Result.{err_from_is_err_and}
use Rattle.cms_access.specs.Format.{is_label}
use Rattle.cms_access.proofs.Questioned.{label_refused, label_stops, short_label}
use Rattle.cms_access.proofs.questions.take_label.Goals as goal

pub filled-requires : goal.filled-requires
filled-requires g c =
    let text = c.bytes-then-is_label.ensures.bytes in
    let is : is_label c.args.text ≡ true = sym (c.is_label.ensures ∙ ap is_label c.bytes.ensures.bytes) ∙ c.if-is_label.true in
    rw text (short_label c.args.text is)

pub returns-in_err-course : goal.returns-in_err-course
returns-in_err-course g c =
    let p = err_from_is_err_and c.from_residual.result c.from_residual.ensures.1 in
    let is : is_label c.args.text ≡ false = sym (c.is_label.ensures ∙ ap is_label c.bytes.ensures.bytes) ∙ c.if-is_label.false in
    rw (p.1, p.2) (label_stops _ _ c.args.state.now c.args.text _ is c.in_err-course.ensures.does)

pub returns : goal.returns
returns g c =
    let is : is_label c.args.text ≡ false = sym (c.is_label.ensures ∙ ap is_label c.bytes.ensures.bytes) ∙ c.if-is_label.false in
    label_refused _ _ c.args.state.now c.args.text c.in_ok-course.course is c.in_ok-course.ensures.does c.in_ok-course.ensures.went

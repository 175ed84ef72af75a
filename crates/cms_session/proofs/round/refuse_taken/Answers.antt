use Rattle.std.proofs.Common.{refl}
use Rattle.std.proofs.lemmas.Result.{err_from_is_err_and}
use Rattle.cms_session.proofs.Rounds.{refused_course, refused_stop}
use Rattle.cms_session.proofs.round.refuse_taken.Goals as goal

pub returns-in_err-course-clause-acts : goal.returns-in_err-course-clause-acts
returns-in_err-course-clause-acts g c =
    let p = err_from_is_err_and c.from_residual.result c.from_residual.ensures.1 in
    let s = c.args.session.now in
    rw (p.1, p.2) (refused_stop _ _ s.procedures s.procedures c.args.message _ c.in_err-course.ensures.does refl)

pub returns-clause-acts : goal.returns-clause-acts
returns-clause-acts g c =
    let s = c.args.session.now in
    refused_course _ _ _ s.procedures c.answer.new.session.procedures c.args.message c.in_ok-course.course _ c.in_ok-course.ensures.does c.in_ok-course.ensures.went refl
    c.answer.ensures.acts

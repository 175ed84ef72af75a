use Rattle.std.proofs.Common.{rules, refl, w32, FitsSigned}
use Rattle.std.proofs.lemmas.Int.{to_z-of_z}
use Rattle.std.proofs.lemmas.Result.{err_from_is_err_and}
use Rattle.cms_session.proofs.Statements.{follows_off, follows_on, follows_over}
use Rattle.cms_session.proofs.statement.follow.Goals as goal

pub returns-in_err-code-clause-acts : goal.returns-in_err-code-clause-acts
returns-in_err-code-clause-acts g c =
    let p = err_from_is_err_and c.from_residual.result c.from_residual.ensures.1 in
    let ps = c.args.session.now.procedures in
    rw (p.1, p.2) (follows_off _ _ ps (c.args.procedure, c.args.want.now) _ ps c.in_err-code.ensures refl)

pub returns-in-Some-clause-acts : goal.returns-in-Some-clause-acts
returns-in-Some-clause-acts g c =
    let ps = c.args.session.now.procedures in
    let is = c.in-Some.is in
    let does = rw is at c.in_ok-code.ensures in
    let fits : FitsSigned w32 c.in-Some.code = search rules in
    let same = to_z-of_z w32 c.in-Some.code fits in
    let acts = rw same at c.give.ensures.acts in
    follows_over _ _ ps (c.args.procedure, c.args.want.now) _ c.in-Some.code _ c.give.new.session.procedures does refl acts

pub returns-in-None-clause-acts : goal.returns-in-None-clause-acts
returns-in-None-clause-acts g c =
    let ps = c.args.session.now.procedures in
    let is = c.in-None.is in
    let does = rw is at c.in_ok-code.ensures in
    follows_on _ _ ps (c.args.procedure, c.args.want.now) _ _ c.go_on.new.session.procedures does refl c.go_on.ensures.acts

use Rattle.std.proofs.Common.{◌∙◌, ap, rules, w32, FitsSigned}
use Rattle.std.proofs.lemmas.Int.{to_z-of_z}
use Rattle.std.proofs.lemmas.Result.{err_from_is_err_and}
use Rattle.cms_search.specs.declared.state.State.{State}
use Rattle.cms_session.specs.Procedures.{settled}
use Rattle.cms_session.proofs.Statements.{found_given, found_off, found_waits}
use Rattle.cms_session.proofs.statement.go_on.Goals as goal

pub returns-in_err-code-clause-acts : goal.returns-in_err-code-clause-acts
returns-in_err-code-clause-acts g c =
    let p = err_from_is_err_and c.from_residual.result c.from_residual.ensures.1 in
    let ps = c.args.session.now.procedures in
    rw (p.1, p.2) (found_off _ _ ps (settled c.args.procedure) _ c.settle.new.session.procedures c.in_err-code.ensures.does c.settle.ensures.state)

pub returns-in-Some-clause-acts : goal.returns-in-Some-clause-acts
returns-in-Some-clause-acts g c =
    let ps = c.args.session.now.procedures in
    let is = c.in-Some.is in
    let does = rw is at c.in_ok-code.ensures.does in
    let left = rw is at c.in_ok-code.ensures.procedures in
    let fits : FitsSigned w32 c.in-Some.code = search rules in
    let same = to_z-of_z w32 c.in-Some.code fits in
    let acts = rw same at c.give.ensures.acts in
    found_given _ _ _ ps c.settle.new.session.procedures c.give.new.session.procedures (settled c.args.procedure) c.in-Some.code _ does
    c.settle.ensures.state left acts

pub returns-in-None-clause-acts : goal.returns-in-None-clause-acts
returns-in-None-clause-acts g c =
    let ps = c.args.session.now.procedures in
    let is = c.in-None.is in
    let does = rw is at c.in_ok-code.ensures.does in
    let left = rw is at c.in_ok-code.ensures.procedures in
    found_waits _ _ ps (settled c.args.procedure) c.settle.new.session.procedures does c.settle.ensures.state left

-- the stack is left alone
pub returns-in_err-code-clause-stack : goal.returns-in_err-code-clause-stack
returns-in_err-code-clause-stack g c = ap (λ (s : State). s.stack) c.settle.ensures.state

pub returns-in-Some-clause-stack : goal.returns-in-Some-clause-stack
returns-in-Some-clause-stack g c = c.give.ensures.stack ∙ ap (λ (s : State). s.stack) c.settle.ensures.state

pub returns-in-None-clause-stack : goal.returns-in-None-clause-stack
returns-in-None-clause-stack g c = ap (λ (s : State). s.stack) c.settle.ensures.state

use Rattle.std.proofs.Common.{◌∙◌, ap, rules, w32, FitsSigned}
use Rattle.std.proofs.lemmas.Int.{to_z-of_z}
use Rattle.std.proofs.lemmas.Result.{err_from_is_err_and}
use Rattle.cms_search.specs.declared.state.State.{State}
use Rattle.cms_session.proofs.Statements.{gives_off, gives_on, gives_ready, gives_waits}
use Rattle.cms_session.proofs.statement.give.Goals as goal

pub returns-in_err-own-clause-acts : goal.returns-in_err-own-clause-acts
returns-in_err-own-clause-acts g c =
    let p = err_from_is_err_and c.from_residual.result c.from_residual.ensures.1 in
    let ps = c.args.session.now.procedures in
    let fits : FitsSigned w32 c.args.code = search rules in
    let same = to_z-of_z w32 c.args.code fits in
    let gives = rw same at c.loop-procedure.invariant.gives in
    let taken = c.take_code.ensures in
    let does = rw taken at c.in_err-own.ensures.does in
    rw (p.1, p.2) (gives_off _ _ _ ps c.loop-procedure.session.procedures c.pop.new.self c.in-Some.procedure c.args.code _ _
    c.settle.new.session.procedures gives c.in-Some.ensures does c.settle.ensures.state)

pub loop-procedure-preserved : goal.loop-procedure-preserved
loop-procedure-preserved g c =
    let ps = c.args.session.now.procedures in
    let taken = c.take_code.ensures in
    let is = c.in-Some-2.is in
    let does = rw (is, taken) at c.in_ok-own.ensures.does in
    let left = rw is at c.in_ok-own.ensures.procedures in
    let fits : FitsSigned w32 c.in-Some-2.own = search rules in
    let same = to_z-of_z w32 c.in-Some-2.own fits in
    record {
      gives =
          rw same (gives_on _ _ _ ps c.loop-procedure.session.procedures c.pop.new.self c.in-Some.procedure _ _ c.in-Some-2.own
          c.settle.new.session.procedures c.loop-procedure.invariant.gives c.in-Some.ensures does c.settle.ensures.state left);
      reader = c.settle.ensures.reader ∙ c.loop-procedure.invariant.reader;
    }

pub returns-in-None-clause-acts : goal.returns-in-None-clause-acts
returns-in-None-clause-acts g c =
    let ps = c.args.session.now.procedures in
    let fits : FitsSigned w32 c.args.code = search rules in
    let same = to_z-of_z w32 c.args.code fits in
    let gives = rw same at c.loop-procedure.invariant.gives in
    let taken = c.take_code.ensures in
    let is = c.in-None.is in
    let does = rw (is, taken) at c.in_ok-own.ensures.does in
    let left = rw (is, taken) at c.in_ok-own.ensures.procedures in
    gives_waits _ _ _ ps c.loop-procedure.session.procedures c.pop.new.self c.in-Some.procedure c.args.code _
    c.settle.new.session.procedures gives c.in-Some.ensures does c.settle.ensures.state left

pub returns-clause-acts : goal.returns-clause-acts
returns-clause-acts g c =
    let fits : FitsSigned w32 c.args.code = search rules in
    let same = to_z-of_z w32 c.args.code fits in
    let gives = rw same at c.loop-procedure.invariant.gives in
    gives_ready _ _ _ c.args.session.now.procedures c.loop-procedure.session.procedures c.pop.new.self
    c.ready.new.session.procedures c.args.code _ _ gives c.in_default.ensures.0 c.in_default.ensures.1 c.ready.ensures.acts

pub returns-in_err-own-clause-reader : goal.returns-in_err-own-clause-reader
returns-in_err-own-clause-reader g c = c.settle.ensures.reader ∙ c.loop-procedure.invariant.reader

pub returns-in-None-clause-reader : goal.returns-in-None-clause-reader
returns-in-None-clause-reader g c = c.settle.ensures.reader ∙ c.loop-procedure.invariant.reader

pub returns-clause-reader : goal.returns-clause-reader
returns-clause-reader g c = c.ready.ensures.reader ∙ c.loop-procedure.invariant.reader

-- the stack is left alone
pub returns-in_err-own-clause-stack : goal.returns-in_err-own-clause-stack
returns-in_err-own-clause-stack g c = ap (λ (s : State). s.stack) (c.settle.ensures.state ∙ c.loop-procedure.invariant.gives.same)

pub returns-in-None-clause-stack : goal.returns-in-None-clause-stack
returns-in-None-clause-stack g c = ap (λ (s : State). s.stack) (c.settle.ensures.state ∙ c.loop-procedure.invariant.gives.same)

pub returns-clause-stack : goal.returns-clause-stack
returns-clause-stack g c = c.ready.ensures.stack ∙ ap (λ (s : State). s.stack) c.loop-procedure.invariant.gives.same

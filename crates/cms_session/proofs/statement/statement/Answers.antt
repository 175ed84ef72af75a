use Rattle.std.proofs.lemmas.Result.{err_from_is_err_and}
use Rattle.cms_session.proofs.Statements.{no_turn_left, statement_no_memory, statement_off, statement_so}
use Rattle.cms_session.proofs.statement.statement.Goals as goal

pub returns-then-session-eq0-clause-acts : goal.returns-then-session-eq0-clause-acts
returns-then-session-eq0-clause-acts g c =
    let ps = c.args.session.now.procedures in
    no_turn_left _ c.args.session.now.reader _ ps c.args.procedure ps c.if-session-eq0.true

pub returns-in_err-turn-clause-acts : goal.returns-in_err-turn-clause-acts
returns-in_err-turn-clause-acts g c =
    let p = err_from_is_err_and c.from_residual.result c.from_residual.ensures.1 in
    let ps = c.args.session.now.procedures in
    rw (p.1, p.2) (statement_off _ c.args.session.now.reader _ ps c.args.procedure _ c.turn.new.state.left _ ps c.turn.ensures.left c.in_err-turn.ensures.acts)

pub returns-in_err-want-clause-acts : goal.returns-in_err-want-clause-acts
returns-in_err-want-clause-acts g c =
    let p = err_from_is_err_and c.from_residual-in_err-want.result c.from_residual-in_err-want.ensures.1 in
    let ps = c.args.session.now.procedures in
    rw (p.1, p.2) (statement_no_memory _ c.args.session.now.reader _ ps c.args.procedure _ c.turn.new.state.left _ ps c.turn.ensures.left c.in_ok-turn.ensures.acts)

pub returns-clause-acts : goal.returns-clause-acts
returns-clause-acts g c =
    let ps = c.args.session.now.procedures in
    statement_so _ c.args.session.now.reader _ ps c.args.procedure _ _ _ _ c.turn.new.state.left _ c.turn-2.new.self c.in_ok-want.want _ c.meet.new.session.procedures c.turn.ensures.left
    c.in_ok-turn.ensures.acts c.in_ok-want.ensures.step c.meet.ensures.acts

use Rattle.std.proofs.lemmas.Result.{err_from_is_err_and}
use Rattle.cms_session.proofs.Rounds.{take_stops, finished_so, no_turns, turn_stops, item_done}
use Rattle.cms_session.proofs.round.line_round.Goals as goal

pub returns-in_err-item-clause-acts : goal.returns-in_err-item-clause-acts
returns-in_err-item-clause-acts g c =
    let p = err_from_is_err_and c.from_residual.result c.from_residual.ensures.1 in
    let ps = c.args.session.now.procedures in
    rw (p.1, p.2) (take_stops _ c.args.session.now.reader _ _ ps ps _ c.in_err-item.ensures.acts)

pub returns-in_default-clause-acts : goal.returns-in_default-clause-acts
returns-in_default-clause-acts g c =
    let is = c.in_default.is in
    let taken = rw is at c.in_ok-item.ensures.acts in
    let ps = c.args.session.now.procedures in
    finished_so _ c.args.session.now.reader _ _ ps ps taken

pub returns-then-session-eq0-clause-acts : goal.returns-then-session-eq0-clause-acts
returns-then-session-eq0-clause-acts g c =
    let is = c.in-Some.is in
    let taken = rw is at c.in_ok-item.ensures.acts in
    let ps = c.args.session.now.procedures in
    no_turns _ c.args.session.now.reader _ _ ps ps c.in-Some.item taken c.if-session-eq0.true

pub returns-in_err-turn-clause-acts : goal.returns-in_err-turn-clause-acts
returns-in_err-turn-clause-acts g c =
    let p = err_from_is_err_and c.from_residual-in_err-turn.result c.from_residual-in_err-turn.ensures.1 in
    let is = c.in-Some.is in
    let taken = rw is at c.in_ok-item.ensures.acts in
    let ps = c.args.session.now.procedures in
    rw (p.1, p.2) (turn_stops _ c.args.session.now.reader _ _ _ ps ps c.turn.new.state.left c.in-Some.item _ taken c.turn.ensures.left c.in_err-turn.ensures.acts)

pub run_taken-requires-clause-usable : goal.run_taken-requires-clause-usable
run_taken-requires-clause-usable g c = c.in_ok-turn.ensures.acts.usable (c.in_ok-item.ensures.acts.usable c.requires.usable)

pub returns-clause-acts : goal.returns-clause-acts
returns-clause-acts g c =
    let is = c.in-Some.is in
    let taken = rw is at c.in_ok-item.ensures.acts in
    item_done _ c.args.session.now.reader _ _ _ _ _ _ c.args.session.now.procedures c.run_taken.new.session.procedures c.turn.new.state.left c.in-Some.item _ _ taken
    c.turn.ensures.left c.in_ok-turn.ensures.acts c.run_taken.ensures.acts

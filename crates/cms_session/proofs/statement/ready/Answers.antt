use Rattle.std.proofs.Common.{rules, refl, ap, w32, FitsSigned}
use Rattle.std.proofs.lemmas.Int.{to_z-of_z}
use Rattle.std.proofs.lemmas.Result.{err_from_is_err_and}
use Rattle.cms_search.specs.declared.state.State.{State}
use Rattle.cms_session.proofs.Rounds.{readied_dropped, ready_dropped}
use Rattle.cms_session.proofs.statement.ready.Goals as goal

pub returns-in_err-say_ready-clause-acts : goal.returns-in_err-say_ready-clause-acts
returns-in_err-say_ready-clause-acts g c =
    let p = err_from_is_err_and c.from_residual.result c.from_residual.ensures.1 in
    let fits : FitsSigned w32 c.args.code = search rules in
    let same = to_z-of_z w32 c.args.code fits in
    let does = rw same at c.in_err-say_ready.ensures in
    let ps = c.args.session.now.procedures in
    rw (p.1, p.2) (ready_dropped _ _ ps ps c.args.code _ c.drop_readings.new.self c.drop_readings.ensures does refl)

pub returns-clause-acts : goal.returns-clause-acts
returns-clause-acts g c =
    let s = c.args.session.now in
    let fits : FitsSigned w32 c.args.code = search rules in
    let same = to_z-of_z w32 c.args.code fits in
    let does = rw same at c.in_ok-say_ready.ensures in
    let dropped : State = record s.state { table = c.drop_readings.new.self } in
    readied_dropped _ _ s.procedures c.args.code _ c.drop_readings.new.self c.drop_readings.ensures does (ap (λ p. record dropped { places = p }) c.after.ensures)

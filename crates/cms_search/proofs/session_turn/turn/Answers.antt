use Rattle.std.proofs.Common.{rules, refl, w32, w64, FitsSigned}
use Rattle.std.proofs.lemmas.Int.{to_z-of_z}
use Rattle.std.proofs.lemmas.Result.{err_from_is_err_and}
use Rattle.cms_search.proofs.Turns.{turned_so, not_turned}
use Rattle.cms_search.proofs.session_turn.turn.Goals as goal

pub returns-in_err-clock-clause-acts : goal.returns-in_err-clock-clause-acts
returns-in_err-clock-clause-acts g c =
    let p = err_from_is_err_and c.from_residual.result c.from_residual.ensures.1 in
    rw (p.1, p.2) (not_turned _ _ _ _ c.in_err-clock.ensures refl refl)

pub returns-clause-acts : goal.returns-clause-acts
returns-clause-acts g c =
    let fits : FitsSigned w64 c.in_ok-clock.field-0 = search rules in
    let seconds = to_z-of_z w64 c.in_ok-clock.field-0 fits in
    let small : FitsSigned w32 c.args.state.now.offset = search rules in
    let offset = to_z-of_z w32 c.args.state.now.offset small in
    let value = rw (seconds, offset) at c.of_epoch-state.ensures.value in
    turned_so _ _ c.in_ok-clock.field-0 c.of_epoch-state.result _ tt c.in_ok-clock.ensures value refl

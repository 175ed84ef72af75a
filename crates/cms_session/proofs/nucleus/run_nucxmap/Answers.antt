use Rattle.std.proofs.lemmas.Result.{err_from_is_err_and}
use Rattle.std.proofs.Common.{refl}
use Rattle.cms_search.proofs.StateCalls.{acts_line, acts_line_fault}
use Rattle.cms_session.specs.Nucleus.{map_line, mapping}
use Rattle.cms_session.proofs.NucleusCalls.{maps_off, maps_so}
use Rattle.cms_session.proofs.nucleus.run_nucxmap.Goals as goal

pub returns-in_err-say_words-in-Ok : goal.returns-in_err-say_words-in-Ok
returns-in_err-say_words-in-Ok g c =
    let p = err_from_is_err_and c.from_residual.result c.from_residual.ensures.1 in
    rw (p.1, p.2) (acts_line _ _ c.args.words.now (mapping _) (λ units. map_line c.args.words.now) tt _ _ (λ units. c.in-Ok.ensures)
    (maps_off _ _ c.args.state.now _ _ c.in_err-say_words-in-Ok.ensures))

pub returns-in_ok-say_words-in-Ok : goal.returns-in_ok-say_words-in-Ok
returns-in_ok-say_words-in-Ok g c =
    acts_line _ _ c.args.words.now (mapping _) (λ units. map_line c.args.words.now) tt _ _ (λ units. c.in-Ok.ensures)
    (maps_so _ _ c.args.state.now _ tt c.in_ok-say_words-in-Ok.ensures)

pub returns-in-Err : goal.returns-in-Err
returns-in-Err g c =
    acts_line_fault _ _ c.args.words.now (mapping _) (λ units. map_line c.args.words.now) c.in-Err.fault _ (λ units. c.in-Err.ensures)
    c.refuse_command.ensures refl

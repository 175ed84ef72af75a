use Rattle.std.proofs.lemmas.Result.{err_from_is_err_and}
use Rattle.cms_session.proofs.Plays.{not_played, played}
use Rattle.cms_session.proofs.session.play.Goals as goal

pub returns-in_err-access_first : goal.returns-in_err-access_first
returns-in_err-access_first g c =
    let p = err_from_is_err_and c.from_residual.result c.from_residual.ensures.1 in
    rw (p.1, p.2) (not_played _ _ _ _ c.in_err-access_first.ensures.acts)

pub run_lines-requires-clause-usable : goal.run_lines-requires-clause-usable
run_lines-requires-clause-usable g c = c.in_ok-access_first.ensures.acts.usable c.requires.usable

pub returns : goal.returns
returns g c = played _ _ _ _ _ c.args.session.now.reader c.args.session.now.procedures tt _ c.requires.empty c.requires.idle c.in_ok-access_first.ensures.acts c.run_lines.ensures

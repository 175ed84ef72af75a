use Rattle.std.proofs.lemmas.Result.{err_from_is_err_and}
use Rattle.cms_search.specs.Talks.{asked_of}
use Rattle.cms_search.proofs.StateCalls.{acts_starved}
use Rattle.cms_access.proofs.format.ask_whether.Goals as goal

pub returns-in_err-letter-clause-acts : goal.returns-in_err-letter-clause-acts
returns-in_err-letter-clause-acts g c =
    let p = err_from_is_err_and c.from_residual.result c.from_residual.ensures.1 in
    rw (p.1, p.2) (acts_starved _ _ (asked_of c.args.state.now))

pub returns-in_err-device-clause-acts : goal.returns-in_err-device-clause-acts
returns-in_err-device-clause-acts g c =
    let p = err_from_is_err_and c.from_residual-in_err-device.result c.from_residual-in_err-device.ensures.1 in
    rw (p.1, p.2) (acts_starved _ _ (asked_of c.args.state.now))

pub returns-clause-acts : goal.returns-clause-acts
returns-clause-acts g c =
    let letter = c.in_ok-letter.ensures in
    let device = c.in_ok-device.ensures in
    rw (letter, device) at c.question.ensures.acts

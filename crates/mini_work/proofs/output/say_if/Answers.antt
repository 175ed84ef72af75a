use Rattle.std.proofs.lemmas.Result.{err_from_is_err_and}
use Rattle.cms_model.specs.Acts.{typed_line}
use Rattle.mini_work.specs.Changes.{IsTold}
use Rattle.mini_work.proofs.PartsJoined.{cut_any, grown_part, grown_typed, said_on, typing_cut}
use Rattle.mini_work.proofs.Caused.{end_done, end_fails, later_same}
use Rattle.mini_work.proofs.output.say_if.Goals as goal

pub returns-in_ok-say_line-clause-goes : goal.returns-in_ok-say_line-clause-goes
returns-in_ok-say_line-clause-goes g c = λ d.
    said_on c.args.says (typed_line c.args.line.now) _ _ d c.if-says.true c.in_ok-say_line.ensures.ok

pub returns-in_ok-say_line-clause-grown : goal.returns-in_ok-say_line-clause-grown
returns-in_ok-say_line-clause-grown g c = grown_typed _ _ (typed_line c.args.line.now) _ c.in_ok-say_line.ensures.ok

pub returns-in_err-say_line-clause-goes : goal.returns-in_err-say_line-clause-goes
returns-in_err-say_line-clause-goes g c = λ d.
    let p = err_from_is_err_and c.from_residual.result c.from_residual.ensures.1 in
    cut_any (IsTold c.args.says (typed_line c.args.line.now)) (IsTold c.args.says (typed_line c.args.line.now)) _ _ d d p.0 p.0 _ p.1
    (typing_cut (IsTold c.args.says (typed_line c.args.line.now)) (typed_line c.args.line.now) _ _ d p.0 c.in_err-say_line.ensures.err)

pub returns-in_err-say_line-clause-grown : goal.returns-in_err-say_line-clause-grown
returns-in_err-say_line-clause-grown g c = grown_part _ _ (typed_line c.args.line.now) c.in_err-say_line.ensures.err

pub returns-in_err-say_line-clause-cause : goal.returns-in_err-say_line-clause-cause
returns-in_err-say_line-clause-cause g c = λ n. let x = c.in_err-say_line.ensures.cause n in end_fails _ _ _ c.in_err-say_line.field-0.0 c.from_residual.result (later_same _) c.from_residual.ensures.1 x.later x.failed

pub returns-in_ok-say_line-clause-cause : goal.returns-in_ok-say_line-clause-cause
returns-in_ok-say_line-clause-cause g c = λ n. end_done _ _ (c.in_ok-say_line.ensures.cause n).later

use Rattle.std.proofs.Common.{refl}
use Rattle.cms_line.proofs.ConsoleExits.{ok_at_err, on_err}
use Rattle.cms_line.proofs.console.Console.step.Goals as goal

pub take_piece-requires : goal.take_piece-requires
take_piece-requires c = c.in-Piece.ensures

pub take_line-requires-clause-beginning : goal.take_line-requires-clause-beginning
take_line-requires-clause-beginning c = c.in-Line.ensures.0

pub take_line-requires-clause-ends : goal.take_line-requires-clause-ends
take_line-requires-clause-ends c = c.in-Line.ensures.1

pub returns-in_err-take_line-in-Line-clause-ok : goal.returns-in_err-take_line-in-Line-clause-ok
returns-in_err-take_line-in-Line-clause-ok c = ok_at_err _ c.from_residual.result _ c.from_residual.ensures.1

pub returns-in_err-take_line-in-Line-clause-err : goal.returns-in_err-take_line-in-Line-clause-err
returns-in_err-take_line-in-Line-clause-err c = on_err c.from_residual.result _ c.in_err-take_line-in-Line.ensures.err

pub returns-in_ok-take_line-in-Line-clause-ok : goal.returns-in_ok-take_line-in-Line-clause-ok
returns-in_ok-take_line-in-Line-clause-ok c = c.in_ok-take_line-in-Line.ensures.ok

pub take_last-requires-clause-beginning : goal.take_last-requires-clause-beginning
take_last-requires-clause-beginning c = c.in-Last.ensures.0

pub take_last-requires-clause-last : goal.take_last-requires-clause-last
take_last-requires-clause-last c = c.in-Last.ensures.1

pub returns-in_err-take_last-in-Last-clause-ok : goal.returns-in_err-take_last-in-Last-clause-ok
returns-in_err-take_last-in-Last-clause-ok c = ok_at_err _ c.from_residual-in_err-take_last-in-Last.result _ c.from_residual-in_err-take_last-in-Last.ensures.1

pub returns-in_err-take_last-in-Last-clause-err : goal.returns-in_err-take_last-in-Last-clause-err
returns-in_err-take_last-in-Last-clause-err c = on_err c.from_residual-in_err-take_last-in-Last.result _ c.in_err-take_last-in-Last.ensures.err

pub returns-in_ok-take_last-in-Last-clause-ok : goal.returns-in_ok-take_last-in-Last-clause-ok
returns-in_ok-take_last-in-Last-clause-ok c = c.in_ok-take_last-in-Last.ensures.ok

pub pass_tail-requires-clause-inside : goal.pass_tail-requires-clause-inside
pass_tail-requires-clause-inside c = c.in-Tail.ensures.0

pub pass_tail-requires-clause-ends : goal.pass_tail-requires-clause-ends
pass_tail-requires-clause-ends c = c.in-Tail.ensures.1

pub returns-in-Piece-clause-ok : goal.returns-in-Piece-clause-ok
returns-in-Piece-clause-ok c = c.take_piece.ensures

pub returns-in-Tail-clause-ok : goal.returns-in-Tail-clause-ok
returns-in-Tail-clause-ok c = c.pass_tail.ensures

pub returns-in-End-clause-ok : goal.returns-in-End-clause-ok
returns-in-End-clause-ok c = (refl, c.in-End.ensures.0, c.in-End.ensures.1)

pub returns-in-More-clause-ok : goal.returns-in-More-clause-ok
returns-in-More-clause-ok c = (refl, c.in-More.ensures.0, c.in-More.ensures.1, c.in-More.ensures.2)

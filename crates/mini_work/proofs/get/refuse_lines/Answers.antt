use Rattle.mini_work.proofs.Caused.{end_lacks, end_refuse, later_same}
use Rattle.mini_work.proofs.get.refuse_lines.Goals as goal

pub returns-in_err-word-clause-cause : goal.returns-in_err-word-clause-cause
returns-in_err-word-clause-cause g c = λ k. end_lacks _ _ c.from_residual.result c.from_residual.ensures.1 (later_same _)

pub returns-clause-cause : goal.returns-clause-cause
returns-clause-cause g c = λ k. end_refuse _ _ c.refuse.result (c.refuse.ensures.cause k) c.refuse.ensures.status

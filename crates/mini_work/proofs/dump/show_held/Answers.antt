use Rattle.mini_work.proofs.Caused.{end_fails, end_then, later_same}
use Rattle.mini_work.proofs.Typed.{types_then}
use Rattle.mini_work.proofs.dump.show_held.Goals as goal

pub returns-clause-goes : goal.returns-clause-goes
returns-clause-goes g c = types_then _ _ _ c.in_ok-show_directory.ensures.goes c.show_entries.ensures.goes

pub returns-in_err-show_directory-clause-cause : goal.returns-in_err-show_directory-clause-cause
returns-in_err-show_directory-clause-cause g c = λ n. let x = c.in_err-show_directory.ensures.cause n in end_fails _ _ _ c.in_err-show_directory.field-0.0 c.from_residual.result (later_same _) c.from_residual.ensures.1 x.later x.failed

pub returns-clause-cause : goal.returns-clause-cause
returns-clause-cause g c = λ n. end_then _ _ _ _ (c.in_ok-show_directory.ensures.cause n).later (c.show_entries.ensures.cause n)

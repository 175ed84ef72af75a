use Rattle.mini_work.proofs.Caused.{cause_done, cause_on, cause_then, later_then}
use Rattle.mini_work.proofs.block_size.find_size.Goals as goal

pub returns-in_err-open_file-clause-cause : goal.returns-in_err-open_file-clause-cause
returns-in_err-open_file-clause-cause g c =
    λ k. cause_on _ _ c.in_err-open_file.field-0.0 c.from_residual.result c.from_residual.ensures.1 (c.in_err-open_file.ensures.cause k)

pub returns-in_err-refuse-clause-cause : goal.returns-in_err-refuse-clause-cause
returns-in_err-refuse-clause-cause g c =
    λ k. cause_then _ _ _ _ (c.in_ok-open_file.ensures.cause k).later
    (cause_on _ _ c.in_err-refuse.field-0.0 c.from_residual-in_err-refuse.result c.from_residual-in_err-refuse.ensures.1 (c.in_err-refuse.ensures.cause k))

pub returns-then-not-branch-clause-cause : goal.returns-then-not-branch-clause-cause
returns-then-not-branch-clause-cause g c =
    λ k. cause_done _ _ _ (later_then _ _ _ (c.in_ok-open_file.ensures.cause k).later (c.in_ok-refuse.ensures.cause k).later)

pub returns-in-Some-clause-cause : goal.returns-in-Some-clause-cause
returns-in-Some-clause-cause g c = λ k. cause_done _ _ _ (c.in_ok-open_file.ensures.cause k).later

pub returns-in-None-clause-cause : goal.returns-in-None-clause-cause
returns-in-None-clause-cause g c = λ k. cause_then _ _ _ _ (c.in_ok-open_file.ensures.cause k).later (c.look.ensures.cause k)

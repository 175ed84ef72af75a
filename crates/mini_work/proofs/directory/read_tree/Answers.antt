use Rattle.mini_work.proofs.Caused.{cause_done, cause_fails, later_same}
use Rattle.std.proofs.Common.{◌≤◌, Global, IfSome, Option, Vec, arith, subst, vec_len, ℕ}
use Rattle.mini_work.proofs.directory.read_tree.Goals as goal

pub tree_of-requires : goal.tree_of-requires
tree_of-requires g c =
    let least = subst (λ (o : Option (Vec ℕ Global)). IfSome o (λ b. 512 ≤ vec_len b)) c.in-Some.is c.in_ok-bytes.ensures.least in
    omega (arith, least, c.deref.ensures.len)

pub returns-in_err-bytes-clause-cause : goal.returns-in_err-bytes-clause-cause
returns-in_err-bytes-clause-cause g c = λ n. let x = c.in_err-bytes.ensures.cause n in cause_fails _ _ _ c.in_err-bytes.field-0.0 c.from_residual.result (later_same _) c.from_residual.ensures.1 x.later x.failed

pub returns-in-Some-clause-cause : goal.returns-in-Some-clause-cause
returns-in-Some-clause-cause g c = λ n. cause_done _ _ _ (c.in_ok-bytes.ensures.cause n).later

pub returns-in-None-clause-cause : goal.returns-in-None-clause-cause
returns-in-None-clause-cause g c = λ n. cause_done _ _ _ (c.in_ok-bytes.ensures.cause n).later

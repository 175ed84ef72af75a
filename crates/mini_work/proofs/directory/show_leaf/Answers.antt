use Rattle.mini_work.proofs.Caused.{cause_done, cause_fails, cause_then, later_same}
use Rattle.mini_work.proofs.Typed.{types_same, types_then}
use Rattle.mini_work.proofs.directory.show_leaf.Goals as goal

pub returns-in_err-bytes-clause-goes : goal.returns-in_err-bytes-clause-goes
returns-in_err-bytes-clause-goes g c = types_same _ _ c.read_leaf.ensures.told

pub returns-in_default-clause-goes : goal.returns-in_default-clause-goes
returns-in_default-clause-goes g c = types_same _ _ c.read_leaf.ensures.told

pub returns-clause-goes : goal.returns-clause-goes
returns-clause-goes g c = types_then _ _ _ (types_same _ _ c.read_leaf.ensures.told) c.show_block.ensures.goes

pub returns-in_err-bytes-clause-cause : goal.returns-in_err-bytes-clause-cause
returns-in_err-bytes-clause-cause g c = λ n. let x = c.in_err-bytes.ensures.cause n in cause_fails _ _ _ c.in_err-bytes.field-0.0 c.from_residual.result (later_same _) c.from_residual.ensures.1 x.later x.failed

pub returns-in_default-clause-cause : goal.returns-in_default-clause-cause
returns-in_default-clause-cause g c = λ n. cause_done _ _ _ (c.in_ok-bytes.ensures.cause n).later

pub returns-clause-cause : goal.returns-clause-cause
returns-clause-cause g c = λ n. cause_then _ _ _ _ (c.in_ok-bytes.ensures.cause n).later (c.show_block.ensures.cause n)

use Rattle.mini_work.proofs.Caused.{end_done, end_fails, end_lacks, later_same}
use Rattle.mini_work.proofs.Typed.{types_none, types_part, types_to}
use Rattle.mini_work.proofs.check.say_sound.Goals as goal

pub returns-in_err-line-clause-typed : goal.returns-in_err-line-clause-typed
returns-in_err-line-clause-typed g c = types_none (g.W.World.told c.args.world.now)

pub returns-in_err-type_bytes-clause-typed : goal.returns-in_err-type_bytes-clause-typed
returns-in_err-type_bytes-clause-typed g c = types_part _ _ _ c.in_err-type_bytes.ensures.err

pub returns-clause-typed : goal.returns-clause-typed
returns-clause-typed g c = types_to _ _ _ _ c.in_ok-type_bytes.ensures.ok

pub returns-in_err-line-clause-cause : goal.returns-in_err-line-clause-cause
returns-in_err-line-clause-cause g c = λ n. end_lacks _ _ c.from_residual.result c.from_residual.ensures.1 (later_same _)

pub returns-in_err-type_bytes-clause-cause : goal.returns-in_err-type_bytes-clause-cause
returns-in_err-type_bytes-clause-cause g c = λ n. let x = c.in_err-type_bytes.ensures.cause n in end_fails _ _ _ c.in_err-type_bytes.field-0.0 c.from_residual-in_err-type_bytes.result (later_same _) c.from_residual-in_err-type_bytes.ensures.1 x.later x.failed

pub returns-clause-cause : goal.returns-clause-cause
returns-clause-cause g c = λ n. end_done _ _ (c.in_ok-type_bytes.ensures.cause n).later

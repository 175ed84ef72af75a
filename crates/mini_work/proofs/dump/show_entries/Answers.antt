use Rattle.mini_work.proofs.Caused.{end_done, end_fails, end_lacks, later_same, later_then}
use Rattle.mini_work.proofs.Typed.{types_none, types_part, types_then, types_to}
use Rattle.mini_work.proofs.dump.show_entries.Goals as goal

pub loop-place-init : goal.loop-place-init
loop-place-init g c = record { goes = (types_none (g.W.World.told c.args.world.now)); later = λ n. later_same _ }

pub loop-place-preserved : goal.loop-place-preserved
loop-place-preserved g c = record { goes = (types_then _ _ _ c.loop-place.invariant.goes (types_to _ _ _ _ c.in_ok-type_bytes.ensures.ok)); later = λ n. later_then _ _ _ (c.loop-place.invariant.later n) (c.in_ok-type_bytes.ensures.cause n).later }

pub returns-in_err-type_bytes-clause-goes : goal.returns-in_err-type_bytes-clause-goes
returns-in_err-type_bytes-clause-goes g c = types_then _ _ _ c.loop-place.invariant.goes (types_part _ _ _ c.in_err-type_bytes.ensures.err)

pub returns-clause-cause : goal.returns-clause-cause
returns-clause-cause g c = λ n. end_done _ _ (c.loop-place.invariant.later n)

pub returns-in_err-line-clause-cause : goal.returns-in_err-line-clause-cause
returns-in_err-line-clause-cause g c = λ n. end_lacks _ _ c.from_residual.result c.from_residual.ensures.1 (c.loop-place.invariant.later n)

pub returns-in_err-type_bytes-clause-cause : goal.returns-in_err-type_bytes-clause-cause
returns-in_err-type_bytes-clause-cause g c = λ n. let x = c.in_err-type_bytes.ensures.cause n in end_fails _ _ _ c.in_err-type_bytes.field-0.0 c.from_residual-in_err-type_bytes.result (c.loop-place.invariant.later n) c.from_residual-in_err-type_bytes.ensures.1 x.later x.failed

use Rattle.std.proofs.Common.{arith}
use Rattle.std.proofs.lemmas.Grind.{common_steps}
use Rattle.std.proofs.lemmas.List.{take-append-drop}
use Rattle.cms_line.proofs.TypedLines.{typed_more, typed_none}
use Rattle.mini_work.specs.declared.fault.Fault.TheVariants as fault
use Rattle.mini_work.proofs.Caused.{cause_done, cause_then, edges_failed, edges_later, later_same, later_then}
use Rattle.mini_work.proofs.output.type_bytes.Goals as goal

pub loop-rest-init : goal.loop-rest-init
loop-rest-init g c = record { typed = typed_none _ _; later = λ n. later_same _ }

pub loop-rest-preserved : goal.loop-rest-preserved
loop-rest-preserved g c = record {
  typed = typed_more _ _ _ _ _ _ _ c.loop-rest.invariant.typed c.in-Ok.ensures.typed (grind (arith, common_steps, take-append-drop));
  later = λ n. later_then _ _ _ (c.loop-rest.invariant.later n) (edges_later _ _ _ _ _ c.in-Ok.ensures.faults c.in-Ok.ensures.cause.later);
}

pub returns-clause-cause : goal.returns-clause-cause
returns-clause-cause g c = λ n. cause_done _ _ _ (c.loop-rest.invariant.later n)

pub returns-in-Err-clause-cause : goal.returns-in-Err-clause-cause
returns-in-Err-clause-cause g c =
    λ n. cause_then _ _ _ _ (c.loop-rest.invariant.later n)
    (edges_failed _ _ fault.Output (edges_later _ _ _ _ _ c.in-Err.ensures.faults c.in-Err.ensures.cause.later) c.in-Err.ensures.cause.failed)

use Rattle.std.proofs.Common.{◌∙◌, arith}
use Rattle.std.proofs.lemmas.Grind.{common_steps}
use Rattle.std.proofs.lemmas.List.{take-append-drop}
use Rattle.cms_line.proofs.TypedLines.{typed_more}
use Rattle.cms_line.proofs.typed_line.type_all.Goals as goal

pub loop-rest-preserved : goal.loop-rest-preserved
loop-rest-preserved g c = record {
  typed = typed_more _ _ _ _ _ _ _ c.loop-rest.invariant.typed c.in_ok-count.ensures.typed (grind (arith, common_steps, take-append-drop));
  later = omega (arith, c.loop-rest.invariant.later, c.in_ok-count.ensures.cause.later);
  faults = c.in_ok-count.ensures.faults ∙ c.loop-rest.invariant.faults;
}

use Rattle.std.proofs.Common.{◌∙◌, ◌≡◌, map, arith}
use Rattle.std.proofs.lemmas.Grind.{common_steps}
use Rattle.cms_ebcdic.specs.CodePage.{host_of}
use Rattle.cms_line.proofs.TypedLines.{typed_front, part_front, typed_last, part_last, line_ended, on_err}
use Rattle.cms_line.proofs.typed_line.type_through.Goals as goal

pub returns-in_err-type_all-clause-err : goal.returns-in_err-type_all-clause-err
returns-in_err-type_all-clause-err g c =
    let turned : c.put_ascii.new.into ≡ map host_of c.split_at.result.0.now = grind (arith, common_steps, c.put_ascii.ensures, c.split_at.ensures.front_len) in
    on_err c.from_residual.result (part_front _ _ _ _ _ _ _ c.put_ascii.new.into _ c.loop-rest.invariant.typed c.split_at.ensures.front c.split_at.ensures.back turned c.in_err-type_all.ensures.err)

pub loop-rest-preserved : goal.loop-rest-preserved
loop-rest-preserved g c =
    let turned : c.put_ascii.new.into ≡ map host_of c.split_at.result.0.now = grind (arith, common_steps, c.put_ascii.ensures, c.split_at.ensures.front_len) in
    record {
      typed = typed_front _ _ _ _ _ _ _ c.put_ascii.new.into _ c.loop-rest.invariant.typed c.split_at.ensures.front c.split_at.ensures.back turned c.in_ok-type_all.ensures.ok;
      later = omega (arith, c.loop-rest.invariant.later, c.type_all.ensures.cause.later);
      faults = c.type_all.ensures.faults ∙ c.loop-rest.invariant.faults;
    }

pub returns-clause-ok : goal.returns-clause-ok
returns-clause-ok g c = typed_last c.type_all-2.result _ _ _ _ _ _ c.loop-rest.invariant.typed (line_ended _ _ _ (omega arith) (omega arith) c.put_ascii-2.ensures) c.type_all-2.ensures.ok

pub returns-clause-err : goal.returns-clause-err
returns-clause-err g c = part_last c.type_all-2.result _ _ _ _ _ _ c.loop-rest.invariant.typed (line_ended _ _ _ (omega arith) (omega arith) c.put_ascii-2.ensures) c.type_all-2.ensures.err

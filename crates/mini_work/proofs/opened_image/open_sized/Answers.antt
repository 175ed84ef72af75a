use Rattle.std.proofs.Common.{◌∙◌, refl}
use Rattle.std.proofs.lemmas.Result.{IfOk-from_err}
use Rattle.mini_work.proofs.Caused.{cause_fails, cause_then, later_same}
use Rattle.mini_work.proofs.LoneUnit.{found_all, unwritten_alone, unwritten_same}
use Rattle.mini_work.proofs.opened_image.open_sized.Goals as goal

pub returns-in_err-unit : goal.returns-in_err-unit
returns-in_err-unit g c =
    let x = c.in_err-unit.ensures.cause (g.H.Host.faults c.args.host.now) in
    record {
      found = IfOk-from_err c.from_residual.result _ c.from_residual.ensures.0;
      unwritten = c.in_err-unit.ensures.unwritten;
      files = refl;
      cause = cause_fails _ _ _ c.in_err-unit.field-0.0 c.from_residual.result (later_same _) c.from_residual.ensures.1 x.later x.failed;
    }

pub returns : goal.returns
returns g c = record {
  found = found_all c.open_unit.result
      (λ d opens may writable. record {
        opens = λ is. (c.args.size, opens c.args.image.now c.args.size c.args.access (c.in_ok-unit.ensures.attaches is));
        may = may;
        writable = writable ∙ c.in_ok-unit.ensures.access;
      })
      c.open_unit.ensures.opens c.open_unit.ensures.may c.open_unit.ensures.writable;
  unwritten = λ is.
      unwritten_same _ _ c.open_unit.ensures.told (unwritten_alone c.args.image.now c.args.size c.args.access _ (c.in_ok-unit.ensures.attaches is).alone);
  files = c.open_unit.ensures.files;
  cause = cause_then _ _ _ _ (c.in_ok-unit.ensures.cause (g.H.Host.faults c.args.host.now)).later c.open_unit.ensures.cause;
}

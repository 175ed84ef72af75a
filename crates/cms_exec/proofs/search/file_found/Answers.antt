use Rattle.std.proofs.Common.{◌∙◌, Option, Some, None, ap, subst, sym}
use Rattle.std.specs.Prelude.{IfSome}
use Rattle.std.specs.Option.{option_map}
use Rattle.cms_exec.specs.Searches.{IsThere}
use Rattle.cms_exec.specs.declared.search.FoundProcedure.{FoundProcedure}
use Rattle.cms_exec.proofs.Named.{found_so}
use Rattle.cms_exec.proofs.search.file_found.Goals as goal

pub returns-in_err-info-clause-file : goal.returns-in_err-info-clause-file
returns-in_err-info-clause-file c =
    ap (λ (x : Option FoundProcedure). option_map (λ (f : FoundProcedure). f.file) x) c.from_residual.ensures
    ∙ found_so c.args.table.now c.args.name c.args.found None c.in_err-info.ensures

pub returns-in_err-info-clause-there : goal.returns-in_err-info-clause-there
returns-in_err-info-clause-there c = λ here. subst (λ (x : Option FoundProcedure). IfSome x (IsThere c.args.table.now)) (sym c.from_residual.ensures) tt

pub returns-clause-file : goal.returns-clause-file
returns-clause-file c = found_so c.args.table.now c.args.name c.args.found (Some c.in_ok-info.info) c.in_ok-info.ensures

pub returns-clause-there : goal.returns-clause-there
returns-clause-there c = λ here. record { seat = here.seat; there = here.there; place_is = here.place_is }

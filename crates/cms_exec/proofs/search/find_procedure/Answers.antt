use Rattle.std.proofs.Common.{◌∙◌, sym}
use Rattle.std.specs.Option.{option_map}
use Rattle.cms_operands.specs.declared.mode.ReadMode.TheVariants.{Any}
use Rattle.cms_files.proofs.FoundTold.{found_there}
use Rattle.cms_exec.specs.declared.search.FoundProcedure.{FoundProcedure}
use Rattle.cms_exec.proofs.Named.{procedure_found, procedure_unfound}
use Rattle.cms_exec.proofs.search.find_procedure.Goals as goal

pub returns-in-Ok-clause-procedure : goal.returns-in-Ok-clause-procedure
returns-in-Ok-clause-procedure c =
    let kind = c.exec_kind.ensures in
    procedure_found c.args.table.now c.args.file c.find_read.result c.in-Ok.found (option_map (λ (f : FoundProcedure). f.file) c.file_found.result) (rw kind at c.find_read.ensures.machine)
    c.in-Ok.is (rw kind at c.file_found.ensures.file)

pub returns-in-Ok-clause-there : goal.returns-in-Ok-clause-there
returns-in-Ok-clause-there c = c.file_found.ensures.there (found_there c.args.table.now Any _ c.in-Ok.found (sym c.find_read.ensures.found ∙ c.in-Ok.is))

pub returns-in-Err-clause-procedure : goal.returns-in-Err-clause-procedure
returns-in-Err-clause-procedure c =
    let kind = c.exec_kind.ensures in
    procedure_unfound c.args.table.now c.args.file c.find_read.result c.in-Err.field-0 (rw kind at c.find_read.ensures.machine) c.in-Err.is

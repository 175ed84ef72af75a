use Rattle.std.proofs.Common.{◌∙◌, sym}
use Rattle.std.proofs.lemmas.Result.{err_from_is_err_and}
use Rattle.cms_search.proofs.Says.{not_done}
use Rattle.cms_search.proofs.Lined.{said_one}
use Rattle.cms_listfile.proofs.Delivered.{told_line, untold}
use Rattle.cms_listfile.proofs.found_lines.type_file.Goals as goal

pub returns-in_default : goal.returns-in_default
returns-in_default g c = untold _ c.args.last c.args.table.now c.args.found tt (sym c.listed_at.ensures ∙ c.in_default.is)

pub returns-in_err-line : goal.returns-in_err-line
returns-in_err-line g c =
    let p = err_from_is_err_and c.from_residual.result c.from_residual.ensures.1 in
    rw (p.1, p.2) (not_done _ _ _)

pub returns : goal.returns
returns g c =
    said_one _ _ c.deref.result.now _ c.say.result
    (told_line c.args.last c.args.table.now c.args.found c.in-Some.file c.deref.result.now (sym c.in-Some.ensures) (c.deref.ensures.value ∙ c.in_ok-line.ensures.text)) c.say.ensures

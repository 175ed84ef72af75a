use Rattle.std.proofs.Common.{◌∙◌, Some, None}
use Rattle.cms_listfile.proofs.Lines.{listed_so}
use Rattle.cms_listfile.proofs.found_lines.listed_at.Goals as goal

pub returns-in_err-info : goal.returns-in_err-info
returns-in_err-info c =
    c.from_residual-in_err-info.ensures ∙ listed_so c.args.table.now c.args.found c.in_ok-disk.disk.now None c.in_ok-disk.ensures c.in_err-info.ensures

pub returns : goal.returns
returns c =
    let space = c.space.ensures in
    rw space (listed_so c.args.table.now c.args.found c.in_ok-disk.disk.now (Some c.in_ok-info.info) c.in_ok-disk.ensures c.in_ok-info.ensures)
